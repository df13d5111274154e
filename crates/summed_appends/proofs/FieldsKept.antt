-- The FIELD of a payload in the course of an append: that of a DATA which an old committed entry holds is the one that it was.
use mathlib.Core.Path.{◌≡◌, refl, ap, ◌∙◌}
use mathlib.Core.Bool.{true}
use mathlib.Core.List.Memᴰ
use mathlib.Core.List.{List, [], ◌∷◌, ◌++◌}
use Prim.Native.Nat.{ℕ}
use Rattle.format.specs.Tests.{any, filter, same, first_or0}
use Rattle.format.specs.Says.{In, says_same, says_any}
use Rattle.format.specs.Kinds.{Kind, FIELD, field_table}
use Rattle.format.specs.File.{File}
use Rattle.format.proofs.Filters.{filter-append, filter_agree}
use Rattle.format.proofs.Members.{filter_in}
use Rattle.reading.specs.Names.{name_of}
use Rattle.reading.specs.Chains.{cell_chain}
use Rattle.reading.specs.Committed.{committed}
use Rattle.reading.specs.Cells.{hash_of, cell_of, field_named}
use Rattle.reading.proofs.FirstLaws.{first_stands}
use Rattle.partial_append.specs.Agrees.{Agrees}
use Rattle.partial_append.specs.Extends.{Extends}
use Rattle.partial_append.proofs.Passing.{Passes}
use Rattle.partial_append.proofs.Course.{cell_below}
use Rattle.partial_append.proofs.EntriesKept.{entry_in}
use Rattle.partial_append.proofs.CellsKept.{chain_in, new_chain, cell_split}
use Rattle.partial_append.proofs.HashesKept.{same_place}
use Rattle.summary.specs.Summary.{field_of}

-- of two lists the first of which has a member, the first member is that of the first
first_append : (y : ℕ) (xs ys : List ℕ) → In y xs → first_or0 (xs ++ ys) ≡ first_or0 xs
unfolding first_or0
first_append y [] ys m = absurd (Memᴰ.not-nil m)
first_append y (x ∷ xs) ys m = refl

-- what hangs in the cell of a name
abbrev cell_for : File → List ℕ → List ℕ
cell_for F n = cell_chain F field_table (cell_of F field_table (hash_of F n))

-- where a FIELD of the name hangs in its cell, the FIELD of the name is one of the file
named_field : (F : File) (n : List ℕ) (f : ℕ) → In f (cell_for F n) → F.name f ≡ n → In (field_named F n) (F.of FIELD)
unfolding field_named
named_field F n f m e =
    let t : any (λ g. same (F.name g) n) (cell_for F n) ≡ true = (says_any (λ g. same (F.name g) n) (λ g. F.name g ≡ n) (cell_for F n) (λ g. says_same (F.name g) n)).1 (f, m, e) in
    chain_in F field_table (cell_of F field_table (hash_of F n)) _ (first_stands (λ g. same (F.name g) n) (cell_for F n) t).0

module _ {F F' : File} {new : Kind → List ℕ} {e : ℕ} (x : Extends F F' new e) (p : Passes F) where
  -- where a FIELD of the name hung in its cell, the FIELD of the name stays
  named_kept : (n : List ℕ) (f : ℕ) → In f (cell_for F n) → F.name f ≡ n → field_named F' n ≡ field_named F n
  unfolding field_named
  named_kept n f m q =
      let c = cell_of F field_table (hash_of F n) in
      let l = cell_below x field_table (hash_of F n) in
      let new_ones_lem = new_chain x p field_table c l in
      ap (λ (i : ℕ). first_or0 (filter (λ g. same (F'.name g) n) (cell_chain F' field_table i))) (same_place x p field_table n)
      ∙ ap (λ (gs : List ℕ). first_or0 (filter (λ g. same (F'.name g) n) gs)) (cell_split x p field_table c l)
      ∙ ap first_or0 (filter-append (λ g. same (F'.name g) n) (cell_for F n) new_ones_lem)
      ∙ ap (λ (gs : List ℕ). first_or0 (gs ++ filter (λ g. same (F'.name g) n) new_ones_lem))
      (filter_agree (λ g. same (F'.name g) n) (λ g. same (F.name g) n) (cell_for F n) (λ g i. ap (λ (b : List ℕ). same b n) (x.keeps.name g (chain_in F field_table c g i))))
      ∙ first_append f (filter (λ g. same (F.name g) n) (cell_for F n)) _ (filter_in (λ g. same (F.name g) n) f (cell_for F n) m ((says_same (F.name f) n).1 q))

  module _ (agree : Agrees F) (y d : ℕ) (m : In y (committed F)) (i : In d (F.items y)) where
    -- the FIELD of a DATA that an old committed entry holds stays
    pub field_kept : field_of F' d ≡ field_of F d
    unfolding field_of
    field_kept =
        let k = (p.entry_links y (entry_in x p agree y m)).items d i in
        let r = ((p.data_right d k).held (y, m, i)).list in
        ap (λ (b : List ℕ). field_named F' (name_of b)) (x.keeps.payload d k) ∙ named_kept (name_of (F.payload d)) r.0 r.1 r.2.0

    -- and it is an old one
    pub field_old : In (field_of F d) (F.of FIELD)
    unfolding field_of
    field_old =
        let k = (p.entry_links y (entry_in x p agree y m)).items d i in
        let r = ((p.data_right d k).held (y, m, i)).list in
        named_field F (name_of (F.payload d)) r.0 r.1 r.2.0
