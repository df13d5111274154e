-- The records of the old committed entries: in the file with an append they are what they were.
use mathlib.Core.Path.{◌≡◌, refl, ap, ap₂, ◌∙◌}
use mathlib.Core.Bool.{Bool, true, false, ◌&&◌}
use mathlib.Core.List.Memᴰ
use mathlib.Core.List.{List, [], ◌∷◌, ◌++◌, append-nil}
use Prim.Native.Nat.{ℕ}
use lib.ListN.{length}
use lib.Dec.{eqb}
use borrow.Author.Tests.{ne_eqb}
use Rattle.format.specs.Tests.{elem, any, filter}
use Rattle.format.specs.Says.{In, says_in, says_any, clears_any}
use Rattle.format.specs.Kinds.{Kind, DATA, FIELD}
use Rattle.format.specs.File.{File}
use Rattle.format.proofs.Filters.{any_agree, filter-append, filter_agree, filter_none}
use Rattle.format.proofs.Lists.{absent}
use Rattle.reading.specs.Committed.{committed}
use Rattle.partial_append.specs.Agrees.{Agrees}
use Rattle.partial_append.specs.Extends.{Extends}
use Rattle.partial_append.proofs.Passing.{Passes}
use Rattle.partial_append.proofs.Course.{not_both}
use Rattle.partial_append.proofs.EntriesKept.{entry_in}
use Rattle.summary.specs.Summary.{Count, field_of, holds_field, payloads_by, entries_by, count_by, counts_among, counts_by}
use Rattle.summed_appends.proofs.FieldsKept.{field_kept, field_old}

-- a test that no member passes
none_passes : (p : ℕ → Bool) (xs : List ℕ) → ((y : ℕ) → In y xs → p y ≡ false) → any p xs ≡ false
none_passes p xs h = (clears_any p (λ y. p y ≡ false) xs (λ y. (λ e. e, λ e. e))).1 h

-- FIELDs that no entry holds have no record
unheld : (F : File) (es fs : List ℕ) → ((f : ℕ) → In f fs → any (λ e. holds_field F f e) es ≡ false) → counts_among F es fs ≡ []
unfolding counts_among
unheld F es [] h = refl
unheld F es (f ∷ fs) h = rw (counts_among, h f (Memᴰ.head refl)) (unheld F es fs (λ g m. h g (Memᴰ.tail m)))

-- FIELDs that are held and counted alike have the records that they had, and those that are not held have none
among_kept : (F F' : File) (es fs gs : List ℕ) → ((f : ℕ) → In f fs → any (λ e. holds_field F' f e) es ≡ any (λ e. holds_field F f e) es)
    → ((f : ℕ) → count_by F' es f ≡ count_by F es f)
    → ((g : ℕ) → In g gs → any (λ e. holds_field F' g e) es ≡ false)
    → counts_among F' es (fs ++ gs) ≡ counts_among F es fs
unfolding counts_among
among_kept F F' es [] gs h c n = unheld F' es gs n
among_kept F F' es (f ∷ fs) gs h c n =
    let ih = among_kept F F' es fs gs (λ g m. h g (Memᴰ.tail m)) c n in
    ap₂ (λ (b : Bool) (cs : List Count). elim b as (λ _. List Count) [ true ↦ count_by F' es f ∷ cs | false ↦ cs ]) (h f (Memᴰ.head refl)) ih
    ∙ ap (λ (k : Count). elim (any (λ e. holds_field F f e) es) as (λ _. List Count) [ true ↦ k ∷ counts_among F es fs | false ↦ counts_among F es fs ]) (c f)

module _ {F F' : File} {new : Kind → List ℕ} {e : ℕ} (x : Extends F F' new e) (p : Passes F) (agree : Agrees F) where
  -- an old committed entry holds the fields that it held
  holds_kept : (f y : ℕ) → In y (committed F) → holds_field F' f y ≡ holds_field F f y
  unfolding holds_field
  holds_kept f y m =
      ap (any (λ d. eqb (field_of F' d) f)) (x.keeps.items y (entry_in x p agree y m))
      ∙ any_agree (λ d. eqb (field_of F' d) f) (λ d. eqb (field_of F d) f) (F.items y) (λ d i. ap (λ (g : ℕ). eqb g f) (field_kept x p agree y d m i))

  -- and none holds a new one
  new_unheld : (f : ℕ) → In f (new FIELD) → any (λ y. holds_field F' f y) (committed F) ≡ false
  unfolding holds_field
  new_unheld f n =
      none_passes (λ y. holds_field F' f y) (committed F)
      (λ y m. holds_kept f y m
      ∙ none_passes (λ d. eqb (field_of F d) f) (F.items y)
      (λ d i. ne_eqb (field_of F d) f (λ q. not_both x FIELD f (rw q at (field_old x p agree y d m i)) n)))

  -- the old committed entries hold the DATA that they held
  data_kept : (d : ℕ) → any (λ y. elem d (F'.items y)) (committed F) ≡ any (λ y. elem d (F.items y)) (committed F)
  data_kept d = any_agree (λ y. elem d (F'.items y)) (λ y. elem d (F.items y)) (committed F) (λ y m. ap (elem d) (x.keeps.items y (entry_in x p agree y m)))

  -- one that they hold has its old FIELD
  held_field : (d f : ℕ) → any (λ y. elem d (F.items y)) (committed F) ≡ true → eqb (field_of F' d) f ≡ eqb (field_of F d) f
  held_field d f h =
      let (y, m, i) = (says_any (λ z. elem d (F.items z)) (λ z. In d (F.items z)) (committed F) (λ z. says_in d (F.items z))).0 h in
      ap (λ (g : ℕ). eqb g f) (field_kept x p agree y d m i)

  -- so that a DATA counts for a field where it did
  counts_where : (d f : ℕ) → (any (λ y. elem d (F'.items y)) (committed F) && eqb (field_of F' d) f) ≡ (any (λ y. elem d (F.items y)) (committed F) && eqb (field_of F d) f)
  counts_where d f = ap (λ (b : Bool). b && eqb (field_of F' d) f) (data_kept d) ∙ go (any (λ y. elem d (F.items y)) (committed F)) (held_field d f)
    where
      go : (b : Bool) → (b ≡ true → eqb (field_of F' d) f ≡ eqb (field_of F d) f) → (b && eqb (field_of F' d) f) ≡ (b && eqb (field_of F d) f)
      go true h = h refl
      go false h = refl

  -- and a new one counts for none
  counts_nowhere : (d f : ℕ) → In d (new DATA) → (any (λ y. elem d (F'.items y)) (committed F) && eqb (field_of F' d) f) ≡ false
  counts_nowhere d f n =
      ap (λ (b : Bool). b && eqb (field_of F' d) f)
      (data_kept d
      ∙ none_passes (λ y. elem d (F.items y)) (committed F) (λ y m. absent d (F.items y) (λ i. not_both x DATA d ((p.entry_links y (entry_in x p agree y m)).items d i) n)))

  -- the payloads of a field
  payloads_kept : (f : ℕ) → payloads_by F' (committed F) f ≡ payloads_by F (committed F) f
  unfolding payloads_by
  payloads_kept f =
      let t : ℕ → Bool = λ d. any (λ y. elem d (F'.items y)) (committed F) && eqb (field_of F' d) f in
      ap (filter t) (x.objects DATA) ∙ filter-append t (F.of DATA) (new DATA)
      ∙ ap₂ (λ (a b : List ℕ). a ++ b) (filter_agree t (λ d. any (λ y. elem d (F.items y)) (committed F) && eqb (field_of F d) f) (F.of DATA) (λ d m. counts_where d f))
      (filter_none t (new DATA) (λ d n. counts_nowhere d f n))
      ∙ append-nil _

  -- the entries that hold it
  entries_kept : (f : ℕ) → entries_by F' (committed F) f ≡ entries_by F (committed F) f
  unfolding entries_by
  entries_kept f = filter_agree (λ y. holds_field F' f y) (λ y. holds_field F f y) (committed F) (λ y m. holds_kept f y m)

  -- so the record of a field
  count_kept : (f : ℕ) → count_by F' (committed F) f ≡ count_by F (committed F) f
  unfolding count_by
  count_kept f =
      ap₂ (λ (a b : List ℕ). record { field = f; payloads = length a; entries = length b }) (payloads_kept f) (entries_kept f)

  -- and all the records
  pub counts_kept : counts_by F' (committed F) ≡ counts_by F (committed F)
  unfolding counts_by
  counts_kept =
      ap (counts_among F' (committed F)) (x.objects FIELD)
      ∙ among_kept F F' (committed F) (F.of FIELD) (new FIELD)
      (λ f m. any_agree (λ y. holds_field F' f y) (λ y. holds_field F f y) (committed F) (λ y i. holds_kept f y i)) count_kept new_unheld
