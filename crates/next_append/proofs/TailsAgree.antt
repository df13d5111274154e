-- 14 of the tails of cells after an append: the chain of a cell is the old one and then the new objects that go there, and its tail is
-- the last of these, or as it was where there is none.
use mathlib.Core.Path.{◌≡◌, refl, sym, ap, ◌∙◌, subst}
use mathlib.Core.Bool.{false}
use mathlib.Core.List.Memᴰ
use mathlib.Core.List.{List, [], ◌∷◌, ◌++◌, append-nil}
use Prim.Native.Nat.{ℕ, ◌<◌}
use borrow.Author.Tests.{eq-eqb}
use Rattle.format.specs.Tests.{last_or0}
use Rattle.format.specs.Says.{In}
use Rattle.format.specs.Kinds.{Kind, Table, chained_kind}
use Rattle.format.specs.File.{File, cell_tail, next_hash}
use Rattle.format.proofs.Members.{in_filter, filter_in}
use Rattle.reading.specs.Chains.{cell_chain}
use Rattle.reading.proofs.Trails.{trail_in}
use Rattle.writing.specs.Agreement.{tails_fault}
use Rattle.writing.specs.Request.{Request}
use Rattle.writing.specs.Placing.{new_entry_at}
use Rattle.writing.specs.Plan.{cell_end}
use Rattle.partial_append.specs.Growing.{first_or, in_cell, new_in_cell}
use Rattle.partial_append.specs.Extends.{Extends}
use Rattle.partial_append.specs.Commits.{Commits}
use Rattle.partial_append.proofs.Passing.{Passes}
use Rattle.partial_append.proofs.Course.{same_cell, cell-is}
use Rattle.partial_append.proofs.CellsKept.{new_chain, seam_link, cell_split, cell_right}
use Rattle.partial_append.proofs.NewReached.{cell_grown}
use Rattle.plan_words.specs.Planned.{new_by}
use Rattle.next_append.specs.Settled.{last_or, Settled}
use Rattle.writing.proofs.AgreementSays.{tails_clear}

-- a list without members is empty
no_members : (xs : List ℕ) → ((y : ℕ) → In y xs → ⊥) → xs ≡ []
no_members [] h = refl
no_members (x ∷ xs) h = absurd (h x (Memᴰ.head refl))

-- of two lists of which the second has members, the last is its last
last-append : (xs : List ℕ) (y : ℕ) (ys : List ℕ) → last_or0 (xs ++ (y ∷ ys)) ≡ last_or y ys
unfolding last_or0
last-append [] y [] = refl
last-append [] y (z ∷ zs) = last-append [] z zs
last-append (x ∷ []) y ys = last-append [] y ys
last-append (x ∷ z ∷ xs) y ys = last-append (z ∷ xs) y ys

module _ {F F' : File} {new : Kind → List ℕ} {e : ℕ} (x : Extends F F' new e) (p : Passes F) (t : Table) (c : ℕ) (l : c < F.cells t) where
  -- a cell that gets no new object keeps its chain
  chain_same : new_in_cell F' new t c ≡ [] → cell_chain F' t c ≡ cell_chain F t c
  unfolding new_in_cell new_chain in_cell
  chain_same z = cell_split x p t c l ∙ ap (λ (k : List ℕ). cell_chain F t c ++ k) (no_members (new_chain x p t c l) none) ∙ append-nil (cell_chain F t c)
    where
      none : (o : ℕ) → In o (new_chain x p t c l) → ⊥
      none o m =
          let n = trail_in (λ y. F'.read (next_hash t y)) (new (chained_kind t)) (seam_link x p t c l) o m in
          let r = cell_right x p t c l o (rw (cell_split x p t c l) (Memᴰ.append_right (cell_chain F t c) m)) in
          Memᴰ.not-nil (subst (λ (k : List ℕ). In o k) z (filter_in (λ y. in_cell F' t c y) o (new (chained_kind t)) n (eq-eqb _ _ (same_cell x t (F'.hash o) ∙ r))))

  -- in a cell that gets some, the word after the old ones leads to the first of them
  link_new : Commits F F' new e → (o : ℕ) → In o (new_in_cell F' new t c) → F'.read (cell_end F t c) ≡ first_or 0 (new_in_cell F' new t c)
  unfolding new_in_cell
  link_new g o m =
      let i = in_filter (λ y. in_cell F' t c y) o (new (chained_kind t)) m in
      subst (λ (d : ℕ). F'.read (cell_end F t d) ≡ first_or 0 (new_in_cell F' new t d)) (cell-is x t c o i.1) (g.cell t o i.0)

  -- the last object of its chain
  chain-last : Commits F F' new e → (os : List ℕ) → new_in_cell F' new t c ≡ os → last_or0 (cell_chain F' t c) ≡ last_or (last_or0 (cell_chain F t c)) os
  chain-last g [] z = ap last_or0 (chain_same z)
  chain-last g (o ∷ os) z =
      ap last_or0 (cell_grown x p t c l (link_new g o (subst (λ (xs : List ℕ). In o xs) (sym z) (Memᴰ.head refl))) ∙ ap (λ (xs : List ℕ). cell_chain F t c ++ xs) z)
      ∙ last-append (cell_chain F t c) o os

module _ {F F' : File} {r : Request} (s : Settled F F' r) (p : Passes F) (x : Extends F F' (new_by F r.fields) (new_entry_at F r.fields))
    (g : Commits F F' (new_by F r.fields) (new_entry_at F r.fields)) where
  -- the tail is the last object of the chain where it was
  right : (t : Table) (c : ℕ) → c < F.cells t → F.read (cell_tail t c) ≡ last_or0 (cell_chain F t c) → F'.read (cell_tail t c) ≡ last_or0 (cell_chain F' t c)
  right t c l e =
      let new = new_in_cell F' (new_by F r.fields) t c in
      s.tails t c l ∙ ap (λ (z : ℕ). last_or z new) e ∙ sym (chain-last x p t c l g new refl)

  -- 14 of the tails of a table
  pub tails_agree : (t : Table) → tails_fault F t ≡ false → tails_fault F' t ≡ false
  tails_agree t h =
      (tails_clear F' t).1 (λ c l. let k = subst (λ (n : ℕ). c < n) (s.finished.course.keeps.cells t) l in right t c k ((tails_clear F t).0 h c k))
