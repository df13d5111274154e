-- The last object of a cell by the plan: the value that the plan gives a cell's tail is the last new object of the cell, and every
-- cell to which a payload brings an object has its update.
use mathlib.Core.Path.{◌≡◌, refl, sym, ap, ◌∙◌, subst}
use mathlib.Core.Logic.{◌⊎◌, inl, inr}
use mathlib.Core.Bool.{Bool, true, false}
use mathlib.Core.List.Memᴰ
use mathlib.Core.List.{List, [], ◌∷◌, ◌++◌, Memᴰ}
use Prim.Native.Nat.{ℕ}
use lib.Dec.{eqb}
use Rattle.format.specs.Tests.{filter}
use Rattle.format.specs.Kinds.{Table, data_table, field_table}
use Rattle.format.specs.File.{File}
use Rattle.format.proofs.Filters.{filter_pass, filter_stop}
use Rattle.writing.specs.Request.{Stamp}
use Rattle.writing.specs.Placing.{Placed}
use Rattle.writing.specs.Growth.{Growth}
use Rattle.writing.specs.NewObjects.{brings, cell_for, goes_to, last_in}
use Rattle.writing.specs.Plan.{Update, growth_updates, cell_updates, head_updates, link_updates}
use Rattle.partial_append.specs.Growing.{in_cell, new_in_cell}
use Rattle.plan_words.specs.Planned.{brought_of, new_of}
use Rattle.plan_words.specs.Takes.{Takes}
use Rattle.plan_words.specs.Course.{CourseOf}
use Rattle.plan_words.proofs.Brought.{Idle, Brings, brings_cases, brought_idle, brought_next}
use Rattle.plan_words.proofs.Placing.{Placing}
use Rattle.plan_words.proofs.Standing.{kind_brought}
use Rattle.plan_words.proofs.CellThreads.{cell_of_lem}
use Rattle.plan_words.proofs.UpdateLaws.{tail_update, cell_idle, cell_next}
use Rattle.next_append.specs.Settled.{last_or}

module _ (F : File) (t : Table) (c old : ℕ) (q : Placed) (qs : List Placed) where
  -- a payload that brings nothing
  lasts_idle : Idle t q → last_in F t c old (q ∷ qs) ≡ last_in F t c old qs
  unfolding last_in goes_to
  lasts_idle i = rw (last_in, i)

  -- one that brings an object to the cell
  lasts_here : Brings t q → eqb (cell_for F t q) c ≡ true → last_in F t c old (q ∷ qs) ≡ last_in F t c (brings t q) qs
  unfolding last_in goes_to
  lasts_here i h = rw (last_in, i, h)

  -- and to another
  lasts_past : Brings t q → eqb (cell_for F t q) c ≡ false → last_in F t c old (q ∷ qs) ≡ last_in F t c old qs
  unfolding last_in goes_to
  lasts_past i h = rw (last_in, i, h)

module _ (F F' : File) (t : Table) (c : ℕ) where
  -- the last of some payloads in a cell is the last of the objects that they bring
  lasts : (old : ℕ) (qs : List Placed) → ((q : Placed) → Memᴰ q qs → Brings t q → in_cell F' t c (brings t q) ≡ eqb (cell_for F t q) c)
      → last_in F t c old qs ≡ last_or old (filter (λ o. in_cell F' t c o) (brought_of t qs))
  unfolding last_in brought_of filter
  lasts old [] h = refl
  lasts old (q ∷ qs) h =
      let ih : (z : ℕ) → last_in F t c z qs ≡ last_or z (filter (λ o. in_cell F' t c o) (brought_of t qs)) = λ z. lasts z qs (λ r m. h r (Memᴰ.tail m)) in
      brings_cases t q (λ i. lasts_idle F t c old q qs i ∙ ih old ∙ ap (λ (l : List ℕ). last_or old (filter (λ o. in_cell F' t c o) l)) (sym (brought_idle t q qs i)))
      (λ i. go ih i (eqb (cell_for F t q) c) refl)
    where
      same : Brings t q → (b : Bool) → eqb (cell_for F t q) c ≡ b → in_cell F' t c (brings t q) ≡ b
      same i b e = h q (Memᴰ.head refl) i ∙ e

      go : ((z : ℕ) → last_in F t c z qs ≡ last_or z (filter (λ o. in_cell F' t c o) (brought_of t qs))) → Brings t q → (b : Bool) → eqb (cell_for F t q) c ≡ b
          → last_in F t c old (q ∷ qs) ≡ last_or old (filter (λ o. in_cell F' t c o) (brought_of t (q ∷ qs)))
      go ih i true e =
          lasts_here F t c old q qs i e ∙ ih (brings t q)
          ∙ sym (ap (λ (l : List ℕ). last_or old (filter (λ o. in_cell F' t c o) l)) (brought_next t q qs i) ∙ ap (λ (l : List ℕ). last_or old l) (filter_pass (λ o. in_cell F' t c o) (brings t q) (brought_of t qs) (same i true e)))
      go ih i false e =
          lasts_past F t c old q qs i e ∙ ih old
          ∙ sym (ap (λ (l : List ℕ). last_or old (filter (λ o. in_cell F' t c o) l)) (brought_next t q qs i) ∙ ap (λ (l : List ℕ). last_or old l) (filter_stop (λ o. in_cell F' t c o) (brings t q) (brought_of t qs) (same i false e)))

-- the value that the plan gives a cell's tail is the last new object of the cell
pub last_in_cell : {F F' : File} {s : Stamp} {ps : List Placed} {gs : List Growth} {e : ℕ} → Takes F → Placing F ps → CourseOf F F' s ps gs e → (t : Table) (c : ℕ)
    → last_in F t c 0 ps ≡ last_or 0 (new_in_cell F' (new_of ps gs e) t c)
unfolding new_in_cell
last_in_cell {F} {F'} {s} {ps} {gs} {e} takes pl k t c =
    lasts F F' t c 0 ps (λ q m b. cell_of_lem takes pl k t q m b c)
    ∙ ap (λ (l : List ℕ). last_or 0 (filter (λ o. in_cell F' t c o) l)) (sym (kind_brought t ps gs e))

module _ (F : File) (t : Table) (ps : List Placed) where
  -- every cell that a payload brings an object to has the update of its tail
  update_tail : (q : Placed) (qs : List Placed) → Memᴰ q qs → Brings t q → Memᴰ (tail_update F t ps q) (cell_updates F t ps qs)
  unfolding cell_updates
  update_tail q [] m b = absurd (Memᴰ.not-nil m)
  update_tail q (r ∷ qs) m b = go (λ k. update_tail q qs k b) (Memᴰ.cases_cons m)
    where
      go : (Memᴰ q qs → Memᴰ (tail_update F t ps q) (cell_updates F t ps qs)) → (q ≡ r) ⊎ Memᴰ q qs → Memᴰ (tail_update F t ps q) (cell_updates F t ps (r ∷ qs))
      go ih (inl k) =
          subst (λ (x : Placed). Memᴰ (tail_update F t ps q) (cell_updates F t ps (x ∷ qs))) k
          (subst (λ (l : List Update). Memᴰ (tail_update F t ps q) l) (sym (cell_next F t ps q qs b)) (Memᴰ.tail (Memᴰ.head refl)))
      go ih (inr k) =
          brings_cases t r (λ i. subst (λ (l : List Update). Memᴰ (tail_update F t ps q) l) (sym (cell_idle F t ps r qs i)) (ih k))
          (λ i. subst (λ (l : List Update). Memᴰ (tail_update F t ps q) l) (sym (cell_next F t ps r qs i)) (Memᴰ.tail (Memᴰ.tail (ih k))))

-- among all link updates
pub tail_linked : (F : File) (ps : List Placed) (gs : List Growth) (t : Table) (q : Placed) → Memᴰ q ps → Brings t q → Memᴰ (tail_update F t ps q) (link_updates F ps gs)
unfolding link_updates
tail_linked F ps gs data_table q m b =
    Memᴰ.append_right (growth_updates gs) (Memᴰ.append_left (cell_updates F field_table ps ps ++ head_updates F ps ps) (update_tail F data_table ps q ps m b))
tail_linked F ps gs field_table q m b =
    Memᴰ.append_right (growth_updates gs) (Memᴰ.append_right (cell_updates F data_table ps ps) (Memᴰ.append_left (head_updates F ps ps) (update_tail F field_table ps q ps m b)))
