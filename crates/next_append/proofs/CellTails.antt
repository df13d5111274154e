-- (4) The tails of cells after an append: of a cell that gets new objects the last of them, of any other as it was.
use mathlib.Core.Path.{◌≡◌, refl, sym, ap, ◌∙◌, subst}
use mathlib.Core.Logic.{inl, inr}
use mathlib.Core.List.Memᴰ
use mathlib.Core.List.{List, [], ◌∷◌, Memᴰ}
use Prim.Native.Nat.{ℕ, ◌<◌}
use native.Mathlib.Omega.{arith}
use borrow.Author.Tests.{eqb-true, eq-eqb}
use Rattle.format.specs.Says.{In}
use Rattle.format.specs.Header.{Image}
use Rattle.format.specs.Kinds.{Table, chained_kind}
use Rattle.format.specs.File.{model, cell_tail}
use Rattle.format.proofs.Members.{in_filter, filter_in}
use Rattle.format.specs.Stores.{Store}
use Rattle.writing.specs.Request.{Request}
use Rattle.writing.specs.Placing.{Placed, placed, new_entry_at}
use Rattle.writing.specs.Growth.{Growth, grown, after_entry}
use Rattle.writing.specs.NewObjects.{brings, cell_for, last_in}
use Rattle.writing.specs.Plan.{Update}
use Rattle.partial_append.specs.Growing.{in_cell, new_in_cell}
use Rattle.partial_append.specs.Between.{Changing, cell_tail_lem}
use Rattle.partial_append.proofs.BetweenKept.{changing_belongs}
use Rattle.partial_append.proofs.BetweenKeeps.{read_now}
use Rattle.plan_words.specs.Planned.{new_by}
use Rattle.plan_words.proofs.Brought.{Brings, bringer, brought_in}
use Rattle.plan_words.proofs.Standing.{kind_brought}
use Rattle.plan_words.proofs.CellThreads.{cell_of_lem}
use Rattle.plan_words.proofs.Extending.{grown_from}
use Rattle.plan_words.proofs.GrowthsAgree.{sort}
use Rattle.plan_words.proofs.UpdatesAgree.{tail_same, end_sort, word_low}
use Rattle.plan_words.proofs.UpdateLaws.{tail_update, LinkUpdate, by_growth, by_cell, by_list, link_update}
use Rattle.crash_states.proofs.Accepted.{Accepted}
use Rattle.crash_states.specs.Demand.{SomeOf}
use Rattle.crash_states.proofs.Groups.{link_plan, link_group, after3, after4, offline_group}
use Rattle.crash_states.proofs.AcceptedLaws.{accepted_walked, accepted_takes, accepted_placing}
use Rattle.crash_states.proofs.LinkSends.{link_sends}
use Rattle.crash_states.proofs.PlanStores.{link_sent}
use Rattle.crash_states.proofs.States.{planned, planned_end, between3}
use Rattle.crash_states.proofs.WordValues.{Holds, as_before, as_updated, holds}
use Rattle.crash_states.proofs.GroupValues.{value, old3}
use Rattle.next_append.specs.Settled.{last_or}
use Rattle.next_append.proofs.FileAfter.{after8, after, between8, still4, finished8}
use Rattle.next_append.proofs.CellLasts.{last_in_cell, tail_linked}

module _ (img : Image) (r : Request) (a : Accepted img r) (late : List Store) (of8 : SomeOf late (offline_group (model img))) where
  -- the payloads of the request, placed
  abbrev ps : List Placed
  ps = placed (model img) r.fields

  -- how the chains of arrays grow
  abbrev gs : List Growth
  gs = grown (model img) r.fields

  -- the new objects of a cell
  abbrev new_ones : Table → ℕ → List ℕ
  new_ones t c = new_in_cell (after img r a late of8) (new_by (model img) r.fields) t c

  -- an update of a cell's tail is of a cell to which a payload brings an object
  tail_brought : (t : Table) (c : ℕ) (u : Update) → Memᴰ u (link_plan (model img) r) → u.word ≡ cell_tail t c → (q : Placed) × Memᴰ q ps × Brings t q × (cell_for (model img) t q ≡ c)
  tail_brought t c u m w = go (link_update (model img) ps gs u m)
    where
      go : LinkUpdate (model img) ps gs u → (q : Placed) × Memᴰ q ps × Brings t q × (cell_for (model img) t q ≡ c)
      go (by_growth g n i) = absurd (omega (arith, word_low (model img) (accepted_takes img r a) ps (accepted_placing img r a) gs (new_entry_at (model img) r.fields) (after_entry (model img) r.fields) (grown_from (model img) r.fields) g n, ap (λ (x : Update). sort x.word) i, ap sort w))
      go (by_cell v q n b (inl i)) = absurd (omega (arith, end_sort (model img) (accepted_takes img r a) v (cell_for (model img) v q), ap (λ (x : Update). sort x.word) i, ap sort w))
      go (by_cell v q n b (inr i)) =
          let k = tail_same v t (cell_for (model img) v q) c (sym (ap (λ (x : Update). x.word) i) ∙ w) in
          (q, n, subst (λ (y : Table). Brings y q) k.0 b, ap (λ (y : Table). cell_for (model img) y q) (sym k.0) ∙ k.1)
      go (by_list l) = absurd (omega (arith, ap (λ (x : Update). sort x.word) l.update, ap sort w))

  -- what a payload brings to a cell is one of the new objects of the cell
  brought_new : (t : Table) (c : ℕ) (q : Placed) → Memᴰ q ps → Brings t q → cell_for (model img) t q ≡ c → In (brings t q) (new_ones t c)
  unfolding new_in_cell
  brought_new t c q m b z =
      filter_in (λ o. in_cell (after img r a late of8) t c o) (brings t q) (new_by (model img) r.fields (chained_kind t))
      (subst (λ (l : List ℕ). In (brings t q) l) (sym (kind_brought t ps gs (new_entry_at (model img) r.fields))) (brought_in t q ps m b))
      (cell_of_lem (accepted_takes img r a) (accepted_placing img r a) (finished8 img r a late of8).course t q m b c ∙ eq-eqb _ _ z)

  -- a new object of a cell was brought by a payload
  new_brought : (t : Table) (c o : ℕ) → In o (new_ones t c) → (q : Placed) × Memᴰ q ps × Brings t q × (cell_for (model img) t q ≡ c)
  unfolding new_in_cell
  new_brought t c o m =
      let i = in_filter (λ y. in_cell (after img r a late of8) t c y) o (new_by (model img) r.fields (chained_kind t)) m in
      let k = bringer t o ps (subst (λ (l : List ℕ). In o l) (kind_brought t ps gs (new_entry_at (model img) r.fields)) i.0) in (
        k.payload,
        k.among,
        k.brought,
        eqb-true _ _ (sym (cell_of_lem (accepted_takes img r a) (accepted_placing img r a) (finished8 img r a late of8).course t k.payload k.among k.brought c)
            ∙ ap (λ (y : ℕ). in_cell (after img r a late of8) t c y) (sym k.object) ∙ i.1),
      )

  module _ (t : Table) (c : ℕ) (l : c < (model img).cells t) where
    -- the tail of a cell may change
    changes : Changing (model img) (cell_tail t c)
    changes = cell_tail_lem t c l

    -- what the tail holds
    tail-read : (after img r a late of8).read (cell_tail t c) ≡ value img r a (after4 img r) (cell_tail t c)
    tail-read = read_now img (after8 img r late) (planned img r a) (planned_end img r a) (between8 img r a late of8) (cell_tail t c) ∙ still4 img r a late of8 (cell_tail t c) changes refl

    -- a tail that no payload updates is as it was
    tail_stays : new_ones t c ≡ [] → (after img r a late of8).read (cell_tail t c) ≡ (model img).read (cell_tail t c)
    unfolding after4
    tail_stays z =
        tail-read
        ∙ go (holds img (accepted_walked img r a) (cell_tail t c) (changing_belongs img (cell_tail t c) changes) 4 (link_plan (model img) r) (link_sends img r a) (link_group (model img) r)
        (link_sent (model img) ps gs) (after3 img r) (between3 img r a).long)
      where
        go : Holds img (link_plan (model img) r) (link_group (model img) r) (cell_tail t c) (after3 img r) (after4 img r) → value img r a (after4 img r) (cell_tail t c) ≡ (model img).read (cell_tail t c)
        go (as_before e n) = e ∙ old3 img r a (cell_tail t c) changes (λ e. omega arith) (λ e. omega arith)
        go (as_updated u m q e) =
            let k = tail_brought t c u m q in
            absurd (Memᴰ.not-nil (subst (λ (os : List ℕ). In (brings t k.0) os) z (brought_new t c k.0 k.1 k.2 k.3)))

    -- a tail is the last new object of the cell, or as it was
    tail_by : (os : List ℕ) → new_ones t c ≡ os → (after img r a late of8).read (cell_tail t c) ≡ last_or ((model img).read (cell_tail t c)) os
    tail_by [] z = tail_stays z
    tail_by (o ∷ os) z =
        let f = finished8 img r a late of8 in
        let k = new_brought t c o (subst (λ (xs : List ℕ). In o xs) (sym z) (Memᴰ.head refl)) in
        subst (λ (x : ℕ). (after img r a late of8).read (cell_tail t x) ≡ last_in (model img) t x 0 ps) k.3 (f.carried (tail_update (model img) t ps k.0) (tail_linked (model img) ps gs t k.0 k.1 k.2))
        ∙ last_in_cell (accepted_takes img r a) (accepted_placing img r a) f.course t c ∙ ap (last_or 0) z

    -- so
    pub tail_now : (after img r a late of8).read (cell_tail t c) ≡ last_or ((model img).read (cell_tail t c)) (new_ones t c)
    tail_now = tail_by (new_ones t c) refl
