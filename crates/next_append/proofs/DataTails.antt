-- (5) What the tail fields of old DATA hold after an append to a compact file: of a DATA of the entry that has counted before what its
-- update says, of any other what they held.
use mathlib.Core.Path.{◌≡◌, refl, sym, ap, ◌∙◌, subst}
use mathlib.Core.Bool.{true}
use mathlib.Core.List.{List, Memᴰ}
use Prim.Native.Nat.{ℕ, zero, suc}
use native.Mathlib.Omega.{arith}
use Rattle.format.specs.Says.{In}
use Rattle.format.specs.Header.{Image}
use Rattle.format.specs.Kinds.{DATA}
use Rattle.format.specs.File.{model, within, entry_array, data_count, data_tail}
use Rattle.format.specs.Stores.{Store}
use Rattle.writing.specs.Request.{Request}
use Rattle.writing.specs.Placing.{placed, new_entry_at, old_items}
use Rattle.writing.specs.Growth.{Taker, item, taker_of, growth, grown}
use Rattle.writing.specs.Plan.{Update, store_of, tail_array_after}
use Rattle.writing.proofs.GrowthLaws.{taker_at}
use Rattle.partial_append.specs.Between.{Changing, tail_fields}
use Rattle.partial_append.proofs.BetweenKept.{changing_belongs}
use Rattle.partial_append.proofs.BetweenKeeps.{read_now}
use Rattle.plan_words.proofs.CountUpdates.{tail_one, CountCase, a_count, a_tail, has_tail, counted_by, counts_own}
use Rattle.plan_words.proofs.GrowthLaws.{item_taker}
use Rattle.crash_states.specs.Demand.{SomeOf}
use Rattle.crash_states.proofs.Accepted.{Accepted}
use Rattle.crash_states.proofs.Groups.{count_plan, link_group, count_group, offline_group, after4, after5}
use Rattle.crash_states.proofs.AcceptedLaws.{accepted_walked}
use Rattle.crash_states.proofs.UpdateSends.{count_sends}
use Rattle.crash_states.proofs.PlanStores.{sent_by, has_store}
use Rattle.crash_states.proofs.States.{planned, planned_end, between4}
use Rattle.crash_states.proofs.WordValues.{Holds, as_before, as_updated, holds}
use Rattle.crash_states.proofs.GroupValues.{value, leave4, old3}
use Rattle.next_append.specs.Settled.{TailKept, tail_of, tail_as_was}
use Rattle.next_append.proofs.FileAfter.{after8, after, between8, still5}

module _ (img : Image) (r : Request) (a : Accepted img r) (late : List Store) (of8 : SomeOf late (offline_group (model img)))
    (compact : (model img).compact ≡ true) (d : ℕ) (m : In d ((model img).of DATA)) where
  -- the DATA of the entry that stand already
  abbrev old_ones : List ℕ
  old_ones = old_items (model img) (placed (model img) r.fields)

  -- the tail fields may change
  changes : Changing (model img) (data_tail d)
  changes = tail_fields d m compact

  -- what they hold
  tail-read : (after img r a late of8).read (data_tail d) ≡ value img r a (after5 img r) (data_tail d)
  tail-read = read_now img (after8 img r late) (planned img r a) (planned_end img r a) (between8 img r a late of8) (data_tail d) ∙ still5 img r a late of8 (data_tail d) changes refl

  -- before group 5 they are as they were
  old4 : value img r a (after4 img r) (data_tail d) ≡ value img r a img (data_tail d)
  unfolding after4
  old4 = leave4 img r a (data_tail d) changes (λ e. omega arith) (link_group (model img) r) (λ s i. i) ∙ old3 img r a (data_tail d) changes (λ e. omega arith) (λ e. omega arith)

  -- a DATA of the entry that has counted before has a store there
  has_stored : In d old_ones → (n : ℕ) → (model img).read (data_count d) ≡ suc n → (s : Store) × Memᴰ s (count_group (model img) r) × (s.at ≡ (model img).place (data_tail d))
  unfolding store_of
  has_stored i n z =
      let o = counts_own (model img) r.fields d i in
      let g = growth (model img) (new_entry_at (model img) r.fields) o.end (taker_at (model img) d) in
      let u = tail_one (model img) d g.value n in
      (store_of (model img) u, has_store (model img) (count_plan (model img) r) u (o.has u (has_tail (model img) d g n compact z)), refl)

  -- an update of the tail fields is that of the DATA
  named : (u : Update) → Memᴰ u (count_plan (model img) r) → u.word ≡ data_tail d → (after img r a late of8).read (data_tail d) ≡ u.value → TailKept (model img) (after img r a late of8) r d
  named u i q e = let t = counted_by (model img) r.fields u i in go t.data_at_lem t.among t.end t.grows t.case
    where
      same : (c : ℕ) → data_tail c ≡ data_tail d → c ≡ d
      same c w = cc

      own : (c n end : ℕ) → c ≡ d → In c old_ones → Memᴰ (growth (model img) (new_entry_at (model img) r.fields) end (taker_at (model img) c)) (grown (model img) r.fields)
          → (model img).read (data_count c) ≡ suc n
          → (after img r a late of8).read (data_tail d) ≡ tail_array_after (model img) (growth (model img) (new_entry_at (model img) r.fields) end (taker_at (model img) c)).value (entry_array c) n
          → TailKept (model img) (after img r a late of8) r d
      own c n end w j k z v =
          let taker : taker_at (model img) c ≡ item (entry_array d) n = ap (taker_of c) z ∙ item_taker (model img) c n ∙ ap (λ (y : ℕ). item (entry_array y) n) w in
          tail_of n end (ap (λ (y : ℕ). (model img).read (data_count y)) (sym w) ∙ z) (subst (λ (y : ℕ). In y old_ones) w j)
          (subst (λ (y : Taker). Memᴰ (growth (model img) (new_entry_at (model img) r.fields) end y) (grown (model img) r.fields)) taker k)
          (v ∙ ap (λ (y : Taker). tail_array_after (model img) (growth (model img) (new_entry_at (model img) r.fields) end y).value (entry_array c) n) taker
          ∙ ap (λ (y : ℕ). tail_array_after (model img) (growth (model img) (new_entry_at (model img) r.fields) end (item (entry_array d) n)).value (entry_array y) n) w)

      go : (c : ℕ) → In c old_ones → (end : ℕ) → Memᴰ (growth (model img) (new_entry_at (model img) r.fields) end (taker_at (model img) c)) (grown (model img) r.fields)
          → CountCase (model img) c (growth (model img) (new_entry_at (model img) r.fields) end (taker_at (model img) c)) u → TailKept (model img) (after img r a late of8) r d
      go c j end k (a_count s) = absurd (omega (arith, ap (λ (y : Update). within y.word) s, ap within q))
      go c j end k (a_tail n b z s) = own c n end (same c (ap (λ (y : Update). y.word) (sym s) ∙ q)) j k z (e ∙ ap (λ (y : Update). y.value) s)

  -- so
  pub tail_stored : TailKept (model img) (after img r a late of8) r d
  unfolding after5
  tail_stored =
      go (holds img (accepted_walked img r a) (data_tail d) (changing_belongs img (data_tail d) changes) 5 (count_plan (model img) r) (count_sends img r a) (count_group (model img) r)
      (sent_by (model img) (count_plan (model img) r)) (after4 img r) (between4 img r a).long)
    where
      go : Holds img (count_plan (model img) r) (count_group (model img) r) (data_tail d) (after4 img r) (after5 img r) → TailKept (model img) (after img r a late of8) r d
      go (as_updated u i q e) = named u i q (tail-read ∙ e)
      go (as_before e n) = tail_as_was (λ i. none i ((model img).read (data_count d)) refl) (tail-read ∙ e ∙ old4)
        where
          none : In d old_ones → (k : ℕ) → (model img).read (data_count d) ≡ k → (model img).read (data_count d) ≡ 0
          none i zero z = z
          none i (suc k) z = let s = has_stored i k z in absurd (n s.0 s.1 s.2)
