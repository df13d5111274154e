-- After an append the counters, facts and tails are stored, each as its group of stores says; n_tags, which no store is to, stays.
use mathlib.Core.Path.{◌≡◌, refl, ap, ◌∙◌}
use mathlib.Core.List.{List}
use Prim.Native.Nat.{ℕ, zero, suc, ◌+◌}
use native.Mathlib.Omega.{arith}
use lib.ListN.{length, length-append, length-map}
use Rattle.format.specs.Header.{Image, HeaderField, header_word, n_entries, n_tags, head_entry_seqnum, head_entry_realtime}
use Rattle.format.specs.File.{File, model, Word, header}
use Rattle.format.specs.Stores.{Store}
use Rattle.writing.specs.Request.{Request}
use Rattle.writing.specs.Placing.{placed, new_entry_at}
use Rattle.writing.specs.Growth.{grown}
use Rattle.partial_append.specs.Between.{PlannedObject, Changing, link, cell_tail_lem, count, tail_fields, fact, late_fact, HeaderChange, of_state, of_boot, of_boot_rest, of_tail, of_objects, of_entries, of_tail_seqnum, of_head_seqnum, of_head_realtime, of_tail_realtime, of_tail_monotonic, of_data_lem, of_fields, of_arrays_lem}
use Rattle.partial_append.specs.Extends.{Stays}
use Rattle.partial_append.proofs.BetweenWalked.{objects_now}
use Rattle.partial_append.proofs.BetweenOld.{stays_now}
use Rattle.plan_words.proofs.CourseOfImage.{bearing}
use Rattle.crash_states.specs.Demand.{SomeOf}
use Rattle.crash_states.proofs.Accepted.{Accepted, group_of, header_group}
use Rattle.crash_states.proofs.Groups.{offline_group}
use Rattle.crash_states.proofs.AcceptedLaws.{accepted_takes, accepted_placing}
use Rattle.crash_states.proofs.LinkSends.{link_group_lem}
use Rattle.crash_states.proofs.States.{planned, planned_end}
use Rattle.next_append.specs.Settled.{new_objects, Settled}
use Rattle.next_append.proofs.ObjectCounts.{objects_many}
use Rattle.next_append.proofs.FileAfter.{after8, after, between8, finished8}
use Rattle.next_append.proofs.HeaderWords.{objects_counted, data_counted, fields_counted, arrays_counted, tail_facts, head_facts_first, head_facts_later, late_array_lem, late_offset_lem}
use Rattle.next_append.proofs.CellTails.{tail_now}
use Rattle.next_append.proofs.DataTails.{tail_stored}

-- a word that an append may change is of a group of stores
changing_grouped : {F : File} (w : Word) → Changing F w → group_of w ≡ 0 → ⊥
changing_grouped w (link v l) g = let k = link_group_lem l in omega arith
changing_grouped w (cell_tail_lem t c l) g = omega arith
changing_grouped w (count d m) g = omega arith
changing_grouped w (tail_fields d m c) g = omega arith
changing_grouped w (late_fact l k) g = omega arith
changing_grouped w (fact f h) g = go f h g
  where
    go : (f : HeaderField) → HeaderChange f → header_group f ≡ 0 → ⊥
    go f of_state g = omega arith
    go f of_boot g = omega arith
    go f of_boot_rest g = omega arith
    go f of_tail g = omega arith
    go f of_objects g = omega arith
    go f of_entries g = omega arith
    go f of_tail_seqnum g = omega arith
    go f of_head_seqnum g = omega arith
    go f of_head_realtime g = omega arith
    go f of_tail_realtime g = omega arith
    go f of_tail_monotonic g = omega arith
    go f of_data_lem g = omega arith
    go f of_fields g = omega arith
    go f of_arrays_lem g = omega arith

module _ (img : Image) (r : Request) (a : Accepted img r) (late : List Store) (of8 : SomeOf late (offline_group (model img))) where
  -- the objects are as many as before and the new ones
  more_objects : length (after img r a late of8).objects ≡ length (model img).objects + new_objects (model img) r
  more_objects =
      ap length (objects_now img (after8 img r late) (planned img r a) (planned_end img r a) (between8 img r a late of8)) ∙ length-append (model img).objects _
      ∙ ap (λ (n : ℕ). length (model img).objects + n)
      (length-map (planned img r a) (λ (p : PlannedObject). p.at)
      ∙ objects_many (model img) (new_entry_at (model img) r.fields) r.stamp (placed (model img) r.fields) (grown (model img) r.fields) (bearing (accepted_takes img r a) (placed (model img) r.fields) (accepted_placing img r a)))

  -- n_tags stays
  tags_stay : Stays (model img) (after img r a late of8) (header n_tags)
  tags_stay = stays_now img (after8 img r late) (planned img r a) (planned_end img r a) (between8 img r a late of8) (header n_tags) tt (λ c. changing_grouped (header n_tags) c refl)

  -- the head facts stay after a later entry
  head_later_lem : (n : ℕ) → header_word img n_entries ≡ n → (n ≡ 0 → ⊥) → Stays (model img) (after img r a late of8) (header head_entry_seqnum) × Stays (model img) (after img r a late of8) (header head_entry_realtime)
  head_later_lem zero e z = absurd (z refl)
  head_later_lem (suc n) e z = head_facts_later img r a late of8 n e

  -- all of them
  pub settled8 : Settled (model img) (after img r a late of8) r
  settled8 =
      let t = tail_facts img r a late of8 (header_word img n_entries) refl in
      record {
        finished = finished8 img r a late of8;
        walked = more_objects;
        objects = objects_counted img r a late of8;
        datas = data_counted img r a late of8;
        fields = fields_counted img r a late of8;
        arrays = arrays_counted img r a late of8;
        tags = tags_stay;
        tails = tail_now img r a late of8;
        tail_seqnum = t.0;
        tail_realtime = t.1;
        tail_monotonic = t.2;
        head_first = head_facts_first img r a late of8;
        head_later = head_later_lem (header_word img n_entries) refl;
        late_array = late_array_lem img r a late of8;
        late_offset = late_offset_lem img r a late of8;
        data_tails = tail_stored img r a late of8;
      }
