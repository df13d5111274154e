-- The text of the new entry of an append that is accepted: no entry before it stands at its offset.
use mathlib.Core.Path.{◌≡◌, refl, ap, ◌∙◌}
use mathlib.Core.Logic.{◌≢◌}
use mathlib.Core.List.{List, [], ◌∷◌, ◌++◌, Memᴰ}
use Prim.Native.Nat.{ℕ, ◌≤◌}
use native.Mathlib.Omega.{arith}
use borrow.Author.Tests.{eq-eqb, ne_eqb}
use Rattle.format.specs.Header.{Image}
use Rattle.format.specs.Kinds.{ENTRY}
use Rattle.format.specs.File.{File, model}
use Rattle.format.proofs.Lists.{map_in}
use Rattle.reading.specs.Refusal.{refusal}
use Rattle.reading.specs.Committed.{committed}
use Rattle.reading.specs.View.{Shown, View, shown_entry, view}
use Rattle.reading.proofs.OpenLaws.{opened_entries}
use Rattle.reading.proofs.CommittedLaws.{committed_entry}
use Rattle.writing.specs.Request.{Request}
use Rattle.writing.specs.Placing.{placed, new_entry_at}
use Rattle.writing.specs.Growth.{grown, new_end}
use Rattle.writing.specs.Plan.{appended}
use Rattle.writing.specs.Shown.{with_entry}
use Rattle.writing.proofs.ReadyLaws.{ready_opened}
use Rattle.partial_append.proofs.BetweenRows.{in_row}
use Rattle.plan_words.specs.Objects.{entry_object, objects_by}
use Rattle.plan_words.proofs.ObjectLaws.{entry_object_lem}
use Rattle.plan_words.proofs.ObjectRow.{objects_row}
use Rattle.crash_states.specs.Demand.{new_entry}
use Rattle.crash_states.proofs.Accepted.{Accepted}
use Rattle.crash_states.proofs.AcceptedLaws.{accepted_takes}
use Rattle.crash_states.proofs.Demands.{appended_shows}
use Rattle.exchange.specs.Entry.{exchanged_of}
use Rattle.exchange.specs.Export.{export_of, export_at, export_for}

-- no entry of some stands at the offset
abbrev Clear : ℕ → List Shown → Type 0
Clear o es = (e : Shown) → Memᴰ e es → e.offset ≢ o

-- the entry behind those that stand elsewhere
export_last : (o : ℕ) (es : List Shown) (e : Shown) → Clear o es → e.offset ≡ o → export_at o (es ++ (e ∷ [])) ≡ export_of (exchanged_of e)
unfolding export_at
export_last o [] e c q = rw (export_at, eq-eqb e.offset o q)
export_last o (x ∷ es) e c q =
    rw (export_at, ne_eqb x.offset o (c x (Memᴰ.head refl))) (export_last o es e (λ y m. c y (Memᴰ.tail m)) q)

-- the text of an entry of an image that opens
export_opened : (o : ℕ) (img : Image) → refusal img ≡ 0 → export_for o img ≡ export_at o (view (model img)).entries
unfolding export_for
export_opened o img e = rw (export_for, e)

module _ (img : Image) (r : Request) (a : Accepted img r) where
  abbrev F : File
  F = model img

  -- where the new ENTRY stands
  abbrev at : ℕ
  at = new_entry_at F r.fields

  -- it stands behind the old objects
  entry_high : F.end ≤ at
  entry_high =
      (in_row F.end (objects_by F r.stamp r.fields) (new_end F r.fields) (objects_row F r.stamp r.fields)
      (entry_object F r.stamp at (placed F r.fields)) (entry_object_lem F r.stamp (placed F r.fields) (grown F r.fields) at)).0

  -- so that no committed entry stands there
  old_clear : Clear at (view F).entries
  unfolding view shown_entry
  old_clear e m q =
      let (o, i, k) = map_in (λ o. shown_entry F o) e (committed F) m in
      let n = committed_entry F (opened_entries img (ready_opened img a.ready)) o i in
      omega (arith, (accepted_takes img r a).before ENTRY o n, entry_high, ap (λ (s : Shown). s.offset) k, q)

  -- the text at its offset is that of the new entry
  pub new_export : export_for at (appended img r) ≡ export_of (exchanged_of (new_entry F r))
  unfolding with_entry new_entry
  new_export =
      let s = appended_shows img r a in
      export_opened at (appended img r) s.opens
      ∙ ap (λ (v : View). export_at at v.entries) s.shows
      ∙ export_last at (view F).entries (new_entry F r) old_clear refl
