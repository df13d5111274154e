-- A summary brought forward by an append equals the one worked out afresh: proved for every image, append and length of the output.
use mathlib.Core.Path.{◌≡◌, sym, ap, ◌∙◌}
use mathlib.Core.Bool.{false}
use mathlib.Core.List.{List}
use Prim.Native.Nat.{ℕ}
use native.Mathlib.Omega.{arith}
use Rattle.format.specs.Header.{Image}
use Rattle.format.specs.Kinds.{FIELD}
use Rattle.format.specs.File.{File, model}
use Rattle.reading.specs.Answers.{Opened}
use Rattle.reading.specs.Committed.{committed}
use Rattle.writing.specs.Request.{Request}
use Rattle.writing.specs.Placing.{new_entry_at}
use Rattle.writing.specs.Plan.{appended}
use Rattle.writing.proofs.ReadyLaws.{ready_opened}
use Rattle.partial_append.specs.Extends.{Extends}
use Rattle.partial_append.specs.Commits.{Commits}
use Rattle.partial_append.proofs.Course.{keep}
use Rattle.plan_words.specs.Course.{Finished}
use Rattle.plan_words.specs.Planned.{new_by}
use Rattle.plan_words.specs.Takes.{Takes}
use Rattle.crash_states.proofs.Accepted.{Accepted}
use Rattle.crash_states.proofs.AcceptedFrom.{accepted}
use Rattle.crash_states.proofs.AcceptedLaws.{accepted_takes}
use Rattle.crash_states.proofs.Demands.{appended_shows}
use Rattle.crash_states.proofs.Groups.{offline_group}
use Rattle.crash_states.proofs.States.{InCourse}
use Rattle.next_append.proofs.FileAfter.{appended_is, between8, finished8, extends8, commits8}
use Rattle.summary.specs.Summary.{counts_by, summary_of}
use Rattle.summary.specs.Forward.{records_in, summary_wrong, other_journal, forwarded}
use Rattle.summary.proofs.StepLaws.{counts_last}
use Rattle.summary.proofs.BoundLaws.{summary_records, summary_id, summary_count, summary_last, summary_right}
use Rattle.summed_appends.specs.BroughtForward.{BroughtForward, IsBroughtForward}
use Rattle.summed_appends.proofs.CountsKept.{counts_kept}
use Rattle.summed_appends.proofs.JournalBefore.{some_committed, before_is, same_journal}
use Rattle.summed_appends.proofs.SameAnswer.{same_answer, afresh_fits}

module _ (img : Image) (r : Request) (a : Accepted img r) where
  -- the file before the append
  abbrev F : File
  F = model img

  -- and the one with it
  abbrev F' : File
  F' = model (appended img r)

  -- the summary of the file before it
  abbrev old : List ℕ
  old = summary_of (model img)

  -- the image before it opens
  opened : Opened img
  opened = ready_opened img a.ready

  -- and so does the one with it
  opens : Opened (appended img r)
  opens = record { opens = (appended_shows img r a).opens }

  -- the file before can take an append
  takes : Takes F
  takes = accepted_takes img r a

  -- which is committed in the other
  finished : Finished F F' r.fields r.stamp
  finished = rw (appended_is img r a) (finished8 img r a (offline_group (model img)) (λ s m. m))

  -- in an image of the same length
  between : InCourse img r a (appended img r)
  between = rw (appended_is img r a) (between8 img r a (offline_group (model img)) (λ s m. m))

  -- so the file extends the one before
  x : Extends F F' (new_by F r.fields) (new_entry_at F r.fields)
  x = extends8 a finished

  -- by one committed entry
  g : Commits F F' (new_by F r.fields) (new_entry_at F r.fields)
  g = commits8 a finished

  -- 26 does not apply
  right : summary_wrong (appended img r) old ≡ false
  right = summary_right img opened a.image_bytes (appended img r) (omega (arith, between.long)) (λ f m. keep x FIELD f m)

  -- nor does 27
  same : other_journal F' old ≡ false
  same =
      same_journal x takes.passes takes.agrees g old (summary_id img opened a.image_bytes) (summary_count img opened a.image_bytes)
      (summary_last img opened a.image_bytes)

  -- and the records brought forward are those of all entries
  forward : forwarded F' (records_in old) ≡ counts_by F' (committed F')
  forward =
      let p = takes.passes in
      let agree = takes.agrees in
      ap (forwarded F')
      (summary_records img opened a.image_bytes ∙ sym (counts_kept x p agree) ∙ ap (counts_by F') (sym (before_is x p agree g)))
      ∙ counts_last (appended img r) opens (some_committed x p agree g)

-- so that the summary brought forward is the one worked out afresh
pub brought_forward : BroughtForward
brought_forward img r list_bytes room given clear =
    let a = accepted img r list_bytes clear given in
    same_answer (appended img r) (summary_of (model img)) room (opens img r a).opens (right img r a) (same img r a) (forward img r a)

-- which is the new file's summary
pub is_brought_forward : IsBroughtForward
is_brought_forward img r list_bytes room given clear l =
    brought_forward img r list_bytes room given clear
    ∙ afresh_fits (appended img r) room (opens img r (accepted img r list_bytes clear given)).opens l
