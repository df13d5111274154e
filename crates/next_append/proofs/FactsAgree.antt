-- 14 of the head and tail facts after an append: the tail's are those of the new entry, and so are the head's where it is the first;
-- else the head's stay, and so does the first committed entry.
use mathlib.Core.Path.{◌≡◌, refl, sym, ap, ◌∙◌}
use mathlib.Core.Bool.{false}
use mathlib.Core.List.Memᴰ
use mathlib.Core.List.{List, [], ◌∷◌, ◌++◌}
use Prim.Native.Nat.{ℕ, suc}
use native.Mathlib.Omega.{arith}
use lib.ListN.{length}
use Rattle.format.specs.Tests.{last_or0}
use Rattle.format.specs.Says.{In}
use Rattle.format.specs.Header.{n_entries, head_entry_seqnum, head_entry_realtime}
use Rattle.format.specs.Kinds.{ENTRY}
use Rattle.format.specs.File.{File, header}
use Rattle.format.proofs.Lists.{last_more}
use Rattle.reading.specs.Committed.{committed}
use Rattle.reading.proofs.CommittedLaws.{committed_length, committed_entry}
use Rattle.writing.specs.Agreement.{facts_fault}
use Rattle.writing.specs.Request.{Request}
use Rattle.writing.specs.Placing.{new_entry_at}
use Rattle.partial_append.specs.Extends.{Extends}
use Rattle.partial_append.specs.Commits.{Commits}
use Rattle.partial_append.proofs.Passing.{entries_clear}
use Rattle.partial_append.proofs.EntryCommitted.{one_more}
use Rattle.plan_words.specs.Planned.{new_by}
use Rattle.plan_words.specs.Takes.{Takes}
use Rattle.next_append.specs.Settled.{Settled}
use Rattle.writing.proofs.AgreementSays.{FactsRight, facts_clear}

module _ {F F' : File} {r : Request} (s : Settled F F' r) (t : Takes F) (x : Extends F F' (new_by F r.fields) (new_entry_at F r.fields))
    (g : Commits F F' (new_by F r.fields) (new_entry_at F r.fields)) where
  -- the new entry
  abbrev entry : ℕ
  entry = new_entry_at F r.fields

  -- the committed entries are the old ones and then the new one
  committed_after : committed F' ≡ committed F ++ (entry ∷ [])
  committed_after = one_more x t.passes t.agrees g

  -- as many were committed as n_entries said
  many : length (committed F) ≡ F.read (header n_entries)
  many = committed_length F (entries_clear F t.formed t.passes)

  -- the facts, where the head's are right
  right : (first : ℕ) → F'.read (header head_entry_seqnum) ≡ F'.seqnum first → F'.read (header head_entry_realtime) ≡ F'.realtime first → FactsRight F' first entry
  right first p q =
      let n = s.finished.course.new_entry in
      record {
        head_seqnum = p;
        head_realtime = q;
        tail_seqnum = s.tail_seqnum ∙ sym n.seqnum;
        tail_realtime = s.tail_realtime ∙ sym n.realtime;
        tail_monotonic = s.tail_monotonic ∙ sym n.monotonic;
      }

  -- by the entries that were committed
  facts_by : facts_fault F (committed F) ≡ false → (es : List ℕ) → committed F ≡ es → facts_fault F' (es ++ (entry ∷ [])) ≡ false
  unfolding last_or0
  facts_by old [] q =
      let n = s.finished.course.new_entry in
      let h = s.head_first (sym many ∙ ap length q) in
      (facts_clear F' entry []).1 (right entry (h.0 ∙ sym n.seqnum) (h.1 ∙ sym n.realtime))
  facts_by old (e ∷ es) q =
      let z : F.read (header n_entries) ≡ suc (length es) = sym many ∙ ap length q in
      let h = s.head_later (λ k. omega (arith, k, z)) in
      let k = s.finished.course.keeps in
      let m : In e (F.of ENTRY) = committed_entry F (entries_clear F t.formed t.passes) e (rw q (Memᴰ.head refl)) in
      let f = (facts_clear F e es).0 (rw q at old) in
      (facts_clear F' e (es ++ (entry ∷ []))).1
      (rw (last_more (e ∷ es) entry) (right e (h.0 ∙ f.head_seqnum ∙ sym (k.seqnum e m)) (h.1 ∙ f.head_realtime ∙ sym (k.realtime e m))))

  -- 14 of the facts
  pub facts_agree : facts_fault F (committed F) ≡ false → facts_fault F' (committed F') ≡ false
  facts_agree old = ap (facts_fault F') committed_after ∙ facts_by old (committed F) refl
