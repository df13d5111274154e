-- 14 of the counters after an append: each grew by as many as there are new objects of its kind, n_entries by one, and n_tags stayed.
use mathlib.Core.Path.{◌≡◌, ap, ◌∙◌}
use mathlib.Core.Bool.{false}
use Prim.Native.Nat.{◌+◌}
use native.Mathlib.Omega.{arith}
use lib.ListN.{length, length-append}
use Rattle.format.specs.Kinds.{Kind, DATA, FIELD, ENTRY, ENTRY_ARRAY, TAG, data_table, field_table}
use Rattle.format.specs.File.{File}
use Rattle.writing.specs.Agreement.{counters_fault}
use Rattle.writing.specs.Request.{Request}
use Rattle.writing.specs.Placing.{placed}
use Rattle.writing.specs.Growth.{grown}
use Rattle.plan_words.specs.Planned.{new_by}
use Rattle.next_append.specs.Settled.{Settled}
use Rattle.next_append.proofs.ObjectCounts.{brought_many, arrays_many}
use Rattle.writing.proofs.AgreementSays.{CountersRight, counters_clear}

module _ {F F' : File} {r : Request} (s : Settled F F' r) where
  -- the objects of a kind are as many as before and the new ones
  more : (k : Kind) → length (F'.of k) ≡ length (F.of k) + length (new_by F r.fields k)
  more k = ap length (s.finished.course.objects k) ∙ length-append (F.of k) (new_by F r.fields k)

  -- the counters are right where they were
  right : CountersRight F → CountersRight F'
  right b =
      record {
        objects = omega (arith, s.objects, b.objects, s.walked);
        entries = omega (arith, s.finished.commit, b.entries, more ENTRY);
        datas = omega (arith, s.datas, b.datas, more DATA, brought_many data_table (placed F r.fields));
        fields = omega (arith, s.fields, b.fields, more FIELD, brought_many field_table (placed F r.fields));
        tags = omega (arith, s.tags, b.tags, more TAG);
        arrays = omega (arith, s.arrays, b.arrays, more ENTRY_ARRAY, arrays_many (grown F r.fields));
      }

  -- 14 of the counters
  pub counters_agree : counters_fault F ≡ false → counters_fault F' ≡ false
  counters_agree h = (counters_clear F').1 (right ((counters_clear F).0 h))
