-- 14 of the words that a longer header has, after an append: the tail array is the one that took the new entry, and the last entry is
-- the new one.
use mathlib.Core.Path.{◌≡◌, refl, sym, ap, ◌∙◌, subst}
use mathlib.Core.Bool.{false}
use mathlib.Core.List.{List, Memᴰ}
use Prim.Native.Nat.{ℕ, suc, ◌+◌}
use lib.Dec.{leb}
use Rattle.format.specs.Header.{LateField, late_offset, entry_array_offset, n_entries}
use Rattle.format.specs.File.{File, Word, header, has_late}
use Rattle.writing.specs.TailArray.{tail_array}
use Rattle.writing.specs.Agreement.{late_fault}
use Rattle.writing.specs.Request.{Request}
use Rattle.writing.specs.Placing.{placed, new_entry_at}
use Rattle.writing.specs.Growth.{item, takers, Growth, growth, growths, grown, after_entry}
use Rattle.writing.specs.Plan.{tail_array_after}
use Rattle.partial_append.specs.Extends.{Extends, of_header}
use Rattle.partial_append.specs.Commits.{Commits}
use Rattle.partial_append.proofs.EntryCommitted.{last_new}
use Rattle.plan_words.specs.Planned.{new_by}
use Rattle.plan_words.specs.Takes.{Takes}
use Rattle.plan_words.proofs.Placing.{Placing}
use Rattle.plan_words.proofs.Extending.{grown_from}
use Rattle.next_append.specs.Settled.{Settled}
use Rattle.writing.proofs.AgreementSays.{late_clear}
use Rattle.next_append.proofs.TailsGrown.{tail_grown}

module _ {F F' : File} {r : Request} (s : Settled F F' r) (t : Takes F) (pl : Placing F (placed F r.fields))
    (x : Extends F F' (new_by F r.fields) (new_entry_at F r.fields)) (g : Commits F F' (new_by F r.fields) (new_entry_at F r.fields)) where
  -- the header's chain
  abbrev chain : Word
  chain = header entry_array_offset

  -- the number of entries committed before
  abbrev before : ℕ
  before = F.read (header n_entries)

  -- where the first new array would stand
  abbrev end : ℕ
  end = after_entry F r.fields

  -- the header has the words that it had
  has_kept : (l : LateField) → has_late F' l ≡ has_late F l
  unfolding has_late
  has_kept l = ap (leb (late_offset l + 8)) x.keeps.first

  -- the header's chain is the first that grows
  first_growth : Memᴰ (growth F (new_entry_at F r.fields) end (item chain before)) (grown F r.fields)
  unfolding growths takers
  first_growth = subst (λ (l : List Growth). Memᴰ (growth F (new_entry_at F r.fields) end (item chain before)) l) (sym (grown_from F r.fields)) (Memᴰ.head refl)

  -- the tail array is the one that group 6 stores
  tail_by : tail_array F' chain (suc before) ≡ tail_array_after F end chain before
  tail_by = tail_grown s t pl x chain before of_header g.written end first_growth

  -- 14 of these words
  pub late_agree : late_fault F' ≡ false
  late_agree =
      (late_clear F').1 (
        λ h. s.late_array (sym (has_kept _) ∙ h) ∙ sym tail_by ∙ sym (ap (tail_array F' chain) g.count),
        λ h. s.late_offset (sym (has_kept _) ∙ h) ∙ sym (last_new x t.passes t.agrees g),
      )
