-- Where the old summary is of the journal before the last entry and its records brought forward are those of all entries, both
-- answers are one.
use mathlib.Core.Path.{◌≡◌, refl, sym, ap, ◌∙◌}
use mathlib.Core.Bool.{Bool, true, false}
use mathlib.Core.List.{List, [], ◌∷◌}
use Prim.Native.Nat.{ℕ, zero, suc, ◌≤◌}
use lib.Dec.{ltb}
use borrow.Author.Tests.{le-ltb}
use Rattle.format.specs.Rows.{lowest}
use Rattle.format.specs.Header.{Image}
use Rattle.format.specs.File.{model}
use Rattle.reading.specs.Committed.{committed}
use Rattle.reading.specs.Refusal.{refusal}
use Rattle.summary.specs.Summary.{Count, counts_by, summary_with, summary_of, room_for, Summed, refused_summary, some_summary, summed}
use Rattle.summary.specs.Forward.{records_in, summary_wrong, other_journal, forwarded, forward_rows, summed_next}

-- what is answered where 26 and 27 do not apply, by 28
by_room : (b wrong other : Bool) (s : List ℕ) → wrong ≡ false → other ≡ false
    → ◌≡◌ {A = Summed} (elim (lowest ((28, b) ∷ (26, wrong) ∷ (27, other) ∷ [])) [ suc n ↦ refused_summary (suc n) | zero ↦ some_summary s ])
    (elim b [ true ↦ refused_summary 28 | false ↦ some_summary s ])
unfolding lowest
by_room true wrong other s p q = refl
by_room false wrong other s p q = rw (p, q) refl

-- what is brought forward from an image that opens
next_opened : (img : Image) (old : List ℕ) (room : ℕ) → refusal img ≡ 0
    → summed_next img old room
    ≡ elim (lowest (forward_rows img old room)) [ suc n ↦ refused_summary (suc n) | zero ↦ some_summary (summary_with (model img) (forwarded (model img) (records_in old))) ]
unfolding summed_next
next_opened img old room e = rw (summed_next, e)

-- and what is worked out afresh
afresh_opened : (img : Image) (room : ℕ) → refusal img ≡ 0
    → summed img room ≡ elim (ltb room (room_for (model img))) [ true ↦ refused_summary 28 | false ↦ some_summary (summary_of (model img)) ]
unfolding summed
afresh_opened img room e = rw (summed, e)

-- with room enough it is the file's summary
pub afresh_fits : (img : Image) (room : ℕ) → refusal img ≡ 0 → room_for (model img) ≤ room → summed img room ≡ some_summary (summary_of (model img))
afresh_fits img room e l = afresh_opened img room e ∙ rw (le-ltb room (room_for (model img)) l)

-- the summary brought forward is the one worked out afresh
pub same_answer : (img : Image) (old : List ℕ) (room : ℕ) → refusal img ≡ 0 → summary_wrong img old ≡ false → other_journal (model img) old ≡ false
    → forwarded (model img) (records_in old) ≡ counts_by (model img) (committed (model img))
    → summed_next img old room ≡ summed img room
unfolding summary_of forward_rows
same_answer img old room opens wrong other counts =
    next_opened img old room opens
    ∙ by_room (ltb room (room_for (model img))) (summary_wrong img old) (other_journal (model img) old) _ wrong other
    ∙ ap (λ (cs : List Count). elim (ltb room (room_for (model img))) as (λ _. Summed) [ true ↦ refused_summary 28 | false ↦ some_summary (summary_with (model img) cs) ]) counts
    ∙ sym (afresh_opened img room opens)
