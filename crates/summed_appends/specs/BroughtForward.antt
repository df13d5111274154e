-- A summary brought forward by an append equals the one worked out afresh.
use Rattle.std.specs.Prelude.{◌≡◌, ℕ, ◌≤◌}
use Rattle.format.specs.Header.{Image}
use Rattle.format.specs.File.{model}
use Rattle.writing.specs.Request.{Request}
use Rattle.writing.specs.Plan.{appended}
use Rattle.writing.specs.Refusal.{append_refusal}
use Rattle.crash_states.specs.Demand.{Given}
use Rattle.summary.specs.Summary.{summary_of, room_for, some_summary, summed}
use Rattle.summary.specs.Forward.{summed_next}

-- "After an accepted append of one entry, a summary that was right is brought forward from its records and that entry and equals the one
-- worked out afresh": of every image, append and length of the output, the answer and every byte
abbrev pub BroughtForward : Type 0
BroughtForward =
    (img : Image) (r : Request) (list_bytes room : ℕ) → Given img r → append_refusal img r list_bytes ≡ 0
    → summed_next (appended img r) (summary_of (model img)) room ≡ summed (appended img r) room

-- and with room enough it is the new file's summary: no refusal applies
abbrev pub IsBroughtForward : Type 0
IsBroughtForward =
    (img : Image) (r : Request) (list_bytes room : ℕ) → Given img r → append_refusal img r list_bytes ≡ 0 → room_for (model (appended img r)) ≤ room
    → summed_next (appended img r) (summary_of (model img)) room ≡ some_summary (summary_of (model (appended img r)))
