-- The new file of a salvage takes the next append and shows what was made of the kept ENTRYs, unaltered and in file order; only 16 and 18
-- stop the run, and where nothing does all are in it: proved for every image of bytes, ids and sizes that are not refused.
use mathlib.Core.Path.{◌≡◌, refl, sym, ap, ◌∙◌, subst}
use mathlib.Core.List.{List, [], ◌∷◌, ◌++◌}
use Prim.Native.Nat.{ℕ}
use lib.ListN.{length, take}
use lib.Dec.{ltb}
use Rattle.format.specs.Tests.{last_or0}
use Rattle.format.specs.Header.{Image}
use Rattle.format.specs.Rows.{Row}
use Rattle.format.specs.File.{model}
use Rattle.format.specs.Refusal.{header_rows, header_refusal}
use Rattle.format.proofs.Frames.{framed}
use Rattle.format.proofs.Rows.{lacks, clear_lowest, lowest_clear, clear_parts}
use Rattle.reading.specs.View.{Shown}
use Rattle.writing.specs.NewFile.{Asked, asked_fault, new_file_refusal, new_file}
use Rattle.salvage.specs.Conditions.{kept}
use Rattle.salvage.specs.Salvage.{machine_of, request_for, requests_for, run_for, report_room, salvage_rows, salvage_refusal}
use Rattle.salvaged_files.specs.Salvaged.{Returned, Refills}
use Rattle.salvaged_files.proofs.NewFileFirst.{first}
use Rattle.salvaged_files.proofs.RunSteps.{behind_none}
use Rattle.salvaged_files.proofs.KeptRuns.{Filled, filled}

-- a salvage that is not refused: neither 1 to 5 apply nor 20
not_refused : (img : Image) (a : Asked) (len room : ℕ) → salvage_refusal img a len room ≡ 0 → (header_refusal img ≡ 0) × (new_file_refusal len a ≡ 0)
unfolding salvage_refusal salvage_rows header_refusal header_rows new_file_refusal lacks
not_refused img a len room z =
    let later : List Row = (20, asked_fault len a) ∷ (28, ltb room (report_room img)) ∷ [] in
    let (header, (asked, report)) = clear_parts (header_rows img) later (lowest_clear (salvage_rows img a len room) refl z) in
    (clear_lowest (header_rows img) header, rw (new_file_refusal, asked))

pub refills : Refills
unfolding run_for requests_for request_for last_or0
refills img a len room bytes given z =
    let (header, asked) = not_refused img a len room z in
    let n = first len a given asked in
    let f : Filled (model img) (machine_of a) (new_file len a) (kept img) (run_for img a len) =
    filled img (machine_of a) (framed img header) bytes (kept img) [] (new_file len a) refl n.takes n.machine (behind_none (model img) (new_file len a) n.last) in
    let s = f.shows ∙ ap (λ (es : List Shown). es ++ f.more) n.shows in
    record {
      takes = f.takes;
      shows = subst (λ (es : List Shown). Returned (model img) (take (run_for img a len).made (kept img)) es) (sym s) f.returned;
      many = ap length s ∙ f.many;
      number = f.number;
      whole = f.whole;
      some = f.some;
      fields = f.fields;
      full = f.full;
    }
