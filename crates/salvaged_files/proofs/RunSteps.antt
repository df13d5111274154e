-- One append of a salvage's run: its number, and what it does to the run. Of 15 to 19 only 16 and 18 can apply: 17 goes by the stamps of the
-- entry that was appended last, and (7) and (8) say that those of the next one come behind them.
use mathlib.Core.Path.{◌≡◌, refl, ap, ◌∙◌}
use mathlib.Core.Logic.{◌≢◌}
use mathlib.Core.Bool.{true, false, ◌||◌}
use mathlib.Core.List.{List, ◌∷◌}
use Prim.Native.Nat.{ℕ, zero, suc, ◌*◌, ◌<◌}
use native.Mathlib.Omega.{arith}
use lib.Dec.{eqb}
use borrow.Author.Tests.{ne_eqb, leb-false}
use Rattle.format.specs.Header.{Image}
use Rattle.format.specs.Rows.{lowest}
use Rattle.format.specs.File.{File, model}
use Rattle.reading.specs.Committed.{last_committed}
use Rattle.reading.specs.Order.{monotonic_falls}
use Rattle.writing.specs.Request.{Stamp, Request, stamp_with, fields_fault}
use Rattle.writing.specs.Plan.{need, appended}
use Rattle.writing.specs.Refusal.{machine_fault, stamp_fault, stamp_fault_if, stamps_fault, space_fault, request_rows}
use Rattle.writing.proofs.RefusalLaws.{append_request}
use Rattle.crash_states.proofs.Accepted.{Accepted}
use Rattle.next_append.specs.Next.{TakesAppends}
use Rattle.batch_states.proofs.NextEntry.{stamps_after}
use Rattle.salvage.specs.Conditions.{seqnum_falls, time_falls}
use Rattle.salvage.specs.Salvage.{request_for, append_number, one_more, run_on}

-- 17 of a file whose last committed entry has the stamps of an ENTRY of a broken file, 0 if it has none
abbrev pub Behind : File → Image → ℕ → Type 0
Behind F file last = (s : Stamp) → stamps_fault (model file) s ≡ (eqb s.seqnum 0 || stamp_fault_if F s last)

-- it does not apply to an ENTRY of which (7) and (8) do not fail
pub behind_clear : (F : File) (last e : ℕ) → seqnum_falls F last e ≡ false → time_falls F last e ≡ false
    → (eqb (F.seqnum e) 0 || stamp_fault_if F (stamp_with (F.seqnum e) (F.realtime e) (F.monotonic e) (F.boot e)) last) ≡ false
unfolding seqnum_falls time_falls monotonic_falls stamp_fault_if stamp_fault
behind_clear F zero e p q = rw p
behind_clear F (suc last) e p q =
    let n = leb-false (F.seqnum e) (F.seqnum (suc last)) p in
    rw (ne_eqb (F.seqnum e) 0 (λ z. omega arith), p, q)

-- of a file without entries
pub behind_none : (F : File) (file : Image) → last_committed (model file) ≡ 0 → Behind F file 0
unfolding stamps_fault stamp_fault_if
behind_none F file z s = ap (λ (n : ℕ). eqb s.seqnum 0 || stamp_fault_if (model file) s n) z

-- with the append of an ENTRY
pub behind_appended : (F : File) (machine : List ℕ) (file : Image) (e : ℕ) → 0 < e → Accepted file (request_for F machine e)
    → Behind F (appended file (request_for F machine e)) e
unfolding request_for stamp_fault_if stamp_fault
behind_appended F machine file zero l a s = absurd (omega arith)
behind_appended F machine file (suc e) l a s = stamps_after file (request_for F machine (suc e)) a s

-- the first append of a run is made
pub run_goes : (file : Image) (r : Request) (rs : List Request) → append_number file r ≡ 0 → run_on file (r ∷ rs) ≡ one_more (run_on (appended file r) rs)
unfolding run_on
run_goes file r rs z = rw (run_on, z)

-- or stops it
pub run_stops : (file : Image) (r : Request) (rs : List Request) (n : ℕ) → append_number file r ≡ n → n ≢ 0 → run_on file (r ∷ rs) ≡ record { made = 0; image = file; number = n }
unfolding run_on
run_stops file r rs zero z k = absurd (k refl)
run_stops file r rs (suc n) z k = rw (run_on, z)

-- the number of an append that has the file's machine id
module _ (file : Image) (r : Request) (takes : TakesAppends file) (own : machine_fault file r ≡ false) where
  pub number_fields : fields_fault r.fields ≡ true → append_number file r ≡ 16
  unfolding append_number request_rows lowest
  number_fields f = append_request file r _ takes.ready ∙ rw (own, f)

  pub number_room : fields_fault r.fields ≡ false → stamps_fault (model file) r.stamp ≡ false
      → append_number file r ≡ elim (space_fault file r) as (λ _. ℕ) [ true ↦ 18 | false ↦ 0 ]
  unfolding append_number
  number_room f s = takes.until_full r (16 * need file r) own f s (omega arith)
