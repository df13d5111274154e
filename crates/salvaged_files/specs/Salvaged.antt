-- What a bank reads of a salvage: every walked ENTRY is kept or in the report; the new file shows the kept ones, up to where the run
-- stopped, unaltered and in file order, and takes the next append; only 16 and 18 stop a run, at a kept ENTRY to which they apply. Of an
-- image that opens the committed entries are kept, if they stand first; if 14 does not apply either, these are all and nothing is lost.
use Rattle.std.specs.Prelude.{◌≡◌, true, false, ℕ, zero, suc, ◌<◌, length, get_or, take, eqb, ltb}
use mathlib.Core.List.{List, [], ◌∷◌, map, Memᴰ}
use Rattle.format.specs.Number.{Bytes}
use Rattle.format.specs.Tests.{filter, last_or0}
use Rattle.format.specs.Says.{In}
use Rattle.format.specs.Header.{Image}
use Rattle.format.specs.Kinds.{DATA, ENTRY}
use Rattle.format.specs.Walk.{of_kind}
use Rattle.format.specs.Refusal.{header_refusal}
use Rattle.format.specs.File.{File, model}
use Rattle.reading.specs.Committed.{committed}
use Rattle.reading.specs.Refusal.{refusal}
use Rattle.reading.specs.View.{Shown, view, shown_entry}
use Rattle.writing.specs.Request.{fields_fault}
use Rattle.writing.specs.Refusal.{space_fault}
use Rattle.writing.specs.Ready.{agreed_refusal}
use Rattle.writing.specs.NewFile.{Asked}
use Rattle.exchange.specs.Entry.{packed}
use Rattle.next_append.specs.Next.{GivenIds, TakesAppends}
use Rattle.salvage.specs.Reach.{reached}
use Rattle.salvage.specs.Conditions.{Dropped, payloads_in, repeats, failing, walked_entries, kept, dropped}
use Rattle.salvage.specs.Salvage.{machine_of, request_for, salvage_refusal, run_for}

-- the ENTRY that was kept last before one, 0 if none was
unfoldable pub last_kept : Image → ℕ → ℕ
last_kept img e = last_or0 (filter (λ k. ltb k e) (kept img))

-- the first condition that an ENTRY fails against it, 0 if none
unfoldable pub verdict : Image → ℕ → ℕ
verdict img e = failing (model img) (of_kind img (reached img) DATA) (last_kept img e) e

-- those of some ENTRYs that fail one, each with it
unfoldable pub failed : (ℕ → ℕ) → List ℕ → List Dropped
failed v [] = []
failed v (e ∷ es) = elim (v e) [ zero ↦ failed v es | suc c ↦ record { entry = e; condition = suc c } ∷ failed v es ]

-- the kept ENTRYs are the walked ones that fail nothing, and the report has all others, each with the first condition that it fails
pub record Accounted (img : Image) : Type 0 where
  pub keeps : kept img ≡ filter (λ e. eqb (verdict img e) 0) (walked_entries img)
  pub reports : dropped img ≡ failed (verdict img) (walked_entries img)

-- for every image that 1 to 5 let pass
abbrev pub EachAccounted : Type 0
EachAccounted = (img : Image) → header_refusal img ≡ 0 → Accounted img

-- the payloads that an entry shows
abbrev pub payloads_of : Shown → List (List ℕ)
payloads_of s = map (λ i. i.bytes) s.items

-- two entries with the same stamps and the same payloads, as many, and none twice
pub record Unaltered (x y : Shown) : Type 0 where
  pub seqnum : y.seqnum ≡ x.seqnum
  pub realtime : y.realtime ≡ x.realtime
  pub monotonic : y.monotonic ≡ x.monotonic
  pub boot : y.boot ≡ x.boot
  pub from : (p : List ℕ) → Memᴰ p (payloads_of y) → Memᴰ p (payloads_of x)
  pub all : (p : List ℕ) → Memᴰ p (payloads_of x) → Memᴰ p (payloads_of y)
  pub once : length (payloads_of y) ≡ length (payloads_of x)
  pub single : repeats (payloads_of y) ≡ false

-- some ENTRYs of a file, and entries that are shown, one by one
abbrev pub Returned : File → List ℕ → List Shown → Type 0
Returned F [] [] = Unit {0}
Returned F [] (s ∷ ss) = ⊥
Returned F (e ∷ es) [] = ⊥
Returned F (e ∷ es) (s ∷ ss) = Unaltered (shown_entry F e) s × Returned F es ss

-- the kept ENTRY at which a run stops
abbrev pub stops_at : Image → Asked → ℕ → ℕ
stops_at img a len = get_or (kept img) (run_for img a len).made 0

-- the new file of a salvage: it shows as many entries as were made; a run that stops has not made all, and 16 or 18 applies to the next
pub record Refilled (img : Image) (a : Asked) (len : ℕ) : Type 0 where
  pub takes : TakesAppends (run_for img a len).image
  pub shows : Returned (model img) (take (run_for img a len).made (kept img)) (view (model (run_for img a len).image)).entries
  pub many : length (view (model (run_for img a len).image)).entries ≡ (run_for img a len).made
  pub number : In (run_for img a len).number (0 ∷ 16 ∷ 18 ∷ [])
  pub whole : (run_for img a len).number ≡ 0 → (run_for img a len).made ≡ length (kept img)
  pub some : ((run_for img a len).number ≡ 0 → ⊥) → (run_for img a len).made < length (kept img)
  pub fields : (run_for img a len).number ≡ 16 → fields_fault (packed (payloads_in (model img) (stops_at img a len))) ≡ true
  pub full : (run_for img a len).number ≡ 18 → space_fault (run_for img a len).image (request_for (model img) (machine_of a) (stops_at img a len)) ≡ true

-- for every salvage that is not refused
abbrev pub Refills : Type 0
Refills = (img : Image) (a : Asked) (len room : ℕ) → Bytes img → GivenIds a → salvage_refusal img a len room ≡ 0 → Refilled img a len

-- every image that opens, and whose ENTRYs that are not committed stand behind those that are: each committed entry is kept
abbrev pub OpenedKept : Type 0
OpenedKept =
    (img : Image) → refusal img ≡ 0 → committed (model img) ≡ take (length (committed (model img))) ((model img).of ENTRY)
    → take (length (committed (model img))) (kept img) ≡ committed (model img)

-- every image that 1 to 11 and 14 let pass: the kept ENTRYs are the committed entries, and no ENTRY is in the report
abbrev pub AgreedWhole : Type 0
AgreedWhole = (img : Image) → agreed_refusal img ≡ 0 → (kept img ≡ committed (model img)) × (dropped img ≡ [])

-- the new file of a salvage of such an image: only 18 stops the run, and where it does not every committed entry is shown
pub record Whole (img : Image) (a : Asked) (len : ℕ) : Type 0 where
  pub number : In (run_for img a len).number (0 ∷ 18 ∷ [])
  pub shows : (run_for img a len).number ≡ 0 → Returned (model img) (committed (model img)) (view (model (run_for img a len).image)).entries

-- if 16 does not apply to the fields of a committed entry
abbrev pub AgreedRefills : Type 0
AgreedRefills =
    (img : Image) (a : Asked) (len room : ℕ) → Bytes img → GivenIds a → agreed_refusal img ≡ 0 → salvage_refusal img a len room ≡ 0
    → ((e : ℕ) → In e (committed (model img)) → fields_fault (packed (payloads_in (model img) e)) ≡ false) → Whole img a len
