-- What a host sees of two images that open: so many steps show so many turns of the stream, and a page gives the places where the
-- stream goes on behind its records.
use mathlib.Core.Path.{◌≡◌, refl, ap, ◌∙◌}
use mathlib.Core.List.{List, [], ◌∷◌, map}
use Prim.Native.Nat.{ℕ, zero, suc, ◌+◌}
use native.Mathlib.Nat.{add-zero}
use lib.ListN.{length, take, drop}
use Rattle.format.specs.Header.{Image}
use Rattle.format.specs.File.{model}
use Rattle.reading.specs.Page.{fitting}
use Rattle.reading.specs.View.{view}
use Rattle.reading.specs.Merged.{Turn, first, second, both, entry_of, file_of, of_first, of_second}
use Rattle.reading.specs.MergedAnswers.{pair_refusal, stream_from, side_of, step_of, step_answer, step_numbers, turn_records, turns_page, merged_page}
use Rattle.reading.specs.declared.merged.Step.{Step}
use Rattle.stream.specs.Stream.{Told, told_of, stepping}
use Rattle.reading.proofs.GoingOn.{goes_on_lem}

-- what is told from a step on
abbrev told_from : ℕ → Image → Image → ℕ → ℕ → Step → List Told
told_from k a b i j s =
    let m = step_numbers i j s in
    elim m.file [ zero ↦ [] | suc n ↦ record { file = m.file; entry = m.entry } ∷ stepping k a b m.next_first m.next_second ]

module _ (a b : Image) (opens : (pair_refusal a b).number ≡ 0) where
  -- a step shows the first turn
  step_shows : (i j : ℕ) {ts : List Turn} → stream_from a b i j ≡ ts → step_answer a b i j ≡ step_of ts
  unfolding step_answer
  step_shows i j q = rw (step_answer, opens, q)

  told_first : (k i j : ℕ) {ts : List Turn} → stream_from a b i j ≡ ts → stepping (suc k) a b i j ≡ told_from k a b i j (step_of ts)
  unfolding stepping
  told_first k i j q = ap (λ (s : Step). told_from k a b i j s) (step_shows i j q)

  -- and behind it stand the others
  behind_first : (i j : ℕ) {t : Turn} {ts : List Turn} → stream_from a b i j ≡ t ∷ ts
      → stream_from a b (i + length (of_first (t ∷ []))) (j + length (of_second (t ∷ []))) ≡ ts
  behind_first i j q = rw q at (goes_on_lem (view (model a)) (view (model b)) i j 1)

  -- so many steps show so many turns
  steps_from : (k i j : ℕ) (ts : List Turn) → stream_from a b i j ≡ ts → stepping k a b i j ≡ take k (map (λ t. told_of t) ts)
  unfolding stepping step_of side_of told_of entry_of file_of of_first of_second
  steps_from zero i j ts q = refl
  steps_from (suc k) i j [] q = told_first k i j q
  steps_from (suc k) i j (first e ∷ ts) q =
      told_first k i j q ∙ ap (λ (l : List Told). told_of (first e) ∷ l) (steps_from k (i + 1) j ts (rw (add-zero j) at (behind_first i j q)))
  steps_from (suc k) i j (second f ∷ ts) q =
      told_first k i j q ∙ ap (λ (l : List Told). told_of (second f) ∷ l) (steps_from k i (j + 1) ts (rw (add-zero i) at (behind_first i j q)))
  steps_from (suc k) i j (both e f ∷ ts) q =
      told_first k i j q ∙ ap (λ (l : List Told). told_of (both e f) ∷ l) (steps_from k (i + 1) (j + 1) ts (behind_first i j q))

  pub steps_show : (k i j : ℕ) → stepping k a b i j ≡ take k (map (λ t. told_of t) (stream_from a b i j))
  steps_show k i j = steps_from k i j (stream_from a b i j) refl

  -- a page gives the places behind its records
  pub page_goes_on : (i j room : ℕ) → let p = merged_page a b i j room in
      stream_from a b p.next_first p.next_second ≡ drop p.count (stream_from a b i j)
  unfolding merged_page turns_page
  page_goes_on i j room = rw (merged_page, opens) (goes_on_lem (view (model a)) (view (model b)) i j (fitting room (turn_records (stream_from a b i j))))
