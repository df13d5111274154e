-- Demands 2 and 3 of each layout that is written: headers of 256 and of 272 bytes, regular and compact. They are proved once, over the
-- layout; each of the four is that statement of its own files.
use Rattle.std.specs.Prelude.{◌≡◌, Bool, true, false, List, ℕ, ◌≤◌, length}
use Rattle.format.specs.Header.{Image, header_word, header_size, is_compact}
use Rattle.format.specs.File.{model}
use Rattle.format.specs.Stores.{carry_refusal, carried}
use Rattle.reading.specs.Refusal.{refusal}
use Rattle.reading.specs.View.{view}
use Rattle.writing.specs.Request.{Request}
use Rattle.writing.specs.Plan.{need, appended}
use Rattle.writing.specs.Refusal.{append_refusal, planned_list}
use Rattle.writing.specs.Shown.{with_entry}
use Rattle.crash_states.specs.Demand.{Given, answers_as, Stands, new_entry}

-- what an accepted append does, and what each cut of it leaves
pub record Keeps (img : Image) (r : Request) (list : List ℕ) : Type 0 where
  pub opens : refusal (appended img r) ≡ 0
  pub shows : view (model (appended img r)) ≡ with_entry (view (model img)) (new_entry (model img) r)
  pub cuts : (k : ℕ) → k ≤ need img r
      → (carry_refusal k (planned_list img r list) img ≡ 0) × Stands img (carried k (planned_list img r list) img) (answers_as img r k)

-- of every file with a header of a size, compact or not
abbrev pub DemandsOf : ℕ → Bool → Type 0
DemandsOf size compact =
    (img : Image) → header_word img header_size ≡ size → is_compact img ≡ compact
    → (r : Request) (list : List ℕ) → Given img r → append_refusal img r (length list) ≡ 0 → Keeps img r list

-- the four layouts
pub record EachLayout : Type 0 where
  pub regular256 : DemandsOf 256 false
  pub regular272 : DemandsOf 272 false
  pub compact256 : DemandsOf 256 true
  pub compact272 : DemandsOf 272 true
