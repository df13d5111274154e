-- "A file made by us and written only by our appends": what the calls leave, one after the other, "accepted and refused appends, batches
-- included, all carried out in full".
use Rattle.std.specs.Prelude.{◌≡◌, List, ℕ, length}
use Rattle.format.specs.Header.{Image}
use Rattle.format.specs.Stores.{carried}
use Rattle.writing.specs.NewFile.{Asked, new_file_refusal, made}
use Rattle.writing.specs.Request.{Request}
use Rattle.writing.specs.Plan.{need}
use Rattle.writing.specs.Refusal.{append_refusal, planned_list}
use Rattle.writing.specs.Batch.{requests_of, batch_need, batch_answer, batch_list}
use Rattle.crash_states.specs.Demand.{Given}
use Rattle.next_append.specs.Next.{GivenIds}
use Rattle.batch_states.specs.Batches.{GivenBatch}

-- such a file
pub data Ours : Image → Type 0 where
  -- "made by us", of every size that 20 does not refuse, in whatever bytes were lent
  new : (a : Asked) (lent : Image) → GivenIds a → new_file_refusal (length lent) a ≡ 0 → Ours (made a lent)
  -- an accepted append, with all stores that it wrote into the lent list carried out
  append : (img : Image) (r : Request) (list : List ℕ) → Ours img → Given img r → append_refusal img r (length list) ≡ 0
      → Ours (carried (need img r) (planned_list img r list) img)
  -- a refused one, which says no stores: none of the lent list is carried out
  append_refused : (img : Image) (r : Request) (list : List ℕ) → Ours img → Given img r → (append_refusal img r (length list) ≡ 0 → ⊥)
      → Ours (carried 0 (planned_list img r list) img)
  -- an accepted batch
  batch : (img : Image) (machine buffer list : List ℕ) → Ours img → GivenBatch img buffer → (batch_answer img machine buffer (length list)).refusal ≡ 0
      → Ours (carried (batch_need img (requests_of machine buffer)) (batch_list img machine buffer list) img)
  -- a refused one
  batch_refused : (img : Image) (machine buffer list : List ℕ) → Ours img → GivenBatch img buffer
      → ((batch_answer img machine buffer (length list)).refusal ≡ 0 → ⊥) → Ours (carried 0 (batch_list img machine buffer list) img)
