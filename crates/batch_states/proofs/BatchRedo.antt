-- The stores of a batch carried out once more, proved. Several entries may store to one word, but a list of stores that fit sets each
-- word that any of them is to by the last one, whatever stood there (`carry-again`): so it leaves the same with some of them arrived.
use mathlib.Core.Path.{◌≡◌, ap, ◌∙◌}
use mathlib.Core.List.{List}
use Prim.Native.Nat.{ℕ, ◌≤◌}
use native.Mathlib.Omega.{arith}
use lib.ListN.{length, take}
use lib.Seq.{take_all}
use Rattle.format.specs.Header.{Image}
use Rattle.format.specs.Stores.{Store, carry, carry_all, carry_refusal, carried}
use Rattle.format.proofs.StoreLists.{Each, each_all, each_in, length_carry_all, carry_take}
use Rattle.format.proofs.Cuts.{Fit, cut_taken, cut_carried}
use Rattle.format.proofs.CarryAgain.{carry_again}
use Rattle.writing.specs.Request.{Request}
use Rattle.writing.specs.Batch.{requests_of, appended_all, batch_stores, batch_need, batch_answer, batch_list}
use Rattle.crash_states.proofs.CutOutcomes.{first_some}
use Rattle.batch_states.specs.Batches.{GivenBatch, RedoBatch, RedoBatchCut}
use Rattle.batch_states.proofs.BatchAccepted.{Taken, batch_taken}
use Rattle.batch_states.proofs.BatchDemands.{Carried, batch_carried, list_is}

-- whatever of them has arrived
pub redo_batch : RedoBatch
redo_batch img machine buffer n given clear some h =
    let rs = requests_of machine buffer in
    let t = batch_taken img machine buffer n given clear in
    let c = batch_carried img rs t.some t.all in
    carry_again (batch_stores img rs) some img c.fit h ∙ c.appends

module _ (img : Image) (machine buffer list : List ℕ) (given : GivenBatch img buffer)
    (clear : (batch_answer img machine buffer (length list)).refusal ≡ 0)
    (k : ℕ) (few : k ≤ batch_need img (requests_of machine buffer)) where
  -- the appends that the batch asks for
  abbrev rs : List Request
  rs = requests_of machine buffer

  -- its stores
  abbrev ss : List Store
  ss = batch_stores img rs

  -- the image that the first k of them leave
  abbrev cut : Image
  cut = carry k ss img

  -- the batch is accepted
  taken : Taken img machine buffer (length list)
  taken = batch_taken img machine buffer (length list) given clear

  -- so its stores fit
  whole : Carried img rs
  whole = batch_carried img rs taken.some taken.all

  -- a cut is as long as the image
  cut_long : length cut ≡ length img
  cut_long =
      ap length (carry_take k ss img)
      ∙ length_carry_all (take k ss) img (each_all (take k ss) (λ s m. (each_in whole.fit s (first_some k ss s m)).1))

  -- so that they fit it too
  cut_fit : Each (Fit (length cut)) ss
  cut_fit = rw cut_long whole.fit

  -- 21 does not refuse them
  again_taken : carry_refusal (batch_need img rs) (batch_list img machine buffer list) cut ≡ 0
  unfolding batch_need
  again_taken =
      ap (λ (l : List ℕ). carry_refusal (batch_need img rs) l cut) (list_is img machine buffer list given clear)
      ∙ cut_taken cut ss list (batch_need img rs) (omega arith) taken.room whole.wide cut_fit

  -- and they yield the file with each entry appended
  again_carried : carried (batch_need img rs) (batch_list img machine buffer list) cut ≡ appended_all img rs
  unfolding batch_need
  again_carried =
      ap (λ (l : List ℕ). carried (batch_need img rs) l cut) (list_is img machine buffer list given clear)
      ∙ cut_carried cut ss list (batch_need img rs) (omega arith) taken.room whole.wide cut_fit
      ∙ carry_take (batch_need img rs) ss cut ∙ ap (λ (ts : List Store). carry_all ts cut) (take_all (batch_need img rs) ss (omega arith))
      ∙ ap (carry_all ss) (carry_take k ss img) ∙ redo_batch img machine buffer (length list) given clear (take k ss) (first_some k ss)

-- after any cut
pub redo_batch_cut : RedoBatchCut
redo_batch_cut img machine buffer list given clear k few =
    (again_taken img machine buffer list given clear k few, again_carried img machine buffer list given clear k few)
