-- The stores of an append carried out once more, proved: each fits, and a list of stores that fit leaves the same whether some of them
-- had arrived or not.
use mathlib.Core.Path.{◌≡◌, ap, ◌∙◌}
use mathlib.Core.List.{List}
use Prim.Native.Nat.{ℕ, ◌≤◌}
use native.Mathlib.Omega.{arith}
use lib.ListN.{length, take}
use lib.Seq.{take_all}
use Rattle.format.specs.Header.{Image}
use Rattle.format.specs.Stores.{Store, carry_all, carry_refusal, carried}
use Rattle.format.proofs.StoreLists.{Each, each_all, length_carry_all, carry_take}
use Rattle.format.proofs.Cuts.{Fit, cut_taken, cut_carried}
use Rattle.format.proofs.CarryAgain.{carry_again}
use Rattle.writing.specs.Request.{Request}
use Rattle.writing.specs.Plan.{stores_of, need, appended}
use Rattle.writing.specs.Refusal.{append_refusal, planned_list}
use Rattle.crash_states.specs.Demand.{Given, cut}
use Rattle.crash_states.specs.Redo.{Redo, RedoCut}
use Rattle.crash_states.proofs.Accepted.{Accepted}
use Rattle.crash_states.proofs.AcceptedFrom.{accepted, list_long}
use Rattle.crash_states.proofs.StoresFit.{stores_carry, stores_fit, stores_wide}
use Rattle.crash_states.proofs.CutOutcomes.{first_some}
use Rattle.crash_states.proofs.ListCuts.{list_is}

-- whatever of them has arrived
pub redo : Redo
unfolding appended
redo img r n given clear some h = carry_again (stores_of img r) some img (stores_fit img r (accepted img r n clear given)) h

module _ (img : Image) (r : Request) (list : List ℕ) (given : Given img r) (clear : append_refusal img r (length list) ≡ 0) (k : ℕ) (few : k ≤ need img r) where
  -- the append is accepted
  taken : Accepted img r
  taken = accepted img r (length list) clear given

  -- a cut is some of the stores carried out
  cut_some : cut img r k ≡ carry_all (take k (stores_of img r)) img
  unfolding cut
  cut_some = carry_take k (stores_of img r) img

  -- and as long as the image
  cut_long : length (cut img r k) ≡ length img
  cut_long =
      ap length cut_some
      ∙ length_carry_all (take k (stores_of img r)) img (each_all (take k (stores_of img r)) (λ s m. (stores_carry img r taken s (first_some k (stores_of img r) s m)).inside))

  -- so that the stores fit it
  cut_fit : Each (Fit (length (cut img r k))) (stores_of img r)
  cut_fit = rw cut_long (stores_fit img r taken)

  -- 21 does not refuse them
  again_taken : carry_refusal (need img r) (planned_list img r list) (cut img r k) ≡ 0
  unfolding need
  again_taken =
      ap (λ (l : List ℕ). carry_refusal (need img r) l (cut img r k)) (list_is img r list given clear k few)
      ∙ cut_taken (cut img r k) (stores_of img r) list (need img r) (omega arith) (list_long img r (length list) clear) (stores_wide img r taken) cut_fit

  -- and they yield the file with the append
  again_carried : carried (need img r) (planned_list img r list) (cut img r k) ≡ appended img r
  unfolding need
  again_carried =
      let ss = stores_of img r in
      ap (λ (l : List ℕ). carried (need img r) l (cut img r k)) (list_is img r list given clear k few)
      ∙ cut_carried (cut img r k) ss list (need img r) (omega arith) (list_long img r (length list) clear) (stores_wide img r taken) cut_fit
      ∙ carry_take (need img r) ss (cut img r k) ∙ ap (λ (ts : List Store). carry_all ts (cut img r k)) (take_all (need img r) ss (omega arith))
      ∙ ap (carry_all ss) cut_some ∙ redo img r (length list) given clear (take k ss) (first_some k ss)

-- after any cut
pub redo_cut : RedoCut
redo_cut img r list given clear k few = (again_taken img r list given clear k few, again_carried img r list given clear k few)
