-- After a power cut the stores of an append can be carried out once more: whatever of them has arrived, the whole list yields the file
-- with the append.
use Rattle.std.specs.Prelude.{◌≡◌, List, ℕ, ◌≤◌, length}
use Rattle.format.specs.Header.{Image}
use Rattle.format.specs.Stores.{Store, carry_all, carry_refusal, carried}
use Rattle.writing.specs.Request.{Request}
use Rattle.writing.specs.Plan.{stores_of, need, appended}
use Rattle.writing.specs.Refusal.{append_refusal, planned_list}
use Rattle.crash_states.specs.Demand.{Given, cut, SomeOf}

-- of any stores of the list, in any order and as often as one likes, not even group by group
abbrev pub Redo : Type 0
Redo =
    (img : Image) (r : Request) (list_bytes : ℕ) → Given img r → append_refusal img r list_bytes ≡ 0
    → (some : List Store) → SomeOf some (stores_of img r) → carry_all (stores_of img r) (carry_all some img) ≡ appended img r

-- the calls themselves: after a cut at any k, to carry out all stores of the list is not refused, and yields that file
abbrev pub RedoCut : Type 0
RedoCut =
    (img : Image) (r : Request) (list : List ℕ) → Given img r → append_refusal img r (length list) ≡ 0
    → (k : ℕ) → k ≤ need img r
    → (carry_refusal (need img r) (planned_list img r list) (cut img r k) ≡ 0) × (carried (need img r) (planned_list img r list) (cut img r k) ≡ appended img r)
