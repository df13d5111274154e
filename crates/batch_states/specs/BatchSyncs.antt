-- Demand 3 of a batch for a disk that keeps no order inside a group, and where a host has to sync.
use Rattle.std.specs.Prelude.{◌≡◌, List, [], ◌∷◌, ◌++◌, ℕ, zero, suc, ◌+◌, ◌*◌, min, length, take}
use Rattle.format.specs.Header.{Image}
use Rattle.format.specs.Stores.{Store, carry_all}
use Rattle.writing.specs.Request.{Request}
use Rattle.writing.specs.Plan.{in_turn}
use Rattle.writing.specs.Batch.{requests_of, batch_groups, batch_need, batch_answer, batch_list}
use Rattle.writing.specs.Syncs.{list_points, together, ends_from}
use Rattle.crash_states.specs.Demand.{SomeOf, Stands}
use Rattle.batch_states.specs.Batches.{GivenBatch, commit_stores, with_first}

-- how many entries are committed where whole groups have arrived, and some stores of the next one, in any order and with repeats
unfoldable pub committed_amid : List Store → List Store → ℕ
committed_amid before some = commit_stores before + min 1 (commit_stores some)

-- whole groups, then some stores of the next one
abbrev pub Demand3BatchAnyOrder : Type 0
Demand3BatchAnyOrder =
    (img : Image) (machine buffer : List ℕ) (list_bytes : ℕ) → GivenBatch img buffer → (batch_answer img machine buffer list_bytes).refusal ≡ 0
    → (before : List (List Store)) (group : List Store) (left : List (List Store))
    → batch_groups img (requests_of machine buffer) ≡ before ++ (group ∷ left)
    → (some : List Store) → SomeOf some group
    → Stands img (carry_all (in_turn before ++ some) img) (with_first (committed_amid (in_turn before) some) img (requests_of machine buffer))

-- how many groups share a sync, for n entries behind the first: 2, 3, 4, 5 and 6, and 7 of each
unfoldable pub later_shares : ℕ → List ℕ
later_shares zero = 1 ∷ []
later_shares (suc n) = 1 ∷ 1 ∷ 1 ∷ 2 ∷ 1 ∷ later_shares n

-- of all of a batch of so many entries: groups 1 and 2 of the first share one; 8 has one
unfoldable pub shares : ℕ → List ℕ
shares zero = 1 ∷ 1 ∷ []
shares (suc n) = 2 ∷ 1 ∷ 1 ∷ 2 ∷ 1 ∷ later_shares n

-- the groups of a batch by their syncs
unfoldable pub batch_synced : Image → List Request → List (List Store)
batch_synced img rs = together (shares (length rs)) (batch_groups img rs)

-- where a host has to sync is read off the stores that the plan wrote
abbrev pub BatchSyncsRead : Type 0
BatchSyncsRead =
    (img : Image) (machine buffer list : List ℕ) → GivenBatch img buffer → (batch_answer img machine buffer (length list)).refusal ≡ 0
    → list_points (take (16 * batch_need img (requests_of machine buffer)) (batch_list img machine buffer list))
    ≡ ends_from 0 (batch_synced img (requests_of machine buffer))

-- demand 3 between these points: the stores up to a point, and then some of those up to the next one, in any order
abbrev pub Demand3BatchSynced : Type 0
Demand3BatchSynced =
    (img : Image) (machine buffer : List ℕ) (list_bytes : ℕ) → GivenBatch img buffer → (batch_answer img machine buffer list_bytes).refusal ≡ 0
    → (before : List (List Store)) (group : List Store) (left : List (List Store))
    → batch_synced img (requests_of machine buffer) ≡ before ++ (group ∷ left)
    → (some : List Store) → SomeOf some group
    → Stands img (carry_all (in_turn before ++ some) img) (with_first (committed_amid (in_turn before) some) img (requests_of machine buffer))
