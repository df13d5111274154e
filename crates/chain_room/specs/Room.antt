-- How much room the arrays of our files have, as statements: the arrays of a chain are those that its entries ask for one by one, so
-- "with n entries, n at least 1, the global chain has at most 2n + 2 items of room, and a DATA with n entries, n at least 2, at most 2n
-- in its chain".
use Rattle.std.specs.Prelude.{◌≡◌, List, map, ℕ, ◌+◌, ◌*◌, ◌-◌, ◌≤◌, length}
use Rattle.format.specs.Says.{In}
use Rattle.format.specs.Header.{Image, entry_array_offset}
use Rattle.format.specs.Kinds.{DATA}
use Rattle.format.specs.File.{File, model, Word, header, entry_array}
use Rattle.reading.specs.Chains.{arrays, chain_items}
use Rattle.reading.specs.Committed.{committed}
use Rattle.reading.specs.Lists.{data_entries}
use Rattle.writing.specs.Rooms.{rooms_for}
use Rattle.next_append.specs.Next.{TakesAppends}
use Rattle.chain_room.specs.Ours.{Ours}

-- the items of each array of a chain
abbrev pub rooms : File → Word → List ℕ
rooms F w = map (λ a. F.room a) (arrays F w)

-- what the rules settle, array by array: the global chain took every entry, the chain of a DATA all but the first, which is inline
pub record RoomExact (F : File) : Type 0 where
  pub global : rooms F (header entry_array_offset) ≡ rooms_for (length (committed F))
  pub data_chains : (d : ℕ) → In d (F.of DATA) → rooms F (entry_array d) ≡ rooms_for (length (data_entries F d) - 1)

-- what is asked for
pub record RoomBounded (F : File) : Type 0 where
  pub global : 1 ≤ length (committed F) → length (chain_items F (header entry_array_offset)) ≤ 2 * length (committed F) + 2
  pub data_chains : (d : ℕ) → In d (F.of DATA) → 2 ≤ length (data_entries F d) → length (chain_items F (entry_array d)) ≤ 2 * length (data_entries F d)

-- every file of ours has that room, and is in those bounds
abbrev pub OursExact : Type 0
OursExact = (img : Image) → Ours img → RoomExact (model img)

abbrev pub OursBounded : Type 0
OursBounded = (img : Image) → Ours img → RoomBounded (model img)

-- and takes the next append, whatever was asked of it before
abbrev pub OursTakes : Type 0
OursTakes = (img : Image) → Ours img → TakesAppends img
