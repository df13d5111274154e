-- The table of docs/SIZING.md, from the definitions.
use Rattle.std.specs.Prelude.{◌≡◌, true, false, List, [], ◌∷◌, map, ℕ, ◌+◌, ◌*◌}
use Rattle.format.specs.Tests.{first_or0}
use Rattle.writing.specs.Rooms.{room_for, array_bytes}

-- a line: the entries n of a file, the items of room that its global chain has, the bound 2n + 2, and the bytes of the chain's arrays,
-- in a file that is not compact and in a compact one
unfoldable pub line_for : ℕ → List ℕ
line_for n = n ∷ room_for n ∷ (2 * n + 2) ∷ array_bytes false n ∷ array_bytes true n ∷ []

-- the lines
unfoldable pub table : List (List ℕ)
table =
    (1 ∷ 4 ∷ 4 ∷ 56 ∷ 40 ∷ [])
    ∷ (4 ∷ 4 ∷ 10 ∷ 56 ∷ 40 ∷ [])
    ∷ (5 ∷ 12 ∷ 12 ∷ 144 ∷ 96 ∷ [])
    ∷ (12 ∷ 12 ∷ 26 ∷ 144 ∷ 96 ∷ [])
    ∷ (13 ∷ 28 ∷ 28 ∷ 296 ∷ 184 ∷ [])
    ∷ (30 ∷ 60 ∷ 62 ∷ 576 ∷ 336 ∷ [])
    ∷ (100 ∷ 124 ∷ 202 ∷ 1112 ∷ 616 ∷ [])
    ∷ (300 ∷ 508 ∷ 602 ∷ 4232 ∷ 2200 ∷ [])
    ∷ (1000 ∷ 1020 ∷ 2002 ∷ 8352 ∷ 4272 ∷ [])
    ∷ (3000 ∷ 4092 ∷ 6002 ∷ 32976 ∷ 16608 ∷ [])
    ∷ (10000 ∷ 16380 ∷ 20002 ∷ 131328 ∷ 65808 ∷ [])
    ∷ (30000 ∷ 32764 ∷ 60002 ∷ 262424 ∷ 131368 ∷ [])
    ∷ []

-- each is that of its entries
abbrev pub TableRight : Type 0
TableRight = map (λ line. line_for (first_or0 line)) table ≡ table
