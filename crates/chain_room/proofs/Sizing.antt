-- The table of docs/SIZING.md, computed.
use mathlib.Core.Path.{refl}
use Rattle.format.specs.Tests.{first_or0, last_or0}
use Rattle.writing.specs.Growth.{next_room, array_size}
use Rattle.writing.specs.Rooms.{total, rooms_onto, rooms_for, room_for, array_bytes}
use Rattle.chain_room.specs.Sizing.{line_for, table, TableRight}

-- every line of it
pub table_right : TableRight
unfolding first_or0 last_or0 next_room array_size total rooms_onto rooms_for room_for array_bytes line_for table
table_right = refl
