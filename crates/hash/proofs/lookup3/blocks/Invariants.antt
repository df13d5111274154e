-- `hash::lookup3::blocks` meets its contract. At a block's start the words are those after the turns for the blocks before.
use mathlib.Core.Path.{◌≡◌}
use Rattle.format.specs.Lookup3.{mixed}
use Rattle.hash.proofs.lookup3.blocks.Given as goal

abbrev pub invariant-loop-k : goal.invariant-loop-k
invariant-loop-k l = l.s ≡ mixed l.bytes l.k
