-- `hash::lookup3::last_block` meets its contract. Each step is what its callee ensures.
use Rattle.format.specs.Lookup3.{absorb}
use Rattle.hash.proofs.lookup3.last_block.Goals as goal

pub returns : goal.returns
unfolding absorb
returns c = cc
