-- `hash::lookup3::block` meets its contract. Each step is what its callee ensures.
use Rattle.format.specs.Lookup3.{absorb}
use mathlib.Core.Path.{refl}
use Rattle.hash.proofs.lookup3.block.Goals as goal

pub returns : goal.returns
unfolding absorb
returns c =
    rw (
      c.add32-3.ensures,
      c.u32_at-3.ensures,
      c.add32-2.ensures,
      c.u32_at-2.ensures,
      c.add32.ensures,
      c.u32_at.ensures,
    )
    refl
