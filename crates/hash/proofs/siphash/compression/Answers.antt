-- `hash::siphash::compression` meets its contract. Each step is what its callee ensures.
use Rattle.format.specs.SipHash.{compression}
use mathlib.Core.Path.{refl}
use Rattle.hash.proofs.siphash.compression.Goals as goal

pub returns : goal.returns
unfolding compression
returns c =
    rw (
      c.round-v.ensures,
      c.round.ensures,
    )
    refl
