-- `hash::siphash::initialization` meets its contract. Each step is what its callee ensures.
use Rattle.format.specs.SipHash.{initialization}
use mathlib.Core.Path.{refl}
use Rattle.hash.proofs.siphash.initialization.Goals as goal

pub returns : goal.returns
unfolding initialization
returns c =
    rw (
      c.u64_at-k1.ensures,
      c.u64_at-k0.ensures,
    )
    refl
