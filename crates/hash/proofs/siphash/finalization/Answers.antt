-- `hash::siphash::finalization` meets its contract. Each step is what its callee ensures.
use Rattle.format.specs.SipHash.{finalization}
use mathlib.Core.Path.{refl}
use Rattle.hash.proofs.siphash.finalization.Goals as goal

pub returns : goal.returns
unfolding finalization
returns c =
    rw (
      c.round-v.ensures,
      c.round-3.ensures,
      c.round-2.ensures,
      c.round.ensures,
    )
    refl
