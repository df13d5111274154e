-- `hash::siphash::round` meets its contract. Each step is what its callee ensures.
use Rattle.format.specs.SipHash.{sip_round}
use mathlib.Core.Path.{refl}
use Rattle.hash.proofs.siphash.round.Goals as goal

pub returns : goal.returns
unfolding sip_round
returns c =
    rw (
      c.rot64-v2.ensures,
      c.rot64-4.ensures,
      c.rot64-3.ensures,
      c.add64-v0-2.ensures,
      c.add64-v2-2.ensures,
      c.rot64-v0.ensures,
      c.rot64-2.ensures,
      c.rot64.ensures,
      c.add64-v2.ensures,
      c.add64-v0.ensures,
    )
    refl
