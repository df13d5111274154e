-- `hash::siphash::hash` meets its contract. Each step is what its callee ensures.
use Rattle.format.specs.SipHash.{sip_hash24}
use mathlib.Core.Path.{refl}
use Rattle.hash.proofs.siphash.hash.Goals as goal

pub returns : goal.returns
unfolding sip_hash24
returns c =
    rw (
      c.finalization.ensures,
      c.compression.ensures,
      c.last_word.ensures,
      c.words.ensures,
    )
    refl
