-- `hash::siphash::last_word` meets its contract. Each step is what its callee ensures.
use Rattle.format.specs.SipHash.{last_word}
use Rattle.hash.proofs.siphash.last_word.Goals as goal

pub returns : goal.returns
unfolding last_word
returns c = cc
