-- `hash::siphash::words` meets its contract. Before word k the state is that after k words.
use native.Mathlib.Numerals.{add-one}
use borrow.Author.Rules.{rules}
use Rattle.format.specs.SipHash.{compressed}
use Rattle.format.proofs.Counted.{counted}
use Rattle.hash.proofs.siphash.words.Goals as goal

pub loop-k-init : goal.loop-k-init
unfolding compressed
loop-k-init c = (search rules, c.initialization-s.ensures)

pub loop-k-preserved : goal.loop-k-preserved
unfolding compressed
loop-k-preserved c = (search rules, rw add-one (cc))

pub returns : goal.returns
returns c = counted (compressed _ _) c.loop-k.invariant c.loop-k-test.false
