-- `hash::lookup3::hash` meets its contract. No byte, no block; otherwise the loop leaves one block for the end.
use borrow.Author.Tests.{eq-eqb, ne_eqb}
use Rattle.format.specs.Number.{plus}
use Rattle.format.specs.Lookup3.{start, hashlittle2}
use Rattle.hash.proofs.lookup3.hash.Goals as goal

pub returns-then-bytes-eq0 : goal.returns-then-bytes-eq0
unfolding hashlittle2 start plus
returns-then-bytes-eq0 c = simp (eq-eqb _ _ c.if-bytes-eq0.true)

pub returns : goal.returns
unfolding hashlittle2
returns c = simp (ne_eqb _ _ c.if-bytes-eq0.false) (cc)
