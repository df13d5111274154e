-- `hash::lookup3::blocks` meets its contract. At a block's start the words are those after the turns for the blocks before.
use mathlib.Core.Path.{◌≡◌, ap, ◌∙◌}
use Prim.Native.Nat.{suc, ◌+◌}
use native.Mathlib.Omega.{arith}
use native.Mathlib.Numerals.{add-one}
use borrow.Author.Rules.{rules}
use Rattle.format.specs.Lookup3.{mixed, last_block}
use Rattle.hash.proofs.lookup3.blocks.Goals as goal

pub loop-k-init : goal.loop-k-init
unfolding mixed
loop-k-init c = c.started-s.ensures

pub loop-k-preserved : goal.loop-k-preserved
unfolding mixed
loop-k-preserved c = rw (add-one, c.mix-s.ensures, c.block.ensures, c.loop-k.invariant)

pub returns : goal.returns
returns c =
    let bytes = c.args.bytes.now in
    let last : c.loop-k.k ≡ last_block bytes = omega arith in
    (c.loop-k.invariant ∙ ap (mixed bytes) last, omega arith)
