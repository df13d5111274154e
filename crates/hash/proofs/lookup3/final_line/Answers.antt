-- `hash::lookup3::final_line` meets its contract. Each step is what its callee ensures.
use Rattle.format.specs.Lookup3.{final_line}
use mathlib.Core.Path.{refl}
use Rattle.hash.proofs.lookup3.final_line.Goals as goal

pub returns : goal.returns
unfolding final_line
returns c =
    rw (
      c.sub32.ensures,
      c.rot32.ensures,
    )
    refl
