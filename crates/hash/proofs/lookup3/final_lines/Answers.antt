-- `hash::lookup3::final_lines` meets its contract. Each step is what its callee ensures.
use Rattle.format.specs.Lookup3.{final_lines}
use mathlib.Core.Path.{refl}
use Rattle.hash.proofs.lookup3.final_lines.Goals as goal

pub returns : goal.returns
unfolding final_lines
returns c =
    rw (
      c.sub32-b.ensures,
      c.rot32-3.ensures,
      c.sub32-a.ensures,
      c.rot32-2.ensures,
      c.sub32-c.ensures,
      c.rot32.ensures,
    )
    refl
