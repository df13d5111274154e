-- `hash::lookup3::final_mix` meets its contract. Each step is what its callee ensures.
use Rattle.format.specs.Lookup3.{final}
use mathlib.Core.Path.{refl}
use Rattle.hash.proofs.lookup3.final_mix.Goals as goal

pub returns : goal.returns
unfolding final
returns c =
    rw (
      c.final_line.ensures,
      c.final_lines-2.ensures,
      c.final_lines.ensures,
    )
    refl
