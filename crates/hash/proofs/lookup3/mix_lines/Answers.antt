-- `hash::lookup3::mix_lines` meets its contract. Each step is what its callee ensures.
use Rattle.format.specs.Lookup3.{mix_lines}
use mathlib.Core.Path.{refl}
use Rattle.hash.proofs.lookup3.mix_lines.Goals as goal

pub returns : goal.returns
unfolding mix_lines
returns c =
    rw (
      c.add32-b.ensures,
      c.sub32-3.ensures,
      c.rot32-turned_b.ensures,
      c.add32-a.ensures,
      c.sub32-2.ensures,
      c.rot32-turned_a.ensures,
      c.add32-c.ensures,
      c.sub32.ensures,
      c.rot32-turned_c.ensures,
    )
    refl
