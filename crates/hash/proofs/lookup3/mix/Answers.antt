-- `hash::lookup3::mix` meets its contract. Each step is what its callee ensures.
use Rattle.format.specs.Lookup3.{mix}
use mathlib.Core.Path.{refl}
use Rattle.hash.proofs.lookup3.mix.Goals as goal

pub returns : goal.returns
unfolding mix
returns c =
    rw (
      c.mix_lines-2.ensures,
      c.mix_lines.ensures,
    )
    refl
