-- `hash::lookup3::padded_block` meets its contract. Behind the end, the bytes of the block are 0.
use mathlib.Core.Path.{◌≡◌, sym, ap, ◌∙◌}
use Prim.Native.Nat.{◌+◌}
use native.Mathlib.Omega.{arith}
use Rattle.format.specs.Number.{number_at}
use Rattle.format.proofs.LastBlock.{number_at_left}
use Rattle.hash.proofs.lookup3.padded_block.Goals as goal

pub returns : goal.returns
returns c =
    let s = c.args in
    let k = s.bytes.now in
    let here : s.at ≡ s.at + 0 = omega arith in
    record {
      k0_value = c.u32_or_0.ensures ∙ ap (number_at 4 k) here ∙ sym (number_at_left 4 k s.at 0);
      k1_value = c.u32_or_0-2.ensures ∙ sym (number_at_left 4 k s.at 4);
      k2_value = c.u32_or_0-3.ensures ∙ sym (number_at_left 4 k s.at 8);
    }
