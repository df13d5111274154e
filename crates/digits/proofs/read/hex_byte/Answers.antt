-- `digits::read::hex_byte` meets its contract.
use native.Mathlib.Omega.{arith}
use Rattle.digits.proofs.HexLaws.{hex_byte, hex_small}
use Rattle.digits.proofs.read.hex_byte.Goals as goal

pub returns : goal.returns
returns c =
    let digits = c.args.digits.now in
    let law = hex_byte digits c.args.i c.requires.0 in
    let small = hex_small digits c.requires.1 c.args.i in
    let first = c.digit_value.ensures.0 in
    let second = c.digit_value-2.ensures.0 in
    (omega (arith, law, first, second), omega (arith, law, small, first, second))
