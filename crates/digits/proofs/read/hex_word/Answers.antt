-- `digits::read::hex_word` meets its contract. The word so far is the number of the bytes taken, from the last on.
use mathlib.Core.Path.{◌∙◌}
use Prim.Native.Nat.{◌+◌, ◌-◌}
use native.Mathlib.Omega.{arith}
use Rattle.exchange.specs.Digits.{hex_bytes}
use Rattle.digits.proofs.HexLaws.{hex_small, seven_small, word_start, word_turn, word_end}
use Rattle.digits.proofs.read.hex_word.Goals as goal

pub loop-i-init : goal.loop-i-init
loop-i-init c =
    let a = c.args in
    word_start (hex_bytes a.digits.now) (a.at + 8)

pub overflow_mul-word : goal.overflow_mul-word
overflow_mul-word c =
    let l = c.loop-i in
    let digits = c.args.digits.now in
    omega (arith, seven_small (hex_bytes digits) (c.args.at + l.i) (hex_small digits c.requires.1) (8 - l.i) (omega arith))

pub overflow_add-word : goal.overflow_add-word
overflow_add-word c =
    let l = c.loop-i in
    let digits = c.args.digits.now in
    omega (arith, seven_small (hex_bytes digits) (c.args.at + l.i) (hex_small digits c.requires.1) (8 - l.i) (omega arith))

pub loop-i-preserved : goal.loop-i-preserved
loop-i-preserved c =
    let l = c.loop-i in
    let a = c.args in
    rw (l.invariant, c.hex_byte.ensures.0) (word_turn (hex_bytes a.digits.now) a.at l.i (omega arith) (omega arith))

pub returns : goal.returns
returns c =
    let l = c.loop-i in
    let a = c.args in
    l.invariant ∙ word_end (hex_bytes a.digits.now) a.at l.i (omega arith)
