-- `digits::read::boot_fault` meets its contract.
use mathlib.Core.Path.{sym, ◌∙◌}
use borrow.Author.Tests.{ne_eqb}
use Rattle.digits.proofs.HexLaws.{boot_sized, boot_bytes_lem}
use Rattle.digits.proofs.read.boot_fault.Goals as goal

pub returns-then-digits-ne-BOOT_DIGITS : goal.returns-then-digits-ne-BOOT_DIGITS
returns-then-digits-ne-BOOT_DIGITS c =
    let n = c.if-digits-ne-BOOT_DIGITS.true in
    rw (ne_eqb _ 32 n) (sym (boot_sized c.args.digits.now n))

pub returns-else-digits-ne-BOOT_DIGITS : goal.returns-else-digits-ne-BOOT_DIGITS
returns-else-digits-ne-BOOT_DIGITS c = c.odd_digit.ensures ∙ sym (boot_bytes_lem c.args.digits.now c.if-digits-ne-BOOT_DIGITS.false)
