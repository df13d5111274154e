-- `digits::write::digit` meets its contract.
use borrow.Author.Tests.{lt-ltb, le-ltb}
use Rattle.exchange.specs.Digits.{digit}
use Rattle.digits.proofs.write.digit.Goals as goal

pub returns-then-value-lt10 : goal.returns-then-value-lt10
unfolding digit
returns-then-value-lt10 c = rw (lt-ltb c.args.value 10 c.if-value-lt10.true)

pub returns : goal.returns
unfolding digit
returns c = rw (le-ltb c.args.value 10 c.if-value-lt10.false)
