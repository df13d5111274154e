-- `digits::read::odd_digit` meets its contract.
use mathlib.Core.Path.{◌∙◌}
use borrow.Author.Rules.{rules}
use borrow.Author.Tests.{tests}
use Rattle.std.proofs.lemmas.Iterator.{YieldsList-from_slice}
use Rattle.std.proofs.lemmas.Iterator.Search.{any_from_yields_List}
use Rattle.exchange.specs.Digits.{no_digit}
use Rattle.format.proofs.Tests.{any_listed}
use Rattle.digits.proofs.read.odd_digit.Goals as goal

pub returns : goal.returns
unfolding no_digit
returns c =
    let digits = c.args.digits.now in
    any_from_yields_List (no_digit c.args.base) _ _ _ c.any.ensures.ran (YieldsList-from_slice digits cc) (λ x b q k. search (rules, tests))
    ∙ any_listed (no_digit c.args.base) digits
