-- `benchmark::question::asked_by` meets its contract. A case for each number, and one for all others.
use mathlib.Core.Path.{◌≡◌, refl}
use mathlib.Core.Logic.{◌≢◌}
use Prim.Native.Nat.{ℕ, zero, suc}
use Rattle.benchmark.specs.Answer.{question_of}
use Rattle.benchmark.specs.declared.question.Question.TheVariants.{Stamps}
use borrow.Author.Rules.{rules}
use Rattle.benchmark.proofs.question.asked_by.Goals as goal

-- any number but 0 to 5 asks for stamps
others : (n : ℕ) → n ≢ 0 → n ≢ 1 → n ≢ 2 → n ≢ 3 → n ≢ 4 → n ≢ 5 → Stamps ≡ question_of n
others zero a b c d e f = absurd (a refl)
others (suc zero) a b c d e f = absurd (b refl)
others (suc (suc zero)) a b c d e f = absurd (c refl)
others (suc (suc (suc zero))) a b c d e f = absurd (d refl)
others (suc (suc (suc (suc zero)))) a b c d e f = absurd (e refl)
others (suc (suc (suc (suc (suc zero))))) a b c d e f = absurd (f refl)
others (suc (suc (suc (suc (suc (suc n)))))) a b c d e f = refl

pub returns-in_default : goal.returns-in_default
returns-in_default c =
    others c.args.kind (search rules) (search rules) (search rules) (search rules) (search rules) (search rules)
