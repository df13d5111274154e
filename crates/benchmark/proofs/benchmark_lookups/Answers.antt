-- `benchmark::benchmark_lookups` meets its contract. The refusal, or what the lookups answer of an image that opens.
use mathlib.Core.Path.{◌≡◌, refl, sym, ◌∙◌}
use mathlib.Core.Logic.{◌≢◌}
use mathlib.Core.List.{List}
use Prim.Native.Nat.{ℕ, zero, suc, ◌/◌}
use lib.ListN.{length}
use Rattle.format.specs.Header.{Image}
use Rattle.format.specs.Refused.{refusal_number}
use Rattle.format.proofs.Refused.{refusal_not0}
use Rattle.reading.specs.Refusal.{refusal}
use Rattle.benchmark.specs.Answer.{total, asked}
use Rattle.benchmark.specs.declared.question.Question.{Question}
use Rattle.benchmark.proofs.benchmark_lookups.Goals as goal

module _ (img : Image) (q : Question) (bytes : List ℕ) (place : ℕ) (arguments : List ℕ) where
  is_refused : refusal img ≢ 0 → asked img q bytes place arguments ≡ refusal img
  unfolding asked
  is_refused n = go (refusal img) refl
    where
      go : (k : ℕ) → refusal img ≡ k → asked img q bytes place arguments ≡ refusal img
      go zero e = absurd (n e)
      go (suc k) e = rw (asked, e)

  is_total : refusal img ≡ 0 → asked img q bytes place arguments ≡ total img q bytes place arguments (length arguments / 8)
  unfolding asked
  is_total e = rw (asked, e)

pub returns-in-Err : goal.returns-in-Err
returns-in-Err c =
    let r = c.in-Err.refusal in
    let e : refusal_number r ≡ refusal c.args.image.now = c.in-Err.ensures in
    c.refusal_number.ensures ∙ e ∙ sym (is_refused _ _ _ _ _ (λ z. refusal_not0 r (e ∙ z)))

pub answers-requires : goal.answers-requires
answers-requires c = record { opens = sym c.in_default.ensures }

pub returns : goal.returns
returns c = rw (c.answers.ensures, c.asked_by.ensures) (sym (is_total _ _ _ _ _ (sym c.in_default.ensures)))
