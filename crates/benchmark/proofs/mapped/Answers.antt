-- `benchmark::mapped` meets its contract. Where 1 to 7 do not apply the map can be made, and its slots are the kinds.
use Rattle.format.specs.Header.{Image}
use Rattle.format.specs.Refused.{refusal_number}
use Rattle.format.proofs.Refused.{refusal_not0}
use Rattle.format.specs.Refusal.{frame_refusal}
use Rattle.open_steps.specs.Map.{kind_number_at, Mapped}
use Rattle.format.proofs.Frames.{walked}
use Rattle.benchmark.specs.Answer.{framed_kind}
use borrow.Author.Tests.{eq-eqb, ne_eqb}
use native.Mathlib.Omega.{arith}
use mathlib.Core.Logic.{◌≢◌}
use Prim.Native.Nat.{ℕ, ◌+◌}
use mathlib.Core.Path.{◌≡◌, sym, ◌∙◌}
use Rattle.benchmark.proofs.mapped.Goals as goal

-- the answer, by the refusal
module _ (img : Image) (o : ℕ) where
  is_refused : frame_refusal img ≢ 0 → framed_kind img o ≡ frame_refusal img
  unfolding framed_kind
  is_refused n = rw (framed_kind, ne_eqb (frame_refusal img) 0 n)

  is_kind : frame_refusal img ≡ 0 → framed_kind img o ≡ 8 + kind_number_at img o
  unfolding framed_kind
  is_kind z = rw (framed_kind, eq-eqb (frame_refusal img) 0 z)

pub returns-in-Err : goal.returns-in-Err
returns-in-Err c =
    let a = c.args in
    let r = c.in-Err.refusal in
    let e : refusal_number r ≡ frame_refusal a.image.now = c.in-Err.ensures in
    c.refusal_number.ensures ∙ e ∙ sym (is_refused a.image.now a.at (λ z. refusal_not0 r (e ∙ z)))

pub chart-requires : goal.chart-requires
chart-requires c =
    let z : frame_refusal c.args.image.now ≡ 0 = sym c.in_default.ensures in
    let w = walked c.args.image.now z in (w.framed, w.walked, omega (arith, w.framed.short))

pub returns : goal.returns
unfolding Mapped
returns c =
    let a = c.args in
    rw (is_kind a.image.now a.at (sym c.in_default.ensures), c.slot_at.ensures, c.chart.ensures.0 a.at)
