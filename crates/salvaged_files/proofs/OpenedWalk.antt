-- Where 6 does not apply, a salvage walks over all objects and no others.
use mathlib.Core.Path.{◌≡◌, refl, sym, ap, ◌∙◌}
use mathlib.Core.Bool.{false}
use mathlib.Core.List.{List, ◌∷◌}
use Prim.Native.Nat.{ℕ}
use native.Mathlib.Omega.{arith}
use Rattle.format.specs.Header.{Image, header_word, tail_object_offset}
use Rattle.format.specs.Walk.{objects, walk_fault}
use Rattle.format.proofs.Walks.{next_far}
use Rattle.format.proofs.Rising.{Path, last, more, path_low, path_objects}
use Rattle.salvage.specs.Reach.{reach_from, reached}
use Rattle.salvage.proofs.ReachTurns.{reach_tail, reach_more}

-- a path that ends at tail_object_offset is what is walked
path_reach : {img : Image} {o tail : ℕ} {os : List ℕ} → Path img o os tail → header_word img tail_object_offset ≡ tail → reach_from img o ≡ os
path_reach {img} (last {o = o} e q) t = reach_tail img o e (q ∙ sym t)
path_reach {img} (more {o = o} e q w) t =
    reach_more img o e (λ z. omega (arith, next_far img o e, path_low w)) ∙ ap (λ (l : List ℕ). o ∷ l) (ap (reach_from img) q ∙ path_reach w t)

pub reached_objects : (img : Image) → walk_fault img ≡ false → reached img ≡ objects img
unfolding reached
reached_objects img e = path_reach (path_objects img e) refl
