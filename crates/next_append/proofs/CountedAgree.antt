-- 14 of the counted items after an append: the last committed entry is the new one, and what a DATA counts is what it counted, and at
-- most the new entry.
use mathlib.Core.Path.{◌≡◌}
use mathlib.Core.Logic.{◌⊎◌, inl, inr}
use mathlib.Core.Bool.{false}
use mathlib.Core.List.Memᴰ
use mathlib.Core.List.{List}
use Prim.Native.Nat.{ℕ, ◌≤◌}
use native.Mathlib.Omega.{arith}
use Rattle.format.specs.Says.{In}
use Rattle.format.specs.Kinds.{Kind, DATA}
use Rattle.format.specs.File.{File, data_count}
use Rattle.reading.specs.Lists.{counted}
use Rattle.writing.specs.Agreement.{counted_fault}
use Rattle.partial_append.specs.Agrees.{Agrees}
use Rattle.partial_append.specs.Extends.{Extends, Stays, Counted}
use Rattle.partial_append.specs.Commits.{Commits}
use Rattle.partial_append.proofs.Passing.{Passes}
use Rattle.partial_append.proofs.AgreesLaws.{counted_clear}
use Rattle.partial_append.proofs.Course.{which}
use Rattle.partial_append.proofs.EntriesKept.{counted_kept, counted_more, counted_new}
use Rattle.partial_append.proofs.EntryCommitted.{last_new, low, low_more}

module _ {F F' : File} {new : Kind → List ℕ} {e : ℕ} (x : Extends F F' new e) (p : Passes F) (agree : Agrees F) (g : Commits F F' new e) where
  -- a DATA of the file
  counted_low : (d : ℕ) → In d (F.of DATA) ⊎ In d (new DATA) → (y : ℕ) → In y (counted F' d) → y ≤ e
  counted_low d (inl m) y i = go (g.old_data d m)
    where
      go : (In d (F'.items e) × Counted F F' new e d) ⊎ ((In d (F'.items e) → ⊥) × Stays F F' (data_count d)) → y ≤ e
      go (inl k) = low_more x p agree g (counted F d) (low x p agree g d m) y (rw (counted_more x p agree d m k.1) at i)
      go (inr k) = low x p agree g d m y (rw (counted_kept x p agree d m k.1) at i)
  counted_low d (inr n) y i = let q : y ≡ e = Memᴰ.eq_of_singleton (rw (counted_new x p agree d n) at i) in omega arith

  -- 14 of the counted items
  pub counted_agree : counted_fault F' ≡ false
  counted_agree = (counted_clear F').1 (λ d m y i. rw (last_new x p agree g) (counted_low d (which x DATA d m) y i))
