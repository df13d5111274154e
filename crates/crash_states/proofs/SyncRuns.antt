-- Sync points over runs of stores: a run that stays in a group has no point inside, and there is one before it where the group has
-- another sync than the one before it.
use mathlib.Core.Path.{◌≡◌, refl, ap, ap₂, ◌∙◌}
use mathlib.Core.Bool.{Bool, true, false}
use mathlib.Core.List.{List, [], ◌∷◌, ◌++◌, Memᴰ}
use Prim.Native.Nat.{ℕ, suc, ◌+◌, ◌<◌}
use native.Mathlib.Omega.{arith}
use lib.Dec.{eqb}
use lib.ListN.{length}
use borrow.Author.Tests.{eq-eqb}
use Rattle.format.specs.Stores.{Store}
use Rattle.writing.specs.Syncs.{next_group, next_first, sync_of, points_from, ends_from}
use Rattle.writing.specs.declared.sync.Group.{Group}

-- a store leads from a group to another, or to the same
abbrev pub Leads : Group → ℕ → Group → ℕ → Store → Type 0
Leads g first h at s = (next_group g first s ≡ h) × (next_first g first s ≡ at)

-- every one of some stores does
abbrev pub AllLead : Group → ℕ → Group → List Store → Type 0
AllLead g first h ss = (s : Store) → Memᴰ s ss → Leads g first h first s

-- a point before what follows, where the sync is another one
unfoldable pub point_if : Bool → ℕ → List ℕ → List ℕ
point_if same n later = elim same [ true ↦ later | false ↦ n ∷ later ]

-- one store
pub points_store : (g : Group) (first n : ℕ) (h : Group) (at : ℕ) (s : Store) (rest : List Store) (same : Bool) → Leads g first h at s → eqb (sync_of g) (sync_of h) ≡ same
    → points_from n g first (s ∷ rest) ≡ point_if same n (points_from (n + 1) h at rest)
unfolding points_from point_if
points_store g first n h at s rest same l e =
    ap₂ (λ (x : Group) (y : ℕ). point_if (eqb (sync_of g) (sync_of x)) n (points_from (n + 1) x y rest)) l.0 l.1
    ∙ ap (λ (b : Bool). point_if b n (points_from (n + 1) h at rest)) e

-- stores that stay in a group
pub points_run : (g : Group) (first n : ℕ) (ss rest : List Store) → AllLead g first g ss → points_from n g first (ss ++ rest) ≡ points_from (n + length ss) g first rest
unfolding point_if
points_run g first n [] rest h = let e : n + 0 ≡ n = omega arith in rw e refl
points_run g first n (s ∷ ss) rest h =
    let e : n + 1 + length ss ≡ n + suc (length ss) = omega arith in
    points_store g first n g first s (ss ++ rest) true (h s (Memᴰ.head refl)) (eq-eqb (sync_of g) (sync_of g) refl)
    ∙ points_run g first (n + 1) ss rest (λ t m. h t (Memᴰ.tail m)) ∙ ap (λ (k : ℕ). points_from k g first rest) e

-- a group: its first store leads to it, and the others stay in it
pub points_group : (g : Group) (first n : ℕ) (h : Group) (at : ℕ) (s : Store) (ss rest : List Store) (same : Bool) → Leads g first h at s → AllLead h at h ss
    → eqb (sync_of g) (sync_of h) ≡ same → points_from n g first ((s ∷ ss) ++ rest) ≡ point_if same n (points_from (n + length (s ∷ ss)) h at rest)
points_group g first n h at s ss rest same l all e =
    let k : n + 1 + length ss ≡ n + suc (length ss) = omega arith in
    points_store g first n h at s (ss ++ rest) same l e
    ∙ ap (point_if same n) (points_run h at (n + 1) ss rest all ∙ ap (λ (m : ℕ). points_from m h at rest) k)

-- where a group ends that is not empty
pub ends_group : (n : ℕ) (g : List Store) (gs : List (List Store)) → 0 < length g → ends_from n (g ∷ gs) ≡ (n + length g) ∷ ends_from (n + length g) gs
unfolding ends_from
ends_group n [] gs l = absurd (omega arith)
ends_group n (s ∷ ss) gs l = refl
