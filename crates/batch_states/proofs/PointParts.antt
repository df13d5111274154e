-- Sync points over lists of stores in parts: the points before the last store of the first part, and those behind it, read from the
-- group of that store on. And points and ends of groups with more stores before them lie so much further on.
use mathlib.Core.Path.{◌≡◌, refl, sym, ap, ap₂, ◌∙◌}
use mathlib.Core.Bool.{Bool, true, false}
use mathlib.Core.List.{List, [], ◌∷◌, ◌++◌, map}
use Prim.Native.Nat.{ℕ, suc, ◌+◌}
use native.Mathlib.Omega.{arith}
use lib.Dec.{eqb}
use lib.ListN.{length, length-append}
use Rattle.format.specs.Stores.{Store}
use Rattle.writing.specs.Plan.{in_turn}
use Rattle.writing.specs.Syncs.{next_group, next_first, sync_of, points_from, ends_from}
use Rattle.writing.specs.declared.sync.Group.{Group}
use Rattle.crash_states.proofs.SyncRuns.{point_if}

-- the group of the last of some stores
unfoldable pub group_after : Group → ℕ → List Store → Group
group_after g first [] = g
group_after g first (s ∷ ss) = group_after (next_group g first s) (next_first g first s) ss

-- where the objects of its entry stand
unfoldable pub first_after : Group → ℕ → List Store → ℕ
first_after g first [] = first
first_after g first (s ∷ ss) = first_after (next_group g first s) (next_first g first s) ss

-- of two lists of stores
pub after-append : (g : Group) (first : ℕ) (ss ts : List Store)
    → group_after g first (ss ++ ts) ≡ group_after (group_after g first ss) (first_after g first ss) ts
unfolding group_after first_after
after-append g first [] ts = refl
after-append g first (s ∷ ss) ts = after-append (next_group g first s) (next_first g first s) ss ts

-- the second from the group to which the first leads
pub after_then : (g h k : Group) (ss ts : List Store) → ((first : ℕ) → group_after g first ss ≡ h) → ((first : ℕ) → group_after h first ts ≡ k)
    → (first : ℕ) → group_after g first (ss ++ ts) ≡ k
after_then g h k ss ts p q first =
    after-append g first ss ts ∙ ap (λ (x : Group). group_after x (first_after g first ss) ts) (p first) ∙ q (first_after g first ss)

-- the points before the last of them
unfoldable pub points_in : ℕ → Group → ℕ → List Store → List ℕ
points_in n g first [] = []
points_in n g first (s ∷ ss) =
    point_if (eqb (sync_of g) (sync_of (next_group g first s))) n (points_in (n + 1) (next_group g first s) (next_first g first s) ss)

-- a point before two lists of points
point_append : (same : Bool) (n : ℕ) (ps qs : List ℕ) → point_if same n (ps ++ qs) ≡ point_if same n ps ++ qs
unfolding point_if
point_append true n ps qs = refl
point_append false n ps qs = refl

-- the points of two lists of stores
pub points_parts : (n : ℕ) (g : Group) (first : ℕ) (ss rest : List Store)
    → points_from n g first (ss ++ rest) ≡ points_in n g first ss ++ points_from (n + length ss) (group_after g first ss) (first_after g first ss) rest
unfolding points_from point_if group_after first_after points_in
points_parts n g first [] rest = let e : n + 0 ≡ n = omega arith in ap (λ (k : ℕ). points_from k g first rest) (sym e)
points_parts n g first (s ∷ ss) rest =
    let h = next_group g first s in
    let f = next_first g first s in
    let e : n + 1 + length ss ≡ n + suc (length ss) = omega arith in
    ap (point_if (eqb (sync_of g) (sync_of h)) n) (points_parts (n + 1) h f ss rest
    ∙ ap (λ (k : ℕ). points_in (n + 1) h f ss ++ points_from k (group_after h f ss) (first_after h f ss) rest) e)
    ∙ point_append (eqb (sync_of g) (sync_of h)) n (points_in (n + 1) h f ss)
    (points_from (n + suc (length ss)) (group_after h f ss) (first_after h f ss) rest)

-- a point before points that lie m further on
point_shift : (m : ℕ) (same : Bool) (n : ℕ) (ps : List ℕ) → map (λ k. m + k) (point_if same n ps) ≡ point_if same (m + n) (map (λ k. m + k) ps)
unfolding point_if
point_shift m true n ps = refl
point_shift m false n ps = refl

-- m stores more before them
pub points_shift : (m n : ℕ) (g : Group) (first : ℕ) (ss : List Store) → map (λ k. m + k) (points_in n g first ss) ≡ points_in (m + n) g first ss
unfolding points_in
points_shift m n g first [] = refl
points_shift m n g first (s ∷ ss) =
    let h = next_group g first s in
    let f = next_first g first s in
    let e : m + (n + 1) ≡ m + n + 1 = omega arith in
    point_shift m (eqb (sync_of g) (sync_of h)) n (points_in (n + 1) h f ss)
    ∙ ap (point_if (eqb (sync_of g) (sync_of h)) (m + n)) (points_shift m (n + 1) h f ss ∙ ap (λ (k : ℕ). points_in k h f ss) e)

-- and before groups
pub ends_shift : (m n : ℕ) (gs : List (List Store)) → map (λ k. m + k) (ends_from n gs) ≡ ends_from (m + n) gs
unfolding ends_from
ends_shift m n [] = refl
ends_shift m n ([] ∷ gs) = ends_shift m n gs
ends_shift m n ((s ∷ ss) ∷ gs) =
    let k = suc (length ss) in
    let e : m + (n + k) ≡ m + n + k = omega arith in
    ap₂ (λ (x : ℕ) (xs : List ℕ). x ∷ xs) e (ends_shift m (n + k) gs ∙ ap (λ (x : ℕ). ends_from x gs) e)

-- the ends of two lists of groups
pub ends_parts : (n : ℕ) (gs hs : List (List Store)) → ends_from n (gs ++ hs) ≡ ends_from n gs ++ ends_from (n + length (in_turn gs)) hs
unfolding ends_from in_turn
ends_parts n [] hs = let e : n + 0 ≡ n = omega arith in ap (λ (k : ℕ). ends_from k hs) (sym e)
ends_parts n ([] ∷ gs) hs = ends_parts n gs hs
ends_parts n ((s ∷ ss) ∷ gs) hs =
    let k = suc (length ss) in
    let e : n + k + length (in_turn gs) ≡ n + length ((s ∷ ss) ++ in_turn gs) = omega (arith, length-append ss (in_turn gs)) in
    ap (λ (l : List ℕ). (n + k) ∷ l) (ends_parts (n + k) gs hs ∙ ap (λ (x : ℕ). ends_from (n + k) gs ++ ends_from x hs) e)
