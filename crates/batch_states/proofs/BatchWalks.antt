-- Groups of stores carried out one after the other, where the next one arrives in any order and with repeats: what holds of two lists
-- of groups holds of both in turn. So an entry's groups are judged on the file that the entries before it leave, by demand 3 of its own
-- append, and the entries are counted by the commit stores that arrived. How the groups before a commit store are put together is open.
use mathlib.Core.Path.{◌≡◌, refl, sym, ap, ap₂, ◌∙◌, subst}
use mathlib.Core.Logic.{◌⊎◌, inl, inr}
use mathlib.Core.List.{List, [], ◌∷◌, ◌++◌, append_assoc, head-eq_of_cons-eq, tail-eq_of_cons-eq, Memᴰ}
use Prim.Native.Nat.{ℕ, ◌+◌, min}
use native.Mathlib.Nat.{zero-add}
use native.Mathlib.Omega.{arith}
use Rattle.format.specs.Header.{Image}
use Rattle.format.specs.Stores.{Store, carry_all}
use Rattle.format.proofs.StoreLists.{carry_all_append}
use Rattle.writing.specs.Request.{Request}
use Rattle.writing.specs.Plan.{in_turn}
use Rattle.crash_states.specs.Demand.{SomeOf, Stands}
use Rattle.batch_states.specs.Batches.{commit_stores, with_first}
use Rattle.batch_states.specs.BatchSyncs.{committed_amid}
use Rattle.batch_states.proofs.BatchCuts.{in_turn_append, commits_append}

-- the entries committed by two lists of stores and some of the next group
amid_append : (ss ts some : List Store) → commit_stores ss + committed_amid ts some ≡ committed_amid (ss ++ ts) some
unfolding committed_amid
amid_append ss ts some = omega (arith, commits_append ss ts)

-- a group of two lists of groups stands in the first or in the second
in_one : (xs ys before : List (List Store)) (group : List Store) (left : List (List Store)) → xs ++ ys ≡ before ++ (group ∷ left)
    → ((l : List (List Store)) × (xs ≡ before ++ (group ∷ l))) ⊎ ((b : List (List Store)) × (before ≡ xs ++ b) × (ys ≡ b ++ (group ∷ left)))
in_one [] ys before group left e = inr (before, refl, e)
in_one (x ∷ xs) ys [] group left e = inl (xs, ap (λ (g : List Store). g ∷ xs) (head-eq_of_cons-eq e))
in_one (x ∷ xs) ys (y ∷ before) group left e = go (in_one xs ys before group left (tail-eq_of_cons-eq e))
  where
    go : ((l : List (List Store)) × (xs ≡ before ++ (group ∷ l))) ⊎ ((b : List (List Store)) × (before ≡ xs ++ b) × (ys ≡ b ++ (group ∷ left)))
        → ((l : List (List Store)) × (x ∷ xs ≡ (y ∷ before) ++ (group ∷ l)))
        ⊎ ((b : List (List Store)) × (y ∷ before ≡ (x ∷ xs) ++ b) × (ys ≡ b ++ (group ∷ left)))
    go (inl k) = inl (k.0, ap₂ (λ (g : List Store) (gs : List (List Store)). g ∷ gs) (head-eq_of_cons-eq e) k.1)
    go (inr k) = inr (k.0, ap₂ (λ (g : List Store) (gs : List (List Store)). g ∷ gs) (sym (head-eq_of_cons-eq e)) k.1, k.2)

module _ (base : Image) where
  -- groups that are carried out on an image, where the file without them is another and requests are still to be committed: whole ones,
  -- and some stores of the next, stand as the file with those committed
  abbrev pub Walks : Image → List (List Store) → Image → List Request → Type 0
  Walks from gs file rs = (before : List (List Store)) (group : List Store) (left : List (List Store)) → gs ≡ before ++ (group ∷ left)
      → (some : List Store) → SomeOf some group
      → Stands base (carry_all (in_turn before ++ some) from) (with_first (committed_amid (in_turn before) some) file rs)

  -- one list of groups after another
  pub walks_then : (from : Image) (xs ys : List (List Store)) (file : Image) (rs : List Request) (file' : Image) (rs' : List Request)
      → Walks from xs file rs
      → ((j : ℕ) → with_first (commit_stores (in_turn xs) + j) file rs ≡ with_first j file' rs') → Walks (carry_all (in_turn xs) from) ys file' rs'
      → Walks from (xs ++ ys) file rs
  walks_then from xs ys file rs file' rs' here on later before group left e some h = go (in_one xs ys before group left e)
    where
      go : ((l : List (List Store)) × (xs ≡ before ++ (group ∷ l))) ⊎ ((b : List (List Store)) × (before ≡ xs ++ b) × (ys ≡ b ++ (group ∷ left)))
          → Stands base (carry_all (in_turn before ++ some) from) (with_first (committed_amid (in_turn before) some) file rs)
      go (inl k) = here before group k.0 k.1 some h
      go (inr k) =
          let b = k.0 in
          let stores : carry_all (in_turn b ++ some) (carry_all (in_turn xs) from) ≡ carry_all (in_turn before ++ some) from =
          sym (carry_all_append (in_turn xs) (in_turn b ++ some) from)
          ∙ ap (λ (ss : List Store). carry_all ss from) (sym (append_assoc (in_turn xs) (in_turn b) some)
          ∙ ap (λ (ss : List Store). ss ++ some) (sym (in_turn_append xs b) ∙ ap in_turn (sym k.1))) in
          let many : commit_stores (in_turn xs) + committed_amid (in_turn b) some ≡ committed_amid (in_turn before) some =
          amid_append (in_turn xs) (in_turn b) some ∙ ap (λ (ss : List Store). committed_amid ss some)
          (sym (in_turn_append xs b) ∙ ap in_turn (sym k.1)) in
          subst (λ (i : Image). Stands base (carry_all (in_turn before ++ some) from) i)
          (sym (on (committed_amid (in_turn b) some)) ∙ ap (λ (n : ℕ). with_first n file rs) many)
          (subst (λ (i : Image). Stands base i (with_first (committed_amid (in_turn b) some) file' rs')) stores (later b group left k.2 some h))

  -- one group alone
  pub walks_one : (from : Image) (g : List Store) (file : Image) (rs : List Request)
      → ((some : List Store) → SomeOf some g → Stands base (carry_all some from) (with_first (min 1 (commit_stores some)) file rs))
      → Walks from (g ∷ []) file rs
  unfolding in_turn committed_amid commit_stores
  walks_one from g file rs here [] group left e some h =
      subst (λ (n : ℕ). Stands base (carry_all some from) (with_first n file rs)) (sym (zero-add (min 1 (commit_stores some))))
      (here some (λ s m. subst (λ (ss : List Store). Memᴰ s ss) (sym (head-eq_of_cons-eq e)) (h s m)))
  walks_one from g file rs here (x ∷ []) group left e some h = absurd (let z : ◌≡◌ {A = ℕ} 0 1 = cc (tail-eq_of_cons-eq e) in omega arith)
  walks_one from g file rs here (x ∷ y ∷ before) group left e some h = absurd (let z : ◌≡◌ {A = ℕ} 0 1 = cc (tail-eq_of_cons-eq e) in omega arith)

  -- behind the first group, where it has no commit store
  pub walks_behind : (from : Image) (g : List Store) (gs : List (List Store)) (file : Image) (rs : List Request) → commit_stores g ≡ 0
      → Walks from (g ∷ gs) file rs
      → Walks (carry_all g from) gs file rs
  unfolding in_turn
  walks_behind from g gs file rs z all before group left e some h =
      let many : committed_amid (g ++ in_turn before) some ≡ committed_amid (in_turn before) some =
      sym (amid_append g (in_turn before) some) ∙ ap (λ (n : ℕ). n + committed_amid (in_turn before) some) z
      ∙ zero-add (committed_amid (in_turn before) some) in
      subst (λ (n : ℕ). Stands base (carry_all (in_turn before ++ some) (carry_all g from)) (with_first n file rs)) many
      (subst (λ (i : Image). Stands base i (with_first (committed_amid (g ++ in_turn before) some) file rs))
      (ap (λ (ss : List Store). carry_all ss from) (append_assoc g (in_turn before) some) ∙ carry_all_append g (in_turn before ++ some) from)
      (all (g ∷ before) group left (ap (λ (hs : List (List Store)). g ∷ hs) e) some h))
