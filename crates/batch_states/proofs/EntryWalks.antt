-- The entries of a batch, each by demand 3 of its own append on the file that the entries before it leave: its groups before the commit
-- store leave that file as it stands, the commit store adds the entry, and the batch's last group stands behind the last entry's as
-- group 8 of its append.
use mathlib.Core.Path.{◌≡◌, refl, sym, ap, ◌∙◌, subst}
use mathlib.Core.Bool.{Bool, true, false}
use mathlib.Core.List.Memᴰ
use mathlib.Core.List.{List, [], ◌∷◌, ◌++◌, append-nil, Memᴰ}
use Prim.Native.Nat.{ℕ, suc, ◌+◌, min}
use native.Mathlib.Omega.{arith}
use lib.ListN.{take}
use lib.Seq.{take-nil}
use Rattle.format.specs.Header.{Image, n_entries}
use Rattle.format.specs.File.{model}
use Rattle.format.specs.Stores.{Store, carry_all}
use Rattle.format.proofs.StoreLists.{carry_all_append}
use Rattle.writing.specs.Request.{Request}
use Rattle.writing.specs.Plan.{store_of, stores_for, commit_update, in_turn, appended}
use Rattle.writing.specs.Batch.{appended_all}
use Rattle.writing.specs.Syncs.{is_of}
use Rattle.crash_states.specs.Demand.{SomeOf, Stands, answers_amid}
use Rattle.crash_states.proofs.Accepted.{Accepted}
use Rattle.crash_states.proofs.Groups.{object_group, counter_group, link_group, count_group, fact_group, commit_group, offline_group, after1, after2, after3, after4, after5, after6}
use Rattle.crash_states.proofs.Demands.{order7}
use Rattle.next_append.specs.Next.{AcceptsAll}
use Rattle.batch_states.specs.Batches.{commit_stores, with_first}
use Rattle.batch_states.specs.BatchSyncs.{committed_amid}
use Rattle.batch_states.proofs.EntryStores.{NoneOf, online, early_stores, entry_parts, early_no_commit, offline_same, online_next}
use Rattle.batch_states.proofs.BatchCuts.{in_turn_append, commits_none, stands_on}
use Rattle.batch_states.proofs.BatchDemands.{first_accepted}
use Rattle.batch_states.proofs.BatchWalks.{Walks, walks_then, walks_one}

-- how the stores of an append before its commit store are put together in groups, and that each of these may arrive in any order
pub record Grouping : Type 0 where
  pub early : Image → Request → List (List Store)
  pub turn : (img : Image) (r : Request) → in_turn (early img r) ≡ early_stores img r
  pub amid : (img : Image) (r : Request) → Accepted img r → (before : List (List Store)) (group : List Store) (left : List (List Store))
      → early img r ≡ before ++ (group ∷ left) → (some : List Store) → SomeOf some group
      → Stands img (carry_all (in_turn before ++ some) (online img)) img

-- the groups of each entry in turn, and one at the end
unfoldable pub each_then : Grouping → Image → List Request → List Store → List (List Store)
each_then G img [] off = off ∷ []
each_then G img (r ∷ rs) off = G.early img r ++ (commit_group (model img) ∷ each_then G (appended img r) rs off)

-- the first commit store adds the first entry
first_more : (n j : ℕ) (file : Image) (r : Request) (rs : List Request) → n ≡ 1 → with_first (n + j) file (r ∷ rs) ≡ with_first j (appended file r) rs
unfolding with_first appended_all
first_more n j file r rs e = let k : n + j ≡ suc j = omega arith in ap (λ (i : ℕ). appended_all file (take i (r ∷ rs))) k

-- where there is none, nothing is added
pub first-same : (n j : ℕ) (file : Image) (rs : List Request) → n ≡ 0 → with_first (n + j) file rs ≡ with_first j file rs
first-same n j file rs e = let k : n + j ≡ j = omega arith in ap (λ (i : ℕ). with_first i file rs) k

-- and without any the file stays
pub first-none : (n : ℕ) (file : Image) (rs : List Request) → n ≡ 0 → with_first n file rs ≡ file
unfolding with_first appended_all
first-none n file rs e = ap (λ (i : ℕ). with_first i file rs) e

-- as it does where nothing is asked for
first_of_none : (n : ℕ) (file : Image) → with_first n file [] ≡ file
unfolding with_first appended_all
first_of_none n file = ap (appended_all file) (take-nil n)

module _ (G : Grouping) (file : Image) (r : Request) (a : Accepted file r) where
  -- the commit store follows on the others
  commit_from : carry_all (in_turn (G.early file r)) (online file) ≡ after6 file r
  unfolding after1 after2 after3 after4 after5 after6
  commit_from =
      let F = model file in
      ap (λ (ss : List Store). carry_all ss (online file)) (G.turn file r)
      ∙ carry_all_append (object_group F r) _ (online file) ∙ carry_all_append (counter_group F r) _ (after2 file r)
      ∙ carry_all_append (link_group F r) _ (after3 file r) ∙ carry_all_append (count_group F r) (fact_group F r) (after4 file r)

  -- and leaves the file with the entry
  commit_to : carry_all (in_turn (commit_group (model file) ∷ [])) (carry_all (in_turn (G.early file r)) (online file)) ≡ online (appended file r)
  unfolding in_turn
  commit_to =
      let F = model file in
      ap (λ (ss : List Store). carry_all ss (carry_all (in_turn (G.early file r)) (online file))) (append-nil (commit_group F))
      ∙ ap (λ (ss : List Store). carry_all (commit_group F) (carry_all ss (online file))) (G.turn file r)
      ∙ sym (carry_all_append (early_stores file r) (commit_group F) (online file))
      ∙ ap (λ (ss : List Store). carry_all ss (online file)) (sym (entry_parts file r)) ∙ online_next file r a

  -- no store before it is one
  early_none : (before : List (List Store)) (group : List Store) (left : List (List Store)) → G.early file r ≡ before ++ (group ∷ left)
      → NoneOf n_entries (in_turn before ++ (group ++ in_turn left))
  unfolding in_turn
  early_none before group left e s m =
      early_no_commit file r a s (subst (λ (ss : List Store). Memᴰ s ss)
      (sym (in_turn_append before (group ∷ left)) ∙ ap in_turn (sym e) ∙ G.turn file r) m)

  -- the groups before it
  walks_early : (rs : List Request) → Walks file (online file) (G.early file r) file rs
  unfolding committed_amid
  walks_early rs before group left e some h =
      let n = early_none before group left e in
      let z = commits_none (in_turn before) (λ s m. n s (Memᴰ.append_left (group ++ in_turn left) m)) in
      let y = commits_none some (λ s m. n s (Memᴰ.append_right (in_turn before) (Memᴰ.append_left (in_turn left) (h s m)))) in
      subst (λ (i : Image). Stands file (carry_all (in_turn before ++ some) (online file)) i)
      (sym (first-none (committed_amid (in_turn before) some) file rs (omega arith)))
      (G.amid file r a before group left e some h)

  -- the commit store
  walks_commit : (rs : List Request) → Walks file (carry_all (in_turn (G.early file r)) (online file)) (commit_group (model file) ∷ []) file (r ∷ rs)
  unfolding in_turn answers_amid with_first appended_all commit_stores stores_for store_of commit_update
  walks_commit rs = walks_one file (carry_all (in_turn (G.early file r)) (online file)) (commit_group (model file)) file (r ∷ rs) here
    where
      from : (some : List Store) (i : Image) → Stands file (carry_all some (after6 file r)) i
          → Stands file (carry_all some (carry_all (in_turn (G.early file r)) (online file))) i
      from some i w = subst (λ (j : Image). Stands file (carry_all some j) i) (sym commit_from) w

      here : (some : List Store) → SomeOf some (commit_group (model file))
          → Stands file (carry_all some (carry_all (in_turn (G.early file r)) (online file))) (with_first (min 1 (commit_stores some)) file (r ∷ rs))
      here [] h = from [] file (order7 file r a [] (commit_group (model file)) (offline_group (model file) ∷ []) refl [] h)
      here (s ∷ some) h =
          let e : is_of n_entries s ≡ true = ap (is_of n_entries) (Memᴰ.eq_of_singleton (h s (Memᴰ.head refl))) in
          let c : commit_stores (s ∷ some) ≡ suc (commit_stores some) =
          ap (λ (b : Bool). elim b as (λ _. ℕ) [ true ↦ suc (commit_stores some) | false ↦ commit_stores some ]) e in
          let n : min 1 (commit_stores (s ∷ some)) ≡ 1 = omega arith in
          subst (λ (m : ℕ). Stands file (carry_all (s ∷ some) (carry_all (in_turn (G.early file r)) (online file))) (with_first m file (r ∷ rs))) (sym n)
          (from (s ∷ some) (appended file r) (order7 file r a [] (commit_group (model file)) (offline_group (model file) ∷ []) refl (s ∷ some) h))

  -- the last group of the batch, behind the last entry
  walks_off : Walks file (online (appended file r)) (offline_group (model file) ∷ []) (appended file r) []
  unfolding in_turn answers_amid
  walks_off = walks_one file (online (appended file r)) (offline_group (model file)) (appended file r) [] here
    where
      here : (some : List Store) → SomeOf some (offline_group (model file))
          → Stands file (carry_all some (online (appended file r))) (with_first (min 1 (commit_stores some)) (appended file r) [])
      here some h =
          let w = order7 file r a (commit_group (model file) ∷ []) (offline_group (model file)) [] refl some h in
          let e : carry_all (in_turn (commit_group (model file) ∷ []) ++ some) (after6 file r) ≡ carry_all some (online (appended file r)) =
          carry_all_append (in_turn (commit_group (model file) ∷ [])) some (after6 file r)
          ∙ ap (carry_all some) (ap (carry_all (in_turn (commit_group (model file) ∷ []))) (sym commit_from) ∙ commit_to) in
          subst (λ (i : Image). Stands file (carry_all some (online (appended file r))) i)
          (sym (first_of_none (min 1 (commit_stores some)) (appended file r)))
          (subst (λ (i : Image). Stands file i (appended file r)) e w)

  -- the entry, and what follows
  walks_entry : (rs : List Request) (later : List (List Store)) → Walks file (online (appended file r)) later (appended file r) rs
      → Walks file (online file) (G.early file r ++ (commit_group (model file) ∷ later)) file (r ∷ rs)
  unfolding stores_for store_of commit_update in_turn commit_stores
  walks_entry rs later w =
      let F = model file in
      let c = commit_group F ∷ [] in
      let z =
      commits_none (in_turn (G.early file r)) (λ s m. early_no_commit file r a s
      (subst (λ (ss : List Store). Memᴰ s ss) (G.turn file r) m)) in
      walks_then file (online file) (G.early file r) (commit_group F ∷ later) file (r ∷ rs) file (r ∷ rs) (walks_early (r ∷ rs))
      (λ j. first-same _ j file (r ∷ rs) z)
      (walks_then file (carry_all (in_turn (G.early file r)) (online file)) c later file (r ∷ rs) (appended file r) rs (walks_commit rs)
      (λ j. first_more _ j file r rs refl)
      (subst (λ (i : Image). Walks file i later (appended file r) rs) (sym commit_to) w))

-- the entries of a batch, on the file that some leave
pub walks_each : (G : Grouping) (file : Image) (r : Request) (rs : List Request) (off : List Store) → AcceptsAll file (r ∷ rs)
    → offline_group (model file) ≡ off
    → Walks file (online file) (each_then G file (r ∷ rs) off) file (r ∷ rs)
unfolding each_then
walks_each G file r [] off all e =
    let a = first_accepted file r [] all in
    walks_entry G file r a [] (off ∷ [])
    (subst (λ (g : List Store). Walks file (online (appended file r)) (g ∷ []) (appended file r) []) e (walks_off G file r a))
walks_each G file r (q ∷ rs) off all e =
    let a = first_accepted file r (q ∷ rs) all in
    let later = walks_each G (appended file r) q rs off all.2 (offline_same file r a ∙ e) in
    walks_entry G file r a (q ∷ rs) (each_then G (appended file r) (q ∷ rs) off)
    (λ before group left s some h. stands_on file r a _ _ (later before group left s some h))
