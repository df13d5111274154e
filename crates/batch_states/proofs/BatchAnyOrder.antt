-- Demand 3 of a batch for a disk that keeps no order inside a group, and between the points behind which a host syncs, proved: the
-- entries by `EntryWalks`, with the groups of an append, or with those that share a sync, before each commit store; and group 1 in front.
use mathlib.Core.Path.{◌≡◌, refl, sym, ap, ◌∙◌, subst}
use mathlib.Core.Logic.{◌⊎◌, inl, inr}
use mathlib.Core.List.Memᴰ
use mathlib.Core.List.{List, [], ◌∷◌, ◌++◌, append_assoc, append-nil, Memᴰ, head-eq_of_cons-eq, tail-eq_of_cons-eq}
use Prim.Native.Nat.{◌≤◌, min}
use native.Mathlib.Omega.{arith}
use lib.ListN.{length, drop}
use Rattle.format.specs.Header.{Image, n_entries}
use Rattle.format.specs.File.{model}
use Rattle.format.specs.Stores.{Store, carry_all}
use Rattle.format.proofs.StoreLists.{carry_all_append}
use Rattle.writing.specs.Request.{Request}
use Rattle.writing.specs.Plan.{store_of, stores_for, state_update, groups, in_turn, appended}
use Rattle.writing.specs.Batch.{requests_of, entry_groups, groups_of_each, batch_groups}
use Rattle.writing.specs.Syncs.{is_of, together}
use Rattle.crash_states.specs.Demand.{SomeOf, Stands, answers_amid}
use Rattle.crash_states.proofs.Accepted.{Accepted}
use Rattle.crash_states.proofs.Groups.{online_group, object_group, counter_group, link_group, count_group, fact_group, commit_group, offline_group}
use Rattle.crash_states.proofs.Demands.{in_groups}
use Rattle.crash_states.proofs.Synced.{both_in_turn, one_in_turn, six, in_six}
use Rattle.next_append.specs.Next.{AcceptsAll}
use Rattle.batch_states.specs.Batches.{commit_stores, with_first}
use Rattle.batch_states.specs.BatchSyncs.{shares, later_shares, batch_synced, Demand3BatchAnyOrder, Demand3BatchSynced}
use Rattle.batch_states.proofs.EntryStores.{NoneOf, of_both, online, early_stores, early_no_commit}
use Rattle.batch_states.proofs.BatchAccepted.{batch_taken}
use Rattle.batch_states.proofs.BatchCuts.{commits_none}
use Rattle.batch_states.proofs.BatchDemands.{first_accepted}
use Rattle.batch_states.proofs.BatchWalks.{Walks, walks_then, walks_one, walks_behind}
use Rattle.batch_states.proofs.EntryWalks.{first-same, first-none, Grouping, each_then, walks_each}

-- before the last two groups of an append nothing is committed
amid_early : (img : Image) (r : Request) (left : List (List Store)) (g h : List Store) (some : List Store)
    → answers_amid img r (left ++ (g ∷ h ∷ [])) some ≡ img
unfolding answers_amid
amid_early img r [] g h some = refl
amid_early img r (x ∷ []) g h some = refl
amid_early img r (x ∷ y ∷ left) g h some = refl

-- groups 2 to 6
abbrev five_groups : Image → Request → List (List Store)
five_groups img r =
    object_group (model img) r ∷ counter_group (model img) r ∷ link_group (model img) r ∷ count_group (model img) r ∷ fact_group (model img) r ∷ []

-- by their syncs, the first without group 1
abbrev pub four_groups : Image → Request → List (List Store)
four_groups img r =
    object_group (model img) r ∷ counter_group (model img) r ∷ link_group (model img) r ∷ (count_group (model img) r ++ fact_group (model img) r) ∷ []

module _ (img : Image) (r : Request) (a : Accepted img r) where
  -- some stores of one of groups 2 to 6, behind those before it
  five_stand : (before : List (List Store)) (group : List Store) (left : List (List Store)) → five_groups img r ≡ before ++ (group ∷ left)
      → (some : List Store) → SomeOf some group → Stands img (carry_all (in_turn before ++ some) (online img)) img
  unfolding groups in_turn
  five_stand before group left e some h =
      let F = model img in
      let all : groups F r ≡ (online_group F ∷ before) ++ (group ∷ (left ++ (commit_group F ∷ offline_group F ∷ []))) =
      ap (λ (gs : List (List Store)). online_group F ∷ (gs ++ (commit_group F ∷ offline_group F ∷ []))) e
      ∙ ap (λ (gs : List (List Store)). online_group F ∷ gs) (append_assoc before (group ∷ left) _) in
      subst (λ (i : Image). Stands img i img)
      (ap (λ (ss : List Store). carry_all ss img) (append_assoc (online_group F) (in_turn before) some)
      ∙ carry_all_append (online_group F) (in_turn before ++ some) img)
      (subst (λ (i : Image). Stands img (carry_all (in_turn (online_group F ∷ before) ++ some) img) i)
      (amid_early img r left (commit_group F) (offline_group F) some)
      (in_groups img r a (online_group F ∷ before) group (left ++ (commit_group F ∷ offline_group F ∷ [])) all some h))

  -- the same by their syncs
  pub four_stand : (before : List (List Store)) (group : List Store) (left : List (List Store)) → four_groups img r ≡ before ++ (group ∷ left)
      → (some : List Store) → SomeOf some group → Stands img (carry_all (in_turn before ++ some) (online img)) img
  unfolding in_turn answers_amid
  four_stand [] group left e some h =
      let F = model img in
      subst (λ (i : Image). Stands img i img) (carry_all_append (online_group F) some img)
      (in_six img r a [] (online_group F ++ object_group F r) _ refl (online_group F ++ some) (λ s m. go s (Memᴰ.append_cases (online_group F) m)))
    where
      go : (s : Store) → Memᴰ s (online_group (model img)) ⊎ Memᴰ s some → Memᴰ s (online_group (model img) ++ object_group (model img) r)
      go s (inl m) = Memᴰ.append_left (object_group (model img) r) m
      go s (inr m) = Memᴰ.append_right (online_group (model img)) (subst (λ (ss : List Store). Memᴰ s ss) (sym (head-eq_of_cons-eq e)) (h s m))
  four_stand (x ∷ before) group left e some h =
      let F = model img in
      let first = online_group F ++ object_group F r in
      let all : six img r a ≡ (first ∷ before) ++ (group ∷ (left ++ (commit_group F ∷ offline_group F ∷ []))) =
      ap (λ (gs : List (List Store)). first ∷ (gs ++ (commit_group F ∷ offline_group F ∷ []))) (tail-eq_of_cons-eq e)
      ∙ ap (λ (gs : List (List Store)). first ∷ gs) (append_assoc before (group ∷ left) _) in
      let stores : (first ++ in_turn before) ++ some ≡ online_group F ++ ((x ++ in_turn before) ++ some) =
      ap (λ (ss : List Store). ((online_group F ++ ss) ++ in_turn before) ++ some) (head-eq_of_cons-eq e) ∙ simp append_assoc in
      subst (λ (i : Image). Stands img i img)
      (ap (λ (ss : List Store). carry_all ss img) stores ∙ carry_all_append (online_group F) ((x ++ in_turn before) ++ some) img)
      (subst (λ (i : Image). Stands img (carry_all (in_turn (first ∷ before) ++ some) img) i)
      (amid_early img r left (commit_group F) (offline_group F) some)
      (in_six img r a (first ∷ before) group (left ++ (commit_group F ∷ offline_group F ∷ [])) all some h))

-- they are the stores before the commit store
five_turn : (img : Image) (r : Request) → in_turn (five_groups img r) ≡ early_stores img r
unfolding in_turn
five_turn img r = simp append-nil

-- by their syncs too
pub four_turn : (img : Image) (r : Request) → in_turn (four_groups img r) ≡ early_stores img r
unfolding in_turn
four_turn img r = simp append-nil

-- groups 2 to 6 of each entry
abbrev as_groups : Grouping
as_groups = record { early = five_groups; turn = five_turn; amid = five_stand }

-- those by their syncs
abbrev pub by_syncs : Grouping
by_syncs = record { early = four_groups; turn = four_turn; amid = four_stand }

-- the groups of a batch behind the first
each_groups : (img : Image) (rs : List Request) (off : List Store) → groups_of_each img rs ++ (off ∷ []) ≡ each_then as_groups img rs off
unfolding groups_of_each entry_groups groups each_then
each_groups img [] off = refl
each_groups img (r ∷ rs) off =
    ap (λ (gs : List (List Store)). five_groups img r ++ (commit_group (model img) ∷ gs)) (each_groups (appended img r) rs off)

-- those of entries behind the first, by their syncs
each_synced : (img : Image) (rs : List Request) (off : List Store)
    → together (later_shares (length rs)) (groups_of_each img rs ++ (off ∷ [])) ≡ each_then by_syncs img rs off
unfolding groups_of_each entry_groups groups each_then together later_shares
each_synced img [] off = ap (λ (g : List Store). g ∷ []) (one_in_turn off)
each_synced img (r ∷ rs) off =
    let F = model img in
    rw (
      one_in_turn (object_group F r),
      one_in_turn (counter_group F r),
      one_in_turn (link_group F r),
      both_in_turn (count_group F r) (fact_group F r),
      one_in_turn (commit_group F),
    ) (ap (λ (gs : List (List Store)). four_groups img r ++ (commit_group F ∷ gs)) (each_synced (appended img r) rs off))

module _ (img : Image) (r : Request) (rs : List Request) (all : AcceptsAll img (r ∷ rs)) where
  -- the append of the first entry is accepted
  first : Accepted img r
  first = first_accepted img r rs all

  -- group 1 commits nothing
  online_none : NoneOf n_entries (online_group (model img))
  unfolding stores_for store_of state_update
  online_none s m = ap (is_of n_entries) (Memᴰ.eq_of_singleton m)

  -- nor does a list of stores of which none is a commit store
  quiet : (from : Image) (some : List Store) → NoneOf n_entries some → Stands img (carry_all some from) img
      → Stands img (carry_all some from) (with_first (min 1 (commit_stores some)) img (r ∷ rs))
  quiet from some n s =
      subst (λ (i : Image). Stands img (carry_all some from) i) (sym (first-none _ img (r ∷ rs) (omega (arith, commits_none some n)))) s

  -- a first group that commits nothing, and those behind it
  front : (g : List Store) (gs : List (List Store)) → NoneOf n_entries g → ((some : List Store) → SomeOf some g → Stands img (carry_all some img) img)
      → Walks img (carry_all g img) gs img (r ∷ rs) → Walks img img (g ∷ gs) img (r ∷ rs)
  front g gs n here later =
      walks_then img img (g ∷ []) gs img (r ∷ rs) img (r ∷ rs)
      (walks_one img img g img (r ∷ rs) (λ some h. quiet img some (λ s m. n s (h s m)) (here some h)))
      (λ j. first-same _ j img (r ∷ rs) (ap commit_stores (one_in_turn g) ∙ commits_none g n))
      (subst (λ (ss : List Store). Walks img (carry_all ss img) gs img (r ∷ rs)) (sym (one_in_turn g)) later)

  -- the batch, group by group
  in_order : Walks img img (batch_groups img (r ∷ rs)) img (r ∷ rs)
  unfolding batch_groups groups answers_amid in_turn
  in_order =
      let F = model img in
      let off = offline_group F in
      subst (λ (gs : List (List Store)). Walks img img (online_group F ∷ gs) img (r ∷ rs)) (sym (each_groups img (r ∷ rs) off))
      (front (online_group F) (each_then as_groups img (r ∷ rs) off) online_none (λ some h. in_groups img r first [] (online_group F) _ refl some h)
      (walks_each as_groups img r rs off all refl))

  -- by its syncs
  pub synced_are : batch_synced img (r ∷ rs)
      ≡ (online_group (model img) ++ object_group (model img) r) ∷ drop 1 (each_then by_syncs img (r ∷ rs) (offline_group (model img)))
  unfolding batch_synced batch_groups groups_of_each entry_groups groups each_then together shares
  synced_are =
      let F = model img in
      rw (
        both_in_turn (online_group F) (object_group F r),
        one_in_turn (counter_group F r),
        one_in_turn (link_group F r),
        both_in_turn (count_group F r) (fact_group F r),
        one_in_turn (commit_group F),
      ) (ap (λ (gs : List (List Store)). (online_group F ++ object_group F r) ∷ (drop 1 (four_groups img r) ++ (commit_group F ∷ gs)))
      (each_synced (appended img r) rs (offline_group F)))

  -- sync by sync
  in_syncs : Walks img img (batch_synced img (r ∷ rs)) img (r ∷ rs)
  unfolding answers_amid each_then in_turn
  in_syncs =
      let F = model img in
      let off = offline_group F in
      let g = online_group F ++ object_group F r in
      let later = drop 1 (each_then by_syncs img (r ∷ rs) off) in
      let none : NoneOf n_entries (object_group F r) = λ s m. early_no_commit img r first s (Memᴰ.append_left _ m) in
      subst (λ (gs : List (List Store)). Walks img img gs img (r ∷ rs)) (sym synced_are)
      (front g later (of_both (online_group F) (object_group F r) online_none none) (λ some h. in_six img r first [] g _ refl some h)
      (subst (λ (i : Image). Walks img i later img (r ∷ rs)) (sym (carry_all_append (online_group F) (object_group F r) img))
      (walks_behind img (online img) (object_group F r) later img (r ∷ rs) (commits_none (object_group F r) none)
      (walks_each by_syncs img r rs off all refl))))

-- a batch has an entry
pub some_first : (P : List Request → Type 0) (rs : List Request) → 1 ≤ length rs → ((r : Request) (later : List Request) → P (r ∷ later)) → P rs
some_first P [] l f = absurd (omega arith)
some_first P (r ∷ rs) l f = f r rs

-- demand 3 where no order is kept inside a group
pub demand3_batch_any_order : Demand3BatchAnyOrder
demand3_batch_any_order img machine buffer n given clear =
    let t = batch_taken img machine buffer n given clear in
    some_first (λ rs. AcceptsAll img rs → Walks img img (batch_groups img rs) img rs) (requests_of machine buffer) t.some (in_order img) t.all

-- demand 3 between the points behind which a host syncs
pub demand3_batch_synced : Demand3BatchSynced
demand3_batch_synced img machine buffer n given clear =
    let t = batch_taken img machine buffer n given clear in
    some_first (λ rs. AcceptsAll img rs → Walks img img (batch_synced img rs) img rs) (requests_of machine buffer) t.some (in_syncs img) t.all
