-- The last store of an entry is read as its commit store, whatever entry it is: (2) leads to the objects and (3) to the counters, no
-- store of (4) and (5) leads from there to a commit, (6) begins with the boot id and leads to the facts, and n_entries to the commit.
use mathlib.Core.Path.{◌≡◌, refl, sym, ap, ◌∙◌, subst}
use mathlib.Core.Bool.{Bool, true, false}
use mathlib.Core.List.Memᴰ
use mathlib.Core.List.{List, [], ◌∷◌, ◌++◌, append_assoc, Memᴰ}
use Prim.Native.Nat.{ℕ}
use lib.Dec.{ltb}
use lib.ListN.{drop}
use Rattle.format.specs.Number.{number_at}
use Rattle.format.specs.Header.{Image, boot_id, n_entries}
use Rattle.format.specs.File.{model, header}
use Rattle.format.specs.Stores.{Store}
use Rattle.writing.specs.Request.{Request}
use Rattle.writing.specs.Plan.{store_of, stores_for, counter_updates, fact_updates, commit_update}
use Rattle.writing.specs.Syncs.{is_of, is_counter, link_or_count, next_group, next_first}
use Rattle.writing.specs.declared.sync.Group.{Group}
use Rattle.writing.specs.declared.sync.Group.TheVariants.{Online, Objects, Counters, Links, Counts, Facts, Commit, Offline}
use Rattle.crash_states.proofs.Accepted.{Accepted}
use Rattle.crash_states.proofs.Groups.{object_group, counter_group, link_group, count_group, fact_group, commit_group}
use Rattle.crash_states.proofs.SyncRuns.{AllLead}
use Rattle.crash_states.proofs.SyncGroups.{objects_begin}
use Rattle.batch_states.proofs.EntryStores.{NoneOf, entry_stores, entry_parts, early_no_commit}
use Rattle.batch_states.proofs.PointParts.{group_after, first_after, after-append, after_then}

-- behind (2) of an entry and before its commit store
abbrev Amid : Group → Type 0
Amid Online = ⊥
Amid Objects = ⊥
Amid Counters = Unit {0}
Amid Links = Unit {0}
Amid Counts = Unit {0}
Amid Facts = Unit {0}
Amid Commit = ⊥
Amid Offline = ⊥

-- a link, a count or the boot id stand there
link_amid : (boot low : Bool) → Amid (elim boot as (λ _. Group) [ true ↦ Facts | false ↦ elim low as (λ _. Group) [ true ↦ Counts | false ↦ Links ] ])
link_amid true low = tt
link_amid false true = tt
link_amid false false = tt

-- a store that is none to n_entries stays there
amid_next : (g : Group) (first : ℕ) (s : Store) → is_of n_entries s ≡ false → Amid g → Amid (next_group g first s)
unfolding next_group link_or_count
amid_next Online first s n a = absurd a
amid_next Objects first s n a = absurd a
amid_next Counters first s n a = go (is_counter s)
  where
    go : (b : Bool) → Amid (elim b as (λ _. Group) [ true ↦ Counters | false ↦ link_or_count first s ])
    go true = tt
    go false = link_amid (is_of boot_id s) (ltb s.value first)
amid_next Links first s n a = link_amid (is_of boot_id s) (ltb s.value first)
amid_next Counts first s n a = go (is_of boot_id s)
  where
    go : (b : Bool) → Amid (elim b as (λ _. Group) [ true ↦ Facts | false ↦ Counts ])
    go true = tt
    go false = tt
amid_next Facts first s n a = subst (λ (b : Bool). Amid (elim b as (λ _. Group) [ true ↦ Commit | false ↦ Facts ])) (sym n) tt
amid_next Commit first s n a = absurd a
amid_next Offline first s n a = absurd a

-- and so do some
amid_run : (g : Group) (first : ℕ) (ss : List Store) → NoneOf n_entries ss → Amid g → Amid (group_after g first ss)
unfolding group_after
amid_run g first [] n a = a
amid_run g first (s ∷ ss) n a =
    amid_run (next_group g first s) (next_first g first s) ss (λ t m. n t (Memᴰ.tail m)) (amid_next g first s (n s (Memᴰ.head refl)) a)

-- the facts go on
facts_run : (first : ℕ) (ss : List Store) → NoneOf n_entries ss → group_after Facts first ss ≡ Facts
unfolding group_after next_group next_first
facts_run first [] n = refl
facts_run first (s ∷ ss) n =
    ap (λ (b : Bool). group_after (elim b as (λ _. Group) [ true ↦ Commit | false ↦ Facts ]) first ss) (n s (Memᴰ.head refl))
    ∙ facts_run first ss (λ t m. n t (Memᴰ.tail m))

-- the objects go on
objects_run : (at first : ℕ) (ss : List Store) → AllLead Objects at Objects ss → group_after Objects first ss ≡ Objects
unfolding group_after next_group next_first
objects_run at first [] h = refl
objects_run at first (s ∷ ss) h =
    ap (λ (g : Group). group_after g first ss) (h s (Memᴰ.head refl)).0 ∙ objects_run at first ss (λ t m. h t (Memᴰ.tail m))

module _ (img : Image) (r : Request) (a : Accepted img r) where
  -- (2) leads to the objects
  after_objects : (first : ℕ) → group_after Online first (object_group (model img) r) ≡ Objects
  unfolding group_after next_group next_first
  after_objects first =
      let o = objects_begin img r a in
      ap (group_after Online first) o.whole ∙ objects_run (model img).end o.store.at o.others o.stay

  -- (3) from there to the counters
  after_counters : (first : ℕ) → group_after Objects first (counter_group (model img) r) ≡ Counters
  unfolding group_after next_group is_counter stores_for store_of counter_updates
  after_counters first = refl

  -- (6) begins with the boot id
  abbrev boot : Store
  boot = store_of (model img) (record { word = header boot_id; value = number_at 8 r.stamp.boot 0 })

  -- which leads to the facts
  boot_facts : (g : Group) (first : ℕ) → Amid g → next_group g first boot ≡ Facts
  unfolding next_group is_counter link_or_count store_of
  boot_facts Online first m = absurd m
  boot_facts Objects first m = absurd m
  boot_facts Counters first m = refl
  boot_facts Links first m = refl
  boot_facts Counts first m = refl
  boot_facts Facts first m = refl
  boot_facts Commit first m = absurd m
  boot_facts Offline first m = absurd m

  -- none of them is n_entries
  facts_none : NoneOf n_entries (fact_group (model img) r)
  facts_none s m =
      let F = model img in
      early_no_commit img r a s
      (Memᴰ.append_right (object_group F r) (Memᴰ.append_right (counter_group F r)
      (Memᴰ.append_right (link_group F r) (Memᴰ.append_right (count_group F r) m))))

  -- so they end with the facts
  after_facts : (g : Group) (first : ℕ) → Amid g → group_after g first (fact_group (model img) r) ≡ Facts
  unfolding group_after stores_for fact_updates
  after_facts g first m =
      ap (λ (h : Group). group_after h (next_first g first boot) (drop 1 (fact_group (model img) r))) (boot_facts g first m)
      ∙ facts_run (next_first g first boot) (drop 1 (fact_group (model img) r)) (λ s i. facts_none s (Memᴰ.tail i))

  -- links and counts are none either
  middle_none : NoneOf n_entries (link_group (model img) r ++ count_group (model img) r)
  middle_none s m =
      let F = model img in
      early_no_commit img r a s
      (Memᴰ.append_right (object_group F r) (Memᴰ.append_right (counter_group F r)
      (subst (λ (ss : List Store). Memᴰ s ss) (append_assoc (link_group F r) (count_group F r) (fact_group F r))
      (Memᴰ.append_left (fact_group F r) m))))

  -- (4) to (6), behind the counters
  after_middle : (first : ℕ) → group_after Counters first ((link_group (model img) r ++ count_group (model img) r) ++ fact_group (model img) r) ≡ Facts
  after_middle first =
      let ss = link_group (model img) r ++ count_group (model img) r in
      after-append Counters first ss (fact_group (model img) r)
      ∙ after_facts (group_after Counters first ss) (first_after Counters first ss) (amid_run Counters first ss middle_none tt)

  -- so the last store of an entry is read as (7)
  pub after_entry_lem : (first : ℕ) → group_after Online first (entry_stores img r) ≡ Commit
  unfolding group_after next_group stores_for store_of commit_update
  after_entry_lem first =
      let F = model img in
      let ls = link_group F r ++ count_group F r in
      let parts : entry_stores img r ≡ object_group F r ++ (counter_group F r ++ ((ls ++ fact_group F r) ++ commit_group F)) =
      entry_parts img r ∙ simp append_assoc in
      ap (group_after Online first) parts
      ∙ after_then Online Objects Commit (object_group F r) _ after_objects
      (after_then Objects Counters Commit (counter_group F r) _ after_counters
      (after_then Counters Facts Commit (ls ++ fact_group F r) (commit_group F) after_middle (λ f. refl))) first
