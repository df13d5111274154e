-- Where a host has to sync, read off the stores of an accepted batch: among the stores of an entry the points lie as among those of its
-- own append (`points-read`), because its last store is read as the commit store of group 7, and a store of group 2 behind it begins
-- the next entry as one behind group 1 begins the first, but for the point before it.
use mathlib.Core.Path.{◌≡◌, refl, sym, ap, ap₂, ◌∙◌, subst}
use mathlib.Core.Bool.{Bool, true, false}
use mathlib.Core.List.{List, [], ◌∷◌, ◌++◌, append_assoc, append-nil, append_cancel_right, map, map-append, Memᴰ}
use Prim.Native.Nat.{ℕ, ◌+◌, ◌*◌, ◌<◌}
use native.Mathlib.Nat.{add-zero}
use native.Mathlib.Omega.{arith}
use lib.ListN.{length, take, drop}
use lib.Seq.{take_at}
use Rattle.format.specs.Header.{Image, state}
use Rattle.format.specs.File.{model}
use Rattle.format.specs.Stores.{Store, store_bytes, written}
use Rattle.format.proofs.StoreLists.{length_store_bytes}
use Rattle.writing.specs.Request.{Request}
use Rattle.writing.specs.Plan.{store_of, stores_for, state_update, groups, in_turn, stores_of, appended}
use Rattle.writing.specs.Batch.{requests_of, groups_of_each, batch_stores, batch_need}
use Rattle.writing.specs.Syncs.{is_of, next_group, next_first, sync_of, points_from, sync_points, list_points, synced, ends_from}
use Rattle.writing.specs.declared.sync.Group.{Group}
use Rattle.writing.specs.declared.sync.Group.TheVariants.{Online, Objects, Commit, Offline}
use Rattle.crash_states.proofs.Accepted.{Accepted}
use Rattle.crash_states.proofs.Groups.{online_group, object_group, counter_group, link_group, count_group, fact_group, commit_group, offline_group}
use Rattle.crash_states.proofs.SyncRuns.{point_if, points_store, ends_group}
use Rattle.crash_states.proofs.SyncGroups.{objects_begin}
use Rattle.crash_states.proofs.SyncPoints.{points_read, list_points_lem}
use Rattle.crash_states.proofs.Synced.{six_are}
use Rattle.next_append.specs.Next.{AcceptsAll}
use Rattle.batch_states.specs.BatchSyncs.{batch_synced, BatchSyncsRead}
use Rattle.batch_states.proofs.EntryStores.{entry_stores, early_stores, entry_parts, append_parts, entry_no_state, offline_same}
use Rattle.batch_states.proofs.BatchAccepted.{batch_taken}
use Rattle.batch_states.proofs.BatchCuts.{later_stores, batch_parts, later_next}
use Rattle.batch_states.proofs.BatchDemands.{batch_carried, first_accepted, list_is}
use Rattle.batch_states.proofs.PointParts.{first_after, points_in, points_parts, points_shift, ends_shift, ends_parts}
use Rattle.batch_states.proofs.CommitRead.{after_entry_lem}
use Rattle.batch_states.proofs.EntryWalks.{each_then}
use Rattle.batch_states.proofs.BatchAnyOrder.{four_groups, by_syncs, synced_are, some_first}

-- behind the commit store a store that is none of the state begins an entry as behind the first store, with a point before it
commit_begins : (n first : ℕ) (s : Store) (ss : List Store) → is_of state s ≡ false
    → points_from n Commit first (s ∷ ss) ≡ n ∷ points_from n Online 0 (s ∷ ss)
unfolding point_if next_group next_first sync_of
commit_begins n first s ss e =
    points_store Commit first n Objects s.at s ss false
    (ap (λ (b : Bool). elim b as (λ _. Group) [ true ↦ Offline | false ↦ Objects ]) e, refl) refl
    ∙ ap (λ (l : List ℕ). n ∷ l) (sym (points_store Online 0 n Objects s.at s ss true (refl, refl) refl))

module _ (img : Image) (r : Request) (a : Accepted img r) where
  -- (1) to (7), by their syncs
  abbrev five : List (List Store)
  five = (online_group (model img) ++ object_group (model img) r) ∷ counter_group (model img) r ∷ link_group (model img) r
      ∷ (count_group (model img) r ++ fact_group (model img) r) ∷ commit_group (model img) ∷ []

  -- one store and those of the entry
  five_turn : in_turn five ≡ online_group (model img) ++ entry_stores img r
  unfolding in_turn
  five_turn =
      let e : in_turn five ≡ online_group (model img) ++ (early_stores img r ++ commit_group (model img)) = simp (append_assoc, append-nil) in
      e ∙ ap (λ (ss : List Store). online_group (model img) ++ ss) (sym (entry_parts img r))

  -- so many
  five_long : length (in_turn five) ≡ 1 + length (entry_stores img r)
  unfolding stores_for
  five_long = let e = ap length five_turn in omega arith

  -- the points of the append
  own_points : sync_points (stores_of img r)
      ≡ (points_in 1 Online 0 (entry_stores img r) ++ ((1 + length (entry_stores img r)) ∷ [])) ++ ((1 + length (entry_stores img r) + 1) ∷ [])
  unfolding sync_points points_from next_group sync_of stores_for store_of state_update
  own_points =
      let es = entry_stores img r in
      let off = offline_group (model img) in
      ap sync_points (append_parts img r) ∙ points_parts 1 Online 0 es off
      ∙ ap (λ (g : Group). points_in 1 Online 0 es ++ points_from (1 + length es) g (first_after Online 0 es) off) (after_entry_lem img r a 0)
      ∙ sym (append_assoc (points_in 1 Online 0 es) ((1 + length es) ∷ []) ((1 + length es + 1) ∷ []))

  -- and its groups
  own-ends : ends_from 0 (synced (groups (model img) r)) ≡ ends_from 0 five ++ ((1 + length (entry_stores img r) + 1) ∷ [])
  unfolding ends_from stores_for
  own-ends =
      let e : 0 + length (in_turn five) ≡ 1 + length (entry_stores img r) = omega (arith, five_long) in
      ap (ends_from 0) (six_are img r a) ∙ ends_parts 0 five (offline_group (model img) ∷ []) ∙ ap (λ (n : ℕ). ends_from 0 five ++ ((n + 1) ∷ [])) e

  -- so the points among the stores of an entry, and one behind them, are the ends of those
  entry_points : points_in 1 Online 0 (entry_stores img r) ++ ((1 + length (entry_stores img r)) ∷ []) ≡ ends_from 0 five
  entry_points =
      append_cancel_right (points_in 1 Online 0 (entry_stores img r) ++ ((1 + length (entry_stores img r)) ∷ [])) (ends_from 0 five)
      ((1 + length (entry_stores img r) + 1) ∷ [])
      (sym own_points ∙ points_read img r a ∙ own-ends)

  -- behind m stores
  entry_points_behind : (m : ℕ) → points_in (m + 1) Online 0 (entry_stores img r) ++ ((m + 1 + length (entry_stores img r)) ∷ []) ≡ ends_from m five
  entry_points_behind m =
      let es = entry_stores img r in
      let e : m + (1 + length es) ≡ m + 1 + length es = omega arith in
      ap₂ (λ (ps : List ℕ) (n : ℕ). ps ++ (n ∷ [])) (sym (points_shift m 1 Online 0 es)) (sym e)
      ∙ sym (map-append (λ k. m + k) (points_in 1 Online 0 es) ((1 + length es) ∷ []))
      ∙ ap (map (λ k. m + k)) entry_points ∙ ends_shift m 0 five ∙ ap (λ (n : ℕ). ends_from n five) (add-zero m)

  -- stores behind an entry, and groups, of which those begin with a point and go on with the ends of these
  abbrev Follows : ℕ → List Store → List (List Store) → Type 0
  Follows n rest later = (first : ℕ) → points_from n Commit first rest ≡ n ∷ ends_from n later

  -- an entry behind the store of group 1, and what follows
  entry_read : (m : ℕ) (rest : List Store) (later : List (List Store)) → Follows (m + 1 + length (entry_stores img r)) rest later
      → points_from (m + 1) Online 0 (entry_stores img r ++ rest) ≡ ends_from m (five ++ later)
  entry_read m rest later follows =
      let es = entry_stores img r in
      let n = m + 1 + length es in
      let first = first_after Online 0 es in
      let e : m + length (in_turn five) ≡ n = omega (arith, five_long) in
      points_parts (m + 1) Online 0 es rest
      ∙ ap (λ (g : Group). points_in (m + 1) Online 0 es ++ points_from n g first rest) (after_entry_lem img r a 0)
      ∙ ap (λ (ps : List ℕ). points_in (m + 1) Online 0 es ++ ps) (follows first)
      ∙ sym (append_assoc (points_in (m + 1) Online 0 es) (n ∷ []) (ends_from n later))
      ∙ ap (λ (ps : List ℕ). ps ++ ends_from n later) (entry_points_behind m)
      ∙ ap (λ (k : ℕ). ends_from m five ++ ends_from k later) (sym e) ∙ sym (ends_parts m five later)

  -- the first group by its syncs ends where its objects end, with the store of group 1 or behind it
  same_ends : (m : ℕ) (later : List (List Store))
      → ends_from m (five ++ later) ≡ ends_from (m + 1) (four_groups img r ++ (commit_group (model img) ∷ later))
  unfolding stores_for
  same_ends m later =
      let o = objects_begin img r a in
      let os = object_group (model img) r in
      let some : 0 < length os = omega (arith, ap length o.whole) in
      let gs = drop 1 (four_groups img r) ++ (commit_group (model img) ∷ later) in
      let e : m + length (online_group (model img) ++ os) ≡ m + 1 + length os = omega arith in
      ends_group m (online_group (model img) ++ os) gs (omega arith) ∙ ap (λ (n : ℕ). n ∷ ends_from n gs) e ∙ sym (ends_group (m + 1) os gs some)

  -- an entry behind another, and what follows
  entry_follows : (m : ℕ) (rest : List Store) (later : List (List Store)) → Follows (m + 1 + length (entry_stores img r)) rest later
      → Follows (m + 1) (entry_stores img r ++ rest) (four_groups img r ++ (commit_group (model img) ∷ later))
  entry_follows m rest later follows first =
      let o = objects_begin img r a in
      let F = model img in
      let middle = counter_group F r ++ (link_group F r ++ (count_group F r ++ fact_group F r)) in
      let others = (o.others ++ middle) ++ commit_group F in
      let e : entry_stores img r ≡ o.store ∷ others = entry_parts img r ∙ ap (λ (os : List Store). (os ++ middle) ++ commit_group F) o.whole in
      let z = entry_no_state img r a o.store (subst (λ (ss : List Store). Memᴰ o.store ss) (sym e) (Memᴰ.head refl)) in
      ap (λ (ss : List Store). points_from (m + 1) Commit first (ss ++ rest)) e ∙ commit_begins (m + 1) first o.store (others ++ rest) z
      ∙ ap (λ (ss : List Store). (m + 1) ∷ points_from (m + 1) Online 0 (ss ++ rest)) (sym e)
      ∙ ap (λ (ps : List ℕ). (m + 1) ∷ ps) (entry_read m rest later follows ∙ same_ends m later)

-- group 8 alone
offline_follows : (img : Image) (n first : ℕ) → points_from n Commit first (later_stores img []) ≡ n ∷ ends_from n (offline_group (model img) ∷ [])
unfolding groups_of_each in_turn points_from next_group sync_of ends_from stores_for store_of state_update
offline_follows img n first = refl

-- the stores behind an entry, of all entries behind it and of group 8
later_follow : (img : Image) (rs : List Request) (off : List Store) → AcceptsAll img rs → offline_group (model img) ≡ off → (m first : ℕ)
    → points_from (m + 1) Commit first (later_stores img rs) ≡ (m + 1) ∷ ends_from (m + 1) (each_then by_syncs img rs off)
unfolding each_then
later_follow img [] off all e m first = offline_follows img (m + 1) first ∙ ap (λ (g : List Store). (m + 1) ∷ ends_from (m + 1) (g ∷ [])) e
later_follow img (r ∷ rs) off all e m first =
    let a = first_accepted img r rs all in
    let n = length (entry_stores img r) in
    let k : m + n + 1 ≡ m + 1 + n = omega arith in
    let later = each_then by_syncs (appended img r) rs off in
    ap (points_from (m + 1) Commit first) (later_next img r a rs)
    ∙ entry_follows img r a m (later_stores (appended img r) rs) later
    (λ f. subst (λ (i : ℕ). points_from i Commit f (later_stores (appended img r) rs) ≡ i ∷ ends_from i later) k
    (later_follow (appended img r) rs off all.2 (offline_same img r a ∙ e) (m + n) f)) first

-- the points of a batch
batch_points : (img : Image) (r : Request) (rs : List Request) → AcceptsAll img (r ∷ rs)
    → sync_points (batch_stores img (r ∷ rs)) ≡ ends_from 0 (batch_synced img (r ∷ rs))
unfolding sync_points stores_for each_then
batch_points img r rs all =
    let a = first_accepted img r rs all in
    let n = length (entry_stores img r) in
    let k : n + 1 ≡ 0 + 1 + n = omega arith in
    let later = each_then by_syncs (appended img r) rs (offline_group (model img)) in
    ap sync_points (batch_parts img (r ∷ rs)) ∙ ap (points_from 1 Online 0) (later_next img r a rs)
    ∙ entry_read img r a 0 (later_stores (appended img r) rs) later
    (λ f. subst (λ (i : ℕ). points_from i Commit f (later_stores (appended img r) rs) ≡ i ∷ ends_from i later) k
    (later_follow (appended img r) rs (offline_group (model img)) all.2 (offline_same img r a) n f))
    ∙ ap (ends_from 0) (sym (synced_are img r rs all))

-- where a host has to sync
pub batch_syncs_read : BatchSyncsRead
unfolding batch_need written
batch_syncs_read img machine buffer list given clear =
    let rs = requests_of machine buffer in
    let t = batch_taken img machine buffer (length list) given clear in
    let ss = batch_stores img rs in
    ap (λ (l : List ℕ). list_points (take (16 * length ss) l)) (list_is img machine buffer list given clear)
    ∙ ap list_points (take_at (store_bytes ss) (drop (16 * (0 + length ss)) list) (16 * length ss) (length_store_bytes ss))
    ∙ list_points_lem ss (batch_carried img rs t.some t.all).wide
    ∙ some_first (λ rs. AcceptsAll img rs → sync_points (batch_stores img rs) ≡ ends_from 0 (batch_synced img rs)) rs t.some (batch_points img)
    t.all
