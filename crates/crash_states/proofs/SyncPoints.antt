-- Where a host has to sync, read off the stores of an accepted append: the groups are read from the last to the first, each behind the
-- one before it, and an empty one has no point of its own.
use mathlib.Core.Path.{◌≡◌, refl, sym, ap, ◌∙◌}
use mathlib.Core.Bool.{Bool, true, false}
use mathlib.Core.List.Memᴰ
use mathlib.Core.List.{List, [], ◌∷◌, ◌++◌, append-nil}
use Prim.Native.Nat.{ℕ, ◌+◌, ◌*◌, ◌/◌, ◌<◌}
use native.Mathlib.Omega.{arith}
use lib.Dec.{eqb}
use lib.ListN.{length, take, drop, length-append}
use lib.Seq.{take_at, take_all}
use Rattle.format.specs.Number.{number_at}
use Rattle.format.specs.Header.{Image, boot_id}
use Rattle.format.specs.File.{File, model, header}
use Rattle.format.specs.Stores.{Store, store_bytes, written, read_stores}
use Rattle.format.proofs.StoreLists.{Each, Wide, length_store_bytes, read_stores_bytes}
use Rattle.writing.specs.Request.{Request}
use Rattle.writing.specs.Plan.{store_of, stores_for, state_update, counter_updates, fact_updates, commit_update, groups, in_turn, stores_of, need}
use Rattle.writing.specs.Syncs.{is_counter, link_or_count, next_group, next_first, sync_of, points_from, sync_points, list_points, together, synced, ends_from}
use Rattle.writing.specs.declared.sync.Group.{Group}
use Rattle.writing.specs.declared.sync.Group.TheVariants.{Online, Objects, Counters, Links, Counts, Facts}
use Rattle.crash_states.specs.Demand.{SyncsRead}
use Rattle.crash_states.proofs.Accepted.{Accepted}
use Rattle.crash_states.proofs.AcceptedFrom.{accepted}
use Rattle.crash_states.proofs.Groups.{online_group, object_group, counter_group, link_group, count_group, fact_group, commit_group, offline_group}
use Rattle.crash_states.proofs.CutOutcomes.{stores_in_turn}
use Rattle.crash_states.proofs.StoresFit.{stores_wide}
use Rattle.crash_states.proofs.ListCuts.{list_is}
use Rattle.crash_states.proofs.SyncRuns.{Leads, AllLead, point_if, points_group, ends_group}
use Rattle.crash_states.proofs.SyncGroups.{objects_begin, links_begin, links_stay, counts_after_counters, counts_after_links, counts_stay, facts_stay}

-- the stores of two groups, behind n others
in_turn_length : (n : ℕ) (ss ts : List Store) → n + length ss + length ts ≡ n + length (ss ++ (ts ++ []))
in_turn_length n ss ts = omega (arith, length-append ss (ts ++ []), ap length (append-nil ts))

module _ (img : Image) (r : Request) (a : Accepted img r) where
  -- the old file
  abbrev F : File
  F = model img

  -- (7) and (8), as stores and as groups
  abbrev stores7 : List Store
  stores7 = commit_group F ++ (offline_group F ++ [])

  abbrev groups7 : List (List Store)
  groups7 = (commit_group F ++ []) ∷ (offline_group F ++ []) ∷ []

  -- from (5) on
  abbrev stores5 : List Store
  stores5 = count_group F r ++ (fact_group F r ++ stores7)

  abbrev groups5 : List (List Store)
  groups5 = (count_group F r ++ (fact_group F r ++ [])) ∷ groups7

  -- from (4) on
  abbrev stores4 : List Store
  stores4 = link_group F r ++ stores5

  abbrev groups4 : List (List Store)
  groups4 = (link_group F r ++ []) ∷ groups5

  -- from (3) on
  abbrev stores3 : List Store
  stores3 = counter_group F r ++ stores4

  abbrev groups3 : List (List Store)
  groups3 = (counter_group F r ++ []) ∷ groups4

  -- (7), n_entries, and (8), the state
  read7 : (n : ℕ) → points_from n Facts F.end stores7 ≡ n ∷ ends_from n groups7
  unfolding points_from next_group next_first sync_of ends_from stores_for store_of commit_update state_update
  read7 n = refl

  -- the store of the boot id
  abbrev boot : Store
  boot = store_of F (record { word = header boot_id; value = number_at 8 r.stamp.boot 0 })

  -- (6), which begins with it, behind counters, links or counts
  read6 : (g : Group) (n : ℕ) (same : Bool) → Leads g F.end Facts F.end boot → eqb (sync_of g) (sync_of Facts) ≡ same
      → points_from n g F.end (fact_group F r ++ stores7) ≡ point_if same n (points_from (n + length (fact_group F r)) Facts F.end stores7)
  unfolding fact_updates stores_for
  read6 g n same l e = points_group g F.end n Facts F.end boot (drop 1 (fact_group F r)) stores7 same l (λ s m. facts_stay img r a s (Memᴰ.tail m)) e

  -- (5) and (6), of which (5) may be empty
  both56 : (g : Group) (n : ℕ) (cs : List Store) → ((s : Store) (ss : List Store) → cs ≡ s ∷ ss → Leads g F.end Counts F.end s) → AllLead Counts F.end Counts cs → Leads g F.end Facts F.end boot
      → eqb (sync_of g) 4 ≡ false → points_from n g F.end (cs ++ (fact_group F r ++ stores7)) ≡ n ∷ points_from (n + length (cs ++ (fact_group F r ++ []))) Facts F.end stores7
  unfolding point_if sync_of next_group next_first store_of
  both56 g n [] lead stay l e = read6 g n false l e ∙ ap (λ (fs : List Store). n ∷ points_from (n + length fs) Facts F.end stores7) (sym (append-nil (fact_group F r)))
  both56 g n (s ∷ ss) lead stay l e =
      let cs = s ∷ ss in
      points_group g F.end n Counts F.end s ss (fact_group F r ++ stores7) false (lead s ss refl) (λ t m. stay t (Memᴰ.tail m)) e
      ∙ ap (λ (l : List ℕ). n ∷ l) (read6 Counts (n + length cs) true (refl, refl) refl ∙ ap (λ (m : ℕ). points_from m Facts F.end stores7) (in_turn_length n cs (fact_group F r)))

  -- (6) is not empty
  some56 : 0 < length (count_group F r ++ (fact_group F r ++ []))
  unfolding fact_updates stores_for
  some56 = simp length-append (omega arith)

  -- from (5) on, behind counters or links
  read5 : (g : Group) (n : ℕ) → ((s : Store) (ss : List Store) → count_group F r ≡ s ∷ ss → Leads g F.end Counts F.end s) → Leads g F.end Facts F.end boot → eqb (sync_of g) 4 ≡ false
      → points_from n g F.end stores5 ≡ n ∷ ends_from n groups5
  read5 g n lead l e =
      both56 g n (count_group F r) lead (counts_stay img r a) l e
      ∙ ap (λ (l : List ℕ). n ∷ l) (read7 (n + length (count_group F r ++ (fact_group F r ++ []))) ∙ sym (ends_group n (count_group F r ++ (fact_group F r ++ [])) groups7 some56))

  -- (4), which may be empty
  links_read : (n : ℕ) (ls : List Store) → AllLead Counters F.end Links ls → AllLead Links F.end Links ls
      → points_from n Counters F.end (ls ++ stores5) ≡ n ∷ ends_from n (ls ∷ groups5)
  unfolding point_if sync_of next_group is_counter link_or_count next_first ends_from store_of
  links_read n [] lead stay = read5 Counters n (counts_after_counters img r a) (refl, refl) refl
  links_read n (s ∷ ss) lead stay =
      points_group Counters F.end n Links F.end s ss stores5 false (lead s (Memᴰ.head refl)) (λ t m. stay t (Memᴰ.tail m)) refl
      ∙ ap (λ (l : List ℕ). n ∷ l) (read5 Links (n + length (s ∷ ss)) (counts_after_links img r a) (refl, refl) refl)

  -- from (4) on
  read4 : (n : ℕ) → points_from n Counters F.end stores4 ≡ n ∷ ends_from n groups4
  read4 n = links_read n (link_group F r) (links_begin img r a) (links_stay img r a) ∙ ap (λ (ls : List Store). n ∷ ends_from n (ls ∷ groups5)) (sym (append-nil (link_group F r)))

  -- (3), the five counters by rising offset
  read3 : (n : ℕ) → points_from n Objects F.end stores3 ≡ n ∷ ends_from n groups3
  unfolding points_from next_group is_counter next_first sync_of ends_from stores_for store_of counter_updates
  read3 n = let e : n + 1 + 1 + 1 + 1 + 1 ≡ n + 5 = omega arith in ap (λ (l : List ℕ). n ∷ l) (read4 (n + 1 + 1 + 1 + 1 + 1) ∙ ap (λ (m : ℕ). m ∷ ends_from m groups4) e)

  -- all groups: (1) is one store, and (2) behind it shares its sync
  pub points_read : sync_points (stores_of img r) ≡ ends_from 0 (synced (groups F r))
  unfolding sync_points point_if sync_of synced together groups in_turn stores_for
  points_read =
      let o = objects_begin img r a in
      let k = points_group Online 0 1 Objects F.end o.store o.others stores3 true o.leads o.stay refl in
      let e = in_turn_length 0 (online_group F) (object_group F r) in
      ap sync_points (stores_in_turn img r a)
      ∙ ap (λ (os : List Store). points_from 1 Online 0 (os ++ stores3)) o.whole ∙ k
      ∙ ap (λ (os : List Store). points_from (1 + length os) Objects F.end stores3) (sym o.whole)
      ∙ read3 (1 + length (object_group F r)) ∙ ap (λ (m : ℕ). m ∷ ends_from m groups3) e
      ∙ sym (ends_group 0 (online_group F ++ (object_group F r ++ [])) groups3 (omega arith))

-- of any list that holds stores of 64-bit numbers and no more, all are read
pub list_points_lem : (ss : List Store) → Each Wide ss → list_points (store_bytes ss) ≡ sync_points ss
unfolding list_points
list_points_lem ss w =
    let n : length (store_bytes ss) / 16 ≡ length ss = omega (arith, length_store_bytes ss) in
    ap (λ (k : ℕ). sync_points (read_stores k (store_bytes ss))) n
    ∙ ap sync_points (ap (read_stores (length ss)) (sym (append-nil (store_bytes ss))) ∙ read_stores_bytes (length ss) ss [] (omega arith) w ∙ take_all (length ss) ss (omega arith))

-- where a host has to sync
pub syncs_read : SyncsRead
unfolding need written
syncs_read img r list given clear =
    let a = accepted img r (length list) clear given in
    let ss = stores_of img r in
    ap (λ (l : List ℕ). list_points (take (16 * length ss) l)) (list_is img r list given clear 0 (omega arith))
    ∙ ap list_points (take_at (store_bytes ss) (drop (16 * (0 + length ss)) list) (16 * length ss) (length_store_bytes ss))
    ∙ list_points_lem ss (stores_wide img r a) ∙ points_read img r a
