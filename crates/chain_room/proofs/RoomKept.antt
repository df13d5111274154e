-- The chains of a file have the arrays that their counted items ask for one by one, and an append keeps that: a chain that takes the
-- ENTRY has it in a spare item or in the next array, and any other keeps its arrays and its count.
use mathlib.Core.Path.{◌≡◌, refl, sym, ap, ◌∙◌, subst}
use mathlib.Core.Logic.{◌⊎◌, inl, inr}
use mathlib.Core.List.Memᴰ
use mathlib.Core.List.{List, [], ◌∷◌, ◌++◌, map, map-append, Memᴰ}
use Prim.Native.Nat.{ℕ, zero, suc, ◌-◌}
use native.Mathlib.Omega.{arith}
use lib.ListN.{length, length-append}
use Rattle.format.specs.Tests.{concat_map}
use Rattle.format.specs.Says.{In}
use Rattle.format.specs.Header.{n_entries, entry_array_offset}
use Rattle.format.specs.Kinds.{DATA, ENTRY_ARRAY}
use Rattle.format.specs.File.{File, Word, header, entry_array, data_count, next_array}
use Rattle.format.proofs.Lists.{map_in, map_agree}
use Rattle.reading.specs.Chains.{arrays, chain_items}
use Rattle.writing.specs.Request.{Stamp}
use Rattle.writing.specs.Placing.{placed, new_entry_at, old_items}
use Rattle.writing.specs.Growth.{item, taker_of, takers, next_room, new_room, after_entry}
use Rattle.writing.specs.Rooms.{total, rooms_onto, rooms_for, room_for}
use Rattle.writing.proofs.RoomLaws.{rooms_spare, rooms_full}
use Rattle.partial_append.specs.Formed.{Formed}
use Rattle.partial_append.specs.Extends.{Extends, Root, of_header, of_data, Stays, Written, in_spare, in_new, Counted, as_first, as_next}
use Rattle.partial_append.specs.Commits.{Commits}
use Rattle.partial_append.proofs.Course.{which}
use Rattle.partial_append.proofs.TrailLaws.{trail_none}
use Rattle.partial_append.proofs.ItemLaws.{items_of, length-cons}
use Rattle.partial_append.proofs.ChainsKept.{arrays_split, array_in, more_from}
use Rattle.plan_words.specs.Planned.{new_by}
use Rattle.plan_words.specs.Takes.{Takes}
use Rattle.plan_words.specs.Course.{Finished}
use Rattle.plan_words.proofs.Extending.{grown_from}
use Rattle.plan_words.proofs.Placing.{Placing}
use Rattle.chain_room.specs.Room.{rooms}
use Rattle.chain_room.proofs.ChainGrowth.{ChainNow, kept, longer, chain_now}

-- every chain has the arrays for the items that are counted
abbrev pub AllRooms : File → Type 0
AllRooms F = (w : Word) (n : ℕ) → Root F w n → rooms F w ≡ rooms_for n

-- arrays have as many items as they have room
room_items : (F : File) (xs : List ℕ) → total (map (λ a. F.room a) xs) ≡ length (items_of F xs)
unfolding total concat_map
room_items F [] = refl
room_items F (a ∷ xs) = omega (arith, length-cons F a xs, room_items F xs)

-- so has a chain
chain_total : (F : File) (w : Word) → total (rooms F w) ≡ length (chain_items F w)
unfolding chain_items
chain_total F w = room_items F (arrays F w)

-- the room of a chain by its counted items
pub room_counted : (F : File) (w : Word) (n : ℕ) → rooms F w ≡ rooms_for n → length (chain_items F w) ≡ room_for n
unfolding room_for
room_counted F w n h = sym (chain_total F w) ∙ ap total h

-- the chain of a DATA takes the ENTRY where that is one of the DATA that stand already, and counts
taker_data : (F : File) (ds : List ℕ) (d n : ℕ) → Memᴰ (item (entry_array d) n) (takers F ds) → In d ds × (F.read (data_count d) ≡ suc n)
unfolding takers taker_of
taker_data F ds d n m = go (Memᴰ.cases_cons m)
  where
    by : (y k : ℕ) → F.read (data_count y) ≡ k → In y ds → item (entry_array d) n ≡ taker_of y k → In d ds × (F.read (data_count d) ≡ suc n)
    by y zero q i p = absurd (let z : ◌≡◌ {A = ℕ} 0 1 = cc in omega arith)
    by y (suc k) q i p =
        let yd : y ≡ d = cc in
        let kn : k ≡ n = cc in
        (subst (λ (o : ℕ). In o ds) yd i, ap (λ (o : ℕ). F.read (data_count o)) (sym yd) ∙ q ∙ ap suc kn)

    go : (item (entry_array d) n ≡ item (header entry_array_offset) (F.read (header n_entries))) ⊎ Memᴰ (item (entry_array d) n) (map (λ y. taker_of y (F.read (data_count y))) ds)
        → In d ds × (F.read (data_count d) ≡ suc n)
    go (inl q) = absurd (let z : ◌≡◌ {A = ℕ} 0 1 = cc in omega arith)
    go (inr i) = let k = map_in (λ y. taker_of y (F.read (data_count y))) (item (entry_array d) n) ds i in by k.0 (F.read (data_count k.0)) refl k.1 k.2

-- a chain that starts nowhere has no array
pub no_rooms : (F : File) → Formed F → (w : Word) → F.read w ≡ 0 → rooms F w ≡ rooms_for 0
unfolding arrays rooms_for rooms_onto
no_rooms F form w z =
    ap (map (λ a. F.room a)) (trail_none (λ a. F.read (next_array a)) (F.of ENTRY_ARRAY) (F.read w) (λ m. omega (arith, form.positive ENTRY_ARRAY (F.read w) m, z)))

module _ {F F' : File} {s : Stamp} (fields : List ℕ) (takes : Takes F) (pl : Placing F (placed F fields)) (f : Finished F F' fields s)
    (x : Extends F F' (new_by F fields) (new_entry_at F fields)) (g : Commits F F' (new_by F fields) (new_entry_at F fields)) where
  -- the DATA of the entry that stand already
  abbrev olds : List ℕ
  olds = old_items F (placed F fields)

  -- old arrays have the room they had
  old_rooms : (w : Word) → map (λ a. F'.room a) (arrays F w) ≡ rooms F w
  old_rooms w = map_agree (λ a. F'.room a) (λ a. F.room a) (arrays F w) (λ a m. x.keeps.room a (array_in x w a m))

  module _ (w : Word) (n : ℕ) (r : Root F w n) (h : rooms F w ≡ rooms_for n) where
    -- what the chain has now
    now : ChainNow takes pl f.course (after_entry F fields) (grown_from F fields) x w n
    now = chain_now takes pl f.course (after_entry F fields) (grown_from F fields) x w n r

    -- a chain with the arrays that it had
    same_rooms : arrays F' w ≡ arrays F w → rooms F' w ≡ rooms_for n
    same_rooms q = ap (map (λ a. F'.room a)) q ∙ old_rooms w ∙ h

    -- with one more
    more_rooms : (z : ℕ) → arrays F' w ≡ arrays F w ++ (z ∷ []) → F'.room z ≡ new_room F (arrays F w) → length (chain_items F w) ≡ n → rooms F' w ≡ rooms_for (suc n)
    unfolding new_room
    more_rooms z q room full =
        ap (map (λ a. F'.room a)) q ∙ map-append (λ a. F'.room a) (arrays F w) (z ∷ [])
        ∙ ap (λ (l : List ℕ). l ++ (F'.room z ∷ [])) (old_rooms w) ∙ ap (λ (k : ℕ). rooms F w ++ (k ∷ [])) room
        ∙ ap (λ (l : List ℕ). l ++ (next_room l ∷ [])) h ∙ sym (rooms_full n (sym (room_counted F w n h) ∙ full))

    -- one that does not take the ENTRY
    rooms_kept : (Memᴰ (item w n) (takers F olds) → ⊥) → rooms F' w ≡ rooms_for n
    rooms_kept other = go now
      where
        go : ChainNow takes pl f.course (after_entry F fields) (grown_from F fields) x w n → rooms F' w ≡ rooms_for n
        go (kept q) = same_rooms q
        go (longer z m full q room) = absurd (other m)

    -- one that takes it
    rooms_written : Written F F' (new_by F fields) (new_entry_at F fields) w n → rooms F' w ≡ rooms_for (suc n)
    rooms_written (in_spare l v) = go now
      where
        go : ChainNow takes pl f.course (after_entry F fields) (grown_from F fields) x w n → rooms F' w ≡ rooms_for (suc n)
        go (kept q) = same_rooms q ∙ sym (rooms_spare n (omega (arith, room_counted F w n h, l)))
        go (longer z m full q room) = absurd (omega (arith, l, full))
    rooms_written (in_new z k full u i c v) = go now
      where
        go : ChainNow takes pl f.course (after_entry F fields) (grown_from F fields) x w n → rooms F' w ≡ rooms_for (suc n)
        go (kept q) =
            let t = more_from x takes.agrees w n r z (omega (arith, full)) u i in
            let e : arrays F w ≡ arrays F w ++ (z ∷ t.0) = sym q ∙ arrays_split x w n r ∙ ap (λ (l : List ℕ). arrays F w ++ l) t.1 in
            absurd (omega (arith, ap length e, length-append (arrays F w) (z ∷ t.0)))
        go (longer y m l q room) = more_rooms y q room full

  -- the chain of an old DATA
  data_rooms : (d : ℕ) (m : In d (F.of DATA)) → rooms F (entry_array d) ≡ rooms_for (F.read (data_count d) - 1) → rooms F' (entry_array d) ≡ rooms_for (F'.read (data_count d) - 1)
  data_rooms d m h = go (g.old_data d m)
    where
      -- one that does not take the ENTRY, and counts as many items
      untaken : (In d olds → F.read (data_count d) ≡ 0) → F'.read (data_count d) - 1 ≡ F.read (data_count d) - 1 → rooms F' (entry_array d) ≡ rooms_for (F'.read (data_count d) - 1)
      untaken z q =
          rooms_kept (entry_array d) (F.read (data_count d) - 1) (of_data d m) h (λ i. let k = taker_data F olds d (F.read (data_count d) - 1) i in omega (arith, z k.0, k.1))
          ∙ ap rooms_for (sym q)

      go : (In d (F'.items (new_entry_at F fields)) × Counted F F' (new_by F fields) (new_entry_at F fields) d) ⊎ ((In d (F'.items (new_entry_at F fields)) → ⊥) × Stays F F' (data_count d))
          → rooms F' (entry_array d) ≡ rooms_for (F'.read (data_count d) - 1)
      go (inl (i, as_first z o y)) = untaken (λ k. z) (omega (arith, z, o))
      go (inl (i, as_next n z o w)) =
          let e : F.read (data_count d) - 1 ≡ n = omega (arith, z) in
          rooms_written (entry_array d) n (subst (λ (k : ℕ). Root F (entry_array d) k) e (of_data d m)) (h ∙ ap rooms_for e) w ∙ ap rooms_for (omega (arith, o))
      go (inr k) = untaken (λ i. absurd (omega (arith, f.counted d i, k.1))) (ap (λ (c : ℕ). c - 1) k.1)

  -- the chain of a new DATA, which has its one entry inline
  new_rooms : (d : ℕ) → In d (new_by F fields DATA) → rooms F' (entry_array d) ≡ rooms_for (F'.read (data_count d) - 1)
  new_rooms d i =
      let n = x.new_data d i in
      let one : F'.read (data_count d) - 1 ≡ 0 = omega (arith, n.count) in
      no_rooms F' x.formed' (entry_array d) n.array ∙ ap rooms_for (sym one)

  -- an append keeps that
  pub rooms_after : AllRooms F → AllRooms F'
  rooms_after h w n of_header = rooms_written (header entry_array_offset) (F.read (header n_entries)) of_header (h _ _ of_header) g.written ∙ ap rooms_for (sym g.count)
  rooms_after h w n (of_data d m) = go (which x DATA d m)
    where
      go : In d (F.of DATA) ⊎ In d (new_by F fields DATA) → rooms F' (entry_array d) ≡ rooms_for (F'.read (data_count d) - 1)
      go (inl i) = data_rooms d i (h _ _ (of_data d i))
      go (inr i) = new_rooms d i
