-- (5) What group 5 updates: of each old DATA of the entry its count, and in a compact file, where it has counted before, its tail fields,
-- by the growth of its own list.
use mathlib.Core.Path.{◌≡◌, refl, sym, ap, subst}
use mathlib.Core.Logic.{◌⊎◌, inl, inr}
use mathlib.Core.Bool.{Bool, true, false}
use mathlib.Core.List.Memᴰ
use mathlib.Core.List.{List, [], ◌∷◌, ◌++◌, map, Memᴰ}
use Prim.Native.Nat.{ℕ, zero, suc, ◌+◌}
use native.Mathlib.Omega.{arith}
use lib.ListN.{length}
use Rattle.format.specs.Says.{In}
use Rattle.format.specs.File.{File, entry_array, data_count, data_tail}
use Rattle.format.specs.Stores.{Store}
use Rattle.writing.specs.Placing.{placed, new_entry_at, old_items}
use Rattle.writing.specs.Growth.{Growth, takers, growth, array_size, growths, grown}
use Rattle.writing.specs.Plan.{Update, store_of, stores_for, tail_array_after, tail_update, count_update, count_updates, data_growths}
use Rattle.writing.proofs.GrowthLaws.{taker_at}

module _ (F : File) where
  -- the update of a DATA's count
  abbrev pub count_one : ℕ → Update
  count_one d = record { word = data_count d; value = F.read (data_count d) + 1 }

  -- and of its tail fields, where a new array of its list would stand at `end` and it has counted n items of the list
  abbrev pub tail_one : ℕ → ℕ → ℕ → Update
  tail_one d end n = record { word = data_tail d; value = tail_array_after F end (entry_array d) n }

  -- an update of a DATA is the one or the other
  pub data CountCase (d : ℕ) (g : Growth) (u : Update) : Type 0 where
    a_count : u ≡ count_one d → CountCase d g u
    a_tail : (n : ℕ) → F.compact ≡ true → F.read (data_count d) ≡ suc n → u ≡ tail_one d g.value n → CountCase d g u

  module _ (d : ℕ) (g : Growth) where
    -- which it is
    pub count_case : (u : Update) → Memᴰ u (count_update F d g) → CountCase d g u
    unfolding count_update tail_update
    count_case u m = go (Memᴰ.cases_cons m)
      where
        tail : (n : ℕ) → F.read (data_count d) ≡ n → F.compact ≡ true → Memᴰ u (tail_update F d g n) → CountCase d g u
        tail zero z c k = absurd (Memᴰ.not-nil k)
        tail (suc n) z c k = pick (Memᴰ.cases_cons k)
          where
            pick : (u ≡ tail_one d g.value n) ⊎ Memᴰ u [] → CountCase d g u
            pick (inl q) = a_tail n c z q
            pick (inr i) = absurd (Memᴰ.not-nil i)

        by : (c : Bool) → F.compact ≡ c → Memᴰ u (elim c as (λ _. List Update) [ true ↦ tail_update F d g (F.read (data_count d)) | false ↦ [] ]) → CountCase d g u
        by false c k = absurd (Memᴰ.not-nil k)
        by true c k = tail (F.read (data_count d)) refl c k

        go : (u ≡ count_one d) ⊎ Memᴰ u (elim F.compact as (λ _. List Update) [ true ↦ tail_update F d g (F.read (data_count d)) | false ↦ [] ]) → CountCase d g u
        go (inl q) = a_count q
        go (inr k) = by F.compact refl k

    -- the count is updated
    pub has_count : Memᴰ (count_one d) (count_update F d g)
    unfolding count_update
    has_count = Memᴰ.head refl

    -- and the tail fields, where they are to be
    pub has_tail : (n : ℕ) → F.compact ≡ true → F.read (data_count d) ≡ suc n → Memᴰ (tail_one d g.value n) (count_update F d g)
    unfolding count_update tail_update
    has_tail n c z =
        Memᴰ.tail (subst (λ (b : Bool). Memᴰ (tail_one d g.value n) (elim b as (λ _. List Update) [ true ↦ tail_update F d g (F.read (data_count d)) | false ↦ [] ])) (sym c)
        (subst (λ (k : ℕ). Memᴰ (tail_one d g.value n) (tail_update F d g k)) (sym z) (Memᴰ.head refl)))

  -- an update of some DATA, by the growths of their lists
  pub record CountedBy (e : ℕ) (ds : List ℕ) (gs : List Growth) (u : Update) : Type 0 where
    pub data_at_lem : ℕ
    pub among : In data_at_lem ds
    pub end : ℕ
    pub grows : Memᴰ (growth F e end (taker_at F data_at_lem)) gs
    pub case : CountCase data_at_lem (growth F e end (taker_at F data_at_lem)) u

  -- a DATA has its growth, and its updates by that
  pub record Counts (e : ℕ) (ds : List ℕ) (gs : List Growth) (d : ℕ) (us : List Update) : Type 0 where
    pub end : ℕ
    pub grows : Memᴰ (growth F e end (taker_at F d)) gs
    pub has : (u : Update) → Memᴰ u (count_update F d (growth F e end (taker_at F d))) → Memᴰ u us

  module _ (e : ℕ) where
    -- every update is one of these
    counts_from_lem : (end : ℕ) (ds : List ℕ) (u : Update) → Memᴰ u (count_updates F ds (growths F e end (map (taker_at F) ds)))
        → CountedBy e ds (growths F e end (map (taker_at F) ds)) u
    unfolding count_updates growths
    counts_from_lem end [] u m = absurd (Memᴰ.not-nil m)
    counts_from_lem end (d ∷ ds) u m =
        go (counts_from_lem (end + array_size F.compact (growth F e end (taker_at F d)).room) ds u) (Memᴰ.append_cases (count_update F d (growth F e end (taker_at F d))) m)
      where
        next : ℕ
        next = end + array_size F.compact (growth F e end (taker_at F d)).room

        go : (Memᴰ u (count_updates F ds (growths F e next (map (taker_at F) ds))) → CountedBy e ds (growths F e next (map (taker_at F) ds)) u)
            → Memᴰ u (count_update F d (growth F e end (taker_at F d))) ⊎ Memᴰ u (count_updates F ds (growths F e next (map (taker_at F) ds)))
            → CountedBy e (d ∷ ds) (growth F e end (taker_at F d) ∷ growths F e next (map (taker_at F) ds)) u
        go ih (inl k) =
            record { data_at_lem = d; among = Memᴰ.head refl; end = end; grows = Memᴰ.head refl; case = count_case d (growth F e end (taker_at F d)) u k }
        go ih (inr k) =
            let t = ih k in
            record { data_at_lem = t.data_at_lem; among = Memᴰ.tail t.among; end = t.end; grows = Memᴰ.tail t.grows; case = t.case }

    -- and each of the DATA has its own
    counts_to : (end : ℕ) (ds : List ℕ) (d : ℕ) → In d ds → Counts e ds (growths F e end (map (taker_at F) ds)) d (count_updates F ds (growths F e end (map (taker_at F) ds)))
    unfolding count_updates growths
    counts_to end [] d m = absurd (Memᴰ.not-nil m)
    counts_to end (x ∷ ds) d m = go (counts_to (end + array_size F.compact (growth F e end (taker_at F x)).room) ds d) (Memᴰ.cases_cons m)
      where
        next : ℕ
        next = end + array_size F.compact (growth F e end (taker_at F x)).room

        rest : List Update
        rest = count_updates F ds (growths F e next (map (taker_at F) ds))

        go : (In d ds → Counts e ds (growths F e next (map (taker_at F) ds)) d (count_updates F ds (growths F e next (map (taker_at F) ds)))) → (d ≡ x) ⊎ In d ds
            → Counts e (x ∷ ds) (growth F e end (taker_at F x) ∷ growths F e next (map (taker_at F) ds)) d
            (count_update F x (growth F e end (taker_at F x)) ++ count_updates F ds (growths F e next (map (taker_at F) ds)))
        go ih (inl q) =
            record {
              end = end;
              grows = Memᴰ.head (ap (λ (y : ℕ). growth F e end (taker_at F y)) q);
              has = λ u k. Memᴰ.append_left rest (subst (λ (y : ℕ). Memᴰ u (count_update F y (growth F e end (taker_at F y)))) q k);
            }
        go ih (inr k) =
            let t = ih k in
            record { end = t.end; grows = Memᴰ.tail t.grows; has = λ u i. Memᴰ.append_right (count_update F x (growth F e end (taker_at F x))) (t.has u i) }

  -- the first store is that of a count
  pub count_begins : (ds : List ℕ) (gs : List Growth) (s : Store) (ss : List Store) → stores_for F (count_updates F ds gs) ≡ s ∷ ss → (d : ℕ) × In d ds × (s ≡ store_of F (count_one d))
  unfolding stores_for count_updates count_update
  count_begins [] gs s ss q = absurd (omega (arith, ap length q))
  count_begins (d ∷ ds) [] s ss q = absurd (omega (arith, ap length q))
  count_begins (d ∷ ds) (g ∷ gs) s ss q = (d, Memᴰ.head refl, cc)

module _ (F : File) (fields : List ℕ) where
  -- the updates of group 5
  abbrev counted : List Update
  counted = count_updates F (old_items F (placed F fields)) (data_growths (grown F fields))

  -- are those of old DATA of the entry
  pub counted_by : (u : Update) → Memᴰ u counted → CountedBy F (new_entry_at F fields) (old_items F (placed F fields)) (grown F fields) u
  unfolding data_growths grown growths takers
  counted_by u m =
      let t = counts_from_lem F (new_entry_at F fields) _ (old_items F (placed F fields)) u m in
      record { data_at_lem = t.data_at_lem; among = t.among; end = t.end; grows = Memᴰ.tail t.grows; case = t.case }

  -- each of which has its own
  pub counts_own : (d : ℕ) → In d (old_items F (placed F fields)) → Counts F (new_entry_at F fields) (old_items F (placed F fields)) (grown F fields) d counted
  unfolding data_growths grown growths takers
  counts_own d m =
      let t = counts_to F (new_entry_at F fields) _ (old_items F (placed F fields)) d m in
      record { end = t.end; grows = Memᴰ.tail t.grows; has = t.has }
