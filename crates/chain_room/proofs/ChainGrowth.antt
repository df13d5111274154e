-- A chain of arrays after an append: it has the arrays that it had, or it had no spare item, takes the ENTRY, and has one array more, of
-- as many items as the plan says.
use mathlib.Core.Path.{◌≡◌, refl, sym, ap, ◌∙◌, subst}
use mathlib.Core.Logic.{◌⊎◌, inl, inr}
use mathlib.Core.Bool.{Bool, true, false}
use mathlib.Core.List.Memᴰ
use mathlib.Core.List.{List, [], ◌∷◌, ◌++◌, append-nil, Memᴰ}
use Prim.Native.Nat.{ℕ, ◌≤◌}
use native.Mathlib.Omega.{arith}
use lib.Dec.{eqb}
use lib.ListN.{length}
use borrow.Author.Tests.{eqb-true, eqb-false}
use Rattle.format.specs.Says.{In}
use Rattle.format.specs.Header.{entry_array_offset}
use Rattle.format.specs.Kinds.{ENTRY_ARRAY}
use Rattle.format.specs.File.{File, Word, header, entry_array, next_array}
use Rattle.reading.specs.Chains.{trail, arrays, chain_items}
use Rattle.reading.proofs.Trails.{trail_in}
use Rattle.writing.specs.Request.{Stamp}
use Rattle.writing.specs.Placing.{Placed, old_items}
use Rattle.writing.specs.Growth.{Taker, item, takers, spot_word, Growth, new_room, growth, growths}
use Rattle.partial_append.specs.Agrees.{by_header, by_data, by_array}
use Rattle.partial_append.specs.Extends.{Extends, Root, of_header, of_data}
use Rattle.partial_append.specs.Fits.{first, array, following}
use Rattle.partial_append.proofs.Course.{old_link}
use Rattle.partial_append.proofs.ItemLaws.{growing_end}
use Rattle.partial_append.proofs.GrowingOnce.{end_once}
use Rattle.partial_append.proofs.TrailLaws.{trail_here, trail_past, trail_none, last_word}
use Rattle.partial_append.proofs.OpenWords.{last_cases}
use Rattle.partial_append.proofs.ChainsKept.{more, arrays_split, seam}
use Rattle.partial_append.proofs.LinksKept.{later_lands}
use Rattle.plan_words.specs.Planned.{arrays_of, new_of}
use Rattle.plan_words.specs.Takes.{Takes}
use Rattle.plan_words.specs.Course.{CourseOf}
use Rattle.plan_words.proofs.Brought.{arrays_in}
use Rattle.plan_words.proofs.Placing.{Placing}
use Rattle.plan_words.proofs.PlacedLaws.{old_in}
use Rattle.plan_words.proofs.GrowthLaws.{growth_taker, takers_right, growth_array}
use Rattle.plan_words.proofs.GrowthsAgree.{sort, Grows, to_entry, to_item, to_array, grows}
use Rattle.next_append.proofs.ArraysAgree.{Source, as_it_was, by_its_growth, source}

-- a trail from an object whose link names none
trail_one : (next : ℕ → ℕ) (xs : List ℕ) (o : ℕ) → In o xs → (In (next o) xs → ⊥) → trail next xs o ≡ o ∷ []
trail_one next [] o m n = absurd (Memᴰ.not-nil m)
trail_one next (x ∷ xs) o m n = go (λ i. trail_one next xs o i (λ k. n (Memᴰ.tail k))) (eqb x o) refl (Memᴰ.cases_cons m)
  where
    go : (In o xs → trail next xs o ≡ o ∷ []) → (b : Bool) → eqb x o ≡ b → (o ≡ x) ⊎ In o xs → trail next (x ∷ xs) o ≡ o ∷ []
    go ih true e i =
        let q : x ≡ o = eqb-true x o e in
        trail_here next x xs o e ∙ ap (λ (l : List ℕ). x ∷ l) (trail_none next xs (next x) (λ k. n (Memᴰ.tail (subst (λ (y : ℕ). In (next y) xs) q k)))) ∙ ap (λ (y : ℕ). y ∷ []) q
    go ih false e (inl q) = absurd (eqb-false x o e (sym q))
    go ih false e (inr i) = trail_past next x xs o e ∙ ih i

module _ {F F' : File} {s : Stamp} {ps : List Placed} {gs : List Growth} {e : ℕ} (takes : Takes F) (pl : Placing F ps) (c : CourseOf F F' s ps gs e)
    (end : ℕ) (grow : gs ≡ growths F e end (takers F (old_items F ps))) (x : Extends F F' (new_of ps gs e) e) where
  -- what a chain has
  pub data ChainNow (w : Word) (n : ℕ) : Type 0 where
    kept : arrays F' w ≡ arrays F w → ChainNow w n
    longer : (z : ℕ) → Memᴰ (item w n) (takers F (old_items F ps)) → length (chain_items F w) ≤ n → arrays F' w ≡ arrays F w ++ (z ∷ []) → F'.room z ≡ new_room F (arrays F w) → ChainNow w n

  module _ (w : Word) (n : ℕ) (r : Root F w n) where
    -- the word after the last array
    abbrev end_of : Word
    end_of = last_word next_array w (arrays F w)

    -- the word where the chain starts
    root_source : Source takes pl c end grow x w
    root_source = go w n r
      where
        go : (w : Word) (n : ℕ) → Root F w n → Source takes pl c end grow x w
        go w n of_header = source takes pl c end grow x (header entry_array_offset) refl by_header takes.passes.first (c.links (header entry_array_offset) first)
        go w n (of_data d i) = source takes pl c end grow x (entry_array d) refl (by_data d i) (takes.passes.data_links d i).array (c.links (entry_array d) (array d i))

    -- the word after the last array too
    end_source : Source takes pl c end grow x end_of
    unfolding arrays
    end_source = go (last_cases next_array w (arrays F w))
      where
        go : (end_of ≡ w) ⊎ ((a : ℕ) × In a (arrays F w) × (end_of ≡ next_array a)) → Source takes pl c end grow x end_of
        go (inl q) = subst (λ (y : Word). Source takes pl c end grow x y) (sym q) root_source
        go (inr k) =
            let a = k.0 in
            let i = trail_in (λ y. F.read (next_array y)) (F.of ENTRY_ARRAY) (F.read w) a k.1 in
            subst (λ (y : Word). Source takes pl c end grow x y) (sym k.2)
            (source takes pl c end grow x (next_array a) refl (by_array a i) (later_lands F ENTRY_ARRAY a (F.read (next_array a)) (takes.passes.array_links a i)) (c.links (next_array a) (following a i)))

    -- the chain is the old one and goes on from there
    goes_on_lem : arrays F' w ≡ arrays F w ++ trail (λ a. F'.read (next_array a)) (arrays_of gs) (F'.read end_of)
    unfolding more
    goes_on_lem = arrays_split x w n r ∙ ap (λ (o : ℕ). arrays F w ++ trail (λ a. F'.read (next_array a)) (arrays_of gs) o) (seam x takes.agrees w n r)

    -- the word that grows the chain where it is full
    own_growth : (g : Growth) → Memᴰ g gs → sort g.word ≡ 1 → g.word ≡ end_of
        → Memᴰ (item w n) (takers F (old_items F ps)) × (length (chain_items F w) ≤ n) × (g.room ≡ new_room F (arrays F w))
    unfolding chain_items
    own_growth g m o q =
        let k = growth_taker F e end (takers F (old_items F ps)) g (subst (λ (l : List Growth). Memᴰ g l) grow m) in
        go k.1 k.0 k.2 k.3 (grows F takes e k.1 k.0 (takers_right F (old_items F ps) (old_in takes pl) k.0 k.2))
      where
        go : (at : ℕ) (t : Taker) → Memᴰ t (takers F (old_items F ps)) → g ≡ growth F e at t → Grows F takes e at t
            → Memᴰ (item w n) (takers F (old_items F ps)) × (length (chain_items F w) ≤ n) × (g.room ≡ new_room F (arrays F w))
        go at t i p (to_entry j l) = absurd (omega (arith, ap (λ (y : Growth). sort y.word) p, o, j))
        go at t i p (to_item v k u r' l b j y z) = absurd (omega (arith, ap (λ (y : Growth). sort y.word) p, o, ap sort z))
        go at t i p (to_array v k u r' l y z) =
            let ends : last_word next_array v (arrays F v) ≡ end_of =
            sym (ap (spot_word F.compact) (growing_end F v (arrays F v) k l)) ∙ sym z ∙ ap (λ (y : Growth). y.word) (sym p) ∙ q in
            let one = end_once F takes.formed takes.agrees w v n k r r' (sym ends) in
            let room : g.room ≡ new_room F (arrays F v) = ap (λ (y : Growth). y.room) (p ∙ ap (growth F e at) u ∙ growth_array F e at v k l) in
            rw (one.0, one.1) (subst (λ (y : Taker). Memᴰ y (takers F (old_items F ps))) u i, l, room)

    -- the arrays are the old ones, or one more
    pub chain_now : ChainNow w n
    chain_now = go end_source
      where
        go : Source takes pl c end grow x end_of → ChainNow w n
        go (as_it_was i l p) =
            kept (goes_on_lem ∙ ap (λ (k : List ℕ). arrays F w ++ k) (trail_none (λ a. F'.read (next_array a)) (arrays_of gs) (F'.read end_of)
            (λ m. old_link x ENTRY_ARRAY (F.read end_of) l (subst (λ (y : ℕ). In y (arrays_of gs)) p m))) ∙ append-nil (arrays F w))
        go (by_its_growth g m h q p) =
            let o = own_growth g m (ap sort q ∙ end_sort) q in
            let a = c.new_array g m h in
            longer g.value o.0 o.1
            (goes_on_lem ∙ ap (λ (k : List ℕ). arrays F w ++ k) (ap (trail (λ a. F'.read (next_array a)) (arrays_of gs)) p
            ∙ trail_one (λ a. F'.read (next_array a)) (arrays_of gs) g.value (arrays_in g gs m h) (λ i. old_link x ENTRY_ARRAY (F'.read (next_array g.value)) (inl a.next) i)))
            (a.room ∙ o.2)
          where
            end_sort : sort end_of ≡ 1
            end_sort = by (last_cases next_array w (arrays F w)) (root_sort w n r)
              where
                root_sort : (w : Word) (n : ℕ) → Root F w n → sort w ≡ 1
                root_sort w n of_header = refl
                root_sort w n (of_data d i) = refl

                by : (end_of ≡ w) ⊎ ((a : ℕ) × In a (arrays F w) × (end_of ≡ next_array a)) → sort w ≡ 1 → sort end_of ≡ 1
                by (inl k) s = ap sort k ∙ s
                by (inr k) s = ap sort k.2
