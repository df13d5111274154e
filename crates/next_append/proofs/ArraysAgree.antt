-- 14 of the references to arrays after an append: a word that refers to an array refers to the one that it did, or it is the word of a
-- growth and refers to the new array of that growth.
use mathlib.Core.Path.{◌≡◌, refl, sym, ap, ◌∙◌, subst}
use mathlib.Core.Logic.{◌⊎◌, inl, inr}
use mathlib.Core.Bool.{false}
use mathlib.Core.List.Memᴰ
use mathlib.Core.List.{List, [], ◌∷◌, Memᴰ}
use Prim.Native.Nat.{ℕ, zero, suc, ◌<◌}
use native.Mathlib.Omega.{arith}
use Rattle.format.specs.Says.{In}
use Rattle.format.specs.Header.{entry_array_offset}
use Rattle.format.specs.Kinds.{DATA, ENTRY_ARRAY}
use Rattle.format.specs.File.{File, Word, header, entry_array, next_array}
use Rattle.format.proofs.Rising.{Rising, above}
use Rattle.reading.specs.LinksRight.{Lands}
use Rattle.writing.specs.Agreement.{array_references, twice}
use Rattle.writing.specs.Request.{Stamp}
use Rattle.writing.specs.Placing.{Placed, old_items}
use Rattle.writing.specs.Growth.{Taker, item, takers, Growth, growth, growths}
use Rattle.writing.specs.NewObjects.{cell_for}
use Rattle.writing.specs.Plan.{Update, link_updates}
use Rattle.partial_append.specs.Agrees.{Refers, by_header, by_data, by_array}
use Rattle.partial_append.specs.Extends.{Extends, Stays}
use Rattle.partial_append.specs.Fits.{first, array, following}
use Rattle.partial_append.proofs.Course.{which, old_link, new_rising}
use Rattle.partial_append.proofs.LinksKept.{later_lands}
use Rattle.plan_words.specs.Planned.{arrays_of, new_of}
use Rattle.plan_words.specs.Takes.{Takes}
use Rattle.plan_words.specs.Course.{CourseOf, Updated}
use Rattle.plan_words.proofs.Brought.{arrays_idle, arrays_next, arrays_in, arrays_from_lem}
use Rattle.plan_words.proofs.Placing.{Placing}
use Rattle.plan_words.proofs.PlacedLaws.{old_in}
use Rattle.plan_words.proofs.GrowthLaws.{growth_taker, takers_right, growth_array, room_some}
use Rattle.plan_words.proofs.GrowthsAgree.{sort, Grows, to_entry, to_item, to_array, grows}
use Rattle.plan_words.proofs.UpdatesAgree.{end_sort}
use Rattle.plan_words.proofs.UpdateLaws.{LinkUpdate, by_growth, by_cell, by_list, link_update}
use Rattle.next_append.proofs.References.{references_once}

-- of growths whose arrays rise, two with one array are one
one_growth : (gs : List Growth) → Rising (arrays_of gs) → (g h : Growth) → Memᴰ g gs → Memᴰ h gs → (g.room ≡ 0 → ⊥) → (h.room ≡ 0 → ⊥) → g.value ≡ h.value → g ≡ h
one_growth [] r g h m n a b q = absurd (Memᴰ.not-nil m)
one_growth (f ∷ gs) r g h m n a b q = go (λ s i j. one_growth gs s g h i j a b q) f.room refl (Memᴰ.cases_cons m) (Memᴰ.cases_cons n)
  where
    rest : (k : ℕ) → f.room ≡ suc k → Rising (f.value ∷ arrays_of gs)
    rest k e = subst (λ (l : List ℕ). Rising l) (arrays_next f gs k e) r

    low : (k : ℕ) → f.room ≡ suc k → (x : ℕ) → In x (arrays_of gs) → f.value < x
    low k e x i = below (rest k e)
      where
        below : Rising (f.value ∷ arrays_of gs) → f.value < x
        below (above p s) = p x i

    others : (k : ℕ) → f.room ≡ k → Rising (arrays_of gs)
    others zero e = subst (λ (l : List ℕ). Rising l) (arrays_idle f gs e) r
    others (suc k) e = tail (rest k e)
      where
        tail : Rising (f.value ∷ arrays_of gs) → Rising (arrays_of gs)
        tail (above p s) = s

    clash : (k : ℕ) → f.room ≡ k → (x : Growth) → Memᴰ x gs → (x.room ≡ 0 → ⊥) → (f.room ≡ 0 → ⊥) → f.value ≡ x.value → ⊥
    clash zero e x i c d p = d e
    clash (suc k) e x i c d p = omega (arith, low k e x.value (arrays_in x gs i c), p)

    go : (Rising (arrays_of gs) → Memᴰ g gs → Memᴰ h gs → g ≡ h) → (k : ℕ) → f.room ≡ k → (g ≡ f) ⊎ Memᴰ g gs → (h ≡ f) ⊎ Memᴰ h gs → g ≡ h
    go ih k e (inl i) (inl j) = i ∙ sym j
    go ih k e (inl i) (inr j) =
        absurd (clash k e h j b (λ z. a (ap (λ (x : Growth). x.room) i ∙ z)) (ap (λ (x : Growth). x.value) (sym i) ∙ q))
    go ih k e (inr i) (inl j) =
        absurd (clash k e g i a (λ z. b (ap (λ (x : Growth). x.room) j ∙ z)) (ap (λ (x : Growth). x.value) (sym j) ∙ sym q))
    go ih k e (inr i) (inr j) = ih (others k e) i j

module _ {F F' : File} {s : Stamp} {ps : List Placed} {gs : List Growth} {e : ℕ} (takes : Takes F) (pl : Placing F ps) (c : CourseOf F F' s ps gs e)
    (end : ℕ) (grow : gs ≡ growths F e end (takers F (old_items F ps))) (x : Extends F F' (new_of ps gs e) e) where
  -- a growth by a link of arrays has a new array
  has_array : (g : Growth) → Memᴰ g gs → sort g.word ≡ 1 → g.room ≡ 0 → ⊥
  has_array g m w =
      let k = growth_taker F e end (takers F (old_items F ps)) g (subst (λ (l : List Growth). Memᴰ g l) grow m) in
      go k.1 k.0 k.3 (grows F takes e k.1 k.0 (takers_right F (old_items F ps) (old_in takes pl) k.0 k.2))
    where
      go : (at : ℕ) (t : Taker) → g ≡ growth F e at t → Grows F takes e at t → g.room ≡ 0 → ⊥
      go at t q (to_entry j k) z = omega (arith, ap (λ (y : Growth). sort y.word) q, w, j)
      go at t q (to_item v n u r l b i p y) z = omega (arith, ap (λ (y : Growth). sort y.word) q, w, ap sort y)
      go at t q (to_array v n u r l y k) z =
          let p : g ≡ growth F e at (item v n) = q ∙ ap (growth F e at) u in
          omega (arith, room_some F takes v, ap (λ (y : Growth). y.room) (p ∙ growth_array F e at v n l), z)

  -- a word that refers to an array: an old one as it was, or the word of a growth with a new array
  pub data Source (w : Word) : Type 0 where
    as_it_was : Refers F w → Lands F ENTRY_ARRAY (F.read w) → Stays F F' w → Source w
    by_its_growth : (g : Growth) → Memᴰ g gs → (g.room ≡ 0 → ⊥) → g.word ≡ w → F'.read w ≡ g.value → Source w

  -- a link of arrays that is as it was or updated
  pub source : (w : Word) → sort w ≡ 1 → Refers F w → Lands F ENTRY_ARRAY (F.read w) → Stays F F' w ⊎ Updated F' (link_updates F ps gs) w → Source w
  source w o i l (inl q) = as_it_was i l q
  source w o i l (inr u) = go (link_update F ps gs u.update u.among)
    where
      go : LinkUpdate F ps gs u.update → Source w
      go (by_growth g m k) =
          let q : g.word ≡ w = sym (ap (λ (y : Update). y.word) k) ∙ u.word in
          by_its_growth g m (has_array g m (ap sort q ∙ o)) q (u.value ∙ ap (λ (y : Update). y.value) k)
      go (by_cell t q m b (inl k)) = absurd (omega (arith, end_sort F takes t (cell_for F t q), ap (λ (y : Update). sort y.word) k, ap sort u.word, o))
      go (by_cell t q m b (inr k)) = absurd (omega (arith, ap (λ (y : Update). sort y.word) k, ap sort u.word, o))
      go (by_list k) = absurd (omega (arith, ap (λ (y : Update). sort y.word) k.update, ap sort u.word, o))

  -- every word that refers to an array
  refers_source : (w : Word) → Refers F' w → 0 < F'.read w → Source w
  refers_source w by_header l = source (header entry_array_offset) refl by_header takes.passes.first (c.links (header entry_array_offset) first)
  refers_source w (by_data d m) l = go (which x DATA d m)
    where
      go : In d (F.of DATA) ⊎ In d (new_of ps gs e DATA) → Source (entry_array d)
      go (inl i) = source (entry_array d) refl (by_data d i) (takes.passes.data_links d i).array (c.links (entry_array d) (array d i))
      go (inr i) = absurd (omega (arith, (x.new_data d i).array, l))
  refers_source w (by_array a m) l = go (which x ENTRY_ARRAY a m)
    where
      go : In a (F.of ENTRY_ARRAY) ⊎ In a (new_of ps gs e ENTRY_ARRAY) → Source (next_array a)
      go (inl i) = source (next_array a) refl (by_array a i) (later_lands F ENTRY_ARRAY a (F.read (next_array a)) (takes.passes.array_links a i)) (c.links (next_array a) (following a i))
      go (inr i) =
          let k = arrays_from_lem a gs i in
          absurd (omega (arith, ap (λ (y : ℕ). F'.read (next_array y)) k.3 ∙ (c.new_array k.0 k.1 k.2).next, l))

  -- an old array is no new one
  old_not_new : (v : ℕ) (g : Growth) → Lands F ENTRY_ARRAY v → Memᴰ g gs → (g.room ≡ 0 → ⊥) → v ≡ g.value → ⊥
  old_not_new v g l m n q = old_link x ENTRY_ARRAY v l (subst (λ (y : ℕ). In y (arrays_of gs)) (sym q) (arrays_in g gs m n))

  -- two words that refer to one array are one
  one_word : (w v : Word) → Source w → Source v → 0 < F'.read w → F'.read w ≡ F'.read v → w ≡ v
  one_word w v (as_it_was i l p) (as_it_was j k q) z h = takes.agrees.once w v i j (omega (arith, p, z)) (sym p ∙ h ∙ q)
  one_word w v (as_it_was i l p) (by_its_growth g m n q r) z h = absurd (old_not_new (F.read w) g l m n (sym p ∙ h ∙ r))
  one_word w v (by_its_growth g m n q r) (as_it_was i l p) z h = absurd (old_not_new (F.read v) g l m n (sym p ∙ sym h ∙ r))
  one_word w v (by_its_growth g m n q r) (by_its_growth g' m' n' q' r') z h =
      let k = one_growth gs (new_rising x ENTRY_ARRAY) g g' m m' n n' (sym r ∙ h ∙ r') in
      sym q ∙ ap (λ (y : Growth). y.word) k ∙ q'

  -- 14 of the arrays
  pub arrays_agree : twice (array_references F') ≡ false
  arrays_agree =
      references_once F' x.formed' (λ w v i j l q. one_word w v (refers_source w i l) (refers_source v j (subst (λ (n : ℕ). 0 < n) q l)) l q)
