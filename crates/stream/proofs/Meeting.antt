-- What is shown of each file. All entries of the first are. Where the sequence numbers of both lists rise, equal entries meet: of two numbers the lower goes first, so none passes the other
-- before its turn. Of the second file those are shown that have no equal in the first.
use mathlib.Core.Path.{◌≡◌, refl, sym, ap, ap₂, ◌∙◌}
use mathlib.Core.Logic.{⊎_elim}
use mathlib.Core.Bool.{Bool, true, false, not, ◌||◌, false≢true}
use mathlib.Core.List.Memᴰ
use mathlib.Core.List.{List, [], ◌∷◌, map, Memᴰ}
use Prim.Native.Nat.{◌<◌}
use native.Mathlib.Omega.{arith}
use lib.Dec.{eqb}
use borrow.Author.Tests.{eqb-true, lt-ltb, le-ltb}
use Rattle.format.specs.Says.{by_cases}
use Rattle.format.proofs.Tests.{both}
use Rattle.format.proofs.Lists.{in_map}
use Rattle.reading.specs.View.{Shown}
use Rattle.reading.specs.Lookup.{entries_with}
use Rattle.reading.specs.Merged.{Turn, by, if_same, comes_first, equal, entry_of, file_of}
use Rattle.reading.proofs.Sorted.{Sorted, front, Below}
use Rattle.stream.specs.Stream.{shown_of, has_equal}
use Rattle.reading.proofs.Turns.{GoesFirst, GoesSecond, Merges, end, goes_first, goes_second, meet}

-- all of the first file's entries are shown
pub shown_first : {has_same_id : Bool} {es fs : List Shown} {ts : List Turn} → Merges has_same_id es fs ts → shown_of 1 ts ≡ es
unfolding shown_of entry_of file_of
shown_first end = refl
shown_first (goes_first {e = e} g m) = ap (λ (l : List Shown). e ∷ l) (shown_first m)
shown_first (goes_second g m) = shown_first m
shown_first (meet {e = e} q m) = ap (λ (l : List Shown). e ∷ l) (shown_first m)

-- their sequence numbers rise
abbrev pub Rises : List Shown → Type 0
Rises es = Sorted Below (map (λ e. e.seqnum) es)

-- those behind the first rise
rises_behind : (e : Shown) (es : List Shown) → Rises (e ∷ es) → Rises es
rises_behind e es (front h s) = s

-- and lie above it
rises_above : (e : Shown) (es : List Shown) → Rises (e ∷ es) → (d : Shown) → Memᴰ d es → e.seqnum < d.seqnum
rises_above e es (front h s) d m = h d.seqnum (in_map (λ e. e.seqnum) d es m)

module _ (e f : Shown) where
  -- "same seqnum id goes by sequence number": the lower one first
  lower_first : e.seqnum < f.seqnum → comes_first true e f ≡ true
  unfolding comes_first if_same by
  lower_first l = rw (comes_first, if_same, by, lt-ltb e.seqnum f.seqnum l)

  higher_later : f.seqnum < e.seqnum → comes_first true e f ≡ false
  unfolding comes_first if_same by
  higher_later l = rw (comes_first, if_same, by, le-ltb e.seqnum f.seqnum (omega arith), lt-ltb f.seqnum e.seqnum l)

module _ (has_same_id : Bool) where
  -- equal entries have one number under one id
  equal_number : (e f : Shown) → equal has_same_id e f ≡ true → (has_same_id ≡ true) × (e.seqnum ≡ f.seqnum)
  unfolding equal
  equal_number e f q = let b = both has_same_id _ q in (b.0, eqb-true e.seqnum f.seqnum (both (eqb e.seqnum f.seqnum) _ b.1).0)

  -- so others are not equal
  unequal : (e f : Shown) → (has_same_id ≡ true → e.seqnum ≡ f.seqnum → ⊥) → equal has_same_id e f ≡ false
  unequal e f n = by_cases (equal has_same_id e f) (λ q. let k = equal_number e f q in absurd (n k.0 k.1)) (λ q. q)

  -- an entry of the first file that goes before the second's is equal to none of them
  alone_first : (e : Shown) (fs : List Shown) → Rises fs → GoesFirst has_same_id e fs → (g : Shown) → Memᴰ g fs → equal has_same_id e g ≡ false
  alone_first e [] r h g m = absurd (Memᴰ.not-nil m)
  alone_first e (f ∷ fs) r h g m =
      ⊎_elim (λ (q : g ≡ f). rw q h.0)
      (λ (k : Memᴰ g fs). unequal e g (λ s n. false≢true (sym (higher_later e f (omega (arith, rises_above f fs r g k))) ∙ rw s at h.1)))
      (Memᴰ.cases_cons m)

  -- one that meets the second's next is equal to none behind that
  alone_met : (e f : Shown) (fs : List Shown) → Rises (f ∷ fs) → equal has_same_id e f ≡ true → (g : Shown) → Memᴰ g fs → equal has_same_id e g ≡ false
  alone_met e f fs r q g m = unequal e g (λ s n. omega (arith, rises_above f fs r g m, (equal_number e f q).1))

  -- none of some entries is equal to one
  none_equal : (es : List Shown) (f : Shown) → ((e : Shown) → Memᴰ e es → equal has_same_id e f ≡ false) → has_equal has_same_id es f ≡ false
  unfolding has_equal
  none_equal [] f h = refl
  none_equal (e ∷ es) f h = rw (has_equal, h e (Memᴰ.head refl)) (none_equal es f (λ d m. h d (Memᴰ.tail m)))

  -- an entry of the second file that goes before the first's has no equal among them
  alone_second : (es : List Shown) (f : Shown) → Rises es → GoesSecond has_same_id es f → has_equal has_same_id es f ≡ false
  unfolding has_equal
  alone_second [] f r h = refl
  alone_second (e ∷ es) f r h =
      rw (has_equal, h.0)
      (none_equal es f (λ d m. unequal d f (λ s n. false≢true (rw s at (sym h.1) ∙ lower_first e f (omega (arith, rises_above e es r d m))))))

  -- the entries of the second file that have no equal among some of the first
  abbrev pub lone : List Shown → List Shown → List Shown
  lone es fs = entries_with (λ f. not (has_equal has_same_id es f)) fs

  -- one of the first that is equal to none of them changes nothing
  lone_same : (e : Shown) (es fs : List Shown) → ((f : Shown) → Memᴰ f fs → equal has_same_id e f ≡ false) → lone (e ∷ es) fs ≡ lone es fs
  unfolding entries_with has_equal
  lone_same e es [] h = refl
  lone_same e es (f ∷ fs) h =
      ap₂ (λ (b : Bool) (l : List Shown). elim b as (λ _. List Shown) [ true ↦ f ∷ l | false ↦ l ])
      (ap (λ (b : Bool). not (b || has_equal has_same_id es f)) (h f (Memᴰ.head refl))) (lone_same e es fs (λ g m. h g (Memᴰ.tail m)))

  -- of the second file those are shown that have no equal in the first
  pub shown_second : {es fs : List Shown} {ts : List Turn} → Rises es → Rises fs → Merges has_same_id es fs ts → shown_of 2 ts ≡ lone es fs
  unfolding shown_of entry_of file_of entries_with has_equal
  shown_second r s end = refl
  shown_second r s (goes_first {e = e} {es = es} {fs = fs} g m) = shown_second (rises_behind e es r) s m ∙ sym (lone_same e es fs (alone_first e fs s g))
  shown_second r s (goes_second {f = f} {es = es} {fs = fs} g m) =
      rw (entries_with, alone_second es f r g) (ap (λ (l : List Shown). f ∷ l) (shown_second r (rises_behind f fs s) m))
  shown_second r s (meet {e = e} {f = f} {es = es} {fs = fs} q m) =
      rw (entries_with, has_equal, q)
      (shown_second (rises_behind e es r) (rises_behind f fs s) m ∙ sym (lone_same e es fs (alone_met e f fs s q)))
