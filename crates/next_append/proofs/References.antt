-- No array is referred to twice where no two words that refer to arrays hold the same one: the words are all different, and 14
-- looks at what they hold.
use mathlib.Core.Path.{◌≡◌, refl, sym, ◌∙◌, subst}
use mathlib.Core.Logic.{◌⊎◌, inl, inr}
use mathlib.Core.Bool.{Bool, true, false}
use mathlib.Core.List.Memᴰ
use mathlib.Core.List.{List, [], ◌∷◌, ◌++◌, map, Memᴰ}
use Prim.Native.Nat.{ℕ, ◌<◌}
use native.Mathlib.Omega.{arith}
use lib.Dec.{ltb}
use borrow.Author.Tests.{ltb-true}
use Rattle.format.specs.Tests.{filter}
use Rattle.format.specs.Says.{In}
use Rattle.format.specs.Header.{entry_array_offset}
use Rattle.format.specs.Kinds.{DATA, ENTRY_ARRAY}
use Rattle.format.specs.File.{File, Word, header, entry_array, next_array}
use Rattle.format.proofs.Members.{in_filter}
use Rattle.format.proofs.Rising.{Rising, above}
use Rattle.writing.specs.Agreement.{array_references, twice}
use Rattle.partial_append.specs.Formed.{Formed}
use Rattle.partial_append.specs.Agrees.{Refers, by_header, by_data, by_array}
use Rattle.format.proofs.Lists.{map_in}
use Rattle.plan_words.proofs.Turns.{Apart}
use Rattle.partial_append.proofs.AgreesLaws.{Once, twice_clears, references, references_read}

-- each of the words that are looked at refers to an array
in_refers : (F : File) (w : Word) → Memᴰ w (references F) → Refers F w
unfolding references
in_refers F w m = first (Memᴰ.cases_cons m)
  where
    second : Memᴰ w (map entry_array (F.of DATA)) ⊎ Memᴰ w (map next_array (F.of ENTRY_ARRAY)) → Refers F w
    second (inl k) = let s = map_in entry_array w (F.of DATA) k in subst (λ (x : Word). Refers F x) (sym s.2) (by_data s.0 s.1)
    second (inr k) = let s = map_in next_array w (F.of ENTRY_ARRAY) k in subst (λ (x : Word). Refers F x) (sym s.2) (by_array s.0 s.1)

    first : (w ≡ header entry_array_offset) ⊎ Memᴰ w (map entry_array (F.of DATA) ++ map next_array (F.of ENTRY_ARRAY)) → Refers F w
    first (inl q) = subst (λ (x : Word). Refers F x) (sym q) by_header
    first (inr k) = second (Memᴰ.append_cases (map entry_array (F.of DATA)) k)

-- the words of objects that rise are all different
apart_map : (g : ℕ → Word) → ((x y : ℕ) → g x ≡ g y → x ≡ y) → (xs : List ℕ) → Rising xs → Apart (λ (w : Word). w) (map g xs)
apart_map g inj [] r = tt
apart_map g inj (x ∷ xs) (above f r) = (other, apart_map g inj xs r)
  where
    other : (w : Word) → Memᴰ w (map g xs) → w ≡ g x → ⊥
    other w m q = let s = map_in g w xs m in let e = inj s.0 x (sym s.2 ∙ q) in omega (arith, f s.0 s.1, e)

-- two lists of different words that have none in common
apart_append : (ws vs : List Word) → Apart (λ (w : Word). w) ws → Apart (λ (w : Word). w) vs → ((w v : Word) → Memᴰ w ws → Memᴰ v vs → v ≡ w → ⊥)
    → Apart (λ (w : Word). w) (ws ++ vs)
apart_append [] vs a b n = b
apart_append (w ∷ ws) vs a b n = (other, apart_append ws vs a.1 b (λ x y i j. n x y (Memᴰ.tail i) j))
  where
    other : (v : Word) → Memᴰ v (ws ++ vs) → v ≡ w → ⊥
    other v m q = go (Memᴰ.append_cases ws m)
      where
        go : Memᴰ v ws ⊎ Memᴰ v vs → ⊥
        go (inl i) = a.0 v i q
        go (inr i) = n w v (Memᴰ.head refl) i q

-- entry_array has its DATA
array_same : (x y : ℕ) → entry_array x ≡ entry_array y → x ≡ y
array_same x y q = cc

-- next has its array
next_same : (x y : ℕ) → next_array x ≡ next_array y → x ≡ y
next_same x y q = cc

-- the words that refer to arrays are all different
references_apart : (F : File) → Formed F → Apart (λ (w : Word). w) (references F)
unfolding references
references_apart F form = (
  other,
  apart_append (map entry_array (F.of DATA)) (map next_array (F.of ENTRY_ARRAY)) (apart_map entry_array array_same (F.of DATA) (form.rising DATA))
      (apart_map next_array next_same (F.of ENTRY_ARRAY) (form.rising ENTRY_ARRAY)) unlike,
)
  where
    unlike : (w v : Word) → Memᴰ w (map entry_array (F.of DATA)) → Memᴰ v (map next_array (F.of ENTRY_ARRAY)) → v ≡ w → ⊥
    unlike w v m n q =
        let s = map_in entry_array w (F.of DATA) m in
        let t = map_in next_array v (F.of ENTRY_ARRAY) n in
        let e : next_array t.0 ≡ entry_array s.0 = sym t.2 ∙ q ∙ s.2 in
        let z : ◌≡◌ {A = ℕ} 0 1 = cc in omega arith

    other : (w : Word) → Memᴰ w (map entry_array (F.of DATA) ++ map next_array (F.of ENTRY_ARRAY)) → w ≡ header entry_array_offset → ⊥
    other w m q = go (Memᴰ.append_cases (map entry_array (F.of DATA)) m)
      where
        go : Memᴰ w (map entry_array (F.of DATA)) ⊎ Memᴰ w (map next_array (F.of ENTRY_ARRAY)) → ⊥
        go (inl k) =
            let s = map_in entry_array w (F.of DATA) k in
            let e : entry_array s.0 ≡ header entry_array_offset = sym s.2 ∙ q in
            let z : ◌≡◌ {A = ℕ} 0 1 = cc in omega arith
        go (inr k) =
            let s = map_in next_array w (F.of ENTRY_ARRAY) k in
            let e : next_array s.0 ≡ header entry_array_offset = sym s.2 ∙ q in
            let z : ◌≡◌ {A = ℕ} 0 1 = cc in omega arith

-- of different words of which no two hold the same above 0, the values above 0 are all different
once_of : (f : Word → ℕ) (ws : List Word) → Apart (λ (w : Word). w) ws → ((w v : Word) → Memᴰ w ws → Memᴰ v ws → 0 < f w → f w ≡ f v → w ≡ v)
    → Once (filter (λ a. ltb 0 a) (map f ws))
unfolding filter Once
once_of f [] a h = tt
once_of f (w ∷ ws) a h = go (once_of f ws a.1 (λ x y i j. h x y (Memᴰ.tail i) (Memᴰ.tail j))) (ltb 0 (f w)) refl
  where
    again : 0 < f w → In (f w) (filter (λ a. ltb 0 a) (map f ws)) → ⊥
    again l m =
        let s = map_in f (f w) ws (in_filter (λ a. ltb 0 a) (f w) (map f ws) m).0 in
        a.0 s.0 s.1 (sym (h w s.0 (Memᴰ.head refl) (Memᴰ.tail s.1) l s.2))

    go : Once (filter (λ a. ltb 0 a) (map f ws)) → (b : Bool) → ltb 0 (f w) ≡ b
        → Once (elim b as (λ _. List ℕ) [ true ↦ f w ∷ filter (λ a. ltb 0 a) (map f ws) | false ↦ filter (λ a. ltb 0 a) (map f ws) ])
    go o true e = (again (ltb-true 0 (f w) e), o)
    go o false e = o

-- 14 of the references to arrays, where no two words that refer to arrays hold the same one
pub references_once : (F : File) → Formed F → ((w v : Word) → Refers F w → Refers F v → 0 < F.read w → F.read w ≡ F.read v → w ≡ v) → twice (array_references F) ≡ false
references_once F form h =
    (twice_clears (array_references F)).1
    (subst (λ (l : List ℕ). Once l) (sym (references_read F)) (once_of F.read (references F) (references_apart F form) (λ w v m n. h w v (in_refers F w m) (in_refers F v n))))
