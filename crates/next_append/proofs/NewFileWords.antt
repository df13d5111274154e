-- The words of a new file: those that its twelve stores write, and zeros in header, tables and all that follows them. Signature, flags
-- and ids, which no store touches, are as they were.
use mathlib.Core.Path.{◌≡◌, refl, sym, ap, ◌∙◌, subst}
use mathlib.Core.Logic.{◌⊎◌, inl, inr}
use mathlib.Core.List.Memᴰ
use mathlib.Core.List.{List, [], ◌∷◌, ◌++◌, Memᴰ}
use Prim.Native.Nat.{ℕ, ◌+◌, ◌*◌, ◌-◌, ◌%◌, ◌^◌, ◌≤◌, ◌<◌}
use native.Mathlib.Omega.{arith}
use lib.ListN.{length, take, drop}
use Rattle.format.specs.Number.{number_at, Bytes}
use Rattle.format.specs.Header.{Image, word_at, header_length}
use Rattle.format.specs.Stores.{Store, stores_from, carry_all}
use Rattle.format.proofs.HeaderSizes.{Start}
use Rattle.format.proofs.StoreLists.{Each, each_none, each_more, each_all, each_in, length_carry_all}
use Rattle.writing.specs.NewFile.{Asked, first_bytes, set_field, table_stores, first_words, new_file}
use Rattle.writing.proofs.NewFiles.{Granted, granted_start}
use Rattle.crash_states.proofs.Accepted.{Carries}
use Rattle.next_append.specs.Next.{GivenIds}
use Rattle.next_append.specs.Blank.{second}
use Rattle.next_append.proofs.StoresLeft.{left, left_past, left_here, left_none, AllCarry, bytes_carried, number_before, part_before, word_left}
use Rattle.next_append.proofs.FirstBytes.{first_length, first_are_bytes, first_word}

-- stores to other words leave a word
left_others : (ss later : List Store) (o x : ℕ) → Each (λ s. s.at ≡ o → ⊥) ss → left (ss ++ later) o x ≡ left later o x
left_others [] later o x each_none = refl
left_others (s ∷ ss) later o x (each_more n ns) = left_past s (ss ++ later) o x n ∙ left_others ss later o x ns

-- a place before another, or after it, is not the other
below : (a o : ℕ) → a < o → a ≡ o → ⊥
below a o l e = omega arith

above : (a o : ℕ) → o < a → a ≡ o → ⊥
above a o l e = omega arith

-- a place of the header's words from 88 to 144, or of the first two of a data table at `first`
abbrev Head : ℕ → ℕ → Type 0
Head first a = ((88 ≤ a) × (a ≤ 144)) ⊎ ((first ≤ a) × (a ≤ first + 8))

-- a place between them, or after them
abbrev Clear : ℕ → ℕ → Type 0
Clear first o = ((144 < o) × (o < first)) ⊎ (first + 8 < o)

-- is none of them
clear_other : (first a o : ℕ) → header_length ≤ first → Head first a → Clear first o → a ≡ o → ⊥
clear_other first a o l (inl h) (inl c) e = omega arith
clear_other first a o l (inl h) (inr c) e = omega arith
clear_other first a o l (inr h) (inl c) e = omega arith
clear_other first a o l (inr h) (inr c) e = omega arith

module _ (len : ℕ) (a : Asked) (given : GivenIds a) (g : Granted len a) where
  -- where the two tables stand
  abbrev here : ℕ
  here = a.size

  start : Start here
  start = granted_start g

  abbrev there : ℕ
  there = second here a.data_cells

  -- the stores to the header before those to the data table
  abbrev header_stores : List Store
  header_stores =
      record { at = 88; value = here } ∷ record { at = 96; value = len - here } ∷ record { at = 136; value = there } ∷ record { at = 144; value = 2 }
      ∷ record { at = 104; value = here + 16 } ∷ record { at = 112; value = 16 * a.data_cells } ∷ []

  -- those to the data table
  abbrev data_stores : List Store
  data_stores = record { at = here; value = 4 } ∷ record { at = here + 8; value = 16 + 16 * a.data_cells } ∷ []

  -- and those to the header after them
  abbrev field_word_stores : List Store
  field_word_stores = record { at = 120; value = there + 16 } ∷ record { at = 128; value = 16 * a.field_cells } ∷ []

  -- the stores to header and data table
  abbrev head_stores : List Store
  head_stores = header_stores ++ (data_stores ++ field_word_stores)

  -- those to the field table
  abbrev field_stores : List Store
  field_stores = record { at = there; value = 5 } ∷ record { at = there + 8; value = 16 + 16 * a.field_cells } ∷ []

  -- are all
  stores_are : first_words len a ≡ head_stores ++ field_stores
  unfolding first_words table_stores set_field stores_from
  stores_are = refl

  -- a store that can be carried out, to a word of header or data table
  abbrev InHead : Store → Type 0
  InHead s = Carries len s × Head here s.at

  -- one to the header
  to_header : (o v : ℕ) → o % 8 ≡ 0 → 88 ≤ o → o ≤ 144 → v < 2 ^ 64 → InHead (record { at = o; value = v })
  to_header o v z l h s = (record { aligned = z; inside = omega (arith, start, g.room); small = s }, inl (l, h))

  -- one to the data table
  to_table : (o v : ℕ) → o % 8 ≡ 0 → here ≤ o → o ≤ here + 8 → v < 2 ^ 64 → InHead (record { at = o; value = v })
  to_table o v z l h s = (record { aligned = z; inside = omega (arith, g.room); small = s }, inr (l, h))

  -- the first ten are such stores
  in_head : Each InHead head_stores
  in_head =
      each_more (to_header 88 here refl (omega arith) (omega arith) (omega (arith, start)))
      (each_more (to_header 96 (len - here) refl (omega arith) (omega arith) (omega (arith, g.short)))
      (each_more (to_header 136 there refl (omega arith) (omega arith) (omega (arith, start, g.data_cells_lem)))
      (each_more (to_header 144 2 refl (omega arith) (omega arith) (omega arith))
      (each_more (to_header 104 (here + 16) refl (omega arith) (omega arith) (omega (arith, start)))
      (each_more (to_header 112 (16 * a.data_cells) refl (omega arith) (omega arith) (omega (arith, g.data_cells_lem)))
      (each_more (to_table here 4 start.aligned (omega arith) (omega arith) (omega arith))
      (each_more (to_table (here + 8) (16 + 16 * a.data_cells) (omega (arith, start)) (omega arith) (omega arith) (omega (arith, g.data_cells_lem)))
      (each_more (to_header 120 (there + 16) refl (omega arith) (omega arith) (omega (arith, start, g.data_cells_lem)))
      (each_more (to_header 128 (16 * a.field_cells) refl (omega arith) (omega arith) (omega (arith, g.field_cells_lem)))
      each_none)))))))))

  -- every store can be carried out, and is to a word after the ids
  abbrev Fit : Store → Type 0
  Fit s = Carries len s × (88 ≤ s.at)

  -- the last two
  to_fields : (o v : ℕ) → o % 8 ≡ 0 → 88 ≤ o → o + 8 ≤ len → v < 2 ^ 64 → Fit (record { at = o; value = v })
  to_fields o v z l i s = (record { aligned = z; inside = i; small = s }, l)

  fields_fit : Each Fit field_stores
  fields_fit =
      each_more (to_fields there 5 (omega (arith, start)) (omega (arith, start)) (omega (arith, g.room)) (omega arith))
      (each_more (to_fields (there + 8) (16 + 16 * a.field_cells) (omega (arith, start)) (omega (arith, start)) (omega (arith, g.room)) (omega (arith, g.field_cells_lem))) each_none)

  -- all twelve
  all_fit : (s : Store) → Memᴰ s (head_stores ++ field_stores) → Fit s
  all_fit s m = go (Memᴰ.append_cases head_stores m)
    where
      low : Head here s.at → 88 ≤ s.at
      low (inl h) = h.0
      low (inr h) = omega (arith, start)

      go : Memᴰ s head_stores ⊎ Memᴰ s field_stores → Fit s
      go (inl i) = let k = each_in in_head s i in (k.0, low k.1)
      go (inr i) = each_in fields_fit s i

  -- so they can be carried out
  carry : AllCarry (length (first_bytes len a)) (head_stores ++ field_stores)
  carry s m = subst (λ (n : ℕ). Carries n s) (sym (first_length len a given g)) (all_fit s m).0

  -- the new file
  file_is : new_file len a ≡ carry_all (head_stores ++ field_stores) (first_bytes len a)
  unfolding new_file
  file_is = ap (λ (ss : List Store). carry_all ss (first_bytes len a)) stores_are

  -- is as long as asked for
  pub file_length : length (new_file len a) ≡ len
  file_length = ap length file_is ∙ length_carry_all (head_stores ++ field_stores) (first_bytes len a) (each_all (head_stores ++ field_stores) (λ s m. (carry s m).inside)) ∙ first_length len a given g

  -- and made of bytes
  pub file_bytes : Bytes (new_file len a)
  file_bytes = subst (λ (i : Image). Bytes i) (sym file_is) (bytes_carried (head_stores ++ field_stores) (first_bytes len a) carry (first_are_bytes len a given g))

  -- what stands before 88 is as it was: a number
  pub first_number : (n o : ℕ) → o + n ≤ 88 → number_at n (new_file len a) o ≡ number_at n (first_bytes len a) o
  first_number n o l =
      ap (λ (i : Image). number_at n i o) file_is
      ∙ number_before (head_stores ++ field_stores) (first_bytes len a) carry n o (each_all (head_stores ++ field_stores) (λ s m. omega (arith, (all_fit s m).1, l)))

  -- and a part
  pub first_part : (n o : ℕ) → o + n ≤ 88 → take n (drop o (new_file len a)) ≡ take n (drop o (first_bytes len a))
  first_part n o l =
      ap (λ (i : Image). take n (drop o i)) file_is
      ∙ part_before (head_stores ++ field_stores) (first_bytes len a) carry n o (each_all (head_stores ++ field_stores) (λ s m. omega (arith, (all_fit s m).1, l)))

  -- a word
  word_at_lem : (o : ℕ) → o % 8 ≡ 0 → word_at (new_file len a) o ≡ left (head_stores ++ field_stores) o (word_at (first_bytes len a) o)
  word_at_lem o z = ap (λ (i : Image). word_at i o) file_is ∙ word_left (head_stores ++ field_stores) (first_bytes len a) carry o z

  -- the last two stores leave the words before the field table
  before_second : (o x : ℕ) → o < there → left field_stores o x ≡ x
  before_second o x l = left_past _ _ o x (λ e. omega (arith, l)) ∙ left_past _ _ o x (λ e. omega (arith, l)) ∙ left_none o x

  -- the header's stores leave the words after 144
  header_others : (o : ℕ) → 144 < o → Each (λ s. s.at ≡ o → ⊥) header_stores
  header_others o l =
      each_more (below 88 o (omega arith)) (each_more (below 96 o (omega arith)) (each_more (below 136 o (omega arith))
      (each_more (below 144 o (omega arith)) (each_more (below 104 o (omega arith)) (each_more (below 112 o (omega arith)) each_none)))))

  field_word_others : (o : ℕ) → 144 < o → Each (λ s. s.at ≡ o → ⊥) field_word_stores
  field_word_others o l = each_more (below 120 o (omega arith)) (each_more (below 128 o (omega arith)) each_none)

  -- the data table's those before it
  data_others : (o : ℕ) → o < here → Each (λ s. s.at ≡ o → ⊥) data_stores
  data_others o l = each_more (above here o l) (each_more (above (here + 8) o (omega arith)) each_none)

  fields_past : (o x : ℕ) → o ≤ 144 → left (field_word_stores ++ field_stores) o x ≡ left field_word_stores o x
  unfolding left
  fields_past o x l = before_second o _ (omega (arith, l, start))

  -- so that in a word of the header its own stores alone leave something
  header_word_lem : (o x : ℕ) → o ≤ 144 → left (data_stores ++ (field_word_stores ++ field_stores)) o x ≡ left field_word_stores o x
  header_word_lem o x l =
      left_others data_stores (field_word_stores ++ field_stores) o x (data_others o (omega (arith, l, start)))
      ∙ fields_past o x l

  -- the words of the header, each as its store says
  pub header_words : (word_at (new_file len a) 88 ≡ here) × (word_at (new_file len a) 96 ≡ len - here) × (word_at (new_file len a) 104 ≡ here + 16) × (word_at (new_file len a) 112 ≡ 16 * a.data_cells)
      × (word_at (new_file len a) 120 ≡ there + 16) × (word_at (new_file len a) 128 ≡ 16 * a.field_cells) × (word_at (new_file len a) 136 ≡ there) × (word_at (new_file len a) 144 ≡ 2)
  unfolding left
  header_words = (
    word_at_lem 88 refl ∙ header_word_lem 88 here (omega arith),
    word_at_lem 96 refl ∙ header_word_lem 96 (len - here) (omega arith),
    word_at_lem 104 refl ∙ header_word_lem 104 (here + 16) (omega arith),
    word_at_lem 112 refl ∙ header_word_lem 112 (16 * a.data_cells) (omega arith),
    word_at_lem 120 refl ∙ header_word_lem 120 (word_at (first_bytes len a) 120) (omega arith),
    word_at_lem 128 refl ∙ header_word_lem 128 (word_at (first_bytes len a) 128) (omega arith),
    word_at_lem 136 refl ∙ header_word_lem 136 there (omega arith),
    word_at_lem 144 refl ∙ header_word_lem 144 2 (omega arith),
  )

  -- the data table's type
  pub data_type_lem : word_at (new_file len a) here ≡ 4
  data_type_lem =
      word_at_lem here start.aligned
      ∙ left_others header_stores (data_stores ++ (field_word_stores ++ field_stores)) here _ (header_others here (omega (arith, start)))
      ∙ left_here _ _ here _ refl ∙ left_past _ _ here 4 (λ e. omega (arith, e))
      ∙ left_others field_word_stores field_stores here 4 (field_word_others here (omega (arith, start)))
      ∙ before_second here 4 (omega arith)

  -- and size
  pub data_long_lem : word_at (new_file len a) (here + 8) ≡ 16 + 16 * a.data_cells
  data_long_lem =
      word_at_lem (here + 8) (omega (arith, start))
      ∙ left_others header_stores (data_stores ++ (field_word_stores ++ field_stores)) (here + 8) _ (header_others (here + 8) (omega (arith, start)))
      ∙ left_past _ _ (here + 8) _ (λ e. omega (arith, e)) ∙ left_here _ _ (here + 8) _ refl
      ∙ left_others field_word_stores field_stores (here + 8) (16 + 16 * a.data_cells) (field_word_others (here + 8) (omega (arith, start)))
      ∙ before_second (here + 8) (16 + 16 * a.data_cells) (omega arith)

  -- a word that none of the first ten is to
  word_clear : (o : ℕ) → o % 8 ≡ 0 → Clear here o → word_at (new_file len a) o ≡ left field_stores o 0
  word_clear o z c =
      word_at_lem o z ∙ left_others head_stores field_stores o _ (each_all head_stores (λ s m. clear_other here s.at o start.low (each_in in_head s m).1 c)) ∙ ap (left field_stores o) (first_word len a given g o (low c))
    where
      low : Clear here o → 88 ≤ o
      low (inl h) = omega arith
      low (inr h) = omega (arith, start)

  -- before the field table
  pub zero_before : (o : ℕ) → o % 8 ≡ 0 → Clear here o → o < there → word_at (new_file len a) o ≡ 0
  zero_before o z c l = word_clear o z c ∙ before_second o 0 l

  -- and from its cells on
  pub zero_after : (o : ℕ) → o % 8 ≡ 0 → there + 16 ≤ o → word_at (new_file len a) o ≡ 0
  zero_after o z l =
      word_clear o z (inr (omega arith)) ∙ left_past _ _ o 0 (λ e. omega (arith, l)) ∙ left_past _ _ o 0 (λ e. omega (arith, l)) ∙ left_none o 0

  -- the field table's type
  pub field_type_lem : word_at (new_file len a) there ≡ 5
  field_type_lem =
      word_clear there (omega (arith, start)) (inr (omega (arith, g.data_some_lem)))
      ∙ left_here _ _ there 0 refl ∙ left_past _ _ there 5 (λ e. omega (arith, e)) ∙ left_none there 5

  -- and size
  pub field_long_lem : word_at (new_file len a) (there + 8) ≡ 16 + 16 * a.field_cells
  field_long_lem =
      word_clear (there + 8) (omega (arith, start)) (inr (omega arith))
      ∙ left_past _ _ (there + 8) 0 (λ e. omega (arith, e)) ∙ left_here _ _ (there + 8) 0 refl ∙ left_none (there + 8) (16 + 16 * a.field_cells)
