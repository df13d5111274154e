-- An image with two empty tables and nothing else: its objects are the two tables, and none of 1 to 7 refuses it.
use mathlib.Core.Path.{◌≡◌, refl, sym, ap, ◌∙◌}
use mathlib.Core.Logic.{inl}
use mathlib.Core.Bool.{false, not, ◌||◌}
use mathlib.Core.List.Memᴰ
use mathlib.Core.List.{[], ◌∷◌}
use Prim.Native.Nat.{ℕ, ◌+◌, ◌*◌, ◌/◌, ◌%◌, ◌≤◌, ◌<◌}
use native.Mathlib.Omega.{arith}
use lib.Dec.{ltb, leb, eqb}
use lib.ListN.{length, get_or}
use borrow.Author.Tests.{le-ltb, eq-eqb, ne_eqb}
use Rattle.format.specs.Tests.{filter}
use Rattle.format.specs.Header.{Image, word_at, first_object, header_word, arena_end, arena_size}
use Rattle.format.specs.Kinds.{Kind, kind_of, size_fault, type_of}
use Rattle.format.specs.Store.{bytes_of}
use Rattle.format.specs.Walk.{type_at, kind_at, flags_at, next_at, object_fault, objects, of_kind, walk_fault}
use Rattle.format.specs.Refusal.{arena_fault, header_refusal, tables_fault_among, tables_fault, frame_refusal}
use Rattle.format.proofs.Rising.{Path, last, more, path_walk_from, path_fault_among}
use Rattle.format.proofs.HeaderSizes.{first-start}
use Rattle.format.proofs.Growth.{object_sound}
use Rattle.format.proofs.Tables.{clears_tables}
use Rattle.format.proofs.Frames.{from_5, from_7}
use Rattle.format.proofs.Filters.{filter_stop}
use Rattle.format.specs.Number.{Bytes}
use Rattle.partial_append.proofs.BetweenBytes.{byte_of_number}
use Rattle.next_append.specs.Blank.{second, Blank}

-- an object whose first word is its type has that type and no flags
head_of : (img : Image) → Bytes img → (o t : ℕ) → t < 256 → word_at img o ≡ t → (type_at img o ≡ t) × (flags_at img o ≡ 0)
unfolding bytes_of
head_of img b o t l e =
    let p = byte_of_number img b 8 o 0 (omega arith) in
    let q = byte_of_number img b 8 o 1 (omega arith) in
    (ap (λ (x : ℕ). get_or img x 0) (sym (add-zero o)) ∙ p ∙ ap (λ (w : ℕ). w % 256) e ∙ omega arith, q ∙ ap (λ (w : ℕ). w / 256 % 256) e ∙ omega arith)
  where
    add-zero : (n : ℕ) → n + 0 ≡ n
    add-zero n = omega arith

module _ {img : Image} {data_cells field_cells : ℕ} (b : Blank img data_cells field_cells) where
  -- where the data table stands
  abbrev here : ℕ
  here = first_object img

  -- and the field table
  abbrev there : ℕ
  there = second here data_cells

  -- the arena ends with the image
  arena_end_lem : arena_end img ≡ length img
  arena_end_lem = omega (arith, b.arena, b.room)

  -- the first object is the data table
  data_head : (type_at img here ≡ 4) × (flags_at img here ≡ 0)
  data_head = head_of img b.bytes here 4 (omega arith) b.data_type

  -- the second the field table
  field_head : (type_at img there ≡ 5) × (flags_at img there ≡ 0)
  field_head = head_of img b.bytes there 5 (omega arith) b.field_type

  -- a table of some cells has a right size
  table_size_lem : (n : ℕ) → 1 ≤ n → (ltb (16 + 16 * n) 32 || not (eqb ((16 + 16 * n) % 16) 0)) ≡ false
  table_size_lem n l = rw (le-ltb (16 + 16 * n) 32 (omega arith), eq-eqb ((16 + 16 * n) % 16) 0 (omega arith)) refl

  -- so that both are without fault
  data_sound : object_fault img here ≡ false
  unfolding size_fault kind_at kind_of
  data_sound =
      object_sound img here (rw (data_head.0, b.data_long) (table_size_lem data_cells b.data_some)) (rw data_head.1 refl)
      (omega (arith, arena_end_lem, b.data_long, b.room))

  field_sound : object_fault img there ≡ false
  unfolding size_fault kind_at kind_of
  field_sound =
      object_sound img there (rw (field_head.0, b.field_long) (table_size_lem field_cells b.field_some)) (rw field_head.1 refl)
      (omega (arith, arena_end_lem, b.field_long, b.room))

  -- the walk goes over both
  path : Path img here (here ∷ there ∷ []) there
  unfolding next_at
  path = let n : next_at img here ≡ there = omega (arith, b.data_long) in more data_sound n (last field_sound refl)

  -- the objects are the two tables
  pub two_objects : objects img ≡ here ∷ there ∷ []
  unfolding objects
  two_objects = path_walk_from path b.tail

  -- 6
  walk_clear : walk_fault img ≡ false
  unfolding walk_fault objects
  walk_clear = path_fault_among path b.tail

  -- 7
  tables_clear : tables_fault img ≡ false
  unfolding tables_fault
  tables_clear =
      ap (tables_fault_among img) two_objects
      ∙ (clears_tables img here there []).1 (
        inl (
          record { type = data_head.0; offset = b.data_at; size = omega (arith, b.data_size, b.data_long) },
          record { type = field_head.0; offset = b.field_at; size = omega (arith, b.field_size, b.field_long) },
        ),
        λ o m. absurd (Memᴰ.not-nil m),
      )

  -- 5
  arena_clear : arena_fault img ≡ false
  unfolding arena_fault
  arena_clear =
      rw (
        b.header,
        eq-eqb (header_word img arena_size % 8) 0 (omega (arith, b.arena, b.whole, b.room, first-start img)),
        le-ltb (length img) (arena_end img) (omega (arith, arena_end_lem)),
      ) refl

  -- 1 to 5
  header_clear : header_refusal img ≡ 0
  header_clear = from_5 img (omega (arith, b.room, first-start img)) b.short b.signed b.flags false arena_clear

  -- 1 to 7
  pub frame_clear : frame_refusal img ≡ 0
  frame_clear = from_7 img header_clear walk_clear false tables_clear

  -- there is no object of a kind that is no table
  pub none_of_kind : (k : Kind) → (type_of k ≡ 4 → ⊥) → (type_of k ≡ 5 → ⊥) → of_kind img (objects img) k ≡ []
  unfolding of_kind filter
  none_of_kind k n m =
      ap (filter (λ o. eqb (type_at img o) (type_of k))) two_objects
      ∙ filter_stop (λ o. eqb (type_at img o) (type_of k)) here (there ∷ []) (ne_eqb (type_at img here) (type_of k) (λ e. n (sym e ∙ data_head.0)))
      ∙ filter_stop (λ o. eqb (type_at img o) (type_of k)) there [] (ne_eqb (type_at img there) (type_of k) (λ e. m (sym e ∙ field_head.0)))

  -- nor one of type 8 and up
  pub none_foreign : filter (λ o. leb 8 (type_of (kind_at img o))) (objects img) ≡ []
  unfolding kind_at kind_of filter
  none_foreign =
      ap (filter (λ o. leb 8 (type_of (kind_at img o)))) two_objects
      ∙ filter_stop (λ o. leb 8 (type_of (kind_at img o))) here (there ∷ []) (ap (λ (t : ℕ). leb 8 (type_of (kind_of t))) data_head.0)
      ∙ filter_stop (λ o. leb 8 (type_of (kind_at img o))) there [] (ap (λ (t : ℕ). leb 8 (type_of (kind_of t))) field_head.0)
