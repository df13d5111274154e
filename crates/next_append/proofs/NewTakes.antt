-- A new file that 20 does not refuse takes the first append and shows nothing: its words are those of two empty tables and nothing else.
use mathlib.Core.Path.{◌≡◌, refl, sym, ap, ap₂, ◌∙◌, subst}
use mathlib.Core.Logic.{inl, inr}
use mathlib.Core.Bool.{Bool, true, false, not, ◌&&◌, ◌||◌}
use mathlib.Core.List.{List, []}
use Prim.Native.Nat.{ℕ, ◌%◌}
use native.Mathlib.Omega.{arith}
use lib.Dec.{eqb}
use lib.Bits.{bit_and}
use lib.ListN.{length}
use Rattle.format.specs.Number.{number, number_at}
use Rattle.format.specs.Tests.{same}
use Rattle.format.specs.Header.{Image, is_header_size, first_object, header_word, header_size, header_id, compatible_flags, incompatible_flags, boot_of_tail, signature}
use Rattle.format.specs.Store.{bytes_of}
use Rattle.format.specs.File.{model}
use Rattle.format.specs.Refusal.{signature_fault, flags_fault}
use Rattle.format.proofs.HeaderSizes.{first_stored}
use Rattle.reading.specs.View.{View, view}
use Rattle.writing.specs.NewFile.{Asked, new_file_refusal, first_bytes, new_file, made}
use Rattle.writing.specs.Ready.{compatible_fault, header_size_fault}
use Rattle.writing.proofs.NewFiles.{size_written, size_appended, Granted, granted_by}
use Rattle.next_append.specs.Next.{TakesAppends, GivenIds, shows_nothing, New}
use Rattle.next_append.specs.Blank.{Blank}
use Rattle.next_append.proofs.FirstBytes.{first_flags, first_seqnum_id}
use Rattle.next_append.proofs.NewFileWords.{file_length, file_bytes, first_number, first_part, header_words, zero_before, zero_after, data_type_lem, data_long_lem, field_type_lem, field_long_lem}
use Rattle.next_append.proofs.BlankTakes.{blank_takes, blank_shows}

module _ (len : ℕ) (a : Asked) (given : GivenIds a) (g : Granted len a) where
  -- 3
  signed : signature_fault (new_file len a) ≡ false
  unfolding signature_fault first_bytes signature same
  signed = ap (λ (l : List ℕ). not (same l signature)) (first_part len a given g 8 0 (omega arith))

  -- the flags of the new file
  flags_are : (compatible_flags (new_file len a) ≡ elim (eqb a.size 272) [ true ↦ 2 | false ↦ 0 ]) × (bit_and (incompatible_flags (new_file len a)) 0xffffffeb ≡ 0)
  flags_are =
      let f = first_flags len a a.keyed refl g.flag (eqb a.size 272) refl in (
        first_number len a given g 4 8 (omega arith) ∙ f.0,
        ap (λ (n : ℕ). bit_and n 0xffffffeb) (first_number len a given g 4 12 (omega arith)) ∙ f.1,
      )

  -- 4
  flags : flags_fault (new_file len a) ≡ false
  unfolding flags_fault
  flags = ap (λ (n : ℕ). not (eqb n 0)) flags_are.1

  -- header_size
  size_is : header_word (new_file len a) header_size ≡ a.size
  size_is = (header_words len a given g).0

  -- 12: bit 1 is set, and it is set with 272 alone
  compatible : compatible_fault (new_file len a) ≡ false
  unfolding compatible_fault boot_of_tail
  compatible = rw (flags_are.0, size_is) (go (eqb a.size 272))
    where
      go : (long : Bool)
          → (not (eqb (bit_and (elim long as (λ _. ℕ) [ true ↦ 2 | false ↦ 0 ]) 0xfffffffd) 0) || (not (eqb (bit_and (elim long as (λ _. ℕ) [ true ↦ 2 | false ↦ 0 ]) 2) 0) && not long)) ≡ false
      go true = refl
      go false = refl

  -- 25
  sized : header_size_fault (new_file len a) ≡ false
  unfolding header_size_fault
  sized = rw size_is (size_appended a.size g.size)

  -- the boot id is the tail entry's exactly with 272
  boot_of_tail_lem : boot_of_tail (new_file len a) ≡ eqb a.size 272
  unfolding boot_of_tail
  boot_of_tail_lem = rw flags_are.0 (go (eqb a.size 272))
    where
      go : (long : Bool) → not (eqb (bit_and (elim long as (λ _. ℕ) [ true ↦ 2 | false ↦ 0 ]) 2) 0) ≡ long
      go true = refl
      go false = refl

  -- 13
  offline : number_at 8 (new_file len a) 16 ≡ 0
  unfolding first_bytes signature bytes_of number_at number
  offline = first_number len a given g 8 16 (omega arith)

  -- the first object starts at the header's end
  written : is_header_size (header_word (new_file len a) header_size) ≡ true
  written = rw size_is (size_written a.size g.size)

  first-is : first_object (new_file len a) ≡ a.size
  first-is = first_stored (new_file len a) written ∙ size_is

  -- two empty tables and nothing else
  blank : Blank (new_file len a) a.data_cells a.field_cells
  blank =
      let l = file_length len a given g in
      let w = header_words len a given g in
      let f = first-is in
      record {
        bytes = file_bytes len a given g;
        short = omega (arith, l, g.short);
        whole = ap (λ (n : ℕ). n % 8) l ∙ g.whole;
        data_some = g.data_some_lem;
        field_some = g.field_some_lem;
        room = omega (arith, f, l, g.room);
        signed = signed;
        flags = flags;
        compatible = compatible;
        offline = offline;
        header = written;
        sized = sized;
        arena = omega (arith, w.1, f, l);
        data_at = omega (arith, w.2, f);
        data_size = w.3;
        field_at = omega (arith, w.4, f);
        field_size = w.5;
        tail = omega (arith, w.6, f);
        objects = w.7;
        facts = λ o z h k. zero_before len a given g o z (inl (omega arith, omega (arith, k, f))) (omega (arith, k, f));
        data_type = rw f (data_type_lem len a given g);
        data_long = rw f (data_long_lem len a given g);
        field_type = rw f (field_type_lem len a given g);
        field_long = rw f (field_long_lem len a given g);
        data_empty = λ o z h k. zero_before len a given g o z (inr (omega (arith, h, f))) (omega (arith, k, f));
        field_empty = λ o z h. zero_after len a given g o z (omega (arith, h, f));
      }

  -- nothing is shown, under the seqnum id as given, and the boot id as the bit says
  shows : view (model (new_file len a)) ≡ shows_nothing a
  unfolding header_id
  shows = blank_shows blank ∙ ap₂ (λ (i : List ℕ) (b : Bool). showing i b) (first_part len a given g 16 72 (omega arith) ∙ first_seqnum_id len a given g) boot_of_tail_lem
    where
      showing : List ℕ → Bool → View
      showing i b = record { entries = []; payloads = []; seqnum_id = i; foreign = []; boot_of_tail = b }

  -- of the new file
  takes : TakesAppends (new_file len a) × (view (model (new_file len a)) ≡ shows_nothing a)
  takes = (blank_takes blank, shows)

-- what the call leaves is that file
made_new : (a : Asked) (img : Image) → new_file_refusal (length img) a ≡ 0 → made a img ≡ new_file (length img) a
unfolding made
made_new a img z = rw (made, z)

-- a new file takes the first append, and shows nothing
pub new : New
new a img given z =
    subst (λ (i : Image). TakesAppends i × (view (model i) ≡ shows_nothing a)) (sym (made_new a img z)) (takes (length img) a given (granted_by (length img) a z))

-- it has two empty tables and nothing else
pub new_blank : (a : Asked) (img : Image) → GivenIds a → new_file_refusal (length img) a ≡ 0 → Blank (made a img) a.data_cells a.field_cells
new_blank a img given z =
    subst (λ (i : Image). Blank i a.data_cells a.field_cells) (sym (made_new a img z)) (blank (length img) a given (granted_by (length img) a z))
