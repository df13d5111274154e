-- An image with two empty tables and nothing else takes appends and shows nothing: every rule of 8 to 11 and of 14 that speaks of
-- objects other than tables has nothing to speak of, and the words of header and cells are 0.
use mathlib.Core.Path.{◌≡◌, refl, sym, ap, ap₂, ◌∙◌, subst}
use mathlib.Core.Logic.{inl}
use mathlib.Core.Bool.{true, false, not}
use mathlib.Core.List.Memᴰ
use mathlib.Core.List.{List, [], map, reverse}
use Prim.Native.Nat.{ℕ, ◌+◌, ◌%◌, ◌<◌}
use native.Mathlib.Omega.{arith}
use lib.ListN.{length, take}
use borrow.Author.Tests.{eq-eqb, leb-true}
use Rattle.format.specs.Tests.{any, filter, last_or0}
use Rattle.format.specs.Says.{In}
use Rattle.format.specs.Header.{Image, header_id, seqnum_id, HeaderField, offset_of, LateField, tail_entry_array, tail_entry_offset, late_offset, header_length, first_object, header_word, state_of, boot_of_tail, n_entries, tail_entry_seqnum, head_entry_seqnum, entry_array_offset, head_entry_realtime, tail_entry_realtime, n_data, n_fields, n_tags, n_entry_arrays}
use Rattle.format.specs.Kinds.{Kind, DATA, FIELD, ENTRY, ENTRY_ARRAY, TAG, Table, data_table, field_table, chained_kind, type_of}
use Rattle.format.specs.Refusal.{Walked, table_object}
use Rattle.format.specs.File.{File, model, has_late, header, late, cell_head, cell_tail, next_hash}
use Rattle.format.proofs.HeaderSizes.{first-start}
use Rattle.format.proofs.Frames.{walked}
use Rattle.reading.specs.Chains.{trail, cell_chain}
use Rattle.reading.specs.Committed.{header_items, committed, last_committed, held}
use Rattle.reading.specs.Refusal.{refusal}
use Rattle.reading.proofs.Opening.{refusal_index}
use Rattle.reading.specs.View.{View, Shown, Part, ForeignObject, part, shown_entry, shown_payloads, foreign_objects, view}
use Rattle.writing.specs.TailArray.{tail_array}
use Rattle.writing.specs.Agreement.{disagrees, facts_fault, late_fault, chains_fault, counted_fault, array_references, twice}
use Rattle.writing.specs.Ready.{state_fault}
use Rattle.writing.proofs.ReadyLaws.{Agreeing, agreement_clears}
use Rattle.partial_append.proofs.FormedLaws.{formed}
use Rattle.partial_append.proofs.Passing.{Passes, passed}
use Rattle.next_append.specs.Next.{TakesAppends}
use Rattle.next_append.specs.Blank.{Blank}
use Rattle.next_append.proofs.Taking.{state_of_word, takes_appends}
use Rattle.writing.proofs.AgreementSays.{CountersRight, counters_clear, late_clear, tails_clear, data_tails_clear}
use Rattle.next_append.proofs.BlankFrame.{two_objects, frame_clear, none_of_kind, none_foreign}

module _ {img : Image} {data_cells field_cells : ℕ} (b : Blank img data_cells field_cells) where
  -- the file that it holds
  abbrev F : File
  F = model img

  -- there is no object of a kind but tables
  pub no_data : F.of DATA ≡ []
  no_data = none_of_kind b DATA (λ e. omega arith) (λ e. omega arith)

  no_field : F.of FIELD ≡ []
  no_field = none_of_kind b FIELD (λ e. omega arith) (λ e. omega arith)

  no_entry_lem : F.of ENTRY ≡ []
  no_entry_lem = none_of_kind b ENTRY (λ e. omega arith) (λ e. omega arith)

  no_array : F.of ENTRY_ARRAY ≡ []
  no_array = none_of_kind b ENTRY_ARRAY (λ e. omega arith) (λ e. omega arith)

  no_tag : F.of TAG ≡ []
  no_tag = none_of_kind b TAG (λ e. omega arith) (λ e. omega arith)

  no_chained : (t : Table) → F.of (chained_kind t) ≡ []
  no_chained data_table = no_data
  no_chained field_table = no_field

  -- so that whatever is asked of each of them holds
  no_member : (k : Kind) → F.of k ≡ [] → (o : ℕ) → In o (F.of k) → ⊥
  no_member k e o m = Memᴰ.not-nil (subst (λ (l : List ℕ). In o l) e m)

  -- cells are empty
  cell_empty : (t : Table) (c : ℕ) → c < F.cells t → (F.read (cell_head t c) ≡ 0) × (F.read (cell_tail t c) ≡ 0)
  unfolding table_object
  cell_empty data_table c l =
      (b.data_empty _ (omega (arith, b.data_at, first-start img)) (omega (arith, b.data_at, first-start img)) (omega (arith, b.data_at, b.data_size, first-start img)), b.data_empty _ (omega (arith, b.data_at, first-start img)) (omega (arith, b.data_at, first-start img)) (omega (arith, b.data_at, b.data_size, first-start img)))
  cell_empty field_table c l = (b.field_empty _ (omega (arith, b.field_at, first-start img)) (omega (arith, b.field_at, first-start img)), b.field_empty _ (omega (arith, b.field_at, first-start img)) (omega (arith, b.field_at, first-start img)))

  -- a field that every header has stands before the first object
  before_first : (f : HeaderField) → offset_of f < header_length → offset_of f < first_object img
  before_first f h = omega (arith, h, first-start img)

  -- n_entries and entry_array_offset are 0
  pub no_entries : F.read (header n_entries) ≡ 0
  no_entries = b.facts (offset_of n_entries) refl (omega arith) (before_first n_entries (omega arith))

  pub no_chain : F.read (header entry_array_offset) ≡ 0
  no_chain = b.facts (offset_of entry_array_offset) refl (omega arith) (before_first entry_array_offset (omega arith))

  -- 1 to 7
  pub walked_blank : Walked img
  walked_blank = walked img (frame_clear b)

  -- 8 to 11
  passes_blank : Passes F
  passes_blank =
      record {
        first = inl no_chain;
        cells = λ t c l. inl (cell_empty t c l).0;
        data_links = λ o m. absurd (no_member DATA no_data o m);
        field_links = λ o m. absurd (no_member FIELD no_field o m);
        entry_links = λ o m. absurd (no_member ENTRY no_entry_lem o m);
        array_links = λ o m. absurd (no_member ENTRY_ARRAY no_array o m);
        position = λ i l. absurd (omega (arith, no_entries, l));
        list = λ o m. absurd (no_member DATA no_data o m);
        data_right = λ o m. absurd (no_member DATA no_data o m);
        field_right = λ o m. absurd (no_member FIELD no_field o m);
        entry_right = λ o m. absurd (no_member ENTRY no_entry_lem o m);
      }

  -- 1 to 11
  opens_blank : refusal img ≡ 0
  opens_blank = refusal_index img (frame_clear b) ∙ passed F (formed img b.bytes walked_blank) passes_blank

  -- nothing is committed
  none_committed : committed F ≡ []
  unfolding committed
  none_committed = ap (λ (n : ℕ). take n (header_items F)) no_entries

  -- the counters
  counters_blank : CountersRight F
  counters_blank =
      record {
        objects = b.objects ∙ ap length (sym (two_objects b));
        entries = no_entries ∙ ap length (sym no_entry_lem);
        datas = b.facts (offset_of n_data) refl (omega arith) (before_first n_data (omega arith)) ∙ ap length (sym no_data);
        fields = b.facts (offset_of n_fields) refl (omega arith) (before_first n_fields (omega arith)) ∙ ap length (sym no_field);
        tags = b.facts (offset_of n_tags) refl (omega arith) (before_first n_tags (omega arith)) ∙ ap length (sym no_tag);
        arrays = b.facts (offset_of n_entry_arrays) refl (omega arith) (before_first n_entry_arrays (omega arith)) ∙ ap length (sym no_array);
      }

  -- the facts of no entry
  facts_blank : facts_fault F (committed F) ≡ false
  unfolding facts_fault disagrees
  facts_blank =
      ap (facts_fault F) none_committed
      ∙ rw (
        eq-eqb (header_word img head_entry_seqnum) 0 (b.facts (offset_of head_entry_seqnum) refl (omega arith) (before_first head_entry_seqnum (omega arith))),
        eq-eqb (header_word img tail_entry_seqnum) 0 (b.facts (offset_of tail_entry_seqnum) refl (omega arith) (before_first tail_entry_seqnum (omega arith))),
        eq-eqb (header_word img head_entry_realtime) 0 (b.facts (offset_of head_entry_realtime) refl (omega arith) (before_first head_entry_realtime (omega arith))),
        eq-eqb (header_word img tail_entry_realtime) 0 (b.facts (offset_of tail_entry_realtime) refl (omega arith) (before_first tail_entry_realtime (omega arith))),
      ) refl

  -- the words of a longer header
  late_empty : (l : LateField) → has_late F l ≡ true → F.read (late l) ≡ 0
  unfolding has_late
  late_empty tail_entry_array h = b.facts (late_offset tail_entry_array) refl (omega arith) (omega (arith, leb-true (late_offset tail_entry_array + 8) (first_object img) h))
  late_empty tail_entry_offset h = b.facts (late_offset tail_entry_offset) refl (omega arith) (omega (arith, leb-true (late_offset tail_entry_offset + 8) (first_object img) h))

  late_blank : late_fault F ≡ false
  unfolding tail_array last_committed last_or0
  late_blank =
      (late_clear F).1 (
        λ h. late_empty tail_entry_array h ∙ ap (tail_array F (header entry_array_offset)) (sym no_entries),
        λ h. late_empty tail_entry_offset h ∙ ap last_or0 (sym none_committed),
      )

  -- chains are empty
  no_chained_cell : (t : Table) (c : ℕ) → cell_chain F t c ≡ []
  unfolding cell_chain trail
  no_chained_cell t c = ap (λ (l : List ℕ). trail (λ o. F.read (next_hash t o)) l (F.read (cell_head t c))) (no_chained t)

  -- no DATA or FIELD is off its chain
  chains_blank : chains_fault F ≡ false
  unfolding chains_fault any
  chains_blank = rw (no_data, no_field) refl

  -- no DATA counts anything
  counted_blank : counted_fault F ≡ false
  unfolding counted_fault any
  counted_blank = rw no_data refl

  -- no word refers to an array
  references_blank : twice (array_references F) ≡ false
  unfolding array_references filter twice
  references_blank = rw (no_chain, no_data, no_array) refl

  -- 14
  agrees_blank : Agreeing F
  unfolding last_or0
  agrees_blank =
      record {
        counters = (counters_clear F).1 counters_blank;
        facts = facts_blank;
        late = late_blank;
        data_tails = (data_tails_clear F).1 (λ c o m. absurd (no_member DATA no_data o m));
        tails = λ t. (tails_clear F t).1 (λ c l. (cell_empty t c l).1 ∙ ap last_or0 (sym (no_chained_cell t c)));
        chains = chains_blank;
        counted = counted_blank;
        references = references_blank;
      }

  -- 13
  offline_blank : state_fault img ≡ false
  unfolding state_fault
  offline_blank = ap not (eq-eqb (state_of img) 0 (state_of_word img b.bytes ∙ ap (λ (n : ℕ). n % 256) b.offline))

  -- it takes appends
  pub blank_takes : TakesAppends img
  blank_takes =
      takes_appends img b.bytes (record { opens = opens_blank; compatible = b.compatible; sized = b.sized; offline = offline_blank; agrees = (agreement_clears F).1 agrees_blank })

  -- and shows nothing
  pub blank_shows : view F ≡ record { entries = []; payloads = []; seqnum_id = header_id img seqnum_id; foreign = []; boot_of_tail = boot_of_tail img }
  unfolding view shown_payloads foreign_objects filter
  blank_shows =
      ap₂ (λ (es : List ℕ) (ds : List ℕ). shown (map (λ e. shown_entry F e) es) (map (λ d. part F d) (reverse (filter (λ d. held F d) ds))) (foreign_objects F)) none_committed no_data
      ∙ ap (λ (os : List ℕ). shown [] [] (map (λ o. record { offset = o; type = type_of (F.kind o) }) os)) (none_foreign b)
    where
      shown : List Shown → List Part → List ForeignObject → View
      shown es ps fs = record { entries = es; payloads = ps; seqnum_id = header_id img seqnum_id; foreign = fs; boot_of_tail = boot_of_tail img }
