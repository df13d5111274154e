-- An image that holds a header and two tables with empty cells and nothing else, by its words: what a new file is.
use Rattle.std.specs.Prelude.{◌≡◌, true, false, ℕ, ◌+◌, ◌*◌, ◌-◌, ◌%◌, ◌≤◌, ◌<◌, length}
use Rattle.format.specs.Number.{Bytes}
use Rattle.format.specs.Header.{Image, word_at, is_header_size, first_object, header_word, state, header_size, arena_size, data_table_offset, data_table_size, field_table_offset, field_table_size, tail_object_offset, n_objects}
use Rattle.format.specs.Refusal.{signature_fault, flags_fault}
use Rattle.writing.specs.Ready.{compatible_fault, header_size_fault}

-- where the field table stands, after a data table of so many cells that is the first object
abbrev pub second : ℕ → ℕ → ℕ
second first data_cells = first + (16 + 16 * data_cells)

-- such an image
pub record Blank (img : Image) (data_cells field_cells : ℕ) : Type 0 where
  pub bytes : Bytes img
  pub short : length img ≤ 8388608
  pub whole : length img % 8 ≡ 0
  pub data_some : 1 ≤ data_cells
  pub field_some : 1 ≤ field_cells
  pub room : second (first_object img) data_cells + 16 + 16 * field_cells ≤ length img
  -- the header: "signature .., bit 2 if keyed", bit 1 with 272, "header and arena size, the table offsets and sizes, tail_object_offset, n_objects"
  pub signed : signature_fault img ≡ false
  pub flags : flags_fault img ≡ false
  pub compatible : compatible_fault img ≡ false
  pub offline : header_word img state ≡ 0
  pub header : is_header_size (header_word img header_size) ≡ true
  pub sized : header_size_fault img ≡ false
  pub arena : header_word img arena_size ≡ length img - first_object img
  pub data_at : header_word img data_table_offset ≡ first_object img + 16
  pub data_size : header_word img data_table_size ≡ 16 * data_cells
  pub field_at : header_word img field_table_offset ≡ second (first_object img) data_cells + 16
  pub field_size : header_word img field_table_size ≡ 16 * field_cells
  pub tail : header_word img tail_object_offset ≡ second (first_object img) data_cells
  pub objects : header_word img n_objects ≡ 2
  -- from n_entries at 152 on to its end it is 0
  pub facts : (o : ℕ) → o % 8 ≡ 0 → 152 ≤ o → o < first_object img → word_at img o ≡ 0
  -- "the two tables' type and size"; "every other byte is 0"
  pub data_type : word_at img (first_object img) ≡ 4
  pub data_long : word_at img (first_object img + 8) ≡ 16 + 16 * data_cells
  pub field_type : word_at img (second (first_object img) data_cells) ≡ 5
  pub field_long : word_at img (second (first_object img) data_cells + 8) ≡ 16 + 16 * field_cells
  pub data_empty : (o : ℕ) → o % 8 ≡ 0 → first_object img + 16 ≤ o → o < second (first_object img) data_cells → word_at img o ≡ 0
  pub field_empty : (o : ℕ) → o % 8 ≡ 0 → second (first_object img) data_cells + 16 ≤ o → word_at img o ≡ 0
