-- What an append leaves in the words that no lookup reads and 14 looks at: the header's counters, the facts of the first and the last
-- entry, those that a longer header has, the tail fields of DATA, and the tails of cells. F is the file before it and F' the file after it.
use Rattle.std.specs.Prelude.{◌≡◌, true, ℕ, suc, ◌+◌, ◌<◌, length}
use mathlib.Core.List.{List, [], ◌∷◌, Memᴰ}
use Rattle.format.specs.Says.{In}
use Rattle.format.specs.Header.{tail_entry_array, tail_entry_offset, entry_array_offset, n_objects, n_entries, tail_entry_seqnum, head_entry_seqnum, head_entry_realtime, tail_entry_realtime, tail_entry_monotonic, n_data, n_fields, n_tags, n_entry_arrays}
use Rattle.format.specs.Kinds.{DATA, Table, data_table, field_table}
use Rattle.format.specs.File.{File, has_late, header, late, cell_tail, entry_array, data_count, data_tail}
use Rattle.writing.specs.Request.{Request}
use Rattle.writing.specs.Placing.{placed, new_entry_at, old_items}
use Rattle.writing.specs.Growth.{item, growth, grown, new_arrays, after_entry}
use Rattle.writing.specs.Plan.{new_count, tail_array_after}
use Rattle.partial_append.specs.Growing.{new_in_cell}
use Rattle.partial_append.specs.Extends.{Stays}
use Rattle.plan_words.specs.Course.{Finished}
use Rattle.plan_words.specs.Planned.{new_by}

-- the last member, z if there is none
abbrev pub last_or : ℕ → List ℕ → ℕ
last_or z [] = z
last_or z (x ∷ xs) = last_or x xs

-- how many DATA or FIELDs are new
abbrev pub new_in : Table → File → Request → ℕ
new_in t F r = new_count t (placed F r.fields)

-- how many arrays are new
abbrev pub new_chained : File → Request → ℕ
new_chained F r = new_arrays (grown F r.fields)

-- how many objects are new, the ENTRY too
abbrev pub new_objects : File → Request → ℕ
new_objects F r = new_in data_table F r + new_in field_table F r + 1 + new_chained F r

-- the tail fields of an old DATA: of one of the entry that has counted before, as the growth of its list says; of any other as they were
pub data TailKept (F F' : File) (r : Request) (d : ℕ) : Type 0 where
  tail_of : (n end : ℕ) → F.read (data_count d) ≡ suc n → In d (old_items F (placed F r.fields))
      → Memᴰ (growth F (new_entry_at F r.fields) end (item (entry_array d) n)) (grown F r.fields)
      → F'.read (data_tail d) ≡ tail_array_after F (growth F (new_entry_at F r.fields) end (item (entry_array d) n)).value (entry_array d) n → TailKept F F' r d
  tail_as_was : (In d (old_items F (placed F r.fields)) → F.read (data_count d) ≡ 0) → Stays F F' (data_tail d) → TailKept F F' r d

-- F' is F with the append of a request committed, and with its counters, facts and tails stored
pub record Settled (F F' : File) (r : Request) : Type 0 where
  pub finished : Finished F F' r.fields r.stamp
  pub walked : length F'.objects ≡ length F.objects + new_objects F r
  -- (3) "n_objects, n_data, n_fields, n_entry_arrays"; n_tags stays
  pub objects : F'.read (header n_objects) ≡ F.read (header n_objects) + new_objects F r
  pub datas : F'.read (header n_data) ≡ F.read (header n_data) + new_in data_table F r
  pub fields : F'.read (header n_fields) ≡ F.read (header n_fields) + new_in field_table F r
  pub arrays : F'.read (header n_entry_arrays) ≡ F.read (header n_entry_arrays) + new_chained F r
  pub tags : Stays F F' (header n_tags)
  -- (4) the tail of a cell: the last new object that goes there, and as it was where none does
  pub tails : (t : Table) (c : ℕ) → c < F.cells t → F'.read (cell_tail t c) ≡ last_or (F.read (cell_tail t c)) (new_in_cell F' (new_by F r.fields) t c)
  -- (6) "tail_entry_seqnum, tail realtime and monotonic, and for a first entry head seqnum and realtime"
  pub tail_seqnum : F'.read (header tail_entry_seqnum) ≡ r.stamp.seqnum
  pub tail_realtime : F'.read (header tail_entry_realtime) ≡ r.stamp.realtime
  pub tail_monotonic : F'.read (header tail_entry_monotonic) ≡ r.stamp.monotonic
  pub head_first : F.read (header n_entries) ≡ 0 → (F'.read (header head_entry_seqnum) ≡ r.stamp.seqnum) × (F'.read (header head_entry_realtime) ≡ r.stamp.realtime)
  pub head_later : (F.read (header n_entries) ≡ 0 → ⊥) → Stays F F' (header head_entry_seqnum) × Stays F F' (header head_entry_realtime)
  -- (6) "in 272 the three fields"
  pub late_array : has_late F tail_entry_array ≡ true
      → F'.read (late tail_entry_array) ≡ tail_array_after F (after_entry F r.fields) (header entry_array_offset) (F.read (header n_entries))
  pub late_offset : has_late F tail_entry_offset ≡ true → F'.read (late tail_entry_offset) ≡ new_entry_at F r.fields
  -- (5) "The DATA's tail word goes with group 5 where it changes"
  pub data_tails : F.compact ≡ true → (d : ℕ) → In d (F.of DATA) → TailKept F F' r d
