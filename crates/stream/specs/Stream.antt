-- What the stream of two files is, as one statement over every two images that open. "Each entry of both files comes once, in its
-- file's order, but for those met pairs": as equations on the parts of the stream by file. Stepping as a host does shows the stream,
-- and a page goes on where the one before it stopped.
use Rattle.std.specs.Prelude.{◌≡◌, Bool, true, false, not, ◌||◌, ℕ, zero, suc, take, drop, eqb}
use mathlib.Core.List.{List, [], ◌∷◌, map, Memᴰ}
use Rattle.format.specs.Header.{Image}
use Rattle.format.specs.File.{model}
use Rattle.reading.specs.View.{Shown, view}
use Rattle.reading.specs.Lookup.{entries_with}
use Rattle.reading.specs.Merged.{Turn, both, equal, merged, entry_of, file_of, of_first, of_second}
use Rattle.reading.specs.MergedAnswers.{pair_refusal, same_ids, stream_from, merged_numbers, merged_page}

-- the entries that some turns show of the file with a number
unfoldable pub shown_of : ℕ → List Turn → List Shown
shown_of n [] = []
shown_of n (t ∷ ts) = elim (eqb (file_of t) n) [ true ↦ entry_of t ∷ shown_of n ts | false ↦ shown_of n ts ]

-- one of the entries of the first file is equal to an entry of the second
unfoldable pub has_equal : Bool → List Shown → Shown → Bool
has_equal has_same_id [] f = false
has_equal has_same_id (e ∷ es) f = equal has_same_id e f || has_equal has_same_id es f

-- "their committed entries merged"
abbrev pub stream : Image → Image → List Turn
stream a b = merged (view (model a)) (view (model b))

-- what a step tells of a turn: the file's number, and the entry's offset
pub record Told : Type 0 where
  pub file : ℕ
  pub entry : ℕ

unfoldable pub told_of : Turn → Told
told_of t = record { file = file_of t; entry = (entry_of t).offset }

-- so many steps as a host takes them, each from the places that the one before gave, until none is shown
unfoldable pub stepping : ℕ → Image → Image → ℕ → ℕ → List Told
stepping zero a b i j = []
stepping (suc k) a b i j =
    let m = merged_numbers a b i j in
    elim m.file [ zero ↦ [] | suc n ↦ record { file = m.file; entry = m.entry } ∷ stepping k a b m.next_first m.next_second ]

-- what holds of the stream of two images
pub record Streams (a b : Image) : Type 0 where
  -- from any two places: every entry from there on once, in its file's order, and those that meet are equal
  pub first : (i j : ℕ) → of_first (stream_from a b i j) ≡ drop i (view (model a)).entries
  pub second : (i j : ℕ) → of_second (stream_from a b i j) ≡ drop j (view (model b)).entries
  pub met : (i j : ℕ) (e f : Shown) → Memᴰ (both e f) (stream_from a b i j) → equal (same_ids a b) e f ≡ true
  -- from the start every equal pair meets: shown are all entries of the first file, and those of the second that have no equal there
  pub of_the_first : shown_of 1 (stream a b) ≡ (view (model a)).entries
  pub of_the_second : shown_of 2 (stream a b)
      ≡ entries_with (λ f. not (has_equal (same_ids a b) (view (model a)).entries f)) (view (model b)).entries
  -- from the start, and from any two places, so many steps show so many turns
  pub all : (k : ℕ) → stepping k a b 0 0 ≡ take k (map (λ t. told_of t) (stream a b))
  pub steps : (k i j : ℕ) → stepping k a b i j ≡ take k (map (λ t. told_of t) (stream_from a b i j))
  -- a page gives the places where the stream goes on behind its records
  pub pages : (i j room : ℕ) → let p = merged_page a b i j room in
      stream_from a b p.next_first p.next_second ≡ drop p.count (stream_from a b i j)

-- request m: of every two images that open
abbrev pub TwoFiles : Type 0
TwoFiles = (a b : Image) → (pair_refusal a b).number ≡ 0 → Streams a b
