-- The stream on worked examples: for each rule of the cascade two entries that it decides, and the files of the two appends, one of
-- which is an append behind the other.
use Rattle.std.specs.Prelude.{◌≡◌, refl, true, false, List, [], ◌∷◌, map, ℕ}
use Rattle.format.specs.Header.{Image}
use Rattle.reading.specs.View.{Shown, part, shown_entry, shown_payloads, view}
use Rattle.reading.specs.Merged.{Turn, first, second, both, by, if_same, comes_first, equal, turn, turns, merged_from, entry_of, file_of}
use Rattle.reading.specs.MergedAnswers.{pair_refusal, stream_from}
use Rattle.examples.specs.Examples.{definitions, counting, asked, blank, packed_field, message, priority, many_fields, request, one, two}
use Rattle.examples.specs.Examples.{first as first_append}
use Rattle.examples.specs.Examples.{second as second-append}

-- an entry by its seqnum, boot, monotonic, realtime and xor_hash
unfoldable pub entry : ℕ → ℕ → ℕ → ℕ → ℕ → Shown
entry s b m t x = record { offset = 0; seqnum = s; realtime = t; monotonic = m; boot = b ∷ []; xor_hash = x; items = [] }

-- whose entry is shown: 1, 2, or 3 for both
unfoldable pub whose : Turn → ℕ
whose (first e) = 1
whose (second f) = 2
whose (both e f) = 3

-- "same seqnum id goes by sequence number; otherwise, or if equal, same boot by monotonic time; otherwise, or if equal, by realtime,
-- then by xor_hash, then the first file": each rule against all that come after it, and then the equal ones
unfoldable pub decided : List ℕ
decided =
    whose (turn true (entry 9223372036854775807 1 9 9 9) (entry 9223372036854775808 1 1 1 1))
    ∷ whose (turn false (entry 9223372036854775808 1 9 9 9) (entry 1 1 10 1 1))
    ∷ whose (turn true (entry 7 1 2 1 1) (entry 7 1 1 9 9))
    ∷ whose (turn true (entry 7 1 9 1 9) (entry 7 2 1 2 1))
    ∷ whose (turn false (entry 1 1 5 2 1) (entry 9 1 5 1 9))
    ∷ whose (turn false (entry 9 1 5 2 9223372036854775808) (entry 1 1 5 2 9223372036854775807))
    ∷ whose (turn false (entry 9 1 5 2 3) (entry 1 1 5 2 3))
    ∷ whose (turn true (entry 7 1 5 2 3) (entry 7 2 5 2 3))
    ∷ whose (turn true (entry 7 1 5 2 3) (entry 7 1 5 2 3))
    ∷ []

-- the stream of two images from the start, as file and offset
unfoldable pub streamed : Image → Image → List (List ℕ)
streamed a b = ((pair_refusal a b).number ∷ []) ∷ map (λ t. whose t ∷ file_of t ∷ (entry_of t).offset ∷ []) (stream_from a b 0 0)

pub rules_decide : decided ≡ 1 ∷ 1 ∷ 2 ∷ 1 ∷ 2 ∷ 2 ∷ 1 ∷ 1 ∷ 3 ∷ []
unfolding definitions entry whose decided by if_same comes_first equal turn
rules_decide = refl

-- a file and the same file an append on: the entry that both have is shown once, from the first
pub append_behind : streamed one two ≡ (0 ∷ []) ∷ (3 ∷ 1 ∷ 584 ∷ []) ∷ (2 ∷ 2 ∷ 736 ∷ []) ∷ []
unfolding definitions counting asked blank packed_field message priority many_fields request first_append second-append one two part shown_entry shown_payloads view by if_same comes_first equal turn turns merged_from entry_of file_of pair_refusal whose streamed
append_behind = refl
