-- The summaries of the worked file: afresh when new and after each append, and brought forward by each; 26, 27 and 28.
use Rattle.std.specs.Prelude.{◌≡◌, refl, List, [], ◌∷◌, ◌++◌, ℕ, ◌-◌, length, take, replicate}
use Rattle.format.specs.Header.{Image}
use Rattle.format.specs.Store.{bytes_of}
use Rattle.format.specs.Stores.{carry_all}
use Rattle.writing.specs.Request.{Request}
use Rattle.writing.specs.Plan.{stores_of}
use Rattle.exchange.specs.Export.{laid}
use Rattle.summary.specs.Summary.{field_of, holds_field, payloads_by, entries_by, count_by, counts_among, counts_by, count_bytes, last_number, trailer, summary_with, summary_of, room_for, summed, summed_answer, summed_bytes}
use Rattle.summary.specs.Forward.{records_length, file_id_in, count_in, last_number_in, records_from, records_in, length_wrong, offsets_wrong, counts_wrong, summary_wrong, before, other_journal, record_of, has_record, new_payloads, count_with, forward_among, forwarded, forward_rows, summed_next}
use Rattle.examples.specs.Examples.{definitions, counting, asked, blank, packed_field, message, priority, request, first, second}

-- some words as bytes
unfoldable pub word_bytes : List ℕ → List ℕ
word_bytes [] = []
word_bytes (w ∷ ws) = bytes_of 8 w ++ word_bytes ws

-- MESSAGE and PRIORITY have their FIELDs at 408 and 536; the file id is that of `blank`
unfoldable pub summary_bytes : List ℕ → ℕ → ℕ → ℕ → List ℕ
summary_bytes ws n count last = word_bytes (ws ++ (n ∷ [])) ++ (counting 1 16 ++ word_bytes (count ∷ last ∷ []))

unfoldable pub none_yet : List ℕ
none_yet = summary_bytes [] 0 0 0

unfoldable pub after_one : List ℕ
after_one = summary_bytes (408 ∷ 1 ∷ 1 ∷ 536 ∷ 1 ∷ 1 ∷ []) 48 1 9223372036854775807

unfoldable pub after_two : List ℕ
after_two = summary_bytes (408 ∷ 1 ∷ 1 ∷ 536 ∷ 1 ∷ 2 ∷ []) 48 2 9223372036854775808

-- records as MESSAGE and PRIORITY have them after the first append, and its sequence number
unfoldable pub records : List ℕ
records = 408 ∷ 1 ∷ 1 ∷ 536 ∷ 1 ∷ 1 ∷ []

abbrev S : ℕ
S = 9223372036854775807

-- the numbers that old summaries are refused with, of a file
unfoldable pub refusals : Image → List (List ℕ) → List ℕ
refusals img [] = []
refusals img (old ∷ olds) = (summed_answer (summed_next img old 88)).refusal ∷ refusals img olds

-- afresh on the new file and after each append, the bytes behind it as they were, and brought forward by each; a refused call leaves
-- the output; records that are wrong and pass, at the bound, one of them missing; a new record before an old one
unfoldable pub summaries_on : Image → Image → Image → List (List ℕ)
summaries_on new img next =
    summed_bytes (summed new 40) (replicate 41 7)
    ∷ summed_bytes (summed img 88) (replicate 90 7)
    ∷ summed_bytes (summed next 88) (replicate 88 7)
    ∷ summed_bytes (summed next 87) (replicate 87 7)
    ∷ summed_bytes (summed_next img none_yet 88) (replicate 88 7)
    ∷ summed_bytes (summed_next next after_one 88) (replicate 88 7)
    ∷ summed_bytes (summed_next next after_two 88) (replicate 88 7)
    ∷ summed_bytes (summed_next next (summary_bytes (408 ∷ 4096 ∷ 4096 ∷ []) 24 1 S) 88) (replicate 88 7)
    ∷ summed_bytes (summed_next img (summary_bytes (536 ∷ 3 ∷ 3 ∷ []) 24 0 0) 88) (replicate 88 7)
    -- 26 by the length: nothing, below 40, no multiple of 24, not all of it, near 2^64; by offsets: no FIELD's, falling, equal; by a
    -- count above 4,096: of payloads, of entries, of the trailer
    ∷ refusals next (
    []
    ∷ replicate 39 0
    ∷ take 87 after_one
    ∷ summary_bytes (408 ∷ 1 ∷ []) 16 1 S
    ∷ summary_bytes records 24 1 S
    ∷ summary_bytes records 18446744073709551592 1 S
    ∷ summary_bytes (400 ∷ 1 ∷ 1 ∷ []) 24 1 S
    ∷ summary_bytes (536 ∷ 1 ∷ 1 ∷ 408 ∷ 1 ∷ 1 ∷ []) 48 1 S
    ∷ summary_bytes (408 ∷ 1 ∷ 1 ∷ 408 ∷ 1 ∷ 1 ∷ []) 48 1 S
    ∷ summary_bytes (408 ∷ 4097 ∷ 1 ∷ []) 24 1 S
    ∷ summary_bytes (408 ∷ 1 ∷ 4097 ∷ []) 24 1 S
    ∷ summary_bytes records 48 4097 S
    ∷ [])
    -- 27 by the summary with the append already in it, by the count alone, the last number alone, another file id
    ∷ refusals next (
    after_two
    ∷ summary_bytes records 48 2 S
    ∷ summary_bytes records 48 1 5
    ∷ (word_bytes (records ++ (48 ∷ [])) ++ (counting 2 16 ++ word_bytes (1 ∷ S ∷ [])))
    ∷ [])
    -- the length of a summary; 28 in both calls; 27 by an empty journal; the order: 1, 28, 26, 27
    ∷ ((summed_answer (summed img 88)).len ∷ (summed_answer (summed img 87)).refusal ∷ (summed_answer (summed_next next after_one 87)).refusal
    ∷ (summed_answer (summed_next new none_yet 40)).refusal ∷ (summed_answer (summed_next (take 255 new) [] 0)).refusal
    ∷ (summed_answer (summed_next next [] 87)).refusal ∷ (summed_answer (summed_next new [] 40)).refusal ∷ [])
    ∷ []

unfoldable pub summaries_said : List (List ℕ)
summaries_said =
    (none_yet ++ (7 ∷ []))
    ∷ (after_one ++ (7 ∷ 7 ∷ []))
    ∷ after_two
    ∷ replicate 87 7
    ∷ after_one
    ∷ after_two
    ∷ replicate 88 7
    ∷ summary_bytes (408 ∷ 4096 ∷ 4096 ∷ 536 ∷ 0 ∷ 1 ∷ []) 48 2 9223372036854775808
    ∷ summary_bytes (408 ∷ 1 ∷ 1 ∷ 536 ∷ 4 ∷ 4 ∷ []) 48 1 S
    ∷ replicate 12 26
    ∷ replicate 4 27
    ∷ (88 ∷ 28 ∷ 28 ∷ 27 ∷ 1 ∷ 28 ∷ 26 ∷ [])
    ∷ []

pub summaries_are : (let a = carry_all (stores_of (blank 4096) first) (blank 4096) in summaries_on (blank 4096) a (carry_all (stores_of a (second 9223372036854775808)) a)) ≡ summaries_said
unfolding definitions counting asked blank packed_field message priority request first second word_bytes summary_bytes none_yet after_one after_two records refusals summaries_on summaries_said laid field_of holds_field payloads_by entries_by count_by counts_among counts_by count_bytes last_number trailer summary_with summary_of room_for summed summed_answer summed_bytes records_length file_id_in count_in last_number_in records_from records_in length_wrong offsets_wrong counts_wrong summary_wrong before other_journal record_of has_record new_payloads count_with forward_among forwarded forward_rows summed_next
summaries_are = refl

-- `PRIORITY=3` and `PRIORITY=2`, which the file has, and `LOT=1`, in one entry
unfoldable pub twice : Request
twice =
    request 9223372036854775808 1700000000000001 60
    (packed_field (80 ∷ 82 ∷ 73 ∷ 79 ∷ 82 ∷ 73 ∷ 84 ∷ 89 ∷ 61 ∷ 51 ∷ []) ++ (packed_field priority ++ packed_field (76 ∷ 79 ∷ 84 ∷ 61 ∷ 49 ∷ [])))

-- of the file with that append, and of the file cut just before its commit, which has the FIELD of LOT too, at 888: a field counts once
-- in an entry however many of its payloads are there, one that no committed entry holds has no record, and 28 counts it
unfoldable pub twice_on : Image → Image → List (List ℕ)
twice_on img cut =
    summed_bytes (summed img 112) (replicate 112 7)
    ∷ summed_bytes (summed_next img after_one 112) (replicate 112 7)
    ∷ summed_bytes (summed cut 112) (replicate 112 7)
    ∷ ((summed_answer (summed cut 111)).refusal ∷ (summed_answer (summed_next cut none_yet 112)).len ∷ [])
    ∷ []

unfoldable pub twice_said : List (List ℕ)
twice_said =
    summary_bytes (408 ∷ 1 ∷ 1 ∷ 536 ∷ 2 ∷ 2 ∷ 888 ∷ 1 ∷ 1 ∷ []) 72 2 9223372036854775808
    ∷ summary_bytes (408 ∷ 1 ∷ 1 ∷ 536 ∷ 2 ∷ 2 ∷ 888 ∷ 1 ∷ 1 ∷ []) 72 2 9223372036854775808
    ∷ (after_one ++ replicate 24 7)
    ∷ (28 ∷ 88 ∷ [])
    ∷ []

pub counted_once : (let a = carry_all (stores_of (blank 4096) first) (blank 4096) in let ss = stores_of a twice in twice_on (carry_all ss a) (carry_all (take (length ss - 2) ss) a)) ≡ twice_said
unfolding definitions counting asked blank packed_field message priority request first twice word_bytes summary_bytes none_yet after_one twice_on twice_said laid field_of holds_field payloads_by entries_by count_by counts_among counts_by count_bytes last_number trailer summary_with summary_of room_for summed summed_answer summed_bytes records_length file_id_in count_in last_number_in records_from records_in length_wrong offsets_wrong counts_wrong summary_wrong before other_journal record_of has_record new_payloads count_with forward_among forwarded forward_rows summed_next
counted_once = refl
