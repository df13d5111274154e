-- What is salvaged of the worked file: whole, with one word damaged, and into a file that is too short.
use Rattle.std.specs.Prelude.{◌≡◌, refl, cond, List, [], ◌∷◌, ◌++◌, ℕ, take, replicate}
use Rattle.format.specs.Lookup3.{hashlittle2}
use Rattle.format.specs.Tests.{same}
use Rattle.format.specs.Header.{Image}
use Rattle.format.specs.Store.{put}
use Rattle.format.specs.Stores.{carry_all}
use Rattle.writing.specs.NewFile.{new_file}
use Rattle.writing.specs.Plan.{stores_of, appended}
use Rattle.exchange.specs.Entry.{packed}
use Rattle.exchange.specs.Export.{laid}
use Rattle.salvage.specs.Reach.{blocked, is_tail, reach_for, stop_for, reach_from, stop_from, reached, stopped}
use Rattle.salvage.specs.Conditions.{payloads_in, items_fall, land_elsewhere, hashes_wrong, names_missing, repeats, payloads_repeat, xor_wrong, seqnum_falls, time_falls, conditions, failing, kept_among, Dropped, dropped_among, walked_entries, kept, dropped}
use Rattle.salvage.specs.Salvage.{machine_of, request_for, requests_for, append_number, run_on, run_for, dropped_bytes, report_of, report_room, salvage_rows, salvage_refusal, salvage_answer, salvaged_file, salvaged_report}
use Rattle.examples.specs.Examples.{definitions, counting, asked, blank, packed_field, message, priority, request, first, second}

-- offsets and conditions of some that are not kept
unfoldable pub told : List Dropped → List ℕ
told [] = []
told (d ∷ ds) = d.entry ∷ d.condition ∷ told ds

-- which ENTRYs are kept; which are not, and why; where the walk stopped
unfoldable pub judged : Image → List (List ℕ)
judged img = kept img ∷ told (dropped img) ∷ (stopped img ∷ []) ∷ []

-- the numbers of an answer
unfoldable pub answered : Image → ℕ → ℕ → List ℕ
answered img len room =
    let a = salvage_answer img asked len room in a.refusal ∷ a.kept ∷ a.dropped ∷ a.stopped_by ∷ []

-- `=ESSAGE=lot 12 due`, with nothing before its first `=`
unfoldable pub nameless_due : List ℕ
nameless_due = 61 ∷ 69 ∷ 83 ∷ 83 ∷ 65 ∷ 71 ∷ 69 ∷ 61 ∷ 108 ∷ 111 ∷ 116 ∷ 32 ∷ 49 ∷ 50 ∷ 32 ∷ 100 ∷ 117 ∷ 101 ∷ []

-- of the file with both appends, by words that are damaged: (1) an item twice, (2) an item on a FIELD, (3) the hash of a DATA, of an item,
-- (4) a payload without a name, (6) xor_hash, (7) seqnums 0 and equal, (8) the time; the walk: an object of type 0, tail_object_offset
-- missed, and in the middle. Then: the second held against the last kept and not the last walked; another boot; (7) before (8); header,
-- chains and tables gone; both dropped; a flag; the arena's end; a tail inside an object; an ENTRY without items
unfoldable pub judged_on : Image → List (List (List ℕ))
judged_on img =
    judged img
    ∷ judged (put img 648 456)
    ∷ judged (put img 648 408)
    ∷ judged (put img 336 1)
    ∷ judged (put img 656 1)
    ∷ judged (let h = hashlittle2 nameless_due in put (put (put img 384 0x3d_45_47_41_53_53_45_3d) 336 h) 656 h)
    ∷ judged (put img 640 0)
    ∷ judged (put img 600 0)
    ∷ judged (put img 752 9223372036854775807)
    ∷ judged (put img 768 49)
    ∷ judged (put img 816 0)
    ∷ judged (put img 136 0)
    ∷ judged (put img 136 584)
    ∷ judged (put (put img 640 0) 752 5)
    ∷ judged (put (put img 768 49) 776 0)
    ∷ judged (put (put img 752 1) 768 1)
    ∷ judged (put (put (put img 152 0) 176 0) 104 0)
    ∷ judged (put (put img 640 0) 792 0)
    ∷ judged (put img 816 0x106)
    ∷ judged (put img 824 3280)
    ∷ judged (put img 136 592)
    ∷ judged (put img 744 64)
    ∷ []

unfoldable pub judged_said : List (List (List ℕ))
judged_said =
    ((584 ∷ 736 ∷ []) ∷ [] ∷ (872 ∷ []) ∷ [])
    ∷ ((736 ∷ []) ∷ (584 ∷ 1 ∷ []) ∷ (872 ∷ []) ∷ [])
    ∷ ((736 ∷ []) ∷ (584 ∷ 2 ∷ []) ∷ (872 ∷ []) ∷ [])
    ∷ ((736 ∷ []) ∷ (584 ∷ 3 ∷ []) ∷ (872 ∷ []) ∷ [])
    ∷ ((736 ∷ []) ∷ (584 ∷ 3 ∷ []) ∷ (872 ∷ []) ∷ [])
    ∷ ((736 ∷ []) ∷ (584 ∷ 4 ∷ []) ∷ (872 ∷ []) ∷ [])
    ∷ ((736 ∷ []) ∷ (584 ∷ 6 ∷ []) ∷ (872 ∷ []) ∷ [])
    ∷ ((736 ∷ []) ∷ (584 ∷ 7 ∷ []) ∷ (872 ∷ []) ∷ [])
    ∷ ((584 ∷ []) ∷ (736 ∷ 7 ∷ []) ∷ (872 ∷ []) ∷ [])
    ∷ ((584 ∷ []) ∷ (736 ∷ 8 ∷ []) ∷ (872 ∷ []) ∷ [])
    ∷ ((584 ∷ 736 ∷ []) ∷ [] ∷ (816 ∷ []) ∷ [])
    ∷ ((584 ∷ 736 ∷ []) ∷ [] ∷ (872 ∷ []) ∷ [])
    ∷ ((584 ∷ []) ∷ [] ∷ (680 ∷ []) ∷ [])
    ∷ ((736 ∷ []) ∷ (584 ∷ 6 ∷ []) ∷ (872 ∷ []) ∷ [])
    ∷ ((584 ∷ 736 ∷ []) ∷ [] ∷ (872 ∷ []) ∷ [])
    ∷ ((584 ∷ []) ∷ (736 ∷ 7 ∷ []) ∷ (872 ∷ []) ∷ [])
    ∷ ((584 ∷ 736 ∷ []) ∷ [] ∷ (872 ∷ []) ∷ [])
    ∷ ([] ∷ (584 ∷ 6 ∷ 736 ∷ 6 ∷ []) ∷ (872 ∷ []) ∷ [])
    ∷ ((584 ∷ 736 ∷ []) ∷ [] ∷ (816 ∷ []) ∷ [])
    ∷ ((584 ∷ 736 ∷ []) ∷ [] ∷ (4096 ∷ []) ∷ [])
    ∷ ((584 ∷ 736 ∷ []) ∷ [] ∷ (872 ∷ []) ∷ [])
    ∷ ((584 ∷ []) ∷ [] ∷ (736 ∷ []) ∷ [])
    ∷ []

pub judged_are : judged_on (let a = carry_all (stores_of (blank 4096) first) (blank 4096) in carry_all (stores_of a (second 9223372036854775808)) a) ≡ judged_said
unfolding definitions counting asked blank packed_field message priority request first second told judged nameless_due judged_on judged_said blocked is_tail reach_for stop_for reach_from stop_from reached stopped payloads_in items_fall land_elsewhere hashes_wrong names_missing repeats payloads_repeat xor_wrong seqnum_falls time_falls conditions failing kept_among dropped_among walked_entries kept dropped
judged_are = refl

-- (5), an ENTRY with `A=1` and `A=2`, of which the second is made `A=1` too, with its right hashes
unfoldable pub two_alike : Image
two_alike =
    let h = hashlittle2 (65 ∷ 61 ∷ 49 ∷ []) in
    let new = blank 4096 in
    let r = request 1 2 3 (packed_field (65 ∷ 61 ∷ 49 ∷ []) ++ packed_field (65 ∷ 61 ∷ 50 ∷ [])) in
    put (put (put (carry_all (stores_of new r) new) 504 0x31_3d_41) 456 h) 600 h

pub alike_are : judged two_alike ≡ ([] ∷ (512 ∷ 5 ∷ []) ∷ (664 ∷ []) ∷ [])
unfolding definitions counting asked blank packed_field request told judged two_alike blocked is_tail reach_for stop_for reach_from stop_from reached stopped payloads_in items_fall land_elsewhere hashes_wrong names_missing repeats payloads_repeat xor_wrong seqnum_falls time_falls conditions failing kept_among dropped_among walked_entries kept dropped
alike_are = refl

-- the worked appends on a file of other ids, with another header, keyed
unfoldable pub elsewhere : Image
elsewhere =
    let new = new_file 4096 (record { ids = counting 101 64; data_cells = 3; field_cells = 2; keyed = 1; size = 272 }) in
    let a = carry_all (stores_of new first) new in
    carry_all (stores_of a (second 9223372036854775808)) a

-- the worked file is salvaged whole, under its own ids as itself, and so are its appends from elsewhere; without the first entry; into 736 bytes, where the second append is 18
-- and the first is in the file; the refusals in their order
unfoldable pub salvaged_on : Image → Image → List (List ℕ)
salvaged_on one two =
    (cond (same (salvaged_file two asked 40 (replicate 4096 7)) two) 1 0 ∷ cond (same (salvaged_file elsewhere asked 40 (replicate 4096 7)) two) 1 0 ∷ cond (same (salvaged_file two asked 40 (replicate 736 7)) one) 1 0 ∷ [])
    ∷ salvaged_report two asked 4096 (replicate 42 7)
    ∷ salvaged_report (put two 640 0) asked 4096 (replicate 40 7)
    ∷ salvaged_file two asked 39 (replicate 8 7)
    ∷ answered two 4096 40
    ∷ answered (put two 640 0) 4096 40
    ∷ answered two 736 40
    ∷ answered two 736 39
    ∷ answered two 312 39
    ∷ answered (take 255 two) 312 39
    ∷ []

unfoldable pub salvaged_said : List (List ℕ)
salvaged_said =
    (1 ∷ 1 ∷ 1 ∷ [])
    ∷ (104 ∷ 3 ∷ 0 ∷ 0 ∷ 0 ∷ 0 ∷ 0 ∷ 0 ∷ replicate 34 7)
    ∷ (72 ∷ 2 ∷ 0 ∷ 0 ∷ 0 ∷ 0 ∷ 0 ∷ 0 ∷ 6 ∷ 0 ∷ 0 ∷ 0 ∷ 0 ∷ 0 ∷ 0 ∷ 0 ∷ 104 ∷ 3 ∷ 0 ∷ 0 ∷ 0 ∷ 0 ∷ 0 ∷ 0 ∷ replicate 16 7)
    ∷ replicate 8 7
    ∷ (0 ∷ 2 ∷ 0 ∷ 0 ∷ [])
    ∷ (0 ∷ 1 ∷ 1 ∷ 0 ∷ [])
    ∷ (0 ∷ 1 ∷ 0 ∷ 18 ∷ [])
    ∷ (28 ∷ 0 ∷ 0 ∷ 0 ∷ [])
    ∷ (20 ∷ 0 ∷ 0 ∷ 0 ∷ [])
    ∷ (1 ∷ 0 ∷ 0 ∷ 0 ∷ [])
    ∷ []

pub salvaged_are : (let new = blank 4096 in let a = carry_all (stores_of new first) new in let two = carry_all (stores_of a (second 9223372036854775808)) a in
    salvaged_on (carry_all (stores_of (blank 736) first) (blank 736)) two) ≡ salvaged_said
unfolding definitions counting asked blank packed_field message priority request first second elsewhere appended packed laid answered salvaged_on salvaged_said machine_of request_for requests_for append_number run_on run_for dropped_bytes report_of report_room salvage_rows salvage_refusal salvage_answer salvaged_file salvaged_report blocked is_tail reach_for stop_for reach_from stop_from reached stopped payloads_in items_fall land_elsewhere hashes_wrong names_missing repeats payloads_repeat xor_wrong seqnum_falls time_falls conditions failing kept_among dropped_among walked_entries kept dropped
salvaged_are = refl
