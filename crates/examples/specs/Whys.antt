-- Why the worked file is refused where one word of it is damaged: the number, the place, and at 11 the two hashes. Its objects stand
-- at 256 and 288 (tables), 320 (DATA), 408 (FIELD), 456 (DATA), 536 (FIELD), 584 (ENTRY), 680 (array), 736 (ENTRY) and 816 (array).
use Rattle.std.specs.Prelude.{◌≡◌, refl, List, [], ◌∷◌, ℕ, replicate}
use Rattle.format.specs.Lookup3.{hashlittle2}
use Rattle.format.specs.Header.{Image}
use Rattle.format.specs.Store.{put}
use Rattle.format.specs.Stores.{carry_all}
use Rattle.reading.specs.Why.{walk_fault_at, link_fault_at, search_for, place_for, beside, hashes_in, first_wrong, wrong_hash_at, why_hash, why_for, why}
use Rattle.writing.specs.Plan.{stores_of}
use Rattle.examples.specs.Examples.{definitions, counting, asked, blank, packed_field, message, priority, request, first, second}

-- what a host is told: number, place, whether a hash is wrong, the stored and the right one
unfoldable pub told : Image → List ℕ
told img = let w = why img in w.refusal ∷ w.place ∷ w.hash_wrong ∷ w.stored ∷ w.right ∷ []

-- `MASSAGE=lot 12 due`
unfoldable pub massage : List ℕ
massage = 77 ∷ 65 ∷ 83 ∷ 83 ∷ 65 ∷ 71 ∷ 69 ∷ 61 ∷ 108 ∷ 111 ∷ 116 ∷ 32 ∷ 49 ∷ 50 ∷ 32 ∷ 100 ∷ 117 ∷ 101 ∷ []

-- of the file with both appends, as it is and damaged
unfoldable pub whys_on : Image → List (List ℕ)
whys_on img =
    -- "For a file that opens it says so and names no place"; "for 1 to 5 and 7 the place is 0"
    told img
    ∷ told (replicate 255 0)
    ∷ told (put img 120 320)
    -- 6: the size of the FIELD at 408; a tail_object_offset that is no object's, where the last one walked is named
    ∷ told (put img 416 40)
    ∷ told (put img 136 824)
    -- 8: entry_array_offset, "a bad entry_array_offset" of the header; a cell's head is the table's fault; an ENTRY item that is no DATA
    ∷ told (put img 176 320)
    ∷ told (put img 304 320)
    ∷ told (put img 648 408)
    -- 9: "of two neighbours, the later is at fault", by its index; the first position without an entry
    ∷ told (put img 752 9223372036854775807)
    ∷ told (put img 152 5)
    -- 10: the DATA at 456 counts one of its two entries
    ∷ told (put img 512 1)
    -- 11: a payload that was changed; "xor_hash stands before the items"; an item hash; a FIELD off its chain, so that the DATA lacks it
    ∷ told (put img 384 0x3d_45_47_41_53_53_41_4d)
    ∷ told (put (put img 792 7) 808 8)
    ∷ told (put img 808 8)
    ∷ told (put img 432 0)
    ∷ []

unfoldable pub whys_said : List (List ℕ)
whys_said =
    (0 ∷ 0 ∷ 0 ∷ 0 ∷ 0 ∷ [])
    ∷ (1 ∷ 0 ∷ 0 ∷ 0 ∷ 0 ∷ [])
    ∷ (7 ∷ 0 ∷ 0 ∷ 0 ∷ 0 ∷ [])
    ∷ (6 ∷ 408 ∷ 0 ∷ 0 ∷ 0 ∷ [])
    ∷ (6 ∷ 816 ∷ 0 ∷ 0 ∷ 0 ∷ [])
    ∷ (8 ∷ 0 ∷ 0 ∷ 0 ∷ 0 ∷ [])
    ∷ (8 ∷ 288 ∷ 0 ∷ 0 ∷ 0 ∷ [])
    ∷ (8 ∷ 584 ∷ 0 ∷ 0 ∷ 0 ∷ [])
    ∷ (9 ∷ 1 ∷ 0 ∷ 0 ∷ 0 ∷ [])
    ∷ (9 ∷ 2 ∷ 0 ∷ 0 ∷ 0 ∷ [])
    ∷ (10 ∷ 456 ∷ 0 ∷ 0 ∷ 0 ∷ [])
    ∷ (11 ∷ 320 ∷ 1 ∷ hashlittle2 message ∷ hashlittle2 massage ∷ [])
    ∷ (11 ∷ 736 ∷ 1 ∷ 7 ∷ hashlittle2 priority ∷ [])
    ∷ (11 ∷ 736 ∷ 1 ∷ 8 ∷ hashlittle2 priority ∷ [])
    ∷ (11 ∷ 456 ∷ 0 ∷ 0 ∷ 0 ∷ [])
    ∷ []

pub whys_are : (let a = carry_all (stores_of (blank 4096) first) (blank 4096) in whys_on (carry_all (stores_of a (second 9223372036854775808)) a)) ≡ whys_said
unfolding definitions counting asked blank packed_field message priority request first second told massage whys_on whys_said walk_fault_at link_fault_at search_for place_for beside hashes_in first_wrong wrong_hash_at why_hash why_for why
whys_are = refl
