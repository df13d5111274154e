-- The worked examples in a compact file: a payload stands 8 bytes further on in its DATA, an item has four bytes in an ENTRY and in an
-- array, two share a word, and a DATA has its tail fields. No call makes such a file; here the flag is set in a new one.
use Rattle.std.specs.Prelude.{◌≡◌, refl, List, [], ◌∷◌, ◌++◌, map, ℕ, drop}
use Rattle.format.specs.Header.{Image, word_at, header_word, arena_size}
use Rattle.format.specs.Walk.{objects}
use Rattle.format.specs.File.{model}
use Rattle.format.specs.Store.{put}
use Rattle.format.specs.Stores.{carry_all}
use Rattle.reading.specs.Refusal.{refusal}
use Rattle.writing.specs.Ready.{ready_refusal}
use Rattle.writing.specs.Growth.{new_end}
use Rattle.writing.specs.Plan.{stores_of, need}
use Rattle.writing.specs.Refusal.{append_refusal}
use Rattle.examples.specs.Examples.{definitions, counting, asked, blank, packed_field, message, priority, request, first, second, places_from}

-- a new file of a length with incompatible bit 4, which is bit 36 of the word of both flags
unfoldable pub compact_file : ℕ → Image
compact_file len = put (blank len) 8 0x10_0000_0000

-- the numbers at some offsets
unfoldable pub words_at : Image → List ℕ → List ℕ
words_at img os = map (λ o. word_at img o) os

-- what each example computes to, of the new file of 4,096 bytes and of the files with one, two and three appends
unfoldable pub computed_on : Image → Image → Image → Image → List (List ℕ)
computed_on new one two three =
    (refusal new ∷ ready_refusal new ∷ ready_refusal one ∷ ready_refusal two ∷ ready_refusal three ∷ [])
    ∷ (drop 2 (objects one) ++ (new_end (model new) first.fields ∷ need new first ∷ []))
    -- sizes, the two items of the ENTRY in one word, the first item of the array, tail fields of 0
    ∷ words_at one (328 ∷ 472 ∷ 608 ∷ 680 ∷ 664 ∷ 696 ∷ 384 ∷ 528 ∷ [])
    ∷ (header_word (compact_file 712) arena_size ∷ append_refusal (compact_file 712) first 1104 ∷ append_refusal (compact_file 704) first 1104 ∷ append_refusal (compact_file 712) first 1103 ∷ [])
    ∷ (drop 8 (objects two) ++ (need one (second 9223372036854775808) ∷ need two (second 9223372036854775809) ∷ []))
    -- the second item of the header's array beside the first; then the third alone; the tail fields and the array of `PRIORITY=2`
    ∷ words_at two (696 ∷ 704 ∷ 528 ∷ [])
    ∷ words_at three (696 ∷ 704 ∷ 528 ∷ 808 ∷ [])
    -- 14: a tail field that is another one
    ∷ map (λ i. ready_refusal i) (put one 528 1 ∷ put two 528 0 ∷ put three 528 0x1_0000_0310 ∷ [])
    ∷ []

-- of those files
unfoldable pub computed : List (List ℕ)
computed =
    let new = compact_file 4096 in
    let a = carry_all (stores_of new first) new in
    let b = carry_all (stores_of a (second 9223372036854775808)) a in
    computed_on new a b (carry_all (stores_of b (second 9223372036854775809)) b)

-- 69 stores, 31, and 26 for a third; the arena of 456 bytes holds the first
unfoldable pub said : List (List ℕ)
said =
    (0 ∷ 0 ∷ 0 ∷ 0 ∷ 0 ∷ [])
    ∷ (320 ∷ 416 ∷ 464 ∷ 552 ∷ 600 ∷ 672 ∷ 712 ∷ 69 ∷ [])
    ∷ (90 ∷ 82 ∷ 72 ∷ 40 ∷ 0x1d0_0000_0140 ∷ 600 ∷ 0 ∷ 0 ∷ [])
    ∷ (456 ∷ 0 ∷ 18 ∷ 19 ∷ [])
    ∷ (712 ∷ 784 ∷ 31 ∷ 26 ∷ [])
    ∷ (0x2c8_0000_0258 ∷ 0 ∷ 0x1_0000_0310 ∷ [])
    ∷ (0x2c8_0000_0258 ∷ 824 ∷ 0x2_0000_0310 ∷ 0x338_0000_02c8 ∷ [])
    ∷ (14 ∷ 14 ∷ 14 ∷ [])
    ∷ []

pub compact_file_lem : computed ≡ said
unfolding definitions counting asked blank packed_field message priority request first second places_from compact_file words_at computed_on computed said
compact_file_lem = refl
