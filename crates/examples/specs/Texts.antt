-- The worked file's entries as text, and texts as entries: what is written, what is read, and each refusal of a text.
use Rattle.std.specs.Prelude.{◌≡◌, refl, List, [], ◌∷◌, ◌++◌, map, ℕ, take, replicate}
use Rattle.format.specs.Header.{Image}
use Rattle.format.specs.Store.{bytes_of}
use Rattle.format.specs.Stores.{carry_all}
use Rattle.reading.specs.View.{view, shown_entry, part}
use Rattle.writing.specs.Plan.{stores_of}
use Rattle.exchange.specs.Digits.{digit, digit_value, no_digit, digits_of, read_digits, digit_count, decimal, hex_of, hex_bytes}
use Rattle.exchange.specs.Text.{payload_of, field_of, is_text, needs_length, text_form, length_form, field_text, text_of, line_of, length_field, line_field, front_of, followed_by, fields_from, fields_in}
use Rattle.exchange.specs.Entry.{realtime_name, monotonic_name, boot_name, underscored, is_reserved, others_of, packed, others_fault, exchanged_of, stamp_fields, exported}
use Rattle.exchange.specs.Export.{export_of, export_at, export_for, export_given, laid, text_answer, text_bytes}
use Rattle.exchange.specs.Import.{values_of, time_fault, boot_fault, any_fault, wrong_values, stamps_wrong, stamp_missing, first_value, entry_in, import_rows, imported_fields, imported, import_answer, import_bytes}
use Rattle.examples.specs.Examples.{definitions, counting, asked, blank, packed_field, message, priority, request, first, second}

-- all definitions that these examples compute over
unfoldable pub exchanging : ℕ
unfolding definitions digit digit_value no_digit digits_of read_digits digit_count decimal hex_of hex_bytes payload_of field_of is_text needs_length text_form length_form field_text text_of line_of length_field line_field front_of followed_by fields_from fields_in realtime_name monotonic_name boot_name underscored is_reserved others_of packed others_fault exchanged_of stamp_fields exported export_of export_at export_for export_given laid text_answer text_bytes values_of time_fault boot_fault any_fault wrong_values stamps_wrong stamp_missing first_value entry_in import_rows imported_fields imported import_answer import_bytes view shown_entry part
exchanging = 0

-- `__REALTIME_TIMESTAMP=1700000000000000`, a line
unfoldable pub realtime_line : List ℕ
realtime_line = 95 ∷ 95 ∷ 82 ∷ 69 ∷ 65 ∷ 76 ∷ 84 ∷ 73 ∷ 77 ∷ 69 ∷ 95 ∷ 84 ∷ 73 ∷ 77 ∷ 69 ∷ 83 ∷ 84 ∷ 65 ∷ 77 ∷ 80 ∷ 61 ∷ 49 ∷ 55 ∷ 48 ∷ 48 ∷ 48 ∷ 48 ∷ 48 ∷ 48 ∷ 48 ∷ 48 ∷ 48 ∷ 48 ∷ 48 ∷ 48 ∷ 48 ∷ 48 ∷ 10 ∷ []

-- `__MONOTONIC_TIMESTAMP=50`
unfoldable pub monotonic_line : List ℕ
monotonic_line = 95 ∷ 95 ∷ 77 ∷ 79 ∷ 78 ∷ 79 ∷ 84 ∷ 79 ∷ 78 ∷ 73 ∷ 67 ∷ 95 ∷ 84 ∷ 73 ∷ 77 ∷ 69 ∷ 83 ∷ 84 ∷ 65 ∷ 77 ∷ 80 ∷ 61 ∷ 53 ∷ 48 ∷ 10 ∷ []

-- `_BOOT_ID=` and the bytes 100 to 115
unfoldable pub boot_line : List ℕ
boot_line = 95 ∷ 66 ∷ 79 ∷ 79 ∷ 84 ∷ 95 ∷ 73 ∷ 68 ∷ 61 ∷ 54 ∷ 52 ∷ 54 ∷ 53 ∷ 54 ∷ 54 ∷ 54 ∷ 55 ∷ 54 ∷ 56 ∷ 54 ∷ 57 ∷ 54 ∷ 97 ∷ 54 ∷ 98 ∷ 54 ∷ 99 ∷ 54 ∷ 100 ∷ 54 ∷ 101 ∷ 54 ∷ 102 ∷ 55 ∷ 48 ∷ 55 ∷ 49 ∷ 55 ∷ 50 ∷ 55 ∷ 51 ∷ 10 ∷ []

-- `MESSAGE=lot 12 due`
unfoldable pub message_line : List ℕ
message_line = message ++ (10 ∷ [])

-- the three stamps
unfoldable pub stamp_lines : List ℕ
stamp_lines = realtime_line ++ (monotonic_line ++ boot_line)

-- the text of the first entry
unfoldable pub first_text : List ℕ
first_text = stamp_lines ++ (message_line ++ (priority ++ (10 ∷ 10 ∷ [])))

-- `NOTE` with the three bytes 9, 10 and 255: "the form with a 64-bit length"
unfoldable pub note_text : List ℕ
note_text = 78 ∷ 79 ∷ 84 ∷ 69 ∷ 10 ∷ (bytes_of 8 3 ++ (9 ∷ 10 ∷ 255 ∷ 10 ∷ []))

-- `__CURSOR=x`, which is passed over
unfoldable pub cursor_line : List ℕ
cursor_line = 95 ∷ 95 ∷ 67 ∷ 85 ∷ 82 ∷ 83 ∷ 79 ∷ 82 ∷ 61 ∷ 120 ∷ 10 ∷ []

-- `__REALTIME_TIMESTAMP=18446744073709551616`, 2^64
unfoldable pub late : List ℕ
late = 95 ∷ 95 ∷ 82 ∷ 69 ∷ 65 ∷ 76 ∷ 84 ∷ 73 ∷ 77 ∷ 69 ∷ 95 ∷ 84 ∷ 73 ∷ 77 ∷ 69 ∷ 83 ∷ 84 ∷ 65 ∷ 77 ∷ 80 ∷ 61 ∷ 49 ∷ 56 ∷ 52 ∷ 52 ∷ 54 ∷ 55 ∷ 52 ∷ 52 ∷ 48 ∷ 55 ∷ 51 ∷ 55 ∷ 48 ∷ 57 ∷ 53 ∷ 53 ∷ 49 ∷ 54 ∷ 49 ∷ 54 ∷ 10 ∷ []

-- `__REALTIME_TIMESTAMP=00000000000000000007`, 20 digits
unfoldable pub padded : List ℕ
padded = 95 ∷ 95 ∷ 82 ∷ 69 ∷ 65 ∷ 76 ∷ 84 ∷ 73 ∷ 77 ∷ 69 ∷ 95 ∷ 84 ∷ 73 ∷ 77 ∷ 69 ∷ 83 ∷ 84 ∷ 65 ∷ 77 ∷ 80 ∷ 61 ∷ 48 ∷ 48 ∷ 48 ∷ 48 ∷ 48 ∷ 48 ∷ 48 ∷ 48 ∷ 48 ∷ 48 ∷ 48 ∷ 48 ∷ 48 ∷ 48 ∷ 48 ∷ 48 ∷ 48 ∷ 48 ∷ 48 ∷ 55 ∷ 10 ∷ []

-- `__REALTIME_TIMESTAMP=000000000000000000007`, 21 digits
unfoldable pub long_time : List ℕ
long_time = 95 ∷ 95 ∷ 82 ∷ 69 ∷ 65 ∷ 76 ∷ 84 ∷ 73 ∷ 77 ∷ 69 ∷ 95 ∷ 84 ∷ 73 ∷ 77 ∷ 69 ∷ 83 ∷ 84 ∷ 65 ∷ 77 ∷ 80 ∷ 61 ∷ 48 ∷ 48 ∷ 48 ∷ 48 ∷ 48 ∷ 48 ∷ 48 ∷ 48 ∷ 48 ∷ 48 ∷ 48 ∷ 48 ∷ 48 ∷ 48 ∷ 48 ∷ 48 ∷ 48 ∷ 48 ∷ 48 ∷ 48 ∷ 55 ∷ 10 ∷ []

-- `=x`, a field with an empty name
unfoldable pub empty_name : List ℕ
empty_name = 61 ∷ 120 ∷ 10 ∷ []

-- the boot id with an upper-case digit
unfoldable pub boot_loud : List ℕ
boot_loud = 95 ∷ 66 ∷ 79 ∷ 79 ∷ 84 ∷ 95 ∷ 73 ∷ 68 ∷ 61 ∷ 54 ∷ 52 ∷ 54 ∷ 53 ∷ 54 ∷ 54 ∷ 54 ∷ 55 ∷ 54 ∷ 56 ∷ 54 ∷ 57 ∷ 54 ∷ 65 ∷ 54 ∷ 98 ∷ 54 ∷ 99 ∷ 54 ∷ 100 ∷ 54 ∷ 101 ∷ 54 ∷ 102 ∷ 55 ∷ 48 ∷ 55 ∷ 49 ∷ 55 ∷ 50 ∷ 55 ∷ 51 ∷ 10 ∷ []

-- the monotonic time in "the form with a 64-bit length"
unfoldable pub time_long : List ℕ
time_long = 95 ∷ 95 ∷ 77 ∷ 79 ∷ 78 ∷ 79 ∷ 84 ∷ 79 ∷ 78 ∷ 73 ∷ 67 ∷ 95 ∷ 84 ∷ 73 ∷ 77 ∷ 69 ∷ 83 ∷ 84 ∷ 65 ∷ 77 ∷ 80 ∷ 10 ∷ (bytes_of 8 2 ++ (53 ∷ 48 ∷ 10 ∷ []))

-- `A=~`, whose value is byte 126; `B=` and byte 127; `_BOOT_ID=x`
unfoldable pub tildes : List ℕ
tildes = 65 ∷ 61 ∷ 126 ∷ []

unfoldable pub deletes : List ℕ
deletes = 66 ∷ 61 ∷ 127 ∷ []

unfoldable pub boot_payload : List ℕ
boot_payload = 95 ∷ 66 ∷ 79 ∷ 79 ∷ 84 ∷ 95 ∷ 73 ∷ 68 ∷ 61 ∷ 120 ∷ []

-- what a host is told of a text, with room for 4,096 bytes of fields
unfoldable pub told_of : List ℕ → List ℕ
told_of text =
    let r = import_answer (imported text) 4096 in
    r.refusal ∷ r.realtime ∷ r.monotonic ∷ r.boot_low ∷ r.boot_high ∷ r.len ∷ []

-- texts: the first entry's; a field with any bytes, a stamp in the other form and at another place, and names that are passed over
unfoldable pub taken : List (List ℕ)
taken =
    told_of first_text
    ∷ told_of (cursor_line ++ (note_text ++ (time_long ++ (boot_line ++ (padded ++ (10 ∷ []))))))
    -- the field buffer: the fields at its front, and as it was where 28 refuses it
    ∷ import_bytes (imported first_text) (replicate 38 7)
    ∷ import_bytes (imported first_text) (replicate 35 7)
    ∷ []

unfoldable pub taken_said : List (List ℕ)
taken_said =
    (0 ∷ 1700000000000000 ∷ 50 ∷ 0x6b6a696867666564 ∷ 0x737271706f6e6d6c ∷ 36 ∷ [])
    ∷ (0 ∷ 7 ∷ 50 ∷ 0x6b6a696867666564 ∷ 0x737271706f6e6d6c ∷ 12 ∷ [])
    ∷ (packed_field message ++ (packed_field priority ++ (7 ∷ 7 ∷ [])))
    ∷ replicate 35 7
    ∷ []

-- "23 for text that is not such fields and one empty line": nothing, the text cut by one byte and by two, an empty line more, and a
-- length that runs past the end; "a time not 1 to 20 digits within 64 bits, a boot id not so written or a stamp given twice"; "24 for
-- a missing stamp"; "then 16, an empty name too", no other field; "and 28 for the field buffer"
unfoldable pub refused_texts : List ℕ
refused_texts =
    map (λ (text : List ℕ). (import_answer (imported text) 4096).refusal)
    (
    []
    ∷ take 135 first_text
    ∷ take 134 first_text
    ∷ (first_text ++ (10 ∷ []))
    ∷ (stamp_lines ++ (78 ∷ 10 ∷ (bytes_of 8 0xffff_ffff_ffff_ffff ++ (9 ∷ 10 ∷ 10 ∷ []))))
    ∷ (late ++ (monotonic_line ++ (boot_line ++ (message_line ++ (10 ∷ [])))))
    ∷ (long_time ++ (monotonic_line ++ (boot_line ++ (message_line ++ (10 ∷ [])))))
    ∷ (realtime_line ++ (monotonic_line ++ (boot_loud ++ (message_line ++ (10 ∷ [])))))
    ∷ (realtime_line ++ first_text)
    ∷ (10 ∷ [])
    ∷ (realtime_line ++ (boot_line ++ (message_line ++ (10 ∷ []))))
    ∷ (stamp_lines ++ (empty_name ++ (10 ∷ [])))
    ∷ (stamp_lines ++ (cursor_line ++ (10 ∷ [])))
    -- 23 before 24: a time of 2^64, and no boot id
    ∷ (late ++ (monotonic_line ++ (message_line ++ (10 ∷ []))))
    ∷ []
    )
    -- 28, and 16 before it
    ++ ((import_answer (imported first_text) 35).refusal ∷ (import_answer (imported (stamp_lines ++ (empty_name ++ (10 ∷ [])))) 0).refusal ∷ [])

unfoldable pub refused_said : List ℕ
refused_said = 23 ∷ 23 ∷ 23 ∷ 23 ∷ 23 ∷ 23 ∷ 23 ∷ 23 ∷ 23 ∷ 24 ∷ 24 ∷ 16 ∷ 16 ∷ 23 ∷ 28 ∷ 16 ∷ []

-- "Write a committed entry": the first one's; none where no committed entry stands; 28; of stamps and fields: 16 where there is no other
-- field and where fields are badly packed; "the form with a 64-bit length" for byte 127 and not for 126, and a payload that is not written
unfoldable pub written_on : Image → List (List ℕ)
written_on img =
    text_bytes (export_for 584 img) (replicate 138 7)
    ∷ text_bytes (export_for 320 img) (7 ∷ [])
    ∷ text_bytes (export_for 584 img) (replicate 135 7)
    ∷ ((text_answer (export_for 584 img) 136).refusal ∷ (text_answer (export_for 584 img) 136).len ∷ (text_answer (export_for 584 img) 135).refusal
    ∷ (text_answer (export_for 320 img) 136).refusal ∷ (text_answer (export_for 320 img) 136).len
    ∷ (text_answer (export_given 0 0 (counting 100 16) (packed ((95 ∷ 95 ∷ 61 ∷ []) ∷ []))) 138).refusal
    ∷ (text_answer (export_given 0 0 (counting 100 16) (1 ∷ [])) 138).refusal ∷ [])
    ∷ text_bytes (export_given 1700000000000000 50 (counting 100 16) (packed (tildes ∷ boot_payload ∷ deletes ∷ []))) (replicate 127 7)
    ∷ []

unfoldable pub written_said : List (List ℕ)
written_said = (first_text ++ (7 ∷ 7 ∷ [])) ∷ (7 ∷ []) ∷ replicate 135 7 ∷ (0 ∷ 136 ∷ 28 ∷ 0 ∷ 0 ∷ 16 ∷ 16 ∷ [])
    ∷ (stamp_lines ++ (tildes ++ (10 ∷ 66 ∷ 10 ∷ (bytes_of 8 1 ++ (127 ∷ 10 ∷ 10 ∷ 7 ∷ 7 ∷ 7 ∷ 7 ∷ 7 ∷ []))))) ∷ []

pub taken_are : taken ≡ taken_said
unfolding exchanging counting asked blank packed_field message priority request first second realtime_line monotonic_line boot_line message_line stamp_lines first_text note_text cursor_line late padded long_time empty_name boot_loud time_long told_of taken taken_said refused_texts refused_said written_on written_said tildes deletes boot_payload
taken_are = refl

pub refused_are : refused_texts ≡ refused_said
unfolding exchanging counting asked blank packed_field message priority request first second realtime_line monotonic_line boot_line message_line stamp_lines first_text note_text cursor_line late padded long_time empty_name boot_loud time_long told_of taken taken_said refused_texts refused_said written_on written_said tildes deletes boot_payload
refused_are = refl

pub written_are : written_on (carry_all (stores_of (blank 4096) first) (blank 4096)) ≡ written_said
unfolding exchanging counting asked blank packed_field message priority request first second realtime_line monotonic_line boot_line message_line stamp_lines first_text note_text cursor_line late padded long_time empty_name boot_loud time_long told_of taken taken_said refused_texts refused_said written_on written_said tildes deletes boot_payload
written_are = refl
