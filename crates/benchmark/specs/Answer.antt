-- What the measured functions answer, so that none of their work can be left out.
use Rattle.std.specs.Prelude.{true, false, List, ℕ, zero, suc, ◌+◌, ◌*◌, ◌/◌, length, eqb, Ok}
use Rattle.format.specs.Number.{number_at, plus}
use Rattle.format.specs.Header.{Image}
use Rattle.format.specs.Refusal.{frame_refusal}
use Rattle.format.specs.File.{model}
use Rattle.reading.specs.Refusal.{refusal}
use Rattle.reading.specs.View.{view}
use Rattle.reading.specs.Lookup.{found, entry, item, seqnum_from, realtime_from, payload_in, value_of}
use Rattle.reading.specs.Answers.{answer_number, shown_bytes}
use Rattle.reading.specs.Stamps.{stamps_at, stamp_numbers}
use Rattle.open_steps.specs.Map.{kind_number_at}
use Rattle.benchmark.specs.declared.question.Question.{Question}
use Rattle.benchmark.specs.declared.question.Question.TheVariants.{Entry, Seqnum, Realtime, Payload, Item, Value, Stamps}

-- the lowest of refusals 1 to 7 that applies; if none does, 8 and the kind's number of the object that starts at the offset
unfoldable pub framed_kind : Image → ℕ → ℕ
framed_kind img o =
    elim (eqb (frame_refusal img) 0) [
      | false ↦ frame_refusal img
      | true ↦ 8 + kind_number_at img o
    ]

-- the question of a number
abbrev pub question_of : ℕ → Question
question_of zero = Entry
question_of (suc zero) = Seqnum
question_of (suc (suc zero)) = Realtime
question_of (suc (suc (suc zero))) = Payload
question_of (suc (suc (suc (suc zero)))) = Item
question_of (suc (suc (suc (suc (suc zero))))) = Value
question_of (suc (suc (suc (suc (suc (suc n)))))) = Stamps

-- the number of one answer: an offset, a length, or a sequence number
unfoldable pub answer_of : Image → Question → List ℕ → ℕ → ℕ → ℕ
answer_of img Entry bytes place argument = answer_number (found (entry argument) (view (model img)))
answer_of img Seqnum bytes place argument = answer_number (found (seqnum_from argument) (view (model img)))
answer_of img Realtime bytes place argument = answer_number (found (realtime_from argument) (view (model img)))
answer_of img Payload bytes place argument = answer_number (found (payload_in bytes argument) (view (model img)))
answer_of img Item bytes place argument = length (shown_bytes (found (item argument place) (view (model img))))
answer_of img Value bytes place argument = length (shown_bytes (found (value_of bytes argument) (view (model img))))
answer_of img Stamps bytes place argument = (stamp_numbers (Ok (stamps_at argument (view (model img)).entries))).seqnum

-- those of the first n arguments, added up modulo 2^64
unfoldable pub total : Image → Question → List ℕ → ℕ → List ℕ → ℕ → ℕ
total img q bytes place arguments zero = 0
total img q bytes place arguments (suc n) =
    plus 64 (total img q bytes place arguments n) (answer_of img q bytes place (number_at 8 arguments (8 * n)))

-- the refusal of the image, or the answers of all arguments, added up
unfoldable pub asked : Image → Question → List ℕ → ℕ → List ℕ → ℕ
asked img q bytes place arguments =
    elim (refusal img) [ suc n ↦ suc n | zero ↦ total img q bytes place arguments (length arguments / 8) ]
