-- A text is read, what it is is appended, and the new entry is written as text again: that text is read as the same entry.
use Rattle.std.specs.Prelude.{◌≡◌, ℕ, ◌^◌, ◌<◌, length}
use mathlib.Core.List.{List, Memᴰ}
use Rattle.format.specs.Number.{Bytes}
use Rattle.format.specs.Header.{Image}
use Rattle.format.specs.File.{model}
use Rattle.writing.specs.Request.{Request, stamp_with, request_of, payloads_of}
use Rattle.writing.specs.Placing.{new_entry_at}
use Rattle.writing.specs.Plan.{appended}
use Rattle.writing.specs.Refusal.{append_refusal}
use Rattle.crash_states.specs.Demand.{new_entry}
use Rattle.exchange.specs.Entry.{packed, Exchanged, exchanged_of, exported}
use Rattle.exchange.specs.Export.{some_text, export_for}
use Rattle.exchange.specs.Import.{imported, some_entry}

-- the append of an entry that was read: "the caller gives the sequence number"
unfoldable pub request_for : List ℕ → ℕ → Exchanged → Request
request_for machine seqnum x = request_of machine (stamp_with seqnum x.realtime x.monotonic x.boot) (packed x.payloads)

-- the same stamps and the same payloads, each once
pub record SameEntry (x y : Exchanged) : Type 0 where
  pub realtime : y.realtime ≡ x.realtime
  pub monotonic : y.monotonic ≡ x.monotonic
  pub boot : y.boot ≡ x.boot
  pub from : (p : List ℕ) → Memᴰ p y.payloads → Memᴰ p x.payloads
  pub all : (p : List ℕ) → Memᴰ p x.payloads → Memᴰ p y.payloads
  pub once : length y.payloads ≡ length (payloads_of (packed x.payloads))

-- an image with the append of an entry x shows a new entry, which has the payloads in the order of the file's items; its text is read as
-- that entry, and it is x
pub record ReturnsAs (img : Image) (r : Request) (x : Exchanged) : Type 0 where
  pub entry : Exchanged
  pub shown : entry ≡ exchanged_of (new_entry (model img) r)
  pub exports : export_for (new_entry_at (model img) r.fields) (appended img r) ≡ some_text (exported entry)
  pub returns : imported (exported entry) ≡ some_entry entry
  pub same : SameEntry x entry

-- for every image, text, machine id and sequence number: where the text is read as an entry and the append of that is accepted
abbrev pub ReturnsAppended : Type 0
ReturnsAppended =
    (img : Image) (text machine : List ℕ) (seqnum list_bytes : ℕ) (x : Exchanged) → Bytes img → Bytes text → seqnum < 2 ^ 64
    → imported text ≡ some_entry x → append_refusal img (request_for machine seqnum x) list_bytes ≡ 0
    → ReturnsAs img (request_for machine seqnum x) x
