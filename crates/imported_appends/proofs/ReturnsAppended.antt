-- What is read, appended and written as text again is read as the same entry: proved for every image, text, machine id and sequence
-- number.
use mathlib.Core.Path.{◌≡◌, refl, sym, ap, ◌∙◌, subst}
use mathlib.Core.Bool.{false}
use mathlib.Core.List.{List, [], ◌∷◌, Memᴰ}
use Prim.Native.Nat.{ℕ, ◌^◌, ◌≤◌, ◌<◌}
use native.Mathlib.Omega.{arith}
use lib.Dec.{ltb}
use lib.ListN.{length}
use borrow.Author.Tests.{le-ltb}
use Rattle.format.specs.Number.{Bytes}
use Rattle.format.specs.Header.{Image}
use Rattle.format.specs.File.{File, model}
use Rattle.format.proofs.Tests.{neither}
use Rattle.writing.specs.Request.{Request, fields_of, payload_fault, payloads_fault}
use Rattle.writing.proofs.RequestLaws.{payload_right}
use Rattle.writing.proofs.PlacedLaws.{payloads_count}
use Rattle.plan_words.proofs.Payloads.{payload_field}
use Rattle.crash_states.specs.Demand.{Given, new_entry}
use Rattle.crash_states.proofs.Accepted.{Accepted}
use Rattle.crash_states.proofs.AcceptedFrom.{accepted}
use Rattle.crash_states.proofs.AcceptedLaws.{accepted_takes, accepted_placing}
use Rattle.exchange.specs.Entry.{others_of, others_fault, Exchanged, exchanged_of}
use Rattle.exchange.proofs.OthersLaws.{Own, others_own, own_others}
use Rattle.exchange.proofs.PackedLaws.{short_payloads, packed_fields}
use Rattle.exchange.proofs.RoundTrip.{exported_returns, export_passes}
use Rattle.imported_appends.specs.Appended.{request_for, SameEntry, ReturnsAs, ReturnsAppended}
use Rattle.imported_appends.proofs.ReadEntry.{Readable, read_readable}
use Rattle.imported_appends.proofs.NewPayloads.{field_payload, shown_payloads, entry_payloads, shown_from, shown_all_lem, shown_length}
use Rattle.imported_appends.proofs.NewExport.{new_export}

-- payloads none of which is at fault
payloads_clear : (ps : List (List ℕ)) → ((p : List ℕ) → Memᴰ p ps → payload_fault p ≡ false) → payloads_fault ps ≡ false
unfolding payloads_fault
payloads_clear [] h = refl
payloads_clear (p ∷ ps) h = rw (h p (Memᴰ.head refl), payloads_clear ps (λ q m. h q (Memᴰ.tail m)))

-- and at most 64 of them
others_clear : (ps : List (List ℕ)) → 1 ≤ length ps → length ps ≤ 64 → payloads_fault ps ≡ false → others_fault ps ≡ false
unfolding others_fault
others_clear ps some few e = rw (le-ltb (length ps) 1 some, le-ltb 64 (length ps) few, e)

module _ (img : Image) (machine : List ℕ) (seqnum : ℕ) (x : Exchanged) (bytes : Bytes img) (small : seqnum < 2 ^ 64) (read : Readable x) where
  -- the append of the entry
  abbrev r : Request
  r = request_for machine seqnum x

  -- it is made of bytes and of numbers of 64 bits
  given : Given img r
  unfolding request_for
  given = record {
    image = bytes;
    fields = read.buffer;
    boot = read.boot;
    boot_length = read.boot_length;
    seqnum = small;
    realtime = read.realtime;
    monotonic = read.monotonic;
  }

  -- none of the payloads is at fault
  right : payloads_fault x.payloads ≡ false
  unfolding others_fault
  right = (neither (ltb 64 (length x.payloads)) _ (neither (ltb (length x.payloads) 1) _ read.passes).1).1

  -- the fields of the request are the payloads
  fields_are : fields_of r.fields ≡ x.payloads
  unfolding request_for
  fields_are = packed_fields x.payloads (short_payloads x.payloads right)

  module _ (a : Accepted img r) where
    abbrev F : File
    F = model img

    -- the new entry, as it goes out
    abbrev y : Exchanged
    y = exchanged_of (new_entry F r)

    -- the payloads that it shows
    abbrev shown : List (List ℕ)
    shown = shown_payloads F r.fields

    -- each is one of those that were read
    from : (p : List ℕ) → Memᴰ p shown → Memᴰ p x.payloads
    from p m =
        subst (λ (l : List (List ℕ)). Memᴰ p l) fields_are
        (payload_field r.fields p (shown_from F r.fields (accepted_takes img r a) (accepted_placing img r a) p m))

    -- and each of these is shown
    all : (p : List ℕ) → Memᴰ p x.payloads → Memᴰ p shown
    all p m =
        shown_all_lem F r.fields (accepted_takes img r a) (accepted_placing img r a) p
        (field_payload r.fields p (subst (λ (l : List (List ℕ)). Memᴰ p l) (sym fields_are) m))

    -- none of them has a reserved name
    own : Own shown
    own p m = subst (λ (ps : List (List ℕ)). Own ps) read.own (others_own x.payloads) p (from p m)

    -- so that all of them go out
    payloads_are : y.payloads ≡ shown
    unfolding exchanged_of
    payloads_are = ap others_of (entry_payloads F r) ∙ own_others shown own

    -- and 16 lets them
    shown_passes : others_fault shown ≡ false
    shown_passes =
        let n = payloads_count r.fields a.fields in
        let l = shown_length F r.fields in
        others_clear shown (omega (arith, n, l)) (omega (arith, n, l))
        (payloads_clear shown (λ p m. payload_right x.payloads right p (from p m)))

    -- nor does it refuse the entry
    passes : others_fault y.payloads ≡ false
    passes = ap others_fault payloads_are ∙ shown_passes

    -- it is the entry that was read
    same_entry : SameEntry x y
    unfolding exchanged_of new_entry request_for
    same_entry = record {
      realtime = refl;
      monotonic = refl;
      boot = refl;
      from = λ p m. from p (subst (λ (l : List (List ℕ)). Memᴰ p l) payloads_are m);
      all = λ p m. subst (λ (l : List (List ℕ)). Memᴰ p l) (sym payloads_are) (all p m);
      once = ap length payloads_are ∙ shown_length F r.fields;
    }

    -- what its text is read as
    returned : ReturnsAs img r x
    unfolding exchanged_of new_entry request_for
    returned = record {
      entry = y;
      shown = refl;
      exports = new_export img r a ∙ export_passes y passes;
      returns = (exported_returns y read.realtime read.monotonic read.boot read.boot_length passes (ap others_of payloads_are ∙ own_others shown own ∙ sym payloads_are)).entry;
      same = same_entry;
    }

-- what is read and appended returns
pub returns_appended : ReturnsAppended
returns_appended img text machine seqnum list_bytes x bytes texts small e clear =
    let read = read_readable text x texts e in
    returned img machine seqnum x bytes small read (accepted img (request_for machine seqnum x) list_bytes clear (given img machine seqnum x bytes small read))
