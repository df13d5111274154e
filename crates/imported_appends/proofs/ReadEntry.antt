-- What is known of an entry that a text was read as: its times are of 64 bits, its boot id is 16 bytes, and its payloads are the entry's
-- own, bytes, and pass 16.
use mathlib.Core.Path.{◌≡◌, refl, ap, subst}
use mathlib.Core.Bool.{Bool, false, not}
use mathlib.Core.List.{List, [], ◌∷◌, map}
use Prim.Native.Nat.{ℕ, zero, suc, ◌*◌, ◌^◌, ◌<◌}
use native.Mathlib.Omega.{arith}
use lib.Dec.{leb, ltb, eqb}
use lib.ListN.{length}
use borrow.Author.Tests.{ltb-false, leb-false, eqb-true}
use Rattle.format.specs.Number.{Bytes}
use Rattle.format.specs.Rows.{lowest}
use Rattle.format.specs.Tests.{any}
use Rattle.format.proofs.Rows.{lacks, lowest_clear}
use Rattle.format.proofs.Tests.{neither, not-false}
use Rattle.exchange.specs.Digits.{digit_value, no_digit, read_digits, hex_bytes}
use Rattle.exchange.specs.Text.{Field, payload_of, Fields, not_fields, fields, fields_in}
use Rattle.exchange.specs.Entry.{realtime_name, monotonic_name, boot_name, others_of, packed, others_fault, Exchanged}
use Rattle.exchange.specs.Import.{values_of, time_fault, boot_fault, any_fault, wrong_values, stamps_wrong, stamp_missing, first_value, entry_in}
use Rattle.exchange.specs.Import.{Import, refused_entry, some_entry, import_rows, imported_fields, imported}
use Rattle.exchange.proofs.OthersLaws.{others_again}
use Rattle.imported_appends.proofs.TextBytes.{others_bytes, packed_bytes}

-- what is known of it
pub record Readable (x : Exchanged) : Type 0 where
  pub realtime : x.realtime < 2 ^ 64
  pub monotonic : x.monotonic < 2 ^ 64
  pub boot : Bytes x.boot
  pub boot_length : length x.boot ≡ 16
  pub buffer : Bytes (packed x.payloads)
  pub passes : others_fault x.payloads ≡ false
  pub own : others_of x.payloads ≡ x.payloads

-- a time without fault is of 64 bits
time_small : (v : List ℕ) → time_fault v ≡ false → read_digits 10 0 v < 2 ^ 64
unfolding time_fault
time_small v e =
    let a = neither (ltb (length v) 1) _ e in
    let b = neither (ltb 20 (length v)) _ a.1 in
    let c = neither (any (λ b. no_digit 10 b) v) _ b.1 in
    leb-false (2 ^ 64) (read_digits 10 0 v) c.1

-- hex digits are bytes
hex_bytes_lem : (v : List ℕ) → any (λ b. no_digit 16 b) v ≡ false → Bytes (hex_bytes v)
unfolding hex_bytes read_digits any no_digit
hex_bytes_lem [] e = λ i. omega arith
hex_bytes_lem (h ∷ []) e = λ i. omega arith
hex_bytes_lem (h ∷ l ∷ ds) e =
    let a = neither (leb 16 (digit_value h)) _ e in
    let b = neither (leb 16 (digit_value l)) _ a.1 in
    pair (leb-false 16 (digit_value h) a.0) (leb-false 16 (digit_value l) b.0) (hex_bytes_lem ds b.1)
  where
    pair : digit_value h < 16 → digit_value l < 16 → Bytes (hex_bytes ds) → Bytes (hex_bytes (h ∷ l ∷ ds))
    pair x y k zero = omega arith
    pair x y k (suc i) = k i

-- two for each
hex_length : (n : ℕ) (v : List ℕ) → length v ≡ 2 * n → length (hex_bytes v) ≡ n
unfolding hex_bytes
hex_length zero [] e = refl
hex_length zero (h ∷ v) e = absurd (omega arith)
hex_length (suc n) [] e = absurd (omega arith)
hex_length (suc n) (h ∷ []) e = absurd (omega arith)
hex_length (suc n) (h ∷ l ∷ ds) e = ap suc (hex_length n ds (omega arith))

-- a boot id without fault is 16 bytes
boot_right : (v : List ℕ) → boot_fault v ≡ false → Bytes (hex_bytes v) × (length (hex_bytes v) ≡ 16)
unfolding boot_fault
boot_right v e =
    let a = neither (not (eqb (length v) 32)) _ e in
    (hex_bytes_lem v a.1, hex_length 16 v (eqb-true (length v) 32 (not-false (eqb (length v) 32) a.0)))

-- of values none of which is at fault the first is not
first_right : (fault : List ℕ → Bool) (vs : List (List ℕ)) → wrong_values fault vs ≡ false → ltb (length vs) 1 ≡ false → fault (first_value vs) ≡ false
unfolding wrong_values any_fault first_value
first_right fault [] e m = absurd (omega (arith, ltb-false 0 1 m))
first_right fault (v ∷ vs) e m = (neither (fault v) _ (neither (any_fault fault (v ∷ vs)) _ e).0).0

-- a text that is read as an entry is fields, and these are read as it
read_fields : (text : List ℕ) (x : Exchanged) → imported text ≡ some_entry x → (fs : List Field) × (fields_in text ≡ fields fs) × (imported_fields fs ≡ some_entry x)
unfolding imported
read_fields text x = go (fields_in text) refl
  where
    go : (r : Fields) → fields_in text ≡ r → elim r as (λ _. Import) [ not_fields ↦ refused_entry 23 | fields fs ↦ imported_fields fs ] ≡ some_entry x
        → (fs : List Field) × (fields_in text ≡ fields fs) × (imported_fields fs ≡ some_entry x)
    go not_fields e q = absurd (let z : ◌≡◌ {A = ℕ} 0 1 = cc in omega arith)
    go (fields fs) e q = (fs, e, q)

-- no refusal applies to them, and they are that entry
read_clear : (fs : List Field) (x : Exchanged) → imported_fields fs ≡ some_entry x → (lowest (import_rows fs) ≡ 0) × (entry_in fs ≡ x)
unfolding imported_fields
read_clear fs x = go (lowest (import_rows fs)) refl
  where
    go : (n : ℕ) → lowest (import_rows fs) ≡ n → elim n as (λ _. Import) [ suc m ↦ refused_entry (suc m) | zero ↦ some_entry (entry_in fs) ] ≡ some_entry x
        → (lowest (import_rows fs) ≡ 0) × (entry_in fs ≡ x)
    go zero e q = (e, cc)
    go (suc n) e q = absurd (let z : ◌≡◌ {A = ℕ} 0 1 = cc in omega arith)

-- fields to which no refusal applies
fields_readable : (text : List ℕ) → Bytes text → (fs : List Field) → fields_in text ≡ fields fs → lowest (import_rows fs) ≡ 0 → Readable (entry_in fs)
unfolding import_rows lacks entry_in stamps_wrong stamp_missing
fields_readable text h fs e z =
    let (wrong, (missing, (fault, none))) = lowest_clear (import_rows fs) refl z in
    let w = neither (wrong_values (λ v. time_fault v) (values_of realtime_name fs)) _ wrong in
    let v = neither (wrong_values (λ v. time_fault v) (values_of monotonic_name fs)) _ w.1 in
    let m = neither (ltb (length (values_of realtime_name fs)) 1) _ missing in
    let n = neither (ltb (length (values_of monotonic_name fs)) 1) _ m.1 in
    let b = boot_right (first_value (values_of boot_name fs)) (first_right (λ v. boot_fault v) (values_of boot_name fs) v.1 n.1) in
    record {
      realtime = time_small (first_value (values_of realtime_name fs)) (first_right (λ v. time_fault v) (values_of realtime_name fs) w.0 m.0);
      monotonic = time_small (first_value (values_of monotonic_name fs)) (first_right (λ v. time_fault v) (values_of monotonic_name fs) v.0 n.0);
      boot = b.0;
      boot_length = b.1;
      buffer = packed_bytes (others_of (map (λ f. payload_of f) fs)) (others_bytes text h fs e);
      passes = fault;
      own = others_again (map (λ f. payload_of f) fs);
    }

-- an entry that a text of bytes was read as
pub read_readable : (text : List ℕ) (x : Exchanged) → Bytes text → imported text ≡ some_entry x → Readable x
read_readable text x h e =
    let (fs, f, q) = read_fields text x e in
    let (z, k) = read_clear fs x q in
    subst (λ (y : Exchanged). Readable y) k (fields_readable text h fs f z)
