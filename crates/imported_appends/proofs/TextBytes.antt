-- The fields of a text of bytes are bytes, and so is the field buffer that payloads of bytes are packed into.
use mathlib.Core.Path.{◌≡◌, refl, sym, subst}
use mathlib.Core.Logic.{◌⊎◌, inl, inr}
use mathlib.Core.Bool.{Bool, true, false}
use mathlib.Core.List.Memᴰ
use mathlib.Core.List.{List, [], ◌∷◌, ◌++◌, map, Memᴰ}
use Prim.Native.Nat.{ℕ, zero, suc, ◌+◌, ◌<◌}
use native.Mathlib.Omega.{arith}
use lib.Dec.{leb, ltb, eqb}
use lib.ListN.{length, take, drop, get_or}
use Rattle.format.specs.Number.{Bytes, number}
use Rattle.format.specs.Store.{bytes_of}
use Rattle.format.proofs.Lists.{map_in}
use Rattle.format.proofs.Stores.{bytes_of_small}
use Rattle.reading.specs.Names.{name_of}
use Rattle.reading.proofs.NameLaws.{name_take}
use Rattle.plan_words.proofs.InBytesLaws.{drop_bytes, take-bytes}
use Rattle.exchange.specs.Text.{Field, payload_of, field_of, Front, broken, end, field, line_of, length_field, line_field, front_of}
use Rattle.exchange.specs.Text.{Fields, not_fields, fields, followed_by, fields_from, fields_in}
use Rattle.exchange.specs.Entry.{is_reserved, others_of, packed}

-- two lists of bytes are one
append_bytes : (xs ys : List ℕ) → Bytes xs → Bytes ys → Bytes (xs ++ ys)
append_bytes [] ys f g i = g i
append_bytes (x ∷ xs) ys f g zero = f 0
append_bytes (x ∷ xs) ys f g (suc i) = append_bytes xs ys (λ j. f (suc j)) g i

-- a byte in front of bytes
front_byte : (b : ℕ) (bs : List ℕ) → b < 256 → Bytes bs → Bytes (b ∷ bs)
front_byte b bs l h zero = l
front_byte b bs l h (suc i) = h i

-- a line of a text of bytes
line_bytes : (text : List ℕ) → Bytes text → Bytes (line_of text)
unfolding line_of
line_bytes [] h = h
line_bytes (b ∷ bs) h = go (eqb b 10) (line_bytes bs (λ i. h (suc i)))
  where
    go : (t : Bool) → Bytes (line_of bs) → Bytes (elim t as (λ _. List ℕ) [ true ↦ [] | false ↦ b ∷ line_of bs ])
    go true k = λ i. omega arith
    go false k = front_byte b (line_of bs) (h 0) k

-- a name
name_bytes : (p : List ℕ) → Bytes p → Bytes (name_of p)
name_bytes p h = subst (λ (l : List ℕ). Bytes l) (sym (name_take p)) (take-bytes (length (name_of p)) p h)

-- the payload of a field whose name and value are bytes
payload_bytes : (f : Field) → Bytes f.name → Bytes f.value → Bytes (payload_of f)
unfolding payload_of
payload_bytes f n v = append_bytes f.name (61 ∷ f.value) n (front_byte 61 f.value (omega arith) v)

-- that of the field that a payload is
field_bytes_lem : (p : List ℕ) → Bytes p → Bytes (payload_of (field_of p))
unfolding field_of
field_bytes_lem p h = payload_bytes (field_of p) (name_bytes p h) (drop_bytes (length (name_of p) + 1) p h)

-- the field at the front, if there is one, has a payload of bytes
abbrev FrontBytes : Front → Type 0
FrontBytes broken = Unit {0}
FrontBytes end = Unit {0}
FrontBytes (field x n) = Bytes (payload_of x)

-- in the form with a length
length_field_bytes : (name rest : List ℕ) → Bytes name → Bytes rest → FrontBytes (length_field name rest)
unfolding length_field
length_field_bytes name rest n r = go (leb (length rest) (8 + number 8 rest)) (eqb (get_or rest (8 + number 8 rest) 0) 10)
  where
    go : (t u : Bool)
        → FrontBytes (elim t as (λ _. Front) [
          | true ↦ broken
          | false ↦ elim u as (λ _. Front) [
            | true ↦ field (record { name = name; value = take (number 8 rest) (drop 8 rest) }) (length name + 1 + (8 + number 8 rest + 1))
            | false ↦ broken
          ]
        ])
    go true u = tt
    go false true =
        payload_bytes (record { name = name; value = take (number 8 rest) (drop 8 rest) }) n (take-bytes (number 8 rest) (drop 8 rest) (drop_bytes 8 rest r))
    go false false = tt

-- in either form
line_field_bytes : (line text : List ℕ) → Bytes line → Bytes text → FrontBytes (line_field line text)
unfolding line_field
line_field_bytes line text l h = go (ltb (length (name_of line)) (length line))
  where
    go : (t : Bool)
        → FrontBytes (elim t as (λ _. Front) [
          | true ↦ field (field_of line) (length line + 1)
          | false ↦ length_field line (drop (length line + 1) text)
        ])
    go true = field_bytes_lem line l
    go false = length_field_bytes line (drop (length line + 1) text) l (drop_bytes (length line + 1) text h)

-- in any text
front_bytes : (text : List ℕ) → Bytes text → FrontBytes (front_of text)
unfolding front_of
front_bytes text h = go (leb (length text) (length (line_of text))) (eqb (length (line_of text)) 0) (eqb (length text) 1)
  where
    go : (t u v : Bool)
        → FrontBytes (elim t as (λ _. Front) [
          | true ↦ broken
          | false ↦ elim u as (λ _. Front) [
            | true ↦ elim v as (λ _. Front) [ true ↦ end | false ↦ broken ]
            | false ↦ line_field (line_of text) text
          ]
        ])
    go true u v = tt
    go false true true = tt
    go false true false = tt
    go false false v = line_field_bytes (line_of text) text (line_bytes text h) h

-- each field has a payload of bytes
abbrev AllBytes : Fields → Type 0
AllBytes not_fields = Unit {0}
AllBytes (fields fs) = (x : Field) → Memᴰ x fs → Bytes (payload_of x)

-- one field more in front
followed_bytes : (x : Field) (r : Fields) → Bytes (payload_of x) → AllBytes r → AllBytes (followed_by x r)
unfolding followed_by
followed_bytes x not_fields b h = tt
followed_bytes x (fields fs) b h = λ y m. go y (Memᴰ.cases_cons m)
  where
    go : (y : Field) → (y ≡ x) ⊎ Memᴰ y fs → Bytes (payload_of y)
    go y (inl e) = subst (λ (z : Field). Bytes (payload_of z)) (sym e) b
    go y (inr k) = h y k

-- those of a text, f at most
from_bytes : (f : ℕ) (text : List ℕ) → Bytes text → AllBytes (fields_from f text)
unfolding fields_from
from_bytes zero text h = tt
from_bytes (suc f) text h =
    elim (front_of text) as (λ x. FrontBytes x → AllBytes (elim x as (λ _. Fields) [
      | broken ↦ not_fields
      | end ↦ fields []
      | field y n ↦ followed_by y (fields_from f (drop n text))
    ])) [
      | broken ↦ λ b. tt
      | end ↦ λ b y m. absurd (Memᴰ.not-nil m)
      | field y n ↦ λ b. followed_bytes y (fields_from f (drop n text)) b (from_bytes f (drop n text) (drop_bytes n text h))
    ] (front_bytes text h)

-- the fields of a text of bytes have payloads of bytes
fields_bytes : (text : List ℕ) → Bytes text → (fs : List Field) → fields_in text ≡ fields fs → (x : Field) → Memᴰ x fs → Bytes (payload_of x)
unfolding fields_in
fields_bytes text h fs e = subst (λ (r : Fields). AllBytes r) e (from_bytes (length text) text h)

-- the other fields are among the fields
others_in : (ps : List (List ℕ)) (q : List ℕ) → Memᴰ q (others_of ps) → Memᴰ q ps
unfolding others_of
others_in [] q m = m
others_in (p ∷ ps) q m = go (is_reserved (name_of p)) (others_in ps q) m
  where
    own : (Memᴰ q (others_of ps) → Memᴰ q ps) → (q ≡ p) ⊎ Memᴰ q (others_of ps) → Memᴰ q (p ∷ ps)
    own ih (inl e) = Memᴰ.head e
    own ih (inr k) = Memᴰ.tail (ih k)

    go : (b : Bool) → (Memᴰ q (others_of ps) → Memᴰ q ps)
        → Memᴰ q (elim b as (λ _. List (List ℕ)) [ true ↦ others_of ps | false ↦ p ∷ others_of ps ]) → Memᴰ q (p ∷ ps)
    go true ih k = Memᴰ.tail (ih k)
    go false ih k = own ih (Memᴰ.cases_cons k)

-- so that their payloads are bytes too
pub others_bytes : (text : List ℕ) → Bytes text → (fs : List Field) → fields_in text ≡ fields fs
    → (p : List ℕ) → Memᴰ p (others_of (map (λ f. payload_of f) fs)) → Bytes p
others_bytes text h fs e p m =
    let k = map_in (λ f. payload_of f) p fs (others_in (map (λ f. payload_of f) fs) p m) in
    subst (λ (l : List ℕ). Bytes l) (sym k.2) (fields_bytes text h fs e k.0 k.1)

-- payloads of bytes are packed as bytes
pub packed_bytes : (ps : List (List ℕ)) → ((p : List ℕ) → Memᴰ p ps → Bytes p) → Bytes (packed ps)
unfolding packed
packed_bytes [] h = λ i. omega arith
packed_bytes (p ∷ ps) h =
    append_bytes (bytes_of 4 (length p)) (p ++ packed ps) (bytes_of_small 4 (length p))
    (append_bytes p (packed ps) (h p (Memᴰ.head refl)) (packed_bytes ps (λ q m. h q (Memᴰ.tail m))))
