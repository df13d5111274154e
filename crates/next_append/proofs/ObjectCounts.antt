-- How many objects an append adds, by the plan's own count and by the list of planned objects.
use mathlib.Core.Path.{◌≡◌, refl, ap, ◌∙◌}
use mathlib.Core.Bool.{Bool, true, false}
use mathlib.Core.List.{List, [], ◌∷◌, ◌++◌, Memᴰ}
use Prim.Native.Nat.{ℕ, zero, suc, ◌+◌}
use native.Mathlib.Omega.{arith}
use lib.Dec.{eqb}
use lib.ListN.{length, length-append}
use Rattle.format.specs.Kinds.{Table, data_table, field_table}
use Rattle.format.specs.File.{File}
use Rattle.writing.specs.Request.{Stamp}
use Rattle.writing.specs.Placing.{Placed}
use Rattle.writing.specs.Growth.{Growth, new_arrays}
use Rattle.writing.specs.NewObjects.{brings}
use Rattle.writing.specs.Plan.{new_count}
use Rattle.partial_append.specs.Between.{PlannedObject}
use Rattle.plan_words.specs.Planned.{brought_of, arrays_of}
use Rattle.plan_words.specs.Objects.{data_object, of_payload, of_payloads, of_arrays, objects_of}
use Rattle.plan_words.proofs.Brought.{Idle, Brings, old_idle}
use Rattle.plan_words.proofs.ObjectKinds.{Bearing}
use Rattle.plan_words.proofs.ObjectLaws.{field-none, field_one, payload_none, payload_some, array_none, array_one}
use Rattle.plan_words.proofs.Standing.{field_brought}

-- as many are brought as the plan counts
pub brought_many : (t : Table) (qs : List Placed) → length (brought_of t qs) ≡ new_count t qs
unfolding new_count brought_of
brought_many t [] = refl
brought_many t (q ∷ qs) = go (eqb (brings t q) 0) (brought_many t qs)
  where
    go : (b : Bool) → length (brought_of t qs) ≡ new_count t qs
        → length {A = ℕ} (elim b as (λ _. List ℕ) [ true ↦ brought_of t qs | false ↦ brings t q ∷ brought_of t qs ]) ≡ elim b as (λ _. ℕ) [ true ↦ new_count t qs | false ↦ suc (new_count t qs) ]
    go true e = e
    go false e = ap suc e

-- and as many arrays
pub arrays_many : (gs : List Growth) → length (arrays_of gs) ≡ new_arrays gs
unfolding new_arrays arrays_of
arrays_many [] = refl
arrays_many (g ∷ gs) = go g.room (arrays_many gs)
  where
    go : (n : ℕ) → length (arrays_of gs) ≡ new_arrays gs
        → length {A = ℕ} (elim n as (λ _. List ℕ) [ zero ↦ arrays_of gs | suc k ↦ g.value ∷ arrays_of gs ]) ≡ elim n as (λ _. ℕ) [ zero ↦ new_arrays gs | suc k ↦ suc (new_arrays gs) ]
    go zero e = e
    go (suc n) e = ap suc e

-- the new arrays among the planned objects
planned_many : (c : Bool) (e : ℕ) (gs : List Growth) → length (of_arrays c e gs) ≡ new_arrays gs
unfolding new_arrays of_arrays
planned_many c e [] = refl
planned_many c e (g ∷ gs) = go g.room refl (planned_many c e gs)
  where
    go : (n : ℕ) → g.room ≡ n → length (of_arrays c e gs) ≡ new_arrays gs → length (of_arrays c e (g ∷ gs)) ≡ elim n as (λ _. ℕ) [ zero ↦ new_arrays gs | suc k ↦ suc (new_arrays gs) ]
    go zero q h = ap length (array_none c e g gs q) ∙ h
    go (suc n) q h = ap length (array_one c e g gs n q) ∙ ap suc h

module _ (F : File) (e : ℕ) where
  -- the new objects of one payload
  payload_many : (before : List Placed) (q : Placed) (after : List Placed) → Bearing q
      → length (of_payload F e before q after) + (new_count data_table after + new_count field_table after) ≡ new_count data_table (q ∷ after) + new_count field_table (q ∷ after)
  unfolding new_count
  payload_many before q after b = go q.is_new refl (eqb q.field 0) refl
    where
      none : (t : Table) → Idle t q → new_count t (q ∷ after) ≡ new_count t after
      none t i = rw (new_count, i)

      one : (t : Table) → Brings t q → new_count t (q ∷ after) ≡ suc (new_count t after)
      one t i = rw (new_count, i)

      field : (x : Bool) → eqb q.field 0 ≡ x → eqb (brings field_table q) 0 ≡ x
      field x i = ap (λ (o : ℕ). eqb o 0) (field_brought q) ∙ i

      go : (n : Bool) → q.is_new ≡ n → (f : Bool) → eqb q.field 0 ≡ f
          → length (of_payload F e before q after) + (new_count data_table after + new_count field_table after) ≡ new_count data_table (q ∷ after) + new_count field_table (q ∷ after)
      go false n f i =
          let l : length (of_payload F e before q after) ≡ 0 = ap length (payload_none F before q after e n) in
          omega (arith, l, none data_table (old_idle q n), none field_table (field true (b.field_new n)))
      go true n true i =
          let l : length (of_payload F e before q after) ≡ 1 = ap length (payload_some F before q after e n ∙ ap (λ (l : List PlannedObject). data_object F e before q after ∷ l) (field-none F before q after i)) in
          omega (arith, l, one data_table (b.data_new n), none field_table (field true i))
      go true n false i =
          let l : length (of_payload F e before q after) ≡ 2 = ap length (payload_some F before q after e n ∙ ap (λ (l : List PlannedObject). data_object F e before q after ∷ l) (field_one F before q after i)) in
          omega (arith, l, one data_table (b.data_new n), one field_table (field false i))

  -- of all payloads
  payloads_many : (before qs : List Placed) → ((q : Placed) → Memᴰ q qs → Bearing q) → length (of_payloads F e before qs) ≡ new_count data_table qs + new_count field_table qs
  unfolding of_payloads new_count
  payloads_many before [] h = refl
  payloads_many before (q ∷ qs) h =
      length-append (of_payload F e before q qs) (of_payloads F e (before ++ (q ∷ [])) qs)
      ∙ ap (λ (n : ℕ). length (of_payload F e before q qs) + n) (payloads_many (before ++ (q ∷ [])) qs (λ x m. h x (Memᴰ.tail m)))
      ∙ payload_many before q qs (h q (Memᴰ.head refl))

  -- all new objects
  pub objects_many : (s : Stamp) (ps : List Placed) (gs : List Growth) → ((q : Placed) → Memᴰ q ps → Bearing q)
      → length (objects_of F s ps gs e) ≡ new_count data_table ps + new_count field_table ps + 1 + new_arrays gs
  unfolding objects_of
  objects_many s ps gs h =
      length-append (of_payloads F e [] ps) _ ∙ omega (arith, payloads_many [] ps h, planned_many F.compact e gs)
