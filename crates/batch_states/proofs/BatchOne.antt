-- A batch of one is the append, proved: its eight groups are those of the append, and its table of refusals is the append's, cut in
-- three: what the image and the machine decide, then the entry, then the list. A buffer that holds one entry is not refused by 22.
use mathlib.Core.Path.{◌≡◌, refl, sym, ap, ap₂, ◌∙◌}
use mathlib.Core.Logic.{◌≢◌}
use mathlib.Core.Bool.{Bool, true, false}
use mathlib.Core.List.{List, [], ◌∷◌, map}
use Prim.Native.Nat.{ℕ, zero, suc, ◌/◌}
use native.Mathlib.Omega.{arith}
use lib.Dec.{ltb, eqb}
use lib.ListN.{length, drop}
use borrow.Author.Tests.{ne_eqb, eqb-true}
use Rattle.format.specs.Header.{Image}
use Rattle.format.specs.Rows.{Row, lowest}
use Rattle.format.specs.File.{model}
use Rattle.format.specs.Stores.{Store, written}
use Rattle.format.proofs.Rows.{lowest_first, lowest_later}
use Rattle.writing.specs.Ready.{ready_rows, ready_refusal}
use Rattle.writing.specs.Request.{Request, request_of, fields_fault}
use Rattle.writing.specs.Plan.{groups, stores_of, need}
use Rattle.writing.specs.Refusal.{machine_fault, stamps_fault, space_fault, list_too_short, request_rows, append_refusal, planned_list, answer_with, plan_answer, machine_differs}
use Rattle.writing.specs.Batch.{BatchEntry, Bad, batch_fault, entries_of, requests_of, entry_groups, groups_of_each, batch_groups, batch_stores, batch_need, batch_rows, entry_rows, first_bad, batch_listed, entries_answer, batch_answer, batch_list}
use Rattle.writing.specs.declared.answer.Planned.{Planned}
use Rattle.writing.specs.declared.answer.Planned.TheVariants.{Refused, TooShort, Stores}
use Rattle.writing.specs.declared.answer.Batch.{Batch}
use Rattle.writing.proofs.ReadyLaws.{ready_clear}
use Rattle.writing.proofs.RefusalLaws.{ready_alone, append_image, append_request}
use Rattle.batch_states.specs.BatchOfOne.{as_batch, SameAsAppend}

-- the stores of a batch of one are those of the append
pub one_stores : (img : Image) (r : Request) → batch_stores img (r ∷ []) ≡ stores_of img r
unfolding batch_stores batch_groups groups_of_each entry_groups stores_of groups
one_stores img r = refl

-- and so many
pub one_need : (img : Image) (r : Request) → batch_need img (r ∷ []) ≡ need img r
unfolding batch_need need
one_need img r = ap length (one_stores img r)

-- the answer that a number makes, by whether it is 0 and whether it is 19, as that of a batch
abbrev batch_by : Bool → Bool → ℕ → ℕ → Batch
batch_by none short n stores =
    as_batch (elim none as (λ _. Planned) [ true ↦ Stores stores | false ↦ elim short as (λ _. Planned) [ true ↦ TooShort stores | false ↦ Refused n ] ])

-- a refusal of the image alone, as the answer of an append
refused_is : (n stores : ℕ) → n ≢ 0 → n ≢ 19 → as_batch (answer_with n stores) ≡ record { refusal = n; index = 0; stores = 0 }
unfolding answer_with
refused_is n stores z l = ap₂ (λ (a b : Bool). batch_by a b n stores) (ne_eqb n 0 z) (ne_eqb n 19 l)

-- the number of an answer, as that of a batch
pub number_is : (n stores : ℕ) → (as_batch (answer_with n stores)).refusal ≡ n
unfolding answer_with
number_is n stores = go (eqb n 0) refl (eqb n 19) refl
  where
    go : (a : Bool) → eqb n 0 ≡ a → (b : Bool) → eqb n 19 ≡ b → (batch_by a b n stores).refusal ≡ n
    go true p b q = sym (eqb-true n 0 p)
    go false p true q = sym (eqb-true n 19 q)
    go false p false q = refl

-- the rows of an entry, by whether its fields, its stamps and its space are at fault
abbrev rows_by : Bool → Bool → Bool → List Row
rows_by f s p = (16, f) ∷ (17, s) ∷ (18, p) ∷ []

-- the bad entry of one
abbrev bad_by : ℕ → Bad
bad_by n = elim n as (λ _. Bad) [ suc k ↦ record { number = suc k; index = 0 } | zero ↦ record { number = 0; index = 0 } ]

-- the answer to one entry, by that and by whether the list is too short for so many stores
abbrev answer_by : Bad → Bool → ℕ → Batch
answer_by bad short many =
    elim bad.number as (λ _. Batch) [
      | suc k ↦ record { refusal = suc k; index = bad.index; stores = 0 }
      | zero ↦ elim short as (λ _. Batch) [
        | true ↦ record { refusal = 19; index = 0; stores = many }
        | false ↦ record { refusal = 0; index = 0; stores = many }
      ]
    ]

-- is that of an append, whose machine is right
by_rows : (f s p short : Bool) (many : ℕ)
    → answer_by (bad_by (lowest (rows_by f s p))) short many
    ≡ as_batch (answer_with (lowest ((15, false) ∷ (16, f) ∷ (17, s) ∷ (18, p) ∷ (19, short) ∷ [])) many)
unfolding lowest answer_with
by_rows true s p short many = refl
by_rows false true p short many = refl
by_rows false false true short many = refl
by_rows false false false true many = refl
by_rows false false false false many = refl

-- the answer to one entry is that of the append's rows
one_entry : (img : Image) (r : Request) (list_bytes : ℕ) → machine_fault img r ≡ false
    → entries_answer img (r ∷ []) list_bytes ≡ as_batch (answer_with (lowest (request_rows img r list_bytes)) (need img r))
unfolding entries_answer first_bad entry_rows request_rows list_too_short batch_listed
one_entry img r list_bytes m =
    let bad = bad_by (lowest (entry_rows img r)) in
    ap (λ (n : ℕ). answer_by bad (ltb (list_bytes / 16) n) n) (one_need img r)
    ∙ by_rows (fields_fault r.fields) (stamps_fault (model img) r.stamp) (space_fault img r) (list_too_short img r list_bytes) (need img r)
    ∙ ap (λ (b : Bool). as_batch (answer_with (lowest ((15, b) ∷ drop 1 (request_rows img r list_bytes))) (need img r))) (sym m)

module _ (img : Image) (machine buffer : List ℕ) (e : BatchEntry) (framed : batch_fault buffer ≡ false) (one : entries_of buffer ≡ e ∷ [])
    (list : List ℕ) where
  -- the append
  abbrev r : Request
  r = request_of machine e.stamp e.fields

  -- the one request
  pub one_request : requests_of machine buffer ≡ r ∷ []
  unfolding requests_of
  one_request = ap (map (λ (x : BatchEntry). request_of machine x.stamp x.fields)) one

  -- what is judged before the entry, of an image that nothing refuses
  rows_ready : ready_refusal img ≡ 0 → lowest (batch_rows img machine buffer) ≡ elim (machine_fault img r) as (λ _. ℕ) [ true ↦ 15 | false ↦ 0 ]
  unfolding batch_rows machine_fault machine_differs lowest
  rows_ready z =
      lowest_later (ready_rows img) ((15, machine_differs img machine) ∷ (22, batch_fault buffer) ∷ []) (ready_clear img z)
      ∙ ap (λ (b : Bool). lowest ((15, machine_differs img machine) ∷ (22, b) ∷ [])) framed

  -- the answer of a batch, by what is judged before its entries
  abbrev answer_from : ℕ → Batch
  answer_from n =
      elim n as (λ _. Batch) [
        | suc k ↦ record { refusal = suc k; index = 0; stores = 0 }
        | zero ↦ entries_answer img (requests_of machine buffer) (length list)
      ]

  -- of an image that is ready
  answer_ready : ready_refusal img ≡ 0 → (b : Bool) → machine_fault img r ≡ b
      → answer_from (elim b as (λ _. ℕ) [ true ↦ 15 | false ↦ 0 ]) ≡ as_batch (plan_answer img r (length list))
  unfolding plan_answer request_rows lowest answer_with
  answer_ready z true m =
      ap (λ (b : Bool). as_batch (answer_with (lowest ((15, b) ∷ drop 1 (request_rows img r (length list)))) (need img r))) (sym m)
      ∙ ap (λ (n : ℕ). as_batch (answer_with n (need img r))) (sym (append_request img r (length list) z))
  answer_ready z false m =
      ap (λ (rs : List Request). entries_answer img rs (length list)) one_request ∙ one_entry img r (length list) m
      ∙ ap (λ (n : ℕ). as_batch (answer_with n (need img r))) (sym (append_request img r (length list) z))

  -- the answer
  pub one_answer : batch_answer img machine buffer (length list) ≡ as_batch (plan_answer img r (length list))
  unfolding batch_answer plan_answer batch_rows ready_refusal
  one_answer = go (ready_refusal img) refl
    where
      go : (n : ℕ) → ready_refusal img ≡ n → batch_answer img machine buffer (length list) ≡ as_batch (plan_answer img r (length list))
      go zero z = ap answer_from (rows_ready z) ∙ answer_ready z (machine_fault img r) refl
      go (suc n) z =
          let some : ready_refusal img ≢ 0 = λ q. omega (arith, z, q) in
          ap answer_from (lowest_first (ready_rows img) ((15, machine_differs img machine) ∷ (22, batch_fault buffer) ∷ []) some ∙ z)
          ∙ sym (refused_is (suc n) (need img r) (λ q. omega arith) (λ q. ready_alone img (z ∙ q)))
          ∙ ap (λ (k : ℕ). as_batch (answer_with k (need img r))) (sym (append_image img r (length list) some ∙ z))

  -- and the list
  pub one_list : batch_list img machine buffer list ≡ planned_list img r list
  unfolding batch_list planned_list plan_answer
  one_list =
      ap₂ (λ (n : ℕ) (ss : List Store). elim n as (λ _. List ℕ) [ zero ↦ written 0 ss list | suc k ↦ list ])
      (ap (λ (b : Batch). b.refusal) one_answer ∙ number_is (append_refusal img r (length list)) (need img r))
      (ap (batch_stores img) one_request ∙ one_stores img r)

-- a buffer of one entry
pub same_as_append : SameAsAppend
same_as_append img machine buffer e framed one = (
  one_stores img (request_of machine e.stamp e.fields),
  λ list. (one_answer img machine buffer e framed one list, one_list img machine buffer e framed one list),
)
