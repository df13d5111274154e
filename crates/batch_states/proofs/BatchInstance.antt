-- Demand 3 of an append is that of a batch of one, proved: the buffer of the entry holds it alone, and of the append's stores only the
-- last but one is a commit store, so that "j" is 1 from there on.
use mathlib.Core.Path.{◌≡◌, refl, sym, ap, ap₂, ◌∙◌, subst}
use mathlib.Core.Bool.{Bool, true, false}
use mathlib.Core.List.{List, [], ◌∷◌}
use Prim.Native.Nat.{ℕ, zero, suc, ◌+◌, ◌-◌, ◌^◌, ◌≤◌, ◌<◌}
use native.Mathlib.Omega.{arith}
use lib.Dec.{leb}
use lib.ListN.{length, take, length-append}
use lib.Seq.{take-append-add}
use borrow.Author.Tests.{leb-true, leb-false}
use Rattle.format.specs.Header.{Image}
use Rattle.format.specs.File.{model}
use Rattle.format.specs.Stores.{Store, carry_refusal, carried}
use Rattle.writing.specs.Request.{Request}
use Rattle.writing.specs.Plan.{store_of, stores_for, state_update, stores_of, need, appended}
use Rattle.writing.specs.Refusal.{append_refusal, planned_list, plan_answer}
use Rattle.writing.specs.Batch.{requests_of, appended_all, batch_stores, batch_need, batch_answer, batch_list}
use Rattle.writing.specs.declared.answer.Batch.{Batch}
use Rattle.crash_states.specs.Demand.{answers_as, Stands}
use Rattle.crash_states.proofs.Accepted.{Accepted}
use Rattle.crash_states.proofs.AcceptedFrom.{accepted}
use Rattle.crash_states.proofs.Groups.{offline_group}
use Rattle.batch_states.specs.Batches.{commit_stores, with_first}
use Rattle.batch_states.specs.BatchOfOne.{packed, Instance}
use Rattle.batch_states.proofs.EntryStores.{entry_stores, early_stores, append_parts}
use Rattle.batch_states.proofs.BatchCuts.{commits_append, entry_long, first_early, early_commits, entry_commits, offline_commits}
use Rattle.batch_states.proofs.PackedEntry.{fields_short, entry_in, packed_one, packed_framed, packed_bytes}
use Rattle.batch_states.proofs.BatchOne.{number_is, one_request, one_stores, one_need, one_answer, one_list}

module _ (img : Image) (r : Request) (a : Accepted img r) where
  -- no commit store has arrived before the last but one
  none_before : (k : ℕ) → k ≤ suc (length (early_stores img r)) → commit_stores (take k (stores_of img r)) ≡ 0
  unfolding commit_stores stores_for store_of state_update
  none_before zero l = refl
  none_before (suc k) l =
      ap (λ (ss : List Store). commit_stores (take (suc k) ss)) (append_parts img r)
      ∙ ap commit_stores (first_early img r a k (offline_group (model img)) (omega arith)) ∙ early_commits img r a k

  -- and one from there on
  one_behind : (k j : ℕ) → k ≡ suc (length (entry_stores img r) + j) → commit_stores (take k (stores_of img r)) ≡ 1
  unfolding commit_stores stores_for store_of state_update
  one_behind k j e =
      let off = offline_group (model img) in
      ap₂ (λ (n : ℕ) (ss : List Store). commit_stores (take n ss)) e (append_parts img r)
      ∙ ap commit_stores (take-append-add (entry_stores img r) off j) ∙ commits_append (entry_stores img r) (take j off)
      ∙ omega (arith, entry_commits img r a, offline_commits img r a j)

  -- all stores: those of groups 2 to 7, the one before them and the one behind
  need_is : need img r ≡ suc (length (entry_stores img r)) + 1
  unfolding need stores_for
  need_is = ap length (append_parts img r) ∙ simp length-append (omega arith)

  -- so the file with the entries whose commit store arrived is that as which a cut answers
  first_answers : (k : ℕ) → with_first (commit_stores (take k (stores_of img r))) img (r ∷ []) ≡ answers_as img r k
  unfolding answers_as with_first appended_all
  first_answers k = go (leb (need img r) (k + 1)) refl
    where
      go : (b : Bool) → leb (need img r) (k + 1) ≡ b
          → with_first (commit_stores (take k (stores_of img r))) img (r ∷ []) ≡ elim b as (λ _. Image) [ true ↦ appended img r | false ↦ img ]
      go true e =
          let l = leb-true (need img r) (k + 1) e in
          ap (λ (j : ℕ). with_first j img (r ∷ [])) (one_behind k (k - suc (length (entry_stores img r))) (omega (arith, need_is)))
      go false e =
          let l = leb-false (need img r) (k + 1) e in
          ap (λ (j : ℕ). with_first j img (r ∷ [])) (none_before k (omega (arith, need_is, entry_long img r a)))

-- demand 3 of an append
pub instance : Instance
unfolding plan_answer
instance batch img r list given clear k few =
    let a = accepted img r (length list) clear given in
    let short : length r.fields < 256 ^ 4 = omega (arith, fields_short r.fields a.fields) in
    let one = packed_one r a.boot_length short a.seqnum a.realtime a.monotonic in
    let framed = packed_framed r a.boot_length short a.seqnum a.realtime a.monotonic in
    let bytes = packed_bytes r a.boot_length short a.seqnum a.realtime a.monotonic a.boot_bytes a.field_bytes in
    let taken : (batch_answer img r.machine (packed r) (length list)).refusal ≡ 0 =
    ap (λ (b : Batch). b.refusal) (one_answer img r.machine (packed r) (entry_in r) framed one list)
    ∙ number_is (append_refusal img r (length list)) (need img r) ∙ clear in
    let requests : requests_of r.machine (packed r) ≡ r ∷ [] = one_request img r.machine (packed r) (entry_in r) framed one list in
    let listed : batch_list img r.machine (packed r) list ≡ planned_list img r list =
    one_list img r.machine (packed r) (entry_in r) framed one list in
    let out = batch img r.machine (packed r) list (record { image = a.image_bytes; entries = bytes }) taken k
    (subst (λ (n : ℕ). k ≤ n) (sym (ap (batch_need img) requests ∙ one_need img r)) few) in (
      ap (λ (l : List ℕ). carry_refusal k l img) (sym listed) ∙ out.0,
      subst (λ (i : Image). Stands img (carried k (planned_list img r list) img) i)
          (ap (λ (rs : List Request). with_first (commit_stores (take k (batch_stores img rs))) img rs) requests
          ∙ ap (λ (ss : List Store). with_first (commit_stores (take k ss)) img (r ∷ [])) (one_stores img r) ∙ first_answers img r a k)
          (subst (λ (l : List ℕ). Stands img (carried k l img)
          (with_first (commit_stores (take k (batch_stores img (requests_of r.machine (packed r))))) img
          (requests_of r.machine (packed r)))) listed out.1),
    )
