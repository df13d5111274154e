-- Demand 3 of a batch and demand 2 of a batch, proved. Its stores fit the image and its lent list, so that the calls carry out the first
-- k of them, which leave a cut (`BatchCuts`); all of them leave the file with each entry appended one by one, a run of accepted appends.
use mathlib.Core.Path.{◌≡◌, sym, ap, ◌∙◌, subst}
use mathlib.Core.List.Memᴰ
use mathlib.Core.List.{List, [], ◌∷◌, ◌++◌, Memᴰ}
use Prim.Native.Nat.{ℕ, zero, suc, ◌≤◌}
use native.Mathlib.Omega.{arith}
use lib.ListN.{length, take}
use lib.Seq.{take_all}
use Rattle.format.specs.Header.{Image}
use Rattle.format.specs.File.{model}
use Rattle.format.specs.Stores.{Store, carry, carry_all, written, carry_refusal, carried}
use Rattle.format.proofs.StoreLists.{Each, each_all, Wide, carry_all_append, carry_take}
use Rattle.format.proofs.Cuts.{Fit, cut_taken, cut_carried}
use Rattle.writing.specs.Request.{Request}
use Rattle.writing.specs.Plan.{store_of, stores_for, state_update, appended}
use Rattle.writing.specs.Batch.{requests_of, appended_all, batch_stores, batch_need, batch_answer, batch_list}
use Rattle.crash_states.specs.Demand.{Stands}
use Rattle.crash_states.proofs.Accepted.{Accepted}
use Rattle.crash_states.proofs.AcceptedFrom.{accepted}
use Rattle.crash_states.proofs.AcceptedLaws.{accepted_walked}
use Rattle.crash_states.proofs.Groups.{online_group, offline_group}
use Rattle.crash_states.proofs.StoresFit.{stores_carry}
use Rattle.crash_states.proofs.CutOutcomes.{cut_before}
use Rattle.crash_states.proofs.Demands.{stands_still}
use Rattle.next_append.specs.Next.{AcceptsAll}
use Rattle.next_append.proofs.FileAfter.{appended_is, between8}
use Rattle.next_append.proofs.StoresLeft.{AllCarry}
use Rattle.next_append.proofs.Runs.{run}
use Rattle.batch_states.specs.Batches.{GivenBatch, commit_stores, with_first, Demand3Batch, Demand2Batch}
use Rattle.batch_states.proofs.EntryStores.{of_both, entry_stores, online, append_parts, entry_carries, online_next}
use Rattle.batch_states.proofs.BatchAccepted.{Taken, batch_taken}
use Rattle.batch_states.proofs.BatchCuts.{later_stores, batch_parts, later_next, later_alone, cuts}

-- the first append of some that are accepted
pub first_accepted : (img : Image) (r : Request) (rs : List Request) → AcceptsAll img (r ∷ rs) → Accepted img r
first_accepted img r rs all = accepted img r all.1.0 all.1.1 all.0

-- an append keeps the length
pub length_stays : (img : Image) (r : Request) → Accepted img r → length (appended img r) ≡ length img
length_stays img r a = ap length (appended_is img r a) ∙ (between8 img r a (offline_group (model img)) (λ s m. m)).long

module _ (img : Image) (r : Request) (a : Accepted img r) where
  -- the store of group 1 can be carried out
  online_carries : AllCarry (length img) (online_group (model img))
  online_carries s m = stores_carry img r a s (subst (λ (ss : List Store). Memᴰ s ss) (sym (append_parts img r)) (Memᴰ.append_left _ m))

  -- and so can that of group 8
  offline_carries : AllCarry (length img) (offline_group (model img))
  offline_carries s m =
      stores_carry img r a s
      (subst (λ (ss : List Store). Memᴰ s ss) (sym (append_parts img r))
      (Memᴰ.append_right (online_group (model img)) (Memᴰ.append_right (entry_stores img r) m)))

-- those behind that of group 1
later_carry : (img : Image) (r : Request) (rs : List Request) → AcceptsAll img (r ∷ rs) → AllCarry (length img) (later_stores img (r ∷ rs))
later_carry img r [] all =
    let a = first_accepted img r [] all in
    subst (AllCarry (length img)) (sym (later_alone img r a))
    (of_both (entry_stores img r) (offline_group (model img)) (entry_carries img r a) (offline_carries img r a))
later_carry img r (r' ∷ rs) all =
    let a = first_accepted img r (r' ∷ rs) all in
    subst (AllCarry (length img)) (sym (later_next img r a (r' ∷ rs)))
    (of_both (entry_stores img r) (later_stores (appended img r) (r' ∷ rs)) (entry_carries img r a)
    (subst (λ (n : ℕ). AllCarry n (later_stores (appended img r) (r' ∷ rs))) (length_stays img r a) (later_carry (appended img r) r' rs all.2)))

-- all of them leave the file with each entry appended one by one
later_appends : (img : Image) (r : Request) (rs : List Request) → AcceptsAll img (r ∷ rs)
    → carry_all (later_stores img (r ∷ rs)) (online img) ≡ appended_all img (r ∷ rs)
unfolding appended_all appended
later_appends img r [] all =
    let a = first_accepted img r [] all in
    ap (λ (ss : List Store). carry_all ss (online img)) (later_alone img r a)
    ∙ sym (carry_all_append (online_group (model img)) (entry_stores img r ++ offline_group (model img)) img)
    ∙ ap (λ (ss : List Store). carry_all ss img) (sym (append_parts img r))
later_appends img r (r' ∷ rs) all =
    let a = first_accepted img r (r' ∷ rs) all in
    ap (λ (ss : List Store). carry_all ss (online img)) (later_next img r a (r' ∷ rs))
    ∙ carry_all_append (entry_stores img r) (later_stores (appended img r) (r' ∷ rs)) (online img)
    ∙ ap (carry_all (later_stores (appended img r) (r' ∷ rs))) (online_next img r a) ∙ later_appends (appended img r) r' rs all.2

module _ (img : Image) (r : Request) (rs : List Request) (all : AcceptsAll img (r ∷ rs)) where
  -- every store of the batch can be carried out
  pub batch_carries : AllCarry (length img) (batch_stores img (r ∷ rs))
  batch_carries =
      subst (AllCarry (length img)) (sym (batch_parts img (r ∷ rs)))
      (of_both (online_group (model img)) (later_stores img (r ∷ rs)) (online_carries img r (first_accepted img r rs all)) (later_carry img r rs all))

  -- on the image
  pub batch_fit : Each (Fit (length img)) (batch_stores img (r ∷ rs))
  batch_fit = each_all (batch_stores img (r ∷ rs)) (λ s m. let c = batch_carries s m in (c.aligned, c.inside))

  -- and is made of numbers of 64 bits
  pub batch_wide : Each Wide (batch_stores img (r ∷ rs))
  batch_wide =
      each_all (batch_stores img (r ∷ rs))
      (λ s m. let c = batch_carries s m in (omega (arith, c.inside, (accepted_walked img r (first_accepted img r rs all)).framed.short), c.small))

  -- all of them carried out
  pub batch_appends : carry_all (batch_stores img (r ∷ rs)) img ≡ appended_all img (r ∷ rs)
  batch_appends =
      ap (λ (ss : List Store). carry_all ss img) (batch_parts img (r ∷ rs))
      ∙ carry_all_append (online_group (model img)) (later_stores img (r ∷ rs)) img ∙ later_appends img r rs all

  -- the first k of them stand as the file with the entries that they commit
  abbrev CutStands : List Store → Type 0
  CutStands some = Stands img (carry_all some img) (with_first (commit_stores some) img (r ∷ rs))

  -- counted from group 1 on
  parts_stand : (k : ℕ) → CutStands (take k (online_group (model img) ++ later_stores img (r ∷ rs)))
  unfolding carry carry_all commit_stores with_first appended_all stores_for store_of state_update
  parts_stand zero = let a = first_accepted img r rs all in stands_still img r a img (cut_before img r a 0 (omega arith))
  parts_stand (suc k) = cuts img r rs all k

  -- of the batch
  pub batch_cut : (k : ℕ) → CutStands (take k (batch_stores img (r ∷ rs)))
  batch_cut k = subst (λ (ss : List Store). CutStands (take k ss)) (sym (batch_parts img (r ∷ rs))) (parts_stand k)

-- what the stores of a batch of some accepted appends do
pub record Carried (img : Image) (rs : List Request) : Type 0 where
  pub fit : Each (Fit (length img)) (batch_stores img rs)
  pub wide : Each Wide (batch_stores img rs)
  pub appends : carry_all (batch_stores img rs) img ≡ appended_all img rs
  pub stands : (k : ℕ) → Stands img (carry_all (take k (batch_stores img rs)) img) (with_first (commit_stores (take k (batch_stores img rs))) img rs)

-- a batch has an entry
pub batch_carried : (img : Image) (rs : List Request) → 1 ≤ length rs → AcceptsAll img rs → Carried img rs
batch_carried img [] l all = absurd (omega arith)
batch_carried img (r ∷ rs) l all =
    record { fit = batch_fit img r rs all; wide = batch_wide img r rs all; appends = batch_appends img r rs all; stands = batch_cut img r rs all }

module _ (img : Image) (machine buffer list : List ℕ) (given : GivenBatch img buffer)
    (clear : (batch_answer img machine buffer (length list)).refusal ≡ 0) where
  -- the appends that the batch asks for
  abbrev rs : List Request
  rs = requests_of machine buffer

  -- it is accepted
  taken : Taken img machine buffer (length list)
  taken = batch_taken img machine buffer (length list) given clear

  -- its stores
  whole : Carried img rs
  whole = batch_carried img rs taken.some taken.all

  -- the list that the batch leaves
  pub list_is : batch_list img machine buffer list ≡ written 0 (batch_stores img rs) list
  unfolding batch_list
  list_is = rw (batch_list, clear)

  module _ (k : ℕ) (few : k ≤ batch_need img rs) where
    -- 21 does not refuse its first k stores
    list_taken : carry_refusal k (batch_list img machine buffer list) img ≡ 0
    unfolding batch_need
    list_taken =
        ap (λ (l : List ℕ). carry_refusal k l img) list_is ∙ cut_taken img (batch_stores img rs) list k few taken.room whole.wide whole.fit

    -- they are carried out
    list_carried : carried k (batch_list img machine buffer list) img ≡ carry_all (take k (batch_stores img rs)) img
    unfolding batch_need
    list_carried =
        ap (λ (l : List ℕ). carried k l img) list_is ∙ cut_carried img (batch_stores img rs) list k few taken.room whole.wide whole.fit
        ∙ carry_take k (batch_stores img rs) img

    -- and leave what stands as the file with the first entries
    list_stands : Stands img (carried k (batch_list img machine buffer list) img) (with_first (commit_stores (take k (batch_stores img rs))) img rs)
    list_stands =
        subst (λ (i : Image). Stands img i (with_first (commit_stores (take k (batch_stores img rs))) img rs)) (sym list_carried) (whole.stands k)

  -- all of them yield the file with each entry appended
  list_appends : carried (batch_need img rs) (batch_list img machine buffer list) img ≡ appended_all img rs
  unfolding batch_need
  list_appends =
      list_carried (batch_need img rs) (omega arith)
      ∙ ap (λ (ss : List Store). carry_all ss img) (take_all (batch_need img rs) (batch_stores img rs) (omega arith)) ∙ whole.appends

-- demand 3 of a batch
pub demand3_batch : Demand3Batch
demand3_batch img machine buffer list given clear k few =
    (list_taken img machine buffer list given clear k few, list_stands img machine buffer list given clear k few)

-- demand 2 of a batch
pub demand2_batch : Demand2Batch
demand2_batch img machine buffer list given clear =
    let t = taken img machine buffer list given clear in
    let r = run img (requests_of machine buffer) t.takes t.all in
    (list_appends img machine buffer list given clear, r.1, r.0)
