-- A file that 1 to 11 and 14 let pass is salvaged whole: every ENTRY is committed, so each is kept and none is in the report; and only 18 stops
-- the run over them, if 16 does not apply to their fields.
use mathlib.Core.Path.{◌≡◌, refl, sym, ap, subst, ◌∙◌}
use mathlib.Core.Logic.{◌⊎◌, inl, inr}
use mathlib.Core.Bool.{false≢true}
use mathlib.Core.List.Memᴰ
use mathlib.Core.List.{List, [], ◌∷◌}
use Prim.Native.Nat.{ℕ, ◌≤◌}
use native.Mathlib.Omega.{arith}
use lib.Dec.{eqb}
use lib.ListN.{length, take}
use lib.Seq.{take_all, take-length}
use borrow.Author.Tests.{eqb-true}
use Rattle.format.specs.Says.{In}
use Rattle.format.specs.Header.{Image}
use Rattle.format.specs.Kinds.{ENTRY}
use Rattle.format.specs.Rows.{Row}
use Rattle.format.specs.Walk.{walk_fault, of_kind}
use Rattle.format.specs.Refusal.{header_rows, header_refusal, tables_fault, frame_rows}
use Rattle.format.specs.File.{model}
use Rattle.format.proofs.Frames.{frame_clear}
use Rattle.format.proofs.Rows.{clear_lowest, clear_parts}
use Rattle.format.proofs.Members.{in_filter}
use Rattle.reading.specs.Committed.{committed}
use Rattle.reading.specs.View.{view}
use Rattle.reading.proofs.OpenLaws.{opened_frame, opened_walked}
use Rattle.reading.proofs.CommittedLaws.{index_in}
use Rattle.writing.specs.Ready.{Agreed}
use Rattle.writing.proofs.AgreedLaws.{agreed_is, agreed_opened, all_committed}
use Rattle.crash_states.proofs.CounterBounds.{filter_few}
use Rattle.salvage.specs.Conditions.{walked_entries, kept}
use Rattle.salvage.specs.Salvage.{run_for}
use Rattle.salvaged_files.specs.Salvaged.{verdict, failed, Returned, stops_at, AgreedWhole, AgreedRefills}
use Rattle.salvaged_files.proofs.Accounts.{failed_past, each_accounted}
use Rattle.salvaged_files.proofs.OpenedWalk.{reached_objects}
use Rattle.salvaged_files.proofs.OpenedKept.{opened_kept}
use Rattle.salvaged_files.proofs.Refills.{refills}

-- where nothing fails the report is empty
failed_none : (v : ℕ → ℕ) (es : List ℕ) → ((e : ℕ) → In e es → v e ≡ 0) → failed v es ≡ []
unfolding failed
failed_none v [] h = refl
failed_none v (e ∷ es) h = failed_past v e es (h e (Memᴰ.head refl)) ∙ failed_none v es (λ o m. h o (Memᴰ.tail m))

module _ (img : Image) (a : Agreed img) where
  -- 1 to 5 do not apply
  header_none : header_refusal img ≡ 0
  unfolding header_refusal header_rows frame_rows
  header_none =
      let later : List Row = (6, walk_fault img) ∷ (7, tables_fault img) ∷ [] in
      clear_lowest (header_rows img) (clear_parts (header_rows img) later (frame_clear img (opened_frame img (agreed_opened img a)))).0

  -- the walked ENTRYs are the committed ones
  walked_committed : walked_entries img ≡ committed (model img)
  unfolding walked_entries
  walked_committed =
      ap (λ (os : List ℕ). of_kind img os ENTRY) (reached_objects img (opened_walked img (agreed_opened img a)).walked) ∙ sym (all_committed img a)

  -- and all are kept
  kept_committed : kept img ≡ committed (model img)
  kept_committed =
      let es = committed (model img) in
      let few : length (kept img) ≤ length es =
      omega (arith, ap length (each_accounted img header_none).keeps, filter_few (λ e. eqb (verdict img e) 0) (walked_entries img), ap length walked_committed) in
      sym (take_all (length es) (kept img) few)
      ∙ opened_kept img a.opens (sym (take-length es) ∙ ap (λ (l : List ℕ). take (length es) l) (all_committed img a))

  -- so none of them fails
  verdict_none : (e : ℕ) → In e (walked_entries img) → verdict img e ≡ 0
  verdict_none e m =
      let k = subst (λ (l : List ℕ). In e l) (walked_committed ∙ sym kept_committed ∙ (each_accounted img header_none).keeps) m in
      eqb-true (verdict img e) 0 (in_filter (λ e. eqb (verdict img e) 0) e (walked_entries img) k).1

pub agreed_whole : AgreedWhole
agreed_whole img z =
    let a = agreed_is img z in
    (kept_committed img a, (each_accounted img (header_none img a)).reports ∙ failed_none (verdict img) (walked_entries img) (verdict_none img a))

-- of 0, 16 and 18 not 16
not_16 : (n : ℕ) → In n (0 ∷ 16 ∷ 18 ∷ []) → (n ≡ 16 → ⊥) → In n (0 ∷ 18 ∷ [])
not_16 n m h = go (Memᴰ.cases_cons m)
  where
    later : (n ≡ 16) ⊎ In n (18 ∷ []) → In n (0 ∷ 18 ∷ [])
    later (inl e) = absurd (h e)
    later (inr k) = Memᴰ.tail k

    go : (n ≡ 0) ⊎ In n (16 ∷ 18 ∷ []) → In n (0 ∷ 18 ∷ [])
    go (inl e) = Memᴰ.head e
    go (inr k) = later (Memᴰ.cases_cons k)

pub agreed_refills : AgreedRefills
agreed_refills img a len room bytes given z y fits =
    let c = (agreed_whole img z).0 in
    let f = refills img a len room bytes given y in
    let run = run_for img a len in
    record {
      number =
          not_16 run.number f.number
          (λ q. false≢true (sym (fits (stops_at img a len)
          (subst (λ (l : List ℕ). In (stops_at img a len) l) c (index_in (kept img) run.made (f.some (λ n. omega (arith, q, n))))))
          ∙ f.fields q));
      shows =
          λ q. subst (λ (l : List ℕ). Returned (model img) l (view (model run.image)).entries)
          (ap (λ (n : ℕ). take n (kept img)) (f.whole q) ∙ take-length (kept img) ∙ c) f.shows;
    }
