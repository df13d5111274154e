-- The run of a salvage over the kept ENTRYs. Of 15 to 19 only 16 and 18 can stop it: the machine id is the file's own, which appends keep;
-- each ENTRY has its stamps behind those of the one before it, (7) and (8); and the list is as long as needed. What was made is shown.
use mathlib.Core.Path.{◌≡◌, refl, sym, ap, ◌∙◌}
use mathlib.Core.Bool.{Bool, true, false, not}
use mathlib.Core.List.Memᴰ
use mathlib.Core.List.{List, [], ◌∷◌, ◌++◌, map, append_assoc, append-nil}
use Prim.Native.Nat.{ℕ, suc, ◌+◌, ◌*◌, ◌<◌}
use native.Mathlib.Omega.{arith}
use lib.ListN.{length, get_or, take}
use Rattle.format.specs.Number.{Bytes}
use Rattle.format.specs.Tests.{last_or0}
use Rattle.format.specs.Says.{In, says_same}
use Rattle.format.specs.Header.{Image, header_id, machine_id}
use Rattle.format.specs.Kinds.{ENTRY}
use Rattle.format.specs.Refusal.{Framed}
use Rattle.format.specs.File.{File, model}
use Rattle.format.proofs.Lists.{last_more}
use Rattle.reading.specs.View.{Shown, View, view}
use Rattle.writing.specs.Request.{Request, fields_fault}
use Rattle.writing.specs.Plan.{need, appended}
use Rattle.writing.specs.Refusal.{machine_differs, machine_fault, stamps_fault, space_fault}
use Rattle.writing.specs.Shown.{with_entry}
use Rattle.crash_states.specs.Demand.{new_entry}
use Rattle.crash_states.proofs.Accepted.{Accepted}
use Rattle.crash_states.proofs.AcceptedFrom.{accepted}
use Rattle.crash_states.proofs.Demands.{appended_shows}
use Rattle.next_append.specs.Next.{TakesAppends}
use Rattle.batch_states.proofs.NextEntry.{frame_kept, next_takes}
use Rattle.salvage.specs.Conditions.{walked_entries, kept}
use Rattle.salvage.specs.Salvage.{request_for, append_number, Run, run_on}
use Rattle.salvage.proofs.ReachLaws.{reached_above}
use Rattle.salvage.proofs.KeptLaws.{kept_walked, kept_next}
use Rattle.salvaged_files.specs.Salvaged.{Returned}
use Rattle.salvaged_files.proofs.KeptRequests.{kept_given}
use Rattle.salvaged_files.proofs.RunSteps.{Behind, behind_clear, behind_appended, run_goes, run_stops, number_fields, number_room}
use Rattle.salvaged_files.proofs.KeptShown.{kept_unaltered}

-- what a run over some ENTRYs comes to
pub record Filled (F : File) (machine : List ℕ) (file : Image) (es : List ℕ) (run : Run) : Type 0 where
  pub takes : TakesAppends run.image
  pub more : List Shown
  pub shows : (view (model run.image)).entries ≡ (view (model file)).entries ++ more
  pub returned : Returned F (take run.made es) more
  pub many : length more ≡ run.made
  pub number : In run.number (0 ∷ 16 ∷ 18 ∷ [])
  pub whole : run.number ≡ 0 → run.made ≡ length es
  pub some : (run.number ≡ 0 → ⊥) → run.made < length es
  pub fields : run.number ≡ 16 → fields_fault (request_for F machine (get_or es run.made 0)).fields ≡ true
  pub full : run.number ≡ 18 → space_fault run.image (request_for F machine (get_or es run.made 0)) ≡ true

-- a run that is stopped at once
filled_none : (F : File) (machine : List ℕ) (file : Image) (e : ℕ) (es : List ℕ) (rs : List Request) (n : ℕ) → TakesAppends file
    → In (suc n) (0 ∷ 16 ∷ 18 ∷ []) → append_number file (request_for F machine e) ≡ suc n
    → (suc n ≡ 16 → fields_fault (request_for F machine e).fields ≡ true) → (suc n ≡ 18 → space_fault file (request_for F machine e) ≡ true)
    → Filled F machine file (e ∷ es) (run_on file (request_for F machine e ∷ rs))
filled_none F machine file e es rs n takes i z fields full =
    rw (run_stops file (request_for F machine e) rs (suc n) z (λ q. omega (arith, q)))
    (record {
      takes = takes;
      more = [];
      shows = sym (append-nil (view (model file)).entries);
      returned = tt;
      many = refl;
      number = i;
      whole = λ q. absurd (omega arith);
      some = λ q. omega arith;
      fields = fields;
      full = full;
    })

module _ (img : Image) (machine : List ℕ) (framed : Framed img) (bytes : Bytes img) where
  abbrev F : File
  F = model img

  abbrev asked : ℕ → Request
  asked e = request_for F machine e

  -- the append of a kept ENTRY, and a run behind it
  filled_more : (file : Image) (e : ℕ) (es : List ℕ) (rs : List Request) → In e (kept img) → Accepted file (asked e) → append_number file (asked e) ≡ 0
      → Filled F machine (appended file (asked e)) es (run_on (appended file (asked e)) rs) → Filled F machine file (e ∷ es) (run_on file (asked e ∷ rs))
  unfolding with_entry
  filled_more file e es rs m a z f =
      let run = run_on (appended file (asked e)) rs in
      let s = ap (λ (v : View). v.entries) (appended_shows file (asked e) a).shows in
      let new = new_entry (model file) (asked e) in
      let one : run.made + 1 ≡ suc run.made = omega arith in
      rw (run_goes file (asked e) rs z)
      (record {
        takes = f.takes;
        more = new ∷ f.more;
        shows = f.shows ∙ ap (λ (l : List Shown). l ++ f.more) s ∙ append_assoc (view (model file)).entries (new ∷ []) f.more;
        returned = rw one (kept_unaltered img framed e m machine file a, f.returned);
        many = omega (arith, f.many);
        number = f.number;
        whole = λ q. omega (arith, f.whole q);
        some = λ q. omega (arith, f.some q);
        fields = λ q. rw one (f.fields q);
        full = λ q. rw one (f.full q);
      })

  -- a kept ENTRY behind some, and a file that is behind the last of these
  module _ (e : ℕ) (es before : List ℕ) (k : kept img ≡ before ++ (e ∷ es)) (file : Image) (takes : TakesAppends file) (own : header_id file machine_id ≡ machine)
      (behind : Behind F file (last_or0 before)) where
    here : In e (kept img)
    here = rw k (in_amid before)
      where
        in_amid : (xs : List ℕ) → In e (xs ++ (e ∷ es))
        in_amid [] = Memᴰ.head refl
        in_amid (x ∷ xs) = Memᴰ.tail (in_amid xs)

    -- 0 is no ENTRY
    entry_above : 0 < e
    unfolding walked_entries
    entry_above = reached_above img ENTRY e (kept_walked img e here)

    -- 15 does not apply
    machine_own : machine_fault file (asked e) ≡ false
    unfolding machine_fault machine_differs request_for
    machine_own = ap not ((says_same machine (header_id file machine_id)).1 (sym own))

    -- 17 does not
    stamps_behind_lem : stamps_fault (model file) (asked e).stamp ≡ false
    unfolding request_for
    stamps_behind_lem =
        let c = kept_next img before e es k in
        behind (asked e).stamp ∙ behind_clear F (last_or0 before) e c.above c.later

    accepts : append_number file (asked e) ≡ 0 → Accepted file (asked e)
    unfolding append_number
    accepts z = accepted file (asked e) (16 * need file (asked e)) z (kept_given img framed e here bytes machine file takes.bytes)

    -- with its append the file is behind it
    behind_next : Accepted file (asked e) → Behind F (appended file (asked e)) (last_or0 (before ++ (e ∷ [])))
    behind_next a = rw (last_more before e) (behind_appended F machine file e entry_above a)

    -- its append is made, or 16 or 18 stops the run
    filled_turn : (Accepted file (asked e) → Filled F machine (appended file (asked e)) es (run_on (appended file (asked e)) (map (λ e. asked e) es)))
        → Filled F machine file (e ∷ es) (run_on file (map (λ e. asked e) (e ∷ es)))
    filled_turn later = go (fields_fault (asked e).fields) refl (space_fault file (asked e)) refl
      where
        room : fields_fault (asked e).fields ≡ false → (b : Bool) → space_fault file (asked e) ≡ b
            → append_number file (asked e) ≡ elim b as (λ _. ℕ) [ true ↦ 18 | false ↦ 0 ]
        room p b q =
            number_room file (asked e) takes machine_own p stamps_behind_lem ∙ ap (λ (b : Bool). elim b as (λ _. ℕ) [ true ↦ 18 | false ↦ 0 ]) q

        go : (f : Bool) → fields_fault (asked e).fields ≡ f → (s : Bool) → space_fault file (asked e) ≡ s
            → Filled F machine file (e ∷ es) (run_on file (asked e ∷ map (λ e. asked e) es))
        go true p s q =
            filled_none F machine file e es _ 15 takes (Memᴰ.tail (Memᴰ.head refl)) (number_fields file (asked e) takes machine_own p)
            (λ n. p) (λ n. absurd (omega (arith, n)))
        go false p true q =
            filled_none F machine file e es _ 17 takes (Memᴰ.tail (Memᴰ.tail (Memᴰ.head refl))) (room p true q)
            (λ n. absurd (omega (arith, n))) (λ n. q)
        go false p false q = let z = room p false q in filled_more file e es _ here (accepts z) z (later (accepts z))

  -- the run over the kept ENTRYs behind some
  pub filled : (es before : List ℕ) (file : Image) → kept img ≡ before ++ es → TakesAppends file → header_id file machine_id ≡ machine
      → Behind F file (last_or0 before) → Filled F machine file es (run_on file (map (λ e. asked e) es))
  unfolding run_on
  filled [] before file k takes own behind =
      record {
        takes = takes;
        more = [];
        shows = sym (append-nil (view (model file)).entries);
        returned = tt;
        many = refl;
        number = Memᴰ.head refl;
        whole = λ q. refl;
        some = λ q. absurd (q refl);
        fields = λ q. absurd (omega (arith, q));
        full = λ q. absurd (omega (arith, q));
      }
  filled (e ∷ es) before file k takes own behind =
      filled_turn e es before k file takes own behind
      (λ a. filled es (before ++ (e ∷ [])) (appended file (asked e)) (k ∙ sym (append_assoc before (e ∷ []) es)) (next_takes file (asked e) a)
      ((frame_kept file (asked e) a).machine ∙ own) (behind_next e es before k file takes own behind a))
