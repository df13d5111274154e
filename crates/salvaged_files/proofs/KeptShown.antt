-- The new file shows a kept ENTRY unaltered: the stamps of what is asked are the ENTRY's, and the payloads of the items are those of the
-- fields, each once, none twice.
use mathlib.Core.Path.{◌≡◌, refl, sym, ap, ◌∙◌, subst}
use mathlib.Core.Bool.{false}
use mathlib.Core.List.{List, [], ◌∷◌, ◌++◌, Memᴰ}
use Prim.Native.Nat.{ℕ}
use lib.ListN.{length}
use Rattle.format.specs.Says.{In}
use Rattle.format.specs.Header.{Image}
use Rattle.format.specs.Refusal.{Framed}
use Rattle.format.specs.File.{File, model}
use Rattle.format.proofs.Lists.{map_in, map-map}
use Rattle.reading.specs.Committed.{committed}
use Rattle.reading.specs.View.{Part, part, Shown, View, shown_entry, view}
use Rattle.writing.specs.Request.{Request}
use Rattle.writing.specs.Plan.{appended}
use Rattle.writing.specs.Shown.{with_entry}
use Rattle.writing.proofs.ReadyLaws.{ready_opened}
use Rattle.crash_states.specs.Demand.{new_entry}
use Rattle.crash_states.proofs.Accepted.{Accepted}
use Rattle.crash_states.proofs.AcceptedLaws.{accepted_takes, accepted_placing}
use Rattle.crash_states.proofs.Demands.{appended_shows}
use Rattle.batch_states.proofs.NextEntry.{next_ready}
use Rattle.imported_appends.proofs.NewPayloads.{entry_payloads, shown_from, shown_all_lem, shown_length}
use Rattle.salvage.specs.Conditions.{payloads_in, repeats, payloads_repeat, kept}
use Rattle.salvage.specs.Salvage.{request_for}
use Rattle.salvaged_files.specs.Salvaged.{payloads_of, Unaltered}
use Rattle.salvaged_files.proofs.OpenedKept.{payloads_clear}
use Rattle.salvaged_files.proofs.KeptRequests.{payloads_kept}

-- the payloads that an ENTRY shows
shown_payloads_lem : (F : File) (e : ℕ) → payloads_of (shown_entry F e) ≡ payloads_in F e
unfolding shown_entry payloads_in part
shown_payloads_lem F e = map-map (λ d. part F d) (λ (i : Part). i.bytes) (F.items e)

-- what is added is a member
in_last : (xs : List Shown) (x : Shown) → Memᴰ x (xs ++ (x ∷ []))
in_last [] x = Memᴰ.head refl
in_last (y ∷ ys) x = Memᴰ.tail (in_last ys x)

module _ (img : Image) (framed : Framed img) (e : ℕ) (m : In e (kept img)) (machine : List ℕ) (file : Image) where
  abbrev r : Request
  r = request_for (model img) machine e

  module _ (a : Accepted file r) where
    -- the new entry shows the payloads of the ENTRY
    new_from : (p : List ℕ) → Memᴰ p (payloads_of (new_entry (model file) r)) → Memᴰ p (payloads_in (model img) e)
    unfolding request_for
    new_from p k =
        subst (λ (l : List (List ℕ)). Memᴰ p l) (payloads_kept img framed e m)
        (shown_from (model file) r.fields (accepted_takes file r a) (accepted_placing file r a) p
        (subst (λ (l : List (List ℕ)). Memᴰ p l) (entry_payloads (model file) r) k))

    -- all of them
    new-all : (p : List ℕ) → Memᴰ p (payloads_in (model img) e) → Memᴰ p (payloads_of (new_entry (model file) r))
    unfolding request_for
    new-all p k =
        subst (λ (l : List (List ℕ)). Memᴰ p l) (sym (entry_payloads (model file) r))
        (shown_all_lem (model file) r.fields (accepted_takes file r a) (accepted_placing file r a) p
        (subst (λ (l : List (List ℕ)). Memᴰ p l) (sym (payloads_kept img framed e m)) k))

    -- and no other
    new_length : length (payloads_of (new_entry (model file) r)) ≡ length (payloads_in (model img) e)
    unfolding request_for
    new_length = ap length (entry_payloads (model file) r) ∙ shown_length (model file) r.fields ∙ ap length (payloads_kept img framed e m)

    -- none of them twice: (5) of a committed entry, and the file with it opens
    new_single : repeats (payloads_of (new_entry (model file) r)) ≡ false
    unfolding view with_entry payloads_repeat
    new_single =
        let G = model (appended file r) in
        let s = ap (λ (v : View). v.entries) (appended_shows file r a).shows in
        let (o, k, q) =
        map_in (λ o. shown_entry G o) (new_entry (model file) r) (committed G)
        (subst (λ (l : List Shown). Memᴰ (new_entry (model file) r) l) (sym s) (in_last (view (model file)).entries (new_entry (model file) r))) in
        ap (λ (x : Shown). repeats (payloads_of x)) q ∙ ap repeats (shown_payloads_lem G o)
        ∙ payloads_clear (appended file r) (ready_opened (appended file r) (next_ready file r a).0) o k

    -- so it is the ENTRY
    pub kept_unaltered : Unaltered (shown_entry (model img) e) (new_entry (model file) r)
    unfolding shown_entry new_entry request_for
    kept_unaltered =
        let s = shown_payloads_lem (model img) e in
        record {
          seqnum = refl;
          realtime = refl;
          monotonic = refl;
          boot = refl;
          from = λ p k. subst (λ (l : List (List ℕ)). Memᴰ p l) (sym s) (new_from p k);
          all = λ p k. new-all p (subst (λ (l : List (List ℕ)). Memᴰ p l) s k);
          once = new_length ∙ ap length (sym s);
          single = new_single;
        }
