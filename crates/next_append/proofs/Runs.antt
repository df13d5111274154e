-- Runs of appends: the calls leave the file with each append, a run of accepted appends takes the next one and shows the old entries and
-- then its own, and on a new file exactly its own.
use mathlib.Core.Path.{◌≡◌, refl, sym, ap, ◌∙◌}
use mathlib.Core.List.{List, [], ◌∷◌, ◌++◌, append_assoc, append-nil}
use native.Mathlib.Omega.{arith}
use lib.ListN.{length}
use Rattle.format.specs.Header.{Image}
use Rattle.format.specs.File.{model}
use Rattle.reading.specs.View.{Shown, View, view}
use Rattle.writing.specs.NewFile.{made}
use Rattle.writing.specs.Plan.{need, appended}
use Rattle.writing.specs.Request.{Request}
use Rattle.writing.specs.Shown.{with_entry}
use Rattle.crash_states.specs.Demand.{cut, new_entry}
use Rattle.crash_states.proofs.AcceptedFrom.{accepted}
use Rattle.crash_states.proofs.Demands.{demand2, all_carried}
use Rattle.crash_states.proofs.ListCuts.{list_carried}
use Rattle.next_append.specs.Next.{TakesAppends, CallsAppend, shows_nothing, AcceptsAll, new_entries, with_entries, Run, RunOnNew}
use Rattle.next_append.proofs.TakesAgain.{again}
use Rattle.next_append.proofs.NewTakes.{new}
use Rattle.writing.specs.Batch.{appended_all}

-- what the calls leave
pub calls_append : CallsAppend
unfolding cut
calls_append img r list given clear =
    list_carried img r list given clear (need img r) (omega arith) ∙ all_carried img r (accepted img r (length list) clear given)

-- a run leaves a file that takes the next append
run_takes : (img : Image) (rs : List Request) → TakesAppends img → AcceptsAll img rs → TakesAppends (appended_all img rs)
unfolding appended_all
run_takes img [] t a = t
run_takes img (r ∷ rs) t a = run_takes (appended img r) rs (again img r a.1.0 a.0 a.1.1) a.2

-- what a run shows
run_shows : (img : Image) (rs : List Request) → AcceptsAll img rs → (v : View) → view (model img) ≡ v → view (model (appended_all img rs)) ≡ with_entries v (new_entries img rs)
unfolding appended_all new_entries with_entries
run_shows img [] a v e = e
run_shows img (r ∷ rs) a v e =
    run_shows (appended img r) rs a.2 (with_entry v (new_entry (model img) r))
    ((demand2 img r a.1.0 a.0 a.1.1).1 ∙ ap (λ (x : View). with_entry x (new_entry (model img) r)) e)

-- the entries shown with some more are the old ones and then those
entries_with_lem : (v : View) (es : List Shown) → (with_entries v es).entries ≡ v.entries ++ es
unfolding with_entries with_entry
entries_with_lem v [] = sym (append-nil v.entries)
entries_with_lem v (e ∷ es) = entries_with_lem (with_entry v e) es ∙ append_assoc v.entries (e ∷ []) es

-- a run of accepted appends
pub run : Run
run img rs t a = (run_takes img rs t a, run_shows img rs a (view (model img)) refl)

-- on a new file
pub run_on_new : RunOnNew
run_on_new a img rs given z all =
    let n = new a img given z in
    let s = run_shows (made a img) rs all (shows_nothing a) n.1 in
    (run_takes (made a img) rs n.0 all, s, ap (λ (v : View). v.entries) s ∙ entries_with_lem (shows_nothing a) (new_entries (made a img) rs))
