-- Demand 3 between the sync points, proved: groups 1 and 2 together, and 5 and 6, take the place of two groups each.
use mathlib.Core.Path.{◌≡◌, sym, ap, ◌∙◌, subst}
use mathlib.Core.List.{List, [], ◌∷◌, ◌++◌, append-nil}
use Rattle.format.specs.Header.{Image}
use Rattle.format.specs.File.{model}
use Rattle.format.specs.Stores.{Store, carry_all}
use Rattle.format.proofs.StoreLists.{carry_all_append}
use Rattle.writing.specs.Request.{Request}
use Rattle.writing.specs.Plan.{groups, in_turn}
use Rattle.writing.specs.Syncs.{together, synced}
use Rattle.crash_states.specs.Demand.{SomeOf, Demand3Synced}
use Rattle.crash_states.proofs.Accepted.{Accepted}
use Rattle.crash_states.proofs.AcceptedFrom.{accepted}
use Rattle.crash_states.proofs.Groups.{online_group, object_group, counter_group, link_group, count_group, fact_group, commit_group, offline_group, after1, after2, after3, after4, after5, after6}
use Rattle.crash_states.proofs.Shows.{StillShows}
use Rattle.crash_states.proofs.Outcomes.{shows3, shows4}
use Rattle.crash_states.proofs.Demands.{AnyOrder, early, order7}
use Rattle.crash_states.proofs.SharedSyncs.{shows_1_2, shows_5_6}

-- two groups, one after the other
pub both_in_turn : (g h : List Store) → in_turn (g ∷ h ∷ []) ≡ g ++ h
unfolding in_turn
both_in_turn g h = ap (λ (l : List Store). g ++ l) (append-nil h)

-- a group alone
pub one_in_turn : (g : List Store) → in_turn (g ∷ []) ≡ g
unfolding in_turn
one_in_turn g = append-nil g

module _ (img : Image) (r : Request) (a : Accepted img r) where
  -- the groups by their syncs
  abbrev pub six : List (List Store)
  six =
      (online_group (model img) ++ object_group (model img) r) ∷ counter_group (model img) r ∷ link_group (model img) r
      ∷ (count_group (model img) r ++ fact_group (model img) r) ∷ commit_group (model img) ∷ offline_group (model img) ∷ []

  pub six_are : synced (groups (model img) r) ≡ six
  unfolding synced together groups
  six_are =
      rw (
        both_in_turn (online_group (model img)) (object_group (model img) r),
        one_in_turn (counter_group (model img) r),
        one_in_turn (link_group (model img) r),
        both_in_turn (count_group (model img) r) (fact_group (model img) r),
        one_in_turn (commit_group (model img)),
        one_in_turn (offline_group (model img)),
      )

  -- two groups with one sync, before the commit store
  shared : (from : Image) (g h k l : List Store) (gs : List (List Store)) → ((some : List Store) → SomeOf some (g ++ h) → StillShows img (carry_all some from))
      → AnyOrder img r a (carry_all h (carry_all g from)) (k ∷ l ∷ gs) → AnyOrder img r a from ((g ++ h) ∷ k ∷ l ∷ gs)
  shared from g h k l gs shows later =
      early img r a from (g ++ h) k l gs shows (subst (λ (i : Image). AnyOrder img r a i (k ∷ l ∷ gs)) (sym (carry_all_append g h from)) later)

  -- what some stores of each leave, behind all of those before it
  pub in_six : AnyOrder img r a img six
  unfolding after1 after2 after3 after4 after5 after6
  in_six =
      shared img (online_group (model img)) (object_group (model img) r) _ _ _ (shows_1_2 img r a)
      (early img r a (after2 img r) _ _ _ _ (shows3 img r a) (early img r a (after3 img r) _ _ _ _ (shows4 img r a)
      (shared (after4 img r) (count_group (model img) r) (fact_group (model img) r) _ _ _ (shows_5_6 img r a) (order7 img r a))))

-- demand 3 between the points behind which a host syncs
pub demand3_synced : Demand3Synced
demand3_synced img r n given clear before group left e =
    let a = accepted img r n clear given in
    in_six img r a before group left (sym (six_are img r a) ∙ e)
