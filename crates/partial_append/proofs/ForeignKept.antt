-- The foreign objects of an image in the course of an append are those it had, each of the type it had: the old objects keep their
-- types, and the planned ones behind them are DATA, FIELD, ENTRY and ENTRY_ARRAY.
use mathlib.Core.Path.{◌≡◌, ap, ◌∙◌}
use mathlib.Core.Bool.{Bool, false}
use mathlib.Core.List.{List, ◌++◌, map, append-nil}
use Prim.Native.Nat.{ℕ}
use lib.Dec.{leb}
use Rattle.format.specs.Tests.{filter}
use Rattle.format.specs.Says.{In}
use Rattle.format.specs.Header.{Image}
use Rattle.format.specs.Kinds.{Kind, type_of}
use Rattle.format.specs.Walk.{kind_at, objects}
use Rattle.format.specs.File.{model}
use Rattle.reading.specs.View.{foreign_objects}
use Rattle.format.proofs.Lists.{map_in, map_agree}
use Rattle.format.proofs.Filters.{filter-append, filter_agree, filter_none}
use Rattle.format.proofs.Members.{in_filter}
use Rattle.format.proofs.Agreement.{kind_at_kept}
use Rattle.partial_append.specs.Between.{PlannedObject, Between}
use Rattle.partial_append.proofs.BetweenRows.{new_type}
use Rattle.partial_append.proofs.BetweenKept.{heads_kept}
use Rattle.partial_append.proofs.BetweenPlanned.{kind_planned}
use Rattle.partial_append.proofs.BetweenWalked.{objects_now}

-- an object is "of type 8 and up"
abbrev is_foreign : Image → ℕ → Bool
is_foreign img o = leb 8 (type_of (kind_at img o))

module _ (old now : Image) (ps : List PlannedObject) (stop : ℕ) (b : Between old now ps stop) where
  -- an old object has the kind it had
  kind_kept : (o : ℕ) → In o (objects old) → kind_at now o ≡ kind_at old o
  kind_kept o m = kind_at_kept (objects old) old now (heads_kept old now ps stop b) o m

  -- no planned object is foreign
  planned_known : (o : ℕ) → In o (map (λ p. p.at) ps) → is_foreign now o ≡ false
  planned_known o m =
      let q = map_in (λ (p : PlannedObject). p.at) o ps m in
      ap (is_foreign now) q.2
      ∙ ap (λ (k : Kind). leb 8 (type_of k)) (kind_planned old now ps stop b q.0 q.1)
      ∙ (new_type q.0.kind (b.sound q.0 q.1).kind).no_foreign

  -- so those walked now are those walked before
  walked_foreign : filter (is_foreign now) (objects now) ≡ filter (is_foreign old) (objects old)
  walked_foreign =
      ap (filter (is_foreign now)) (objects_now old now ps stop b)
      ∙ filter-append (is_foreign now) (objects old) (map (λ p. p.at) ps)
      ∙ ap (λ (l : List ℕ). filter (is_foreign now) (objects old) ++ l)
      (filter_none (is_foreign now) (map (λ p. p.at) ps) planned_known)
      ∙ append-nil (filter (is_foreign now) (objects old))
      ∙ filter_agree _ _ (objects old) (λ o m. ap (λ (k : Kind). leb 8 (type_of k)) (kind_kept o m))

  -- "each walked object of type 8 and up" is shown as it was, and no other is
  pub foreign_kept : foreign_objects (model now) ≡ foreign_objects (model old)
  unfolding foreign_objects
  foreign_kept =
      ap (map (λ o. record { offset = o; type = type_of (kind_at now o) })) walked_foreign
      ∙ map_agree _ _ (filter (is_foreign old) (objects old))
      (λ o m. ap (λ (k : Kind). record { offset = o; type = type_of k }) (kind_kept o (in_filter (is_foreign old) o (objects old) m).0))
