-- 14 of chains and lists after an append: the old DATA and FIELDs stay where they were, the new ones are last in their cells and first
-- in their lists.
use mathlib.Core.Path.{◌≡◌}
use mathlib.Core.Logic.{◌⊎◌, inl, inr}
use mathlib.Core.Bool.{false}
use mathlib.Core.List.Memᴰ
use mathlib.Core.List.{List}
use Prim.Native.Nat.{ℕ}
use Rattle.format.specs.Says.{In}
use Rattle.format.specs.Kinds.{Kind, DATA, FIELD, field_table}
use Rattle.format.specs.File.{File}
use Rattle.format.proofs.Members.{filter_in}
use Rattle.reading.specs.Chains.{cell_chain}
use Rattle.reading.specs.Cells.{hash_of, cell_of, hashed}
use Rattle.reading.specs.CellsRight.{Reached}
use Rattle.writing.specs.Agreement.{chains_fault}
use Rattle.partial_append.specs.Agrees.{Agrees}
use Rattle.partial_append.specs.Growing.{in_cell, new_in_cell}
use Rattle.partial_append.specs.Extends.{Extends}
use Rattle.partial_append.specs.Commits.{Commits}
use Rattle.partial_append.proofs.Passing.{Passes}
use Rattle.partial_append.proofs.AgreesLaws.{chains_clear}
use Rattle.partial_append.proofs.Course.{which, same_cell, cell_below, in_own_cell}
use Rattle.partial_append.proofs.CellsKept.{cell_keeps}
use Rattle.partial_append.proofs.HashesKept.{same_place}
use Rattle.partial_append.proofs.NewReached.{cell_grown, new_reached, old_reached}

module _ {F F' : File} {new : Kind → List ℕ} {e : ℕ} (x : Extends F F' new e) (p : Passes F) (agree : Agrees F) (g : Commits F F' new e) where
  -- a DATA is where its hash and name put it
  data_reached : (d : ℕ) → In d (F.of DATA) ⊎ In d (new DATA) → Reached F' d
  data_reached d (inl m) = old_reached x p agree g d m
  data_reached d (inr n) = new_reached x p agree g d n

  -- a new FIELD is on the chain of its hash
  new_field_in : (f : ℕ) → In f (new FIELD) → In f (cell_chain F' field_table (cell_of F field_table (F'.hash f)))
  unfolding new_in_cell
  new_field_in f n =
      let c = cell_of F field_table (F'.hash f) in
      rw (cell_grown x p field_table c (cell_below x field_table (F'.hash f)) (g.cell field_table f n))
      (Memᴰ.append_right (cell_chain F field_table c) (filter_in (λ y. in_cell F' field_table c y) f (new FIELD) n (in_own_cell x field_table f)))

  -- a FIELD is on the chain of its name's hash
  field_reached : (f : ℕ) → In f (F.of FIELD) ⊎ In f (new FIELD) → In f (cell_chain F' field_table (cell_of F' field_table (hash_of F' (hashed F' field_table f))))
  unfolding hashed
  field_reached f (inl m) =
      rw (same_place x p field_table (F'.name f), x.keeps.name f m)
      (cell_keeps x p field_table _ (cell_below x field_table (hash_of F (F.name f))) f (agree.cell field_table f m))
  field_reached f (inr n) =
      rw (same_cell x field_table (hash_of F' (F'.name f)), ← (x.new_field f n).table.hash) (new_field_in f n)

  -- 14 of chains and lists
  pub chains_agree : Passes F' → chains_fault F' ≡ false
  chains_agree p' =
      chains_clear F' x.formed' p' (λ d m. let k = data_reached d (which x DATA d m) in (k.cell, k.list), λ f m. field_reached f (which x FIELD f m))
