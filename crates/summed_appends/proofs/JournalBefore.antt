-- The journal before an append, as the file with the append shows it: its committed entries, its file id and its last number are the
-- old file's, so that 27 does not apply to the old file's summary.
use mathlib.Core.Path.{◌≡◌, refl, sym, ap, ◌∙◌}
use mathlib.Core.Bool.{false}
use mathlib.Core.List.{List, [], ◌∷◌, ◌++◌}
use Prim.Native.Nat.{ℕ, ◌-◌}
use native.Mathlib.Omega.{arith}
use lib.ListN.{length, take, length-append}
use lib.Seq.{take_at}
use borrow.Author.Tests.{eq-eqb, ne_eqb}
use Rattle.format.specs.Tests.{last_or0}
use Rattle.format.specs.Says.{In, says_same}
use Rattle.format.specs.Kinds.{Kind}
use Rattle.format.specs.File.{File}
use Rattle.format.proofs.Lists.{last_of}
use Rattle.reading.specs.Committed.{committed}
use Rattle.partial_append.specs.Agrees.{Agrees}
use Rattle.partial_append.specs.Extends.{Extends}
use Rattle.partial_append.specs.Commits.{Commits}
use Rattle.partial_append.proofs.Passing.{Passes}
use Rattle.partial_append.proofs.EntriesKept.{entry_in}
use Rattle.partial_append.proofs.EntryCommitted.{one_more}
use Rattle.summary.specs.Summary.{last_number}
use Rattle.summary.specs.Forward.{file_id_in, count_in, last_number_in, before, other_journal}

-- all but the last of some members and one more
all_but_last : (xs : List ℕ) (y : ℕ) → take (length (xs ++ (y ∷ [])) - 1) (xs ++ (y ∷ [])) ≡ xs
all_but_last xs y = take_at xs (y ∷ []) (length (xs ++ (y ∷ [])) - 1) (omega (arith, length-append xs (y ∷ [])))

-- entries whose seqnums stay have the last number that they had
last_same : (F F' : File) (es : List ℕ) → ((y : ℕ) → In y es → F'.seqnum y ≡ F.seqnum y) → last_number F' es ≡ last_number F es
unfolding last_number
last_same F F' [] h = refl
last_same F F' (y ∷ es) h = h (last_or0 (y ∷ es)) (last_of y es)

module _ {F F' : File} {new : Kind → List ℕ} {e : ℕ} (x : Extends F F' new e) (p : Passes F) (agree : Agrees F) (g : Commits F F' new e) where
  -- there is a committed entry
  pub some_committed : length (committed F') ≡ 0 → ⊥
  some_committed z = omega (arith, z, ap length (one_more x p agree g), length-append (committed F) (e ∷ []))

  -- the journal before the append is the old one
  pub before_is : before F' ≡ committed F
  unfolding before
  before_is = ap (λ (es : List ℕ). take (length es - 1) es) (one_more x p agree g) ∙ all_but_last (committed F) e

  -- with its last number
  last_before : last_number F' (before F') ≡ last_number F (committed F)
  last_before = ap (last_number F') before_is ∙ last_same F F' (committed F) (λ y m. x.keeps.seqnum y (entry_in x p agree y m))

  -- so that 27 does not apply to a summary of it
  pub same_journal : (old : List ℕ) → file_id_in old ≡ F.file_id → count_in old ≡ length (committed F) → last_number_in old ≡ last_number F (committed F)
      → other_journal F' old ≡ false
  unfolding other_journal
  same_journal old id count last =
      rw (
        ne_eqb (length (committed F')) 0 some_committed,
        (says_same (file_id_in old) F'.file_id).1 (id ∙ sym x.keeps.file_id),
        eq-eqb (count_in old) (length (before F')) (count ∙ ap length (sym before_is)),
        eq-eqb (last_number_in old) (last_number F' (before F')) (last ∙ sym last_before),
      ) refl
