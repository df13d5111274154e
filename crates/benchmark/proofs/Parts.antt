-- How long a part is that a lookup found.
use mathlib.Core.Path.{◌≡◌, refl, sym, ◌∙◌}
use mathlib.Core.Bool.{Bool, true, false}
use lib.Dec.{eqb}
use lib.ListN.{length}
use borrow.Author.Tests.{eqb-true}
use Rattle.format.specs.Header.{Image}
use Rattle.reading.specs.Lookup.{Answer}
use Rattle.reading.specs.Answers.{PartIs, settled_part, shown_bytes}
use Rattle.reading.specs.declared.answer.Part.{Part}
use Rattle.reading.proofs.ShownLaws.{shows_settled}

-- a part that is settled keeps its length
settled_length : (p : Part) → (settled_part p).len ≡ p.len
settled_length p = go (eqb p.len 0) refl
  where
    go : (b : Bool) → eqb p.len 0 ≡ b → (settled_part p).len ≡ p.len
    go true e = rw e (sym (eqb-true p.len 0 e))
    go false e = rw e refl

-- a part that a lookup found is as long as the bytes that its answer shows
pub part_length : (img : Image) (p : Part) (a : Answer) → PartIs img p a → p.len ≡ length (shown_bytes a)
part_length img p a i = sym (settled_length p) ∙ (shows_settled img p a i).size
