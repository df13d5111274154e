-- The tail array of a chain that took the new entry, after an append: the array with the spare item, or the new array that the growth
-- of the chain made.
use mathlib.Core.Path.{◌≡◌, refl, ap, subst}
use mathlib.Core.List.{Memᴰ}
use Prim.Native.Nat.{ℕ, suc}
use lib.ListN.{length}
use borrow.Author.Tests.{lt-leb}
use Rattle.format.specs.File.{File, Word}
use Rattle.reading.specs.Chains.{chain_items}
use Rattle.writing.specs.TailArray.{tail_array}
use Rattle.writing.specs.Request.{Request}
use Rattle.writing.specs.Placing.{placed, new_entry_at}
use Rattle.writing.specs.Growth.{item, Growth, growth, grown, after_entry}
use Rattle.writing.specs.Plan.{tail_array_after}
use Rattle.partial_append.specs.Extends.{Extends, Root, Written}
use Rattle.partial_append.proofs.OpenWords.{growing_leads}
use Rattle.partial_append.proofs.TailArraysKept.{tail_written}
use Rattle.plan_words.specs.Planned.{new_by}
use Rattle.plan_words.specs.Takes.{Takes}
use Rattle.plan_words.proofs.Placing.{Placing}
use Rattle.plan_words.proofs.GrowthLaws.{growth_array, spare_cases}
use Rattle.plan_words.proofs.Extending.{growths_carried, grown_from}
use Rattle.next_append.specs.Settled.{Settled}

-- what the plan stores goes by the place of a new array, which is the value of the growth that makes one
pub after_value : (F : File) (e end : ℕ) (w : Word) (n : ℕ) → tail_array_after F (growth F e end (item w n)).value w n ≡ tail_array_after F end w n
unfolding tail_array_after
after_value F e end w n =
    spare_cases F w n (λ l. rw (tail_array_after, lt-leb (length (chain_items F w)) n l) refl)
    (λ l. ap (λ (v : ℕ). tail_array_after F v w n) (ap (λ (g : Growth). g.value) (growth_array F e end w n l)))

module _ {F F' : File} {r : Request} (s : Settled F F' r) (t : Takes F) (pl : Placing F (placed F r.fields))
    (x : Extends F F' (new_by F r.fields) (new_entry_at F r.fields)) (w : Word) (n : ℕ) (root : Root F w n) where
  -- the tail array is that of the growth of the chain
  pub tail_grown : Written F F' (new_by F r.fields) (new_entry_at F r.fields) w n → (end : ℕ)
      → Memᴰ (growth F (new_entry_at F r.fields) end (item w n)) (grown F r.fields) → tail_array F' w (suc n) ≡ tail_array_after F end w n
  tail_grown v end m =
      tail_written x t.agrees w n root v end
      (λ l. growing_leads F t.formed t.passes w n root l F' F.compact end
      (growths_carried t pl s.finished.course (after_entry F r.fields) (grown_from F r.fields) s.finished.carried _
      (subst (λ (y : Growth). Memᴰ y (grown F r.fields)) (growth_array F (new_entry_at F r.fields) end w n l) m)))
