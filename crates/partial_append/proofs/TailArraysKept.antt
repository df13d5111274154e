-- The tail array of a chain in the course of an append: with the next item in a spare one it is that of the old arrays, and with the
-- next item in a new array it is the new one; so it is what the plan stores.
use mathlib.Core.Path.{◌≡◌, refl, sym, ap, ◌∙◌}
use mathlib.Core.List.{List, [], ◌∷◌, ◌++◌}
use Prim.Native.Nat.{ℕ, zero, suc, ◌≤◌}
use native.Mathlib.Omega.{arith}
use lib.ListN.{length}
use borrow.Author.Tests.{le-leb, lt-leb}
use Rattle.format.specs.Tests.{concat_map}
use Rattle.format.specs.Says.{In}
use Rattle.format.specs.Kinds.{Kind, ENTRY_ARRAY}
use Rattle.format.specs.File.{File, Word}
use Rattle.reading.specs.Chains.{arrays, chain_items}
use Rattle.writing.specs.Growth.{spot_read}
use Rattle.writing.specs.Plan.{tail_array_after}
use Rattle.writing.specs.TailArray.{tail_word, tail_among, tail_array}
use Rattle.writing.proofs.TailArrays.{room_in, tail_ahead, tail_new, tail_rooms}
use Rattle.partial_append.specs.Agrees.{Agrees}
use Rattle.partial_append.specs.Growing.{growing_spot}
use Rattle.partial_append.specs.Extends.{Extends, Root, Written, in_spare, in_new}
use Rattle.partial_append.proofs.ItemLaws.{items_of, length-cons}
use Rattle.partial_append.proofs.ChainsKept.{more, arrays_split, array_in, same_room, more_from}

-- arrays have room for as many items as they have
items_room : (F : File) (xs : List ℕ) → room_in (λ a. F.room a) xs ≡ length (items_of F xs)
unfolding room_in concat_map
items_room F [] = refl
items_room F (a ∷ xs) = omega (arith, length-cons F a xs, items_room F xs)

module _ {F F' : File} {new : Kind → List ℕ} {e : ℕ} (x : Extends F F' new e) (agree : Agrees F) (w : Word) (n : ℕ) (r : Root F w n) where
  -- the old arrays have room for as many items as they had
  old_room : room_in (λ a. F'.room a) (arrays F w) ≡ length (chain_items F w)
  old_room = items_room F' (arrays F w) ∙ same_room x w

  -- that of items which the old arrays hold
  pub tail_kept : (k : ℕ) → k ≤ length (chain_items F w) → tail_array F' w k ≡ tail_array F w k
  unfolding tail_array
  tail_kept zero l = refl
  tail_kept (suc k) l =
      ap (λ (xs : List ℕ). tail_among (λ a. F'.room a) xs (suc k)) (arrays_split x w n r)
      ∙ tail_ahead (λ a. F'.room a) (arrays F w) (more x w) (suc k) (omega (arith, old_room, l)) (omega arith)
      ∙ tail_rooms (λ a. F.room a) (λ a. F'.room a) (arrays F w) (λ a i. x.keeps.room a (array_in x w a i)) (suc k)

  -- the next item is the first of a new array
  tail_fresh : (z k : ℕ) → length (chain_items F w) ≡ n → spot_read F' (growing_spot F w (arrays F w) n) ≡ z → In z (new ENTRY_ARRAY) → F'.room z ≡ suc k
      → tail_array F' w (suc n) ≡ tail_word z 1
  unfolding tail_array
  tail_fresh z k f q i c =
      let t = more_from x agree w n r z (omega (arith, f)) q i in
      let many : suc n ≡ suc (room_in (λ a. F'.room a) (arrays F w)) = omega (arith, old_room, f) in
      ap (λ (l : List ℕ). tail_among (λ a. F'.room a) l (suc n)) (arrays_split x w n r ∙ ap (λ (l : List ℕ). arrays F w ++ l) t.1)
      ∙ ap (tail_among (λ a. F'.room a) (arrays F w ++ (z ∷ t.0))) many
      ∙ tail_new (λ a. F'.room a) (arrays F w) z t.0 (omega (arith, c))

  -- with the next item written it is the one that the plan stores, where a new array stands at `end`
  pub tail_written : Written F F' new e w n → (end : ℕ) → (length (chain_items F w) ≤ n → spot_read F' (growing_spot F w (arrays F w) n) ≡ end)
      → tail_array F' w (suc n) ≡ tail_array_after F end w n
  unfolding tail_array_after
  tail_written (in_spare l v) end h = tail_kept (suc n) (omega arith) ∙ rw (tail_array_after, lt-leb (length (chain_items F w)) n l) refl
  tail_written (in_new z k f q i c v) end h =
      let l : length (chain_items F w) ≤ n = omega (arith, f) in
      tail_fresh z k f q i c ∙ ap (λ (y : ℕ). tail_word y 1) (sym q ∙ h l) ∙ rw (tail_array_after, le-leb (length (chain_items F w)) n l) refl
