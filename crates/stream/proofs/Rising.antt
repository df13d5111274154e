-- An image that opens: refusal 9 does not apply to it, so the sequence numbers of its committed entries rise.
use mathlib.Core.Path.{◌≡◌, refl}
use mathlib.Core.Bool.{false}
use mathlib.Core.List.{List, [], ◌∷◌, map}
use Prim.Native.Nat.{ℕ, zero, suc, ◌<◌}
use native.Mathlib.Omega.{arith}
use lib.ListN.{length, get_or, length-map}
use Rattle.format.specs.Header.{Image, n_entries}
use Rattle.format.specs.File.{File, model, header}
use Rattle.format.proofs.Lists.{map-map}
use Rattle.reading.specs.Refusal.{refusal}
use Rattle.reading.specs.Committed.{committed}
use Rattle.reading.specs.Order.{entries_fault}
use Rattle.reading.specs.View.{shown_entry, view}
use Rattle.reading.proofs.Sorted.{Sorted, Below}
use Rattle.reading.proofs.CommittedLaws.{neighbours_sorted, committed_right, committed_length, committed_at}
use Rattle.reading.proofs.OpenLaws.{opened_entries}
use Rattle.stream.proofs.Meeting.{Rises}

-- a number of each member, by index
get_d_map : (g : ℕ → ℕ) (xs : List ℕ) (i : ℕ) → i < length xs → get_or (map g xs) i 0 ≡ g (get_or xs i 0)
get_d_map g [] i l = absurd (omega arith)
get_d_map g (x ∷ xs) zero l = refl
get_d_map g (x ∷ xs) (suc i) l = get_d_map g xs i (omega arith)

-- these numbers rise where they do between neighbours
map_rises : (g : ℕ → ℕ) (xs : List ℕ) → ((i : ℕ) → suc i < length xs → g (get_or xs i 0) < g (get_or xs (suc i) 0)) → Sorted Below (map g xs)
map_rises g xs h = neighbours_sorted (map g xs) (λ i l.
    let m : suc i < length xs = omega (arith, length-map xs g) in
    rw (get_d_map g xs i (omega arith), get_d_map g xs (suc i) m) (h i m))

-- the committed entries of a file rise where 9 does not apply
file_rises : (F : File) → entries_fault F ≡ false → Rises (view F).entries
unfolding view shown_entry
file_rises F ordered = rw (map-map (λ e. shown_entry F e) (λ s. s.seqnum) (committed F)) (map_rises (λ e. F.seqnum e) (committed F) (λ i l.
    let n : suc i < F.read (header n_entries) = omega (arith, committed_length F ordered) in
    rw (committed_at F ordered i (omega arith), committed_at F ordered (suc i) n) (committed_right F ordered (suc i) n).behind.seqnum))

-- and so do those of an image that opens
pub entries_rise : (img : Image) → refusal img ≡ 0 → Rises (view (model img)).entries
entries_rise img e = file_rises (model img) (opened_entries img (record { opens = e }))
