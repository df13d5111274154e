-- The new file of a salvage before its first append: it takes appends, has the machine id that is asked for, and shows nothing.
use mathlib.Core.Path.{◌≡◌, refl, sym, ap, ◌∙◌, subst}
use mathlib.Core.List.{List, [], ◌∷◌, map, nil≢cons}
use Prim.Native.Nat.{ℕ, ◌-◌}
use native.Mathlib.Omega.{arith}
use lib.ListN.{length, take, drop, replicate, length-replicate, length-drop}
use lib.Seq.{take-append-le, drop-append-le}
use Rattle.format.specs.Header.{Image, header_id, machine_id, signature}
use Rattle.format.specs.Store.{bytes_of}
use Rattle.format.specs.Tests.{last_or0}
use Rattle.format.specs.File.{model}
use Rattle.reading.specs.Committed.{committed, last_committed}
use Rattle.reading.specs.View.{View, view, shown_entry}
use Rattle.writing.specs.NewFile.{Asked, first_bytes, new_file_refusal, new_file, made}
use Rattle.writing.proofs.NewFiles.{granted_by}
use Rattle.next_append.specs.Next.{GivenIds, TakesAppends, shows_nothing}
use Rattle.next_append.proofs.NewFileWords.{first_part}
use Rattle.next_append.proofs.NewTakes.{new}
use Rattle.salvage.specs.Salvage.{machine_of}

-- where nothing is shown nothing is committed
none_last : (img : Image) → (view (model img)).entries ≡ [] → last_committed (model img) ≡ 0
unfolding view last_committed last_or0
none_last img e = ap last_or0 (none (committed (model img)) e)
  where
    none : (es : List ℕ) → map (λ e. shown_entry (model img) e) es ≡ [] → es ≡ []
    none [] q = refl
    none (x ∷ es) q = absurd (nil≢cons (sym q))

-- what a lent image of the length becomes
made-is : (a : Asked) (img : Image) → new_file_refusal (length img) a ≡ 0 → made a img ≡ new_file (length img) a
unfolding made
made-is a img z = rw (made, z)

-- the machine id stands behind the file id
first_machine_id : (len : ℕ) (a : Asked) → GivenIds a → take 16 (drop 40 (first_bytes len a)) ≡ machine_of a
unfolding first_bytes signature bytes_of machine_of
first_machine_id len a given =
    let zeros : List ℕ = replicate (len - 88) 0 in
    ap (take 16) (drop-append-le 16 a.ids zeros (omega (arith, given.many)))
    ∙ take-append-le 16 (drop 16 a.ids) zeros (simp length-drop (omega (arith, given.many)))

-- a new file that 20 does not refuse
pub record First (file : Image) (id : List ℕ) : Type 0 where
  pub takes : TakesAppends file
  pub shows : (view (model file)).entries ≡ []
  pub last : last_committed (model file) ≡ 0
  pub machine : header_id file machine_id ≡ id

pub first : (len : ℕ) (a : Asked) → GivenIds a → new_file_refusal len a ≡ 0 → First (new_file len a) (machine_of a)
unfolding header_id
first len a given z =
    let zeros : List ℕ = replicate len 0 in
    let l : length zeros ≡ len = length-replicate len 0 in
    let y : new_file_refusal (length zeros) a ≡ 0 = ap (λ (n : ℕ). new_file_refusal n a) l ∙ z in
    let m : made a zeros ≡ new_file len a = made-is a zeros y ∙ ap (λ (n : ℕ). new_file n a) l in
    let n = subst (λ (i : Image). TakesAppends i × (view (model i) ≡ shows_nothing a)) m (new a zeros given y) in
    let s = ap (λ (v : View). v.entries) n.1 in
    record {
      takes = n.0;
      shows = s;
      last = none_last (new_file len a) s;
      machine = first_part len a given (granted_by len a z) 16 40 (omega arith) ∙ first_machine_id len a given;
    }
