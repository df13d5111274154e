-- 14 of the tail fields of DATA after an append to a compact file: a new DATA lists its first entry alone, the list of a DATA of the entry
-- has the new array or the spare item, and any other counts what it counted, in the arrays that it had.
use mathlib.Core.Path.{◌≡◌, sym, ap, subst, ◌∙◌}
use mathlib.Core.Logic.{◌⊎◌, inl, inr}
use mathlib.Core.Bool.{true, false}
use mathlib.Core.List.{List}
use Prim.Native.Nat.{ℕ, suc, ◌-◌}
use native.Mathlib.Omega.{arith}
use Rattle.format.specs.Says.{In}
use Rattle.format.specs.Kinds.{DATA}
use Rattle.format.specs.File.{File, entry_array, data_count, data_tail}
use Rattle.writing.specs.TailArray.{tail_array}
use Rattle.writing.specs.Agreement.{data_tails_fault}
use Rattle.writing.specs.Request.{Request}
use Rattle.writing.specs.Placing.{placed, new_entry_at, old_items}
use Rattle.writing.specs.Plan.{tail_array_after}
use Rattle.writing.proofs.TailArrays.{tail_none}
use Rattle.partial_append.specs.Extends.{Extends, Stays, Root, of_data, Written, Counted, as_first, as_next}
use Rattle.partial_append.specs.Commits.{Commits}
use Rattle.partial_append.proofs.Course.{which}
use Rattle.partial_append.proofs.TailArraysKept.{tail_kept}
use Rattle.plan_words.specs.Planned.{new_by}
use Rattle.plan_words.specs.Takes.{Takes}
use Rattle.plan_words.proofs.Placing.{Placing}
use Rattle.plan_words.proofs.Items.{item_old}
use Rattle.plan_words.proofs.NewPlanned.{new_tail_lem}
use Rattle.next_append.specs.Settled.{TailKept, tail_of, tail_as_was, Settled}
use Rattle.writing.proofs.AgreementSays.{data_tails_clear}
use Rattle.next_append.proofs.TailsGrown.{after_value, tail_grown}

module _ {F F' : File} {r : Request} (s : Settled F F' r) (t : Takes F) (pl : Placing F (placed F r.fields))
    (x : Extends F F' (new_by F r.fields) (new_entry_at F r.fields)) (g : Commits F F' (new_by F r.fields) (new_entry_at F r.fields)) where
  -- the tail array of a DATA's list, by its count
  abbrev counted : File → ℕ → ℕ
  counted G d = tail_array G (entry_array d) (G.read (data_count d) - 1)

  -- a new DATA
  fresh : F.compact ≡ true → (d : ℕ) → In d (new_by F r.fields DATA) → F'.read (data_tail d) ≡ counted F' d
  fresh c d n = new_tail_lem t pl s.finished.course c d n ∙ sym (tail_none F' (entry_array d) (F'.read (data_count d) - 1) (omega (arith, (x.new_data d n).count)))

  module _ (d : ℕ) (m : In d (F.of DATA)) where
    -- a DATA that counts what it counted
    same_count : Stays F F' (data_count d) → counted F' d ≡ counted F d
    same_count q =
        ap (λ (k : ℕ). tail_array F' (entry_array d) (k - 1)) q
        ∙ tail_kept x t.agrees (entry_array d) (F.read (data_count d) - 1) (of_data d m) (F.read (data_count d) - 1) (t.passes.list d m).room

    -- one of the entry that had counted none
    first_count : F.read (data_count d) ≡ 0 → F'.read (data_count d) ≡ 1 → counted F' d ≡ counted F d
    first_count z o =
        tail_none F' (entry_array d) (F'.read (data_count d) - 1) (omega (arith, o)) ∙ sym (tail_none F (entry_array d) (F.read (data_count d) - 1) (omega (arith, z)))

    -- an old DATA that the entry holds is one of the old ones of the request
    of_entry : In d (F'.items (new_entry_at F r.fields)) → In d (old_items F (placed F r.fields))
    of_entry i = item_old (placed F r.fields) F d (subst (λ (l : List ℕ). In d l) s.finished.course.new_entry.items i) (t.before DATA d m)

    -- an old DATA
    old : F.read (data_tail d) ≡ counted F d → TailKept F F' r d → F'.read (data_tail d) ≡ counted F' d
    old h (tail_as_was n q) = q ∙ h ∙ sym (go (g.old_data d m))
      where
        go : (In d (F'.items (new_entry_at F r.fields)) × Counted F F' (new_by F r.fields) (new_entry_at F r.fields) d)
            ⊎ ((In d (F'.items (new_entry_at F r.fields)) → ⊥) × Stays F F' (data_count d)) → counted F' d ≡ counted F d
        go (inr k) = same_count k.1
        go (inl (i, as_first z o y)) = first_count z o
        go (inl (i, as_next k z o y)) = absurd (omega (arith, n (of_entry i), z))
    old h (tail_of n end z i k v) = v ∙ after_value F (new_entry_at F r.fields) end (entry_array d) n ∙ sym (go (g.old_data d m))
      where
        more : F'.read (data_count d) ≡ suc (suc n)
        more = s.finished.counted d i ∙ omega (arith, z)

        root : Root F (entry_array d) n
        root = subst (λ (k : ℕ). Root F (entry_array d) k) (omega (arith, z)) (of_data d m)

        next : Written F F' (new_by F r.fields) (new_entry_at F r.fields) (entry_array d) n
            → counted F' d ≡ tail_array_after F end (entry_array d) n
        next w =
            let q : F'.read (data_count d) - 1 ≡ suc n = omega (arith, more) in
            ap (tail_array F' (entry_array d)) q ∙ tail_grown s t pl x (entry_array d) n root w end k

        go : (In d (F'.items (new_entry_at F r.fields)) × Counted F F' (new_by F r.fields) (new_entry_at F r.fields) d)
            ⊎ ((In d (F'.items (new_entry_at F r.fields)) → ⊥) × Stays F F' (data_count d)) → counted F' d ≡ tail_array_after F end (entry_array d) n
        go (inr y) = absurd (omega (arith, y.1, more, z))
        go (inl (y, as_first q o p)) = absurd (omega (arith, q, z))
        go (inl (y, as_next j q o w)) = let same : j ≡ n = omega (arith, q, z) in next (rw same at w)

  -- 14 of the tail fields
  pub data_tails_agree : data_tails_fault F ≡ false → data_tails_fault F' ≡ false
  data_tails_agree h =
      (data_tails_clear F').1 (λ c d m. go (sym x.keeps.compact ∙ c) d (which x DATA d m))
    where
      go : F.compact ≡ true → (d : ℕ) → In d (F.of DATA) ⊎ In d (new_by F r.fields DATA) → F'.read (data_tail d) ≡ counted F' d
      go c d (inl m) = old d m ((data_tails_clear F).0 h c d m) (s.data_tails c d m)
      go c d (inr n) = fresh c d n
