-- What is asked of the new file for a kept ENTRY: it is made of bytes, and the payloads of its fields are those of the ENTRY, none of them
-- twice.
use mathlib.Core.Path.{◌≡◌, refl, sym, ap, ◌∙◌, subst}
use mathlib.Core.Logic.{◌⊎◌, inl, inr}
use mathlib.Core.Bool.{Bool, true, false, ◌||◌, false≢true}
use mathlib.Core.List.Memᴰ
use mathlib.Core.List.{List, [], ◌∷◌, Memᴰ}
use Prim.Native.Nat.{ℕ, ◌+◌, ◌-◌}
use native.Mathlib.Omega.{arith}
use lib.ListN.{drop, length-take, length-drop}
use lib.Seq.{length-take-le}
use Rattle.format.specs.Number.{Bytes}
use Rattle.format.specs.Tests.{same}
use Rattle.format.specs.Says.{In, says_same}
use Rattle.format.specs.Header.{Image, is_compact}
use Rattle.format.specs.Kinds.{DATA, ENTRY, body_of, SEQNUM, REALTIME, MONOTONIC, BOOT_ID}
use Rattle.format.specs.Walk.{size_at}
use Rattle.format.specs.Refusal.{Framed}
use Rattle.format.specs.File.{model, Whole, bytes_in}
use Rattle.format.proofs.Lists.{map_in}
use Rattle.format.proofs.Stores.{number_at_small}
use Rattle.format.proofs.Tests.{neither, or_right}
use Rattle.writing.specs.Request.{member_of, once, payloads_of}
use Rattle.plan_words.proofs.InBytesLaws.{drop_bytes, take-bytes}
use Rattle.crash_states.specs.Demand.{Given}
use Rattle.exchange.specs.Entry.{packed}
use Rattle.exchange.proofs.PackedLaws.{Short, packed_fields}
use Rattle.imported_appends.proofs.TextBytes.{packed_bytes}
use Rattle.salvage.specs.Conditions.{payloads_in, repeats, payloads_repeat, walked_entries, kept}
use Rattle.salvage.specs.Salvage.{request_for}
use Rattle.salvage.proofs.ReachLaws.{reached_whole}
use Rattle.salvage.proofs.KeptLaws.{kept_walked, kept_clear}

-- one of some payloads is a member of them
in_member : (p : List ℕ) (ps : List (List ℕ)) → Memᴰ p ps → member_of p ps ≡ true
unfolding member_of
in_member p [] m = absurd (Memᴰ.not-nil m)
in_member p (q ∷ qs) m = go (in_member p qs) (Memᴰ.cases_cons m)
  where
    go : (Memᴰ p qs → member_of p qs ≡ true) → (p ≡ q) ⊎ Memᴰ p qs → (same p q || member_of p qs) ≡ true
    go ih (inl e) = rw ((says_same p q).1 e)
    go ih (inr k) = or_right (same p q) (ih k)

-- of payloads no two of which are equal, and none of which was seen, each is taken
once_all : (seen ps : List (List ℕ)) → repeats ps ≡ false → ((p : List ℕ) → Memᴰ p ps → member_of p seen ≡ false) → once seen ps ≡ ps
unfolding once repeats member_of
once_all seen [] s n = refl
once_all seen (p ∷ ps) s n =
    let q = neither (member_of p ps) (repeats ps) s in
    rw (once, n p (Memᴰ.head refl))
    (ap (λ (l : List (List ℕ)). p ∷ l) (once_all (p ∷ seen) ps q.1 (λ x k. unseen q.0 x k (same x p) refl)))
  where
    unseen : member_of p ps ≡ false → (x : List ℕ) → Memᴰ x ps → (b : Bool) → same x p ≡ b → (same x p || member_of x seen) ≡ false
    unseen f x k true e = absurd (false≢true (sym f ∙ in_member p ps (subst (λ (y : List ℕ). Memᴰ y ps) ((says_same x p).0 e) k)))
    unseen f x k false e = ap (λ (b : Bool). b || member_of x seen) e ∙ n x (Memᴰ.tail k)

module _ (img : Image) (framed : Framed img) (e : ℕ) where
  -- a payload of an ENTRY is a part of the image, so it is short enough to be packed
  payloads_short : Short (payloads_in (model img) e)
  unfolding payloads_in bytes_in
  payloads_short p m =
      let f = framed.short in
      let (d, i, k) = map_in (λ d. bytes_in DATA img d) p ((model img).items e) m in
      rw k (simp (length-take, length-drop) (omega arith))

  module _ (m : In e (kept img)) where
    -- the payloads of what is asked are those of the ENTRY
    pub payloads_kept : payloads_of (packed (payloads_in (model img) e)) ≡ payloads_in (model img) e
    unfolding payloads_of member_of payloads_repeat
    payloads_kept =
        let ps = payloads_in (model img) e in
        ap (once []) (packed_fields ps payloads_short) ∙ once_all [] ps (kept_clear img e m).1.single (λ p k. refl)

    -- it lies whole in the image
    entry_whole : Whole ENTRY img e
    unfolding walked_entries
    entry_whole = reached_whole img ENTRY e framed tt (kept_walked img e m)

    module _ (bytes : Bytes img) where
      -- a part of bytes is bytes
      payload_bytes : (p : List ℕ) → Memᴰ p (payloads_in (model img) e) → Bytes p
      unfolding payloads_in bytes_in
      payload_bytes p k =
          let (d, i, q) = map_in (λ d. bytes_in DATA img d) p ((model img).items e) k in
          let from = d + body_of (is_compact img) DATA in
          subst Bytes (sym q) (take-bytes (size_at img d - body_of (is_compact img) DATA) (drop from img) (drop_bytes from img bytes))

      -- what is asked is made of bytes and of numbers of 64 bits
      pub kept_given : (machine : List ℕ) (file : Image) → Bytes file → Given file (request_for (model img) machine e)
      unfolding request_for
      kept_given machine file b =
          let w = entry_whole in
          record {
            image = b;
            fields = packed_bytes (payloads_in (model img) e) payload_bytes;
            boot = take-bytes 16 (drop (e + BOOT_ID) img) (drop_bytes (e + BOOT_ID) img bytes);
            boot_length = length-take-le 16 (drop (e + BOOT_ID) img) (rw (length-drop (e + BOOT_ID) img) (omega (arith, w.0, w.1)));
            seqnum = number_at_small 8 img (e + SEQNUM) bytes;
            realtime = number_at_small 8 img (e + REALTIME) bytes;
            monotonic = number_at_small 8 img (e + MONOTONIC) bytes;
          }
