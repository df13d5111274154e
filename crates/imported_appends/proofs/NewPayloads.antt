-- The payloads that the new entry of an append shows: those of the request, each once.
use mathlib.Core.Path.{◌≡◌, refl, sym, ap, ◌∙◌, subst}
use mathlib.Core.Logic.{◌⊎◌, inl, inr}
use mathlib.Core.Bool.{Bool, true, false, ◌||◌, false≢true}
use mathlib.Core.List.Memᴰ
use mathlib.Core.List.{List, [], ◌∷◌, map, Memᴰ}
use Prim.Native.Nat.{ℕ}
use lib.ListN.{length, length-map}
use borrow.Author.Tests.{eq-eqb, ne_eqb}
use Rattle.format.specs.Tests.{same}
use Rattle.format.specs.Says.{says_same}
use Rattle.format.specs.File.{File}
use Rattle.format.proofs.Lists.{in_map, map_in, map-map}
use Rattle.reading.specs.View.{Part}
use Rattle.writing.specs.Request.{Request, fields_of, member_of, once, payloads_of}
use Rattle.writing.specs.Placing.{Placed, placed, items_of}
use Rattle.writing.proofs.PlacedLaws.{placed_payloads, placed_length}
use Rattle.plan_words.specs.Takes.{Takes}
use Rattle.plan_words.proofs.Turns.{Apart}
use Rattle.plan_words.proofs.Placing.{Placing}
use Rattle.plan_words.proofs.PlacedLaws.{places_apart}
use Rattle.plan_words.proofs.Items.{item_payload, payload_item, items_length}
use Rattle.crash_states.specs.Demand.{bytes_at, new_entry}

-- a field that was not seen yet is taken, once
once_has : (seen ps : List (List ℕ)) (q : List ℕ) → Memᴰ q ps → member_of q seen ≡ false → Memᴰ q (once seen ps)
unfolding once member_of
once_has seen [] q m n = m
once_has seen (p ∷ ps) q m n = go (member_of p seen) refl (Memᴰ.cases_cons m) (λ k. once_has seen ps q k n) (once_has (p ∷ seen) ps q)
  where
    later : Memᴰ q ps → (b : Bool) → same q p ≡ b → (Memᴰ q ps → (same q p || member_of q seen) ≡ false → Memᴰ q (once (p ∷ seen) ps))
        → Memᴰ q (p ∷ once (p ∷ seen) ps)
    later k true s ih = Memᴰ.head ((says_same q p).0 s)
    later k false s ih = Memᴰ.tail (ih k (ap (λ (b : Bool). b || member_of q seen) s ∙ n))

    go : (b : Bool) → member_of p seen ≡ b → (q ≡ p) ⊎ Memᴰ q ps → (Memᴰ q ps → Memᴰ q (once seen ps))
        → (Memᴰ q ps → (same q p || member_of q seen) ≡ false → Memᴰ q (once (p ∷ seen) ps))
        → Memᴰ q (elim b as (λ _. List (List ℕ)) [ true ↦ once seen ps | false ↦ p ∷ once (p ∷ seen) ps ])
    go true s (inl e) old new = absurd (false≢true (sym n ∙ ap (λ (x : List ℕ). member_of x seen) e ∙ s))
    go true s (inr k) old new = old k
    go false s (inl e) old new = Memᴰ.head e
    go false s (inr k) old new = later k (same q p) refl new

-- every field is a payload
pub field_payload : (fields p : List ℕ) → Memᴰ p (fields_of fields) → Memᴰ p (payloads_of fields)
unfolding payloads_of member_of
field_payload fields p m = once_has [] (fields_of fields) p m refl

-- the payload whose DATA stands where that of a placed one does, where no two share one, is that of this one
bytes_found : (ps : List Placed) → Apart (λ (q : Placed). q.at) ps → (q : Placed) → Memᴰ q ps → bytes_at q.at ps ≡ q.bytes
unfolding bytes_at
bytes_found [] a q m = absurd (Memᴰ.not-nil m)
bytes_found (p ∷ ps) a q m = go (Memᴰ.cases_cons m) (bytes_found ps a.1 q)
  where
    go : (q ≡ p) ⊎ Memᴰ q ps → (Memᴰ q ps → bytes_at q.at ps ≡ q.bytes) → bytes_at q.at (p ∷ ps) ≡ q.bytes
    go (inl e) ih = rw (bytes_at, eq-eqb q.at p.at (ap (λ (x : Placed). x.at) e)) (ap (λ (x : Placed). x.bytes) (sym e))
    go (inr k) ih = rw (bytes_at, ne_eqb q.at p.at (a.0 q k)) (ih k)

-- the payloads of the items of the coming ENTRY
abbrev pub shown_payloads : File → List ℕ → List (List ℕ)
shown_payloads F fields = map (λ d. bytes_at d (placed F fields)) (items_of (placed F fields))

-- those that the new entry shows
pub entry_payloads : (F : File) (r : Request) → map (λ (x : Part). x.bytes) (new_entry F r).items ≡ shown_payloads F r.fields
unfolding new_entry
entry_payloads F r =
    map-map (λ d. record { place = F.payload_at d; bytes = bytes_at d (placed F r.fields) }) (λ (x : Part). x.bytes) (items_of (placed F r.fields))

module _ (F : File) (fields : List ℕ) (takes : Takes F) (pl : Placing F (placed F fields)) where
  -- that of the DATA of a placed payload
  shown_at : (q : Placed) → Memᴰ q (placed F fields) → bytes_at q.at (placed F fields) ≡ q.bytes
  shown_at = bytes_found (placed F fields) (places_apart takes pl)

  -- each is a payload of the request
  pub shown_from : (p : List ℕ) → Memᴰ p (shown_payloads F fields) → Memᴰ p (payloads_of fields)
  shown_from p m =
      let ps = placed F fields in
      let (d, i, e) = map_in (λ d. bytes_at d ps) p (items_of ps) m in
      let (q, k, s) = item_payload ps d i in
      let b : p ≡ q.bytes = e ∙ ap (λ (o : ℕ). bytes_at o ps) s ∙ shown_at q k in
      subst (λ (l : List (List ℕ)). Memᴰ p l) (placed_payloads F fields)
      (subst (λ (x : List ℕ). Memᴰ x (map (λ q. q.bytes) ps)) (sym b) (in_map (λ q. q.bytes) q ps k))

  -- and every one is shown
  pub shown_all_lem : (p : List ℕ) → Memᴰ p (payloads_of fields) → Memᴰ p (shown_payloads F fields)
  shown_all_lem p m =
      let ps = placed F fields in
      let (q, k, e) = map_in (λ q. q.bytes) p ps (subst (λ (l : List (List ℕ)). Memᴰ p l) (sym (placed_payloads F fields)) m) in
      subst (λ (x : List ℕ). Memᴰ x (shown_payloads F fields)) (shown_at q k ∙ sym e)
      (in_map (λ d. bytes_at d ps) q.at (items_of ps) (payload_item ps q k))

-- as many
pub shown_length : (F : File) (fields : List ℕ) → length (shown_payloads F fields) ≡ length (payloads_of fields)
shown_length F fields =
    let ps = placed F fields in
    length-map (items_of ps) (λ d. bytes_at d ps) ∙ items_length ps ∙ placed_length F fields
