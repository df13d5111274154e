-- (4) Every value that a link becomes is the offset of a new object: of the ENTRY, of a new array, or of a new DATA or FIELD. So none
-- lies before the end of the old objects.
use mathlib.Core.Path.{◌≡◌, refl, sym, ap, ap₂, ◌∙◌, subst}
use mathlib.Core.Logic.{◌⊎◌, inl, inr}
use mathlib.Core.Bool.{Bool, true, false, ◌&&◌, false≢true}
use mathlib.Core.List.Memᴰ
use mathlib.Core.List.{List, [], ◌∷◌, Memᴰ}
use Prim.Native.Nat.{ℕ, ◌≤◌}
use native.Mathlib.Omega.{arith}
use borrow.Author.Tests.{eq-eqb}
use Rattle.format.specs.Tests.{same}
use Rattle.format.specs.Says.{says_same}
use Rattle.format.specs.Header.{Image}
use Rattle.format.specs.Kinds.{slot_of, Table, data_table, field_table}
use Rattle.format.specs.File.{File, model, array_slot}
use Rattle.format.proofs.ItemWords.{item_least}
use Rattle.reading.specs.Chains.{arrays}
use Rattle.format.proofs.Tests.{both, not-true}
use Rattle.reading.specs.Names.{name_of}
use Rattle.writing.specs.Request.{Request}
use Rattle.writing.specs.Placing.{Placed, placed, new_entry_at, old_items}
use Rattle.writing.specs.Growth.{Taker, takers, Spot, leads, spare, spot_value, Growth, growing_spot, growth, grown, after_entry, new_end}
use Rattle.writing.specs.NewObjects.{brings, cell_for, goes_to, first_in, last_in, last_named}
use Rattle.writing.specs.Plan.{Update}
use Rattle.partial_append.specs.Between.{PlannedObject}
use Rattle.partial_append.proofs.BetweenRows.{in_row}
use Rattle.plan_words.specs.Objects.{entry_object, field_object, array_object, objects_by}
use Rattle.plan_words.proofs.Turns.{split_at}
use Rattle.plan_words.proofs.Brought.{Brings, brings_data}
use Rattle.plan_words.proofs.PlacedLaws.{placed_as, new_high, old_in}
use Rattle.plan_words.proofs.ObjectLaws.{field_object_lem, entry_object_lem, array_object_lem}
use Rattle.plan_words.proofs.ObjectRow.{objects_row}
use Rattle.plan_words.proofs.GrowthLaws.{Right, as_first, as_item, takers_right, growth_taker, growth_first, growth_spare, growth_array, spare_cases, room_some}
use Rattle.plan_words.proofs.UpdateLaws.{end_update, tail_update, LinkUpdate, by_growth, by_cell, by_list, link_update}
use Rattle.crash_states.proofs.Accepted.{Accepted}
use Rattle.crash_states.proofs.Groups.{link_plan}
use Rattle.crash_states.proofs.AcceptedLaws.{accepted_takes, accepted_placing}

-- a payload that passes a test
abbrev Passing : (Placed → Bool) → List Placed → Type 0
Passing p qs = (q : Placed) × Memᴰ q qs × (p q ≡ true)

-- the one among the payloads behind a first that does not pass
behind : (p : Placed → Bool) (q : Placed) (qs : List Placed) → p q ≡ false → Passing p (q ∷ qs) → Passing p qs
behind p q qs e (x, m, t) = go (Memᴰ.cases_cons m)
  where
    go : (x ≡ q) ⊎ Memᴰ x qs → Passing p qs
    go (inl k) = absurd (false≢true (sym e ∙ ap p (sym k) ∙ t))
    go (inr k) = (x, k, t)

-- what the first payload that passes brings, or 0
unfoldable first_by : (Placed → Bool) → (Placed → ℕ) → List Placed → ℕ
first_by p v [] = 0
first_by p v (q ∷ qs) = elim (p q) [ true ↦ v q | false ↦ first_by p v qs ]

-- what the last one brings, or `old`
unfoldable last_by : (Placed → Bool) → (Placed → ℕ) → ℕ → List Placed → ℕ
last_by p v old [] = old
last_by p v old (q ∷ qs) = elim (p q) [ true ↦ last_by p v (v q) qs | false ↦ last_by p v old qs ]

-- the first new object of a cell is such a one
first_in_lem : (F : File) (t : Table) (c : ℕ) (qs : List Placed) → first_in F t c qs ≡ first_by (goes_to F t c) (brings t) qs
unfolding first_in first_by
first_in_lem F t c [] = refl
first_in_lem F t c (q ∷ qs) = ap (λ (n : ℕ). elim (goes_to F t c q) as (λ _. ℕ) [ true ↦ brings t q | false ↦ n ]) (first_in_lem F t c qs)

-- and the last
last-in : (F : File) (t : Table) (c old : ℕ) (qs : List Placed) → last_in F t c old qs ≡ last_by (goes_to F t c) (brings t) old qs
unfolding last_in last_by
last-in F t c old [] = refl
last-in F t c old (q ∷ qs) =
    ap₂ (λ (a b : ℕ). elim (goes_to F t c q) as (λ _. ℕ) [ true ↦ a | false ↦ b ]) (last-in F t c (brings t q) qs) (last-in F t c old qs)

-- a new payload of a name
abbrev named : List ℕ → Placed → Bool
named n q = q.is_new && same n (name_of q.bytes)

-- and so is the last new DATA of a name
last_named_lem : (n : List ℕ) (old : ℕ) (qs : List Placed) → last_named n old qs ≡ last_by (named n) (λ q. q.at) old qs
unfolding last_named last_by
last_named_lem n old [] = refl
last_named_lem n old (q ∷ qs) =
    ap₂ (λ (a b : ℕ). elim (named n q) as (λ _. ℕ) [ true ↦ a | false ↦ b ]) (last_named_lem n q.at qs) (last_named_lem n old qs)

module _ (end : ℕ) (p : Placed → Bool) (v : Placed → ℕ) where
  -- what each payload that passes brings lies behind an end
  abbrev High : List Placed → Type 0
  High qs = (q : Placed) → Memᴰ q qs → p q ≡ true → end ≤ v q

  -- and so does what the first brings, where there is one
  first_high_lem : (qs : List Placed) → High qs → Passing p qs → end ≤ first_by p v qs
  unfolding first_by
  first_high_lem [] h (x, m, t) = absurd (Memᴰ.not-nil m)
  first_high_lem (q ∷ qs) h s = go (p q) refl (first_high_lem qs (λ r m. h r (Memᴰ.tail m)))
    where
      go : (b : Bool) → p q ≡ b → (Passing p qs → end ≤ first_by p v qs) → end ≤ elim b as (λ _. ℕ) [ true ↦ v q | false ↦ first_by p v qs ]
      go true e ih = h q (Memᴰ.head refl) e
      go false e ih = ih (behind p q qs e s)

  -- and what the last brings
  last_high : (old : ℕ) (qs : List Placed) → High qs → (end ≤ old) ⊎ Passing p qs → end ≤ last_by p v old qs
  unfolding last_by
  last_high old [] h (inl l) = l
  last_high old [] h (inr (x, m, t)) = absurd (Memᴰ.not-nil m)
  last_high old (q ∷ qs) h s =
      go (p q) refl (last_high (v q) qs (λ r m. h r (Memᴰ.tail m))) (last_high old qs (λ r m. h r (Memᴰ.tail m))) s
    where
      go : (b : Bool) → p q ≡ b → ((end ≤ v q) ⊎ Passing p qs → end ≤ last_by p v (v q) qs) → ((end ≤ old) ⊎ Passing p qs → end ≤ last_by p v old qs)
          → (end ≤ old) ⊎ Passing p (q ∷ qs) → end ≤ elim b as (λ _. ℕ) [ true ↦ last_by p v (v q) qs | false ↦ last_by p v old qs ]
      go true e i k x = i (inl (h q (Memᴰ.head refl) e))
      go false e i k (inl l) = k (inl l)
      go false e i k (inr x) = k (inr (behind p q qs e x))

module _ (img : Image) (r : Request) (a : Accepted img r) where
  -- the old file and the placed payloads
  abbrev F : File
  F = model img

  abbrev ps : List Placed
  ps = placed F r.fields

  -- a new object stands behind the old ones
  object_high : (p : PlannedObject) → Memᴰ p (objects_by F r.stamp r.fields) → F.end ≤ p.at
  object_high p m = (in_row F.end (objects_by F r.stamp r.fields) (new_end F r.fields) (objects_row F r.stamp r.fields) p m).0

  -- the ENTRY
  entry_high : F.end ≤ new_entry_at F r.fields
  entry_high = object_high (entry_object F r.stamp (new_entry_at F r.fields) ps) (entry_object_lem F r.stamp ps (grown F r.fields) (new_entry_at F r.fields))

  -- what a payload brings
  brings_high : (t : Table) (q : Placed) → Memᴰ q ps → Brings t q → F.end ≤ brings t q
  unfolding brings
  brings_high data_table q m b =
      let k = brings_data q b in subst (λ (n : ℕ). F.end ≤ n) (sym k.1) (new_high (accepted_takes img r a) (accepted_placing img r a) q m k.0)
  brings_high field_table q m b =
      let w = split_at q ps m in
      let n = ((placed_as (accepted_takes img r a) (accepted_placing img r a) w.before q w.after w.whole).field b).0 in
      object_high (field_object F w.before q w.after) (field_object_lem F r.stamp ps (grown F r.fields) (new_entry_at F r.fields) w.before q w.after w.whole n b)

  -- what goes to a cell
  goes_high : (t : Table) (c : ℕ) → High F.end (goes_to F t c) (brings t) ps
  unfolding goes_to
  goes_high t c q m e = brings_high t q m (not-true _ (both _ _ e).0)

  -- each payload goes to its own
  goes_own : (t : Table) (q : Placed) → Brings t q → goes_to F t (cell_for F t q) q ≡ true
  unfolding goes_to
  goes_own t q b = rw (b, eq-eqb (cell_for F t q) (cell_for F t q) refl) refl

  -- a new DATA of a name
  named_high : (n : List ℕ) → High F.end (named n) (λ q. q.at) ps
  named_high n q m e = new_high (accepted_takes img r a) (accepted_placing img r a) q m (both _ _ e).0

  -- the value of a growth: the ENTRY, a word with it as an item, or a new array
  growth_high : (g : Growth) → Memᴰ g (grown F r.fields) → F.end ≤ g.value
  unfolding grown
  growth_high g m =
      let e = new_entry_at F r.fields in
      let k = growth_taker F e (after_entry F r.fields) (takers F (old_items F ps)) g m in
      go k.1 k.0 k.3 (takers_right F (old_items F ps) (old_in (accepted_takes img r a) (accepted_placing img r a)) k.0 k.2)
    where
      as_entry : g.value ≡ new_entry_at F r.fields → F.end ≤ g.value
      as_entry q = subst (λ (n : ℕ). F.end ≤ n) (sym q) entry_high

      spot_high : (x : Spot) → F.end ≤ spot_value F x (new_entry_at F r.fields)
      spot_high (leads w) = entry_high
      spot_high (spare b i) =
          omega (arith, item_least F.compact i (new_entry_at F r.fields) (F.read (array_slot b (slot_of F.compact i))), entry_high)

      as_spot : (x : Spot) → g.value ≡ spot_value F x (new_entry_at F r.fields) → F.end ≤ g.value
      as_spot x q = subst (λ (n : ℕ). F.end ≤ n) (sym q) (spot_high x)

      as_new : (g.room ≡ 0 → ⊥) → F.end ≤ g.value
      as_new h = object_high (array_object F.compact (new_entry_at F r.fields) g) (array_object_lem F r.stamp ps (grown F r.fields) (new_entry_at F r.fields) g m h)

      go : (at : ℕ) (t : Taker) → g ≡ growth F (new_entry_at F r.fields) at t → Right F t → F.end ≤ g.value
      go at t q (as_first d i z) = as_entry (ap (λ (x : Growth). x.value) (q ∙ growth_first F (new_entry_at F r.fields) at d))
      go at t q (as_item w n i) =
          spare_cases F w n
          (λ l. as_spot (growing_spot F w (arrays F w) n) (ap (λ (x : Growth). x.value) (q ∙ growth_spare F (new_entry_at F r.fields) at w n l)))
          (λ l. as_new (λ z. omega (arith, ap (λ (x : Growth). x.room) (q ∙ growth_array F (new_entry_at F r.fields) at w n l), room_some F (accepted_takes img r a) w, z)))

  -- the value of a link
  pub link_high : (u : Update) → Memᴰ u (link_plan F r) → F.end ≤ u.value
  link_high u m = go (link_update F ps (grown F r.fields) u m)
    where
      moved : (v : Update) → u ≡ v → F.end ≤ v.value → F.end ≤ u.value
      moved v q l = subst (λ (x : Update). F.end ≤ x.value) (sym q) l

      cell : (t : Table) (q : Placed) → Memᴰ q ps → Brings t q → (u ≡ end_update F t ps q) ⊎ (u ≡ tail_update F t ps q) → F.end ≤ u.value
      cell t q i b (inl k) =
          moved _ k (subst (λ (n : ℕ). F.end ≤ n) (sym (first_in_lem F t (cell_for F t q) ps))
          (first_high_lem F.end (goes_to F t (cell_for F t q)) (brings t) ps (goes_high t (cell_for F t q)) (q, i, goes_own t q b)))
      cell t q i b (inr k) =
          moved _ k (subst (λ (n : ℕ). F.end ≤ n) (sym (last-in F t (cell_for F t q) 0 ps))
          (last_high F.end (goes_to F t (cell_for F t q)) (brings t) 0 ps (goes_high t (cell_for F t q)) (inr (q, i, goes_own t q b))))

      go : LinkUpdate F ps (grown F r.fields) u → F.end ≤ u.value
      go (by_growth g i k) = moved _ k (growth_high g i)
      go (by_cell t q i b k) = cell t q i b k
      go (by_list l) =
          let n = name_of l.payload.bytes in
          let own : named n l.payload ≡ true = rw (l.new, (says_same n n).1 refl) refl in
          moved _ l.update (subst (λ (x : ℕ). F.end ≤ x) (sym (last_named_lem n 0 ps))
          (last_high F.end (named n) (λ q. q.at) 0 ps (named_high n) (inr (l.payload, l.among, own))))
