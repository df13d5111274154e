-- Every walked ENTRY is kept or in the report. The walked ENTRYs rise, so that those kept before one are the kept ones below it.
use mathlib.Core.Path.{◌≡◌, refl, sym, ap, ◌∙◌}
use mathlib.Core.Logic.{◌⊎◌, inl, inr}
use mathlib.Core.List.Memᴰ
use mathlib.Core.List.{List, [], ◌∷◌, ◌++◌, append_assoc, append-nil}
use Prim.Native.Nat.{ℕ, zero, suc, ◌<◌, ◌≤◌}
use native.Mathlib.Omega.{arith}
use lib.Dec.{eqb, ltb}
use borrow.Author.Tests.{lt-ltb, le-ltb, eq-eqb, ne_eqb}
use Rattle.format.specs.Tests.{filter, last_or0}
use Rattle.format.specs.Says.{In}
use Rattle.format.specs.Header.{Image}
use Rattle.format.specs.Kinds.{DATA, ENTRY, type_of}
use Rattle.format.specs.Walk.{type_at, of_kind}
use Rattle.format.specs.File.{File, model}
use Rattle.format.proofs.Lists.{last_more}
use Rattle.format.proofs.Filters.{filter-append, filter_pass, filter_stop, filter_none, filter_all}
use Rattle.format.proofs.Rising.{Rising, above}
use Rattle.reading.proofs.Counting.{rising_filter}
use Rattle.salvage.specs.Reach.{reached}
use Rattle.salvage.specs.Conditions.{Dropped, failing, kept_among, dropped_among, walked_entries, kept, dropped}
use Rattle.salvage.proofs.ReachLaws.{reached_rising}
use Rattle.salvage.proofs.KeptLaws.{kept_here, kept_past, dropped_not, dropped_here, among_in}
use Rattle.salvaged_files.specs.Salvaged.{last_kept, verdict, failed, EachAccounted}

-- those that fail a test, by one turn
module _ (v : ℕ → ℕ) (e : ℕ) (es : List ℕ) where
  pub failed_past : v e ≡ 0 → failed v (e ∷ es) ≡ failed v es
  unfolding failed
  failed_past z = rw (failed, z)

  failed_here : (c : ℕ) → v e ≡ suc c → failed v (e ∷ es) ≡ record { entry = e; condition = suc c } ∷ failed v es
  unfolding failed
  failed_here c z = rw (failed, z)

-- an ENTRY above some and at or below others
low_filter : (e : ℕ) (pre post : List ℕ) → ((k : ℕ) → In k pre → k < e) → ((k : ℕ) → In k post → e ≤ k) → filter (λ k. ltb k e) (pre ++ post) ≡ pre
low_filter e pre post low high =
    filter-append (λ k. ltb k e) pre post
    ∙ ap (λ (l : List ℕ). filter (λ k. ltb k e) pre ++ l) (filter_none (λ k. ltb k e) post (λ k m. le-ltb k e (high k m)))
    ∙ append-nil _ ∙ filter_all (λ k. ltb k e) pre (λ k m. lt-ltb k e (low k m))

module _ (F : File) (ds whole : List ℕ) where
  -- the first condition that an ENTRY fails against the last of these below it
  abbrev against : ℕ → ℕ
  against e = failing F ds (last_or0 (filter (λ k. ltb k e) whole)) e

  -- of ENTRYs that rise, behind those kept so far, where these are all that are kept
  accounts : (last : ℕ) (pre es : List ℕ) → Rising es → ((k e : ℕ) → In k pre → In e es → k < e) → last_or0 pre ≡ last
      → whole ≡ pre ++ kept_among F ds last es
      → (kept_among F ds last es ≡ filter (λ e. eqb (against e) 0) es) × (dropped_among F ds last es ≡ failed against es)
  unfolding kept_among dropped_among filter failed
  accounts last pre [] r low z q = (refl, refl)
  accounts last pre (e ∷ es) (above f r) low z q =
      go (accounts e (pre ++ (e ∷ [])) es r) (accounts last pre es r) (failing F ds last e) refl
    where
      after : (k : ℕ) → (k ≡ e) ⊎ In k es → e ≤ k
      after k (inl h) = omega arith
      after k (inr m) = omega (arith, f k m)

      here : against e ≡ failing F ds last e
      here =
          ap (λ (l : List ℕ). failing F ds (last_or0 l) e)
          (ap (λ (l : List ℕ). filter (λ k. ltb k e) l) q
          ∙ low_filter e pre (kept_among F ds last (e ∷ es)) (λ k m. low k e m (Memᴰ.head refl))
          (λ k m. after k (Memᴰ.cases_cons (among_in F ds last (e ∷ es) k m))))
          ∙ ap (λ (l : ℕ). failing F ds l e) z

      more : (k o : ℕ) → In o es → In k pre ⊎ In k (e ∷ []) → k < o
      more k o m (inl j) = low k o j (Memᴰ.tail m)
      more k o m (inr j) = rw (Memᴰ.eq_of_singleton j) (f o m)

      go : (((k o : ℕ) → In k (pre ++ (e ∷ [])) → In o es → k < o) → last_or0 (pre ++ (e ∷ [])) ≡ e
          → whole ≡ (pre ++ (e ∷ [])) ++ kept_among F ds e es
          → (kept_among F ds e es ≡ filter (λ o. eqb (against o) 0) es) × (dropped_among F ds e es ≡ failed against es))
          → (((k o : ℕ) → In k pre → In o es → k < o) → last_or0 pre ≡ last → whole ≡ pre ++ kept_among F ds last es
          → (kept_among F ds last es ≡ filter (λ o. eqb (against o) 0) es) × (dropped_among F ds last es ≡ failed against es))
          → (c : ℕ) → failing F ds last e ≡ c
          → (kept_among F ds last (e ∷ es) ≡ filter (λ o. eqb (against o) 0) (e ∷ es)) × (dropped_among F ds last (e ∷ es) ≡ failed against (e ∷ es))
      go keeps drops zero c =
          let s =
          keeps (λ k o m j. more k o j (Memᴰ.append_cases pre m)) (last_more pre e)
          (q ∙ ap (λ (l : List ℕ). pre ++ l) (kept_here F ds last e es c) ∙ sym (append_assoc pre (e ∷ []) (kept_among F ds e es))) in (
            kept_here F ds last e es c ∙ ap (λ (l : List ℕ). e ∷ l) s.0
                ∙ sym (filter_pass (λ o. eqb (against o) 0) e es (eq-eqb (against e) 0 (here ∙ c))),
            dropped_not F ds last e es c ∙ s.1 ∙ sym (failed_past against e es (here ∙ c)),
          )
      go keeps drops (suc n) c =
          let s = drops (λ k o m j. low k o m (Memᴰ.tail j)) z (q ∙ ap (λ (l : List ℕ). pre ++ l) (kept_past F ds last e es n c)) in (
            kept_past F ds last e es n c ∙ s.0
                ∙ sym (filter_stop (λ o. eqb (against o) 0) e es (ne_eqb (against e) 0 (λ h. absurd (omega (arith, here, c))))),
            dropped_here F ds last e es n c ∙ ap (λ (l : List Dropped). record { entry = e; condition = suc n } ∷ l) s.1
                ∙ sym (failed_here against e es n (here ∙ c)),
          )

-- the walked ENTRYs rise
walked_rising : (img : Image) → Rising (walked_entries img)
unfolding walked_entries of_kind
walked_rising img = rising_filter (λ o. eqb (type_at img o) (type_of ENTRY)) (reached img) (reached_rising img)

pub each_accounted : EachAccounted
unfolding kept dropped verdict last_kept last_or0
each_accounted img header =
    let s =
    accounts (model img) (of_kind img (reached img) DATA) (kept img) 0 [] (walked_entries img) (walked_rising img)
    (λ k e m j. absurd (Memᴰ.not-nil m)) refl refl in
    record { keeps = s.0; reports = s.1 }
