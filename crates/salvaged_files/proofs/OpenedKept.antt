-- Of a file that opens the committed entries are kept, if they stand first: what 8, 9 and 11 ask of one is what the eight conditions ask.
use mathlib.Core.Path.{◌≡◌, refl, sym, ap, subst, ◌∙◌}
use mathlib.Core.Bool.{false, not}
use mathlib.Core.List.Memᴰ
use mathlib.Core.List.{List, [], ◌∷◌, ◌++◌, map}
use Prim.Native.Nat.{ℕ, zero, suc, ◌<◌}
use native.Mathlib.Nat.{mod-lt}
use native.Mathlib.Omega.{arith}
use lib.Dec.{eqb}
use lib.ListN.{length, get_or, take, drop, take-append-drop}
use Rattle.format.specs.Tests.{elem, any, same}
use Rattle.format.specs.Says.{In, clears_le, clears_lt, clears_eq, clears_any, clears_is, clears_not, says_eq, says_same, unless, neither}
use Rattle.format.specs.Header.{Image, n_entries}
use Rattle.format.specs.Kinds.{Kind, DATA, ENTRY, data_table}
use Rattle.format.specs.Walk.{kind_at, objects}
use Rattle.format.specs.File.{File, model, header}
use Rattle.format.proofs.Rows.{clear_lowest}
use Rattle.format.proofs.Tests.{neither as parts}
use Rattle.format.proofs.Members.{Named, of_kind_object}
use Rattle.format.proofs.KindMembers.{of_nonzero}
use Rattle.format.proofs.Tables.{table_cells}
use Rattle.format.proofs.Rising.{Rising, above}
use Rattle.reading.specs.Names.{name_of, nameless}
use Rattle.reading.specs.Links.{not_rising, link_fault_of}
use Rattle.reading.specs.LinksRight.{EntryLinks, LinksRight, links_clear, right_8}
use Rattle.reading.specs.Order.{monotonic_falls, item_at}
use Rattle.reading.specs.OrderRight.{Follows}
use Rattle.reading.specs.Committed.{committed}
use Rattle.reading.specs.Cells.{hash_of, cell_of, hashed, wrong_hash, item_hashes_of, xor_of}
use Rattle.reading.specs.CellsRight.{OnChains, Held, DataRight, EntryRight, HashRight}
use Rattle.reading.specs.Answers.{Opened}
use Rattle.reading.proofs.Counting.{neighbours_rising}
use Rattle.reading.proofs.HashesRight.{right_11}
use Rattle.reading.proofs.OpenLaws.{opened_walked, opened_links, opened_entries, opened_hashes}
use Rattle.reading.proofs.CommittedLaws.{index_in, committed_right, committed_length, committed_at, committed_entry}
use Rattle.writing.specs.Request.{member_of}
use Rattle.salvage.specs.Conditions.{payloads_in, items_fall, land_elsewhere, hashes_wrong, names_missing, repeats, payloads_repeat, xor_wrong, seqnum_falls, time_falls, conditions, failing, kept_among, walked_entries, kept}
use Rattle.salvage.proofs.KeptLaws.{Clean, kept_here}
use Rattle.salvaged_files.specs.Salvaged.{OpenedKept}
use Rattle.salvaged_files.proofs.OpenedWalk.{reached_objects}

-- where no condition fails, none is the first
clean_kept : (F : File) (ds : List ℕ) (last e : ℕ) → Clean F ds last e → failing F ds last e ≡ 0
unfolding failing conditions
clean_kept F ds last e c =
    clear_lowest (conditions F ds last e)
    (c.rise, (c.land, (c.right, (c.named, (c.single, (c.xor, (c.above, (c.later, tt))))))))

-- ENTRYs of which each fails nothing against the one before it are kept, whatever stands behind them
run_kept : (F : File) (ds : List ℕ) (last : ℕ) (es rest : List ℕ)
    → ((i : ℕ) → i < length es → failing F ds (get_or (last ∷ es) i 0) (get_or es i 0) ≡ 0) → take (length es) (kept_among F ds last (es ++ rest)) ≡ es
run_kept F ds last [] rest h = refl
run_kept F ds last (e ∷ es) rest h =
    ap (λ (l : List ℕ). take (suc (length es)) l) (kept_here F ds last e (es ++ rest) (h 0 (omega arith)))
    ∙ ap (λ (l : List ℕ). e ∷ l) (run_kept F ds e es rest (λ i l. h (suc i) (omega arith)))

-- payloads of some DATA, none of which is a given one
member_none : (g : ℕ → List ℕ) (p : List ℕ) (xs : List ℕ) → ((y : ℕ) → In y xs → p ≡ g y → ⊥) → member_of p (map g xs) ≡ false
unfolding member_of
member_none g p [] h = refl
member_none g p (x ∷ xs) h =
    rw ((clears_is (same p (g x)) (says_same p (g x))).1 (h x (Memᴰ.head refl))) (member_none g p xs (λ y m. h y (Memᴰ.tail m)))

-- and no two of which are equal
repeats_none : (g : ℕ → List ℕ) (xs : List ℕ) → Rising xs → ((x y : ℕ) → In x xs → In y xs → x < y → g x ≡ g y → ⊥) → repeats (map g xs) ≡ false
unfolding repeats
repeats_none g [] r h = refl
repeats_none g (x ∷ xs) (above f r) h =
    rw (member_none g (g x) xs (λ y m. h x y (Memᴰ.head refl) (Memᴰ.tail m) (f y m)))
    (repeats_none g xs r (λ y z m k. h y z (Memᴰ.tail m) (Memᴰ.tail k)))

-- (7) and (8) of the first, and of one behind another
first_above : (F : File) (e : ℕ) → (F.seqnum e ≡ 0 → ⊥) → (seqnum_falls F 0 e ≡ false) × (time_falls F 0 e ≡ false)
unfolding seqnum_falls time_falls
first_above F e n = ((clears_eq (F.seqnum e) 0).1 n, refl)

next_above : (F : File) (last e : ℕ) → (last ≡ 0 → ⊥) → Follows F last e → (seqnum_falls F last e ≡ false) × (time_falls F last e ≡ false)
unfolding seqnum_falls time_falls monotonic_falls
next_above F zero e n f = absurd (n refl)
next_above F (suc last) e n f = (
  (clears_le (F.seqnum e) (F.seqnum (suc last))).1 f.seqnum,
  (unless (same (F.boot (suc last)) (F.boot e)) _ (says_same (F.boot (suc last)) (F.boot e))
      (clears_lt (F.monotonic e) (F.monotonic (suc last)))).1 f.monotonic,
)

module _ (img : Image) (opened : Opened img) where
  abbrev F : File
  F = model img

  -- what is asked of an object is asked of the objects of a kind
  of_kind_lem : (P : ℕ → Kind → Type 0) → ((o : ℕ) → In o (objects img) → P o (kind_at img o)) → (k : Kind) → Named k → (o : ℕ) → In o (F.of k) → P o k
  of_kind_lem P h k n o m = let r = of_kind_object img k o n m in subst (λ (j : Kind). P o j) r.kind (h o r.member)

  -- 8 of an ENTRY
  entry_links_lem : (e : ℕ) → In e (F.of ENTRY) → EntryLinks F e
  entry_links_lem = of_kind_lem (λ o k. LinksRight F o k) ((right_8 F).0 (opened_links img opened)).object ENTRY tt

  -- 11 of an ENTRY and of a DATA
  entry_right_lem : (e : ℕ) → In e (F.of ENTRY) → EntryRight F e
  entry_right_lem = of_kind_lem (λ o k. HashRight F o k) (right_11 F (opened_hashes img opened)) ENTRY tt

  data_right_lem : (d : ℕ) → In d (F.of DATA) → DataRight F d
  data_right_lem = of_kind_lem (λ o k. HashRight F o k) (right_11 F (opened_hashes img opened)) DATA tt

  -- a DATA that a committed entry holds hangs in a cell
  held_on : (d : ℕ) → In d (F.of DATA) → Held F d → OnChains F data_table d
  unfolding cell_of
  held_on d m h =
      let w = opened_walked img opened in
      (_, mod-lt (hash_of F (hashed F data_table d)) (omega (arith, (table_cells img w.tabled w.walked data_table).0)), ((data_right_lem d m).held h).cell)

  -- (3) and (4) of a DATA
  hash_clear : (d : ℕ) → In d (F.of DATA) → wrong_hash F data_table d ≡ false
  unfolding wrong_hash
  hash_clear d m = (clears_not (eqb (F.hash d) (hash_of F (hashed F data_table d))) (says_eq (F.hash d) (hash_of F (hashed F data_table d)))).1 (data_right_lem d m).table.hash

  name_clear : (d : ℕ) → In d (F.of DATA) → nameless (F.payload d) ≡ false
  unfolding nameless
  name_clear d m =
      let n = name_of (F.payload d) in
      (neither _ _ (clears_le (length (F.payload d)) (length n)) (clears_eq (length n) 0)).1 ((data_right_lem d m).equals, (data_right_lem d m).name)

  -- a committed entry
  module _ (e : ℕ) (m : In e (committed F)) where
    entry : In e (F.of ENTRY)
    entry = committed_entry F (opened_entries img opened) e m

    item_data : (d : ℕ) → In d (F.items e) → In d (F.of DATA)
    item_data = (entry_links_lem e entry).items

    -- (1) and (2), by 8
    items_clear : (land_elsewhere F (F.of DATA) e ≡ false) × (items_fall F e ≡ false)
    unfolding land_elsewhere items_fall link_fault_of
    items_clear = parts (any (λ d. not (elem d (F.of DATA))) (F.items e)) (not_rising (F.items e)) ((links_clear F e ENTRY).1 (entry_links_lem e entry))

    -- (3), (4) and (6), by 11
    hashes_clear : hashes_wrong F e ≡ false
    unfolding hashes_wrong
    hashes_clear =
        (neither _ _ (clears_any (λ d. wrong_hash F data_table d) (λ d. wrong_hash F data_table d ≡ false) (F.items e) (λ d. (λ z. z, λ z. z)))
        (clears_not (same (F.item_hashes e) (item_hashes_of F (F.items e))) (says_same (F.item_hashes e) (item_hashes_of F (F.items e))))).1
        (λ d k. hash_clear d (item_data d k), (entry_right_lem e entry).items)

    names_clear : names_missing F e ≡ false
    unfolding names_missing
    names_clear =
        (clears_any (λ d. nameless (F.payload d)) (λ d. nameless (F.payload d) ≡ false) (F.items e) (λ d. (λ z. z, λ z. z))).1
        (λ d k. name_clear d (item_data d k))

    xor_clear : xor_wrong F e ≡ false
    unfolding xor_wrong payloads_in
    xor_clear = (clears_not (eqb (F.xor_hash e) (xor_of (payloads_in F e))) (says_eq (F.xor_hash e) (xor_of (payloads_in F e)))).1 (entry_right_lem e entry).xor

    -- (5): both would hang in cells
    pub payloads_clear : payloads_repeat F e ≡ false
    unfolding payloads_repeat payloads_in hashed
    payloads_clear =
        repeats_none (λ d. F.payload d) (F.items e) (neighbours_rising (F.items e) (entry_links_lem e entry).rising)
        (λ x y i k l q. (data_right_lem y (item_data y k)).table.only
        (held_on y (item_data y k) (e, m, k)) x (item_data x i) l q (held_on x (item_data x i) (e, m, i)))

    -- with (7) and (8) none fails
    entry_clean : (last : ℕ) → (seqnum_falls F last e ≡ false) × (time_falls F last e ≡ false) → Clean F (F.of DATA) last e
    entry_clean last s =
        record {
          rise = items_clear.1;
          land = items_clear.0;
          right = hashes_clear;
          named = names_clear;
          single = payloads_clear;
          xor = xor_clear;
          above = s.0;
          later = s.1;
        }

  -- (7) and (8) of the committed entry at a position against the one before it, by 9
  stamps_clear : (i : ℕ) → i < length (committed F)
      → (seqnum_falls F (get_or (0 ∷ committed F) i 0) (get_or (committed F) i 0) ≡ false) × (time_falls F (get_or (0 ∷ committed F) i 0) (get_or (committed F) i 0) ≡ false)
  stamps_clear zero l =
      let ordered = opened_entries img opened in
      let n : 0 < F.read (header n_entries) = omega (arith, committed_length F ordered) in
      rw (committed_at F ordered 0 n) (first_above F (item_at F 0) (committed_right F ordered 0 n).seqnum)
  stamps_clear (suc i) l =
      let ordered = opened_entries img opened in
      let n : suc i < F.read (header n_entries) = omega (arith, committed_length F ordered) in
      let m : i < F.read (header n_entries) = omega arith in
      rw (committed_at F ordered i m, committed_at F ordered (suc i) n)
      (next_above F (item_at F i) (item_at F (suc i))
      (λ z. of_nonzero img (opened_walked img opened) ENTRY (rw z at (committed_right F ordered i m).entry))
      (committed_right F ordered (suc i) n).behind)

  -- so none of them fails against it
  committed_clean : (i : ℕ) → i < length (committed F) → failing F (F.of DATA) (get_or (0 ∷ committed F) i 0) (get_or (committed F) i 0) ≡ 0
  committed_clean i l =
      clean_kept F (F.of DATA) (get_or (0 ∷ committed F) i 0) (get_or (committed F) i 0)
      (entry_clean (get_or (committed F) i 0) (index_in (committed F) i l) (get_or (0 ∷ committed F) i 0) (stamps_clear i l))

-- the walked are all, and the committed ones stand first
pub opened_kept : OpenedKept
unfolding kept walked_entries
opened_kept img opens front =
    let opened : Opened img = record { opens = opens } in
    let F = model img in
    let n = length (committed F) in
    rw (reached_objects img (opened_walked img opened).walked)
    (ap (λ (l : List ℕ). take n (kept_among F (F.of DATA) 0 l))
    (sym (take-append-drop n (F.of ENTRY)) ∙ ap (λ (l : List ℕ). l ++ drop n (F.of ENTRY)) (sym front))
    ∙ run_kept F (F.of DATA) 0 (committed F) (drop n (F.of ENTRY)) (committed_clean img opened))
