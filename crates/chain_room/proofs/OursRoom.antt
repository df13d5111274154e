-- Every file of ours takes the next append and has the arrays that its entries ask for: a new file has none, an append and a batch keep
-- it, and a refused call leaves the file as it was. So the room is in its bounds.
use mathlib.Core.Path.{◌≡◌, refl, sym, ap, ◌∙◌, subst}
use mathlib.Core.List.Memᴰ
use mathlib.Core.List.{List, [], ◌∷◌}
use Prim.Native.Nat.{ℕ, zero, suc, ◌/◌, ◌-◌, ◌≤◌}
use native.Mathlib.Omega.{arith}
use lib.Dec.{leb}
use lib.ListN.{length, length-take}
use borrow.Author.Tests.{le-leb, le-ltb}
use Rattle.format.specs.Says.{In}
use Rattle.format.specs.Header.{Image, n_entries, entry_array_offset}
use Rattle.format.specs.Kinds.{DATA}
use Rattle.format.specs.File.{File, model, header, entry_array, data_count}
use Rattle.format.specs.Stores.{carry, read_stores, stores_fault, carry_refusal, carried}
use Rattle.format.proofs.Filters.{filter_all}
use Rattle.reading.specs.Chains.{chain_items}
use Rattle.reading.specs.Committed.{committed, last_committed}
use Rattle.reading.specs.Lists.{first_entries, counted, data_entries}
use Rattle.reading.proofs.CommittedLaws.{committed_length}
use Rattle.writing.specs.NewFile.{made}
use Rattle.writing.specs.Request.{Request}
use Rattle.writing.specs.Plan.{appended}
use Rattle.writing.specs.Batch.{requests_of, appended_all}
use Rattle.writing.specs.Rooms.{rooms_for}
use Rattle.writing.proofs.ReadyLaws.{ready_is}
use Rattle.writing.proofs.RoomLaws.{room_bounded}
use Rattle.partial_append.specs.Extends.{of_header, of_data}
use Rattle.partial_append.proofs.FormedLaws.{formed}
use Rattle.partial_append.proofs.Passing.{entries_clear}
use Rattle.plan_words.specs.Takes.{Takes}
use Rattle.plan_words.proofs.TakesLaws.{ready_takes}
use Rattle.crash_states.proofs.Accepted.{Accepted}
use Rattle.crash_states.proofs.AcceptedFrom.{accepted}
use Rattle.crash_states.proofs.AcceptedLaws.{accepted_takes, accepted_placing}
use Rattle.crash_states.proofs.Groups.{offline_group}
use Rattle.next_append.specs.Next.{TakesAppends, AcceptsAll}
use Rattle.next_append.specs.Blank.{Blank}
use Rattle.next_append.proofs.FileAfter.{appended_is, finished8, extends8, commits8}
use Rattle.next_append.proofs.BlankTakes.{no_data, no_entries, no_chain, walked_blank}
use Rattle.next_append.proofs.NewTakes.{new_blank}
use Rattle.next_append.proofs.NewTakes
use Rattle.next_append.proofs.TakesAgain.{again}
use Rattle.next_append.proofs.Runs.{calls_append}
use Rattle.batch_states.proofs.BatchAccepted.{batch_taken}
use Rattle.batch_states.proofs.BatchDemands.{demand2_batch}
use Rattle.chain_room.specs.Ours.{Ours, new, append, append_refused, batch, batch_refused}
use Rattle.chain_room.specs.Room.{OursExact, OursBounded, OursTakes}
use Rattle.chain_room.proofs.RoomKept.{AllRooms, room_counted, no_rooms, rooms_after}

-- carrying out no store leaves the file as it was
none_carried : (list : List ℕ) (img : Image) → carried 0 list img ≡ img
unfolding carried carry_refusal read_stores stores_fault carry
none_carried list img =
    let z : carry_refusal 0 list img ≡ 0 = rw (carry_refusal, le-ltb (length list / 16) 0 (omega arith)) in
    rw (carried, z)

-- every file of ours takes the next append
pub ours_takes : OursTakes
ours_takes img (new a lent given z) = (NewTakes.new a lent given z).0
ours_takes img (append old r list o given z) = subst (λ (i : Image). TakesAppends i) (sym (calls_append old r list given z)) (again old r (length list) given z)
ours_takes img (append_refused old r list o given z) = subst (λ (i : Image). TakesAppends i) (sym (none_carried _ old)) (ours_takes old o)
ours_takes img (batch old machine buffer list o given z) =
    let d = demand2_batch old machine buffer list given z in
    subst (λ (i : Image). TakesAppends i) (sym d.0) d.2
ours_takes img (batch_refused old machine buffer list o given z) = subst (λ (i : Image). TakesAppends i) (sym (none_carried _ old)) (ours_takes old o)

-- two empty tables have no arrays, and nothing is counted
blank_rooms : (img : Image) (data_cells field_cells : ℕ) → Blank img data_cells field_cells → AllRooms (model img)
blank_rooms img x y b w n of_header = no_rooms (model img) (formed img b.bytes (walked_blank b)) (header entry_array_offset) (no_chain b) ∙ ap rooms_for (sym (no_entries b))
blank_rooms img x y b w n (of_data d m) = absurd (Memᴰ.not-nil (subst (λ (l : List ℕ). In d l) (no_data b) m))

-- an accepted append
appended_rooms : (img : Image) (r : Request) → Accepted img r → AllRooms (model img) → AllRooms (model (appended img r))
appended_rooms img r a h =
    let late = offline_group (model img) in
    let f = finished8 img r a late (λ s m. m) in
    subst (λ (i : Image). AllRooms (model i)) (sym (appended_is img r a))
    (rooms_after r.fields (accepted_takes img r a) (accepted_placing img r a) f (extends8 a f) (commits8 a f) h)

-- a run of them
run_rooms : (img : Image) (rs : List Request) → AcceptsAll img rs → AllRooms (model img) → AllRooms (model (appended_all img rs))
unfolding appended_all
run_rooms img [] a h = h
run_rooms img (r ∷ rs) a h = run_rooms (appended img r) rs a.2 (appended_rooms img r (accepted img r a.1.0 a.1.1 a.0) h)

-- every file of ours
ours_rooms : (img : Image) → Ours img → AllRooms (model img)
ours_rooms img (new a lent given z) = blank_rooms (made a lent) a.data_cells a.field_cells (new_blank a lent given z)
ours_rooms img (append old r list o given z) =
    subst (λ (i : Image). AllRooms (model i)) (sym (calls_append old r list given z)) (appended_rooms old r (accepted old r (length list) z given) (ours_rooms old o))
ours_rooms img (append_refused old r list o given z) = subst (λ (i : Image). AllRooms (model i)) (sym (none_carried _ old)) (ours_rooms old o)
ours_rooms img (batch old machine buffer list o given z) =
    subst (λ (i : Image). AllRooms (model i)) (sym (demand2_batch old machine buffer list given z).0)
    (run_rooms old (requests_of machine buffer) (batch_taken old machine buffer (length list) given z).all (ours_rooms old o))
ours_rooms img (batch_refused old machine buffer list o given z) = subst (λ (i : Image). AllRooms (model i)) (sym (none_carried _ old)) (ours_rooms old o)

-- a DATA of a file that takes appends has as many entries as it counts
entries_counted : (F : File) → Takes F → (d : ℕ) → In d (F.of DATA) → length (data_entries F d) ≡ F.read (data_count d)
unfolding data_entries counted first_entries
entries_counted F t d m =
    ap length (filter_all (λ e. leb e (last_committed F)) (counted F d) (λ e i. le-leb e (last_committed F) (t.agrees.low d e m i))) ∙ go (F.read (data_count d)) (t.passes.list d m).room
  where
    go : (n : ℕ) → n - 1 ≤ length (chain_items F (entry_array d)) → length (first_entries F d n) ≡ n
    go zero l = refl
    go (suc n) l = ap suc (length-take n (chain_items F (entry_array d)) ∙ omega (arith, l))

-- the arrays are those that the entries ask for
pub ours_exact : OursExact
ours_exact img o =
    let F = model img in
    let takes = ours_takes img o in
    let t : Takes F = ready_takes img takes.bytes (ready_is img takes.ready) in
    let h = ours_rooms img o in
    record {
      global = h (header entry_array_offset) (F.read (header n_entries)) of_header ∙ ap rooms_for (sym (committed_length F (entries_clear F t.formed t.passes)));
      data_chains = λ d m. h (entry_array d) (F.read (data_count d) - 1) (of_data d m) ∙ ap (λ (n : ℕ). rooms_for (n - 1)) (sym (entries_counted F t d m));
    }

-- and so in their bounds
pub ours_bounded : OursBounded
ours_bounded img o =
    let F = model img in
    let e = ours_exact img o in
    record {
      global = λ l. omega (arith, room_counted F (header entry_array_offset) (length (committed F)) e.global, room_bounded (length (committed F)));
      data_chains = λ d m l. omega (arith, l, room_counted F (entry_array d) (length (data_entries F d) - 1) (e.data_chains d m), room_bounded (length (data_entries F d) - 1));
    }
