-- Settling a call that comes home: which events of a life it is, and what the book keeps.
use Rattle.std.proofs.Common.{◌≡◌, ◌⊎◌, inl, inr, ℕ, suc, ◌+◌, ◌≤◌, ◌==◌, Bool, true, false, not, List, [], ◌∷◌, ◌++◌, Option, Some, None, Result, Ok, Err, OnOk, map, filter, is_some, length, refl, sym, ◌∙◌, ap, subst, cond, arith, true≢false, slice_get, vec_len, vec_capacity}
use Rattle.std.specs.Str.{bytes_eq}
use Rattle.std.specs.declared.snapshot.Snapshot.{Snapshot}
use Rattle.cf_tree.specs.Lists.{In}
use Rattle.cf_tree.specs.Named.{all_differ}
use Rattle.cf_tree.specs.declared.request.Answer.{Answer}
use Rattle.cf_tree.specs.declared.request.Answer.TheVariants as answer
use Rattle.cf_disk.specs.declared.disk.Disk.{Ghosts}
use Rattle.cf_handler.specs.Move.{HasCause}
use Rattle.cf_handler.specs.declared.handler.Handler.{Ghosts as HandlerGhosts}
use Rattle.cf_schema.specs.declared.described.Schema.{Schema}
use Rattle.cf_entry.proofs.Codec.{some_is}
use Rattle.cf_entry.specs.declared.entry.Entry.{Entry}
use Rattle.cf_entry.specs.declared.entry.Entry.TheVariants as entry
use Rattle.cf_entry.specs.declared.entry.Reply.{Reply}
use Rattle.cf_entry.specs.declared.entry.Reply.TheVariants as reply
use Rattle.cf_effect.specs.Words.{pending_of}
use Rattle.cf_effect.specs.World.{World, stack_of_operation}
use Rattle.cf_journal.specs.Record.{spare_of}
use Rattle.cf_stacks.specs.Apart.{AreApart}
use Rattle.cf_stacks.specs.Room.{Standing, stepped}
use Rattle.cf_stacks.proofs.Apart.{stay_apart}
use Rattle.cf_next.specs.declared.home.Home.{Home}
use Rattle.std.proofs.lemmas.Bool.{eq-eqb}
use Rattle.cf_plan.proofs.CreatedStays.{found_one}
use Rattle.cf_plan.proofs.Listed.{in_map}
use Rattle.cf_plan.proofs.RunLists.{any_of}
use Rattle.cf_plan.specs.Follow.{IsCounted, MayFollow, is_in_flight}
use Rattle.cf_plan.specs.Life.{Answered as Replied, AreRaised, BrokenWith, BrokenWithout, CallEnd, End, Happens, IsOutcomeOf, Lease as Leased, Life, Settle, Whole, appended, is_running, lease_replying, life_after, tokens_out, world_of}
use Rattle.cf_core.specs.InFlight.{IsOpenLease, LeasesOpen}
use Rattle.cf_lane.specs.Calling.{Granted, answered_lane, granted_in, told_of}
use Rattle.cf_lane.specs.Lanes.{LaneNow, lane_now}
use Rattle.cf_lane.specs.declared.lane.Lane.{Lane}
use Rattle.cf_lane.specs.declared.lease.Answered.{Answered}
use Rattle.cf_lane.specs.declared.told.Told.{Told}
use Rattle.cf_book.specs.Calls.{HasAnswer, IsBack, IsHome, SettlesBy, SettlesIn, SettlesLife, SettlesReply, StopsCall, stopped_by}
use Rattle.cf_book.specs.Events.{MayEnd, SettlesCall, outcome_by, reply_for}
use Rattle.cf_book.specs.Inside.{AppendsIn, IsAwaited, IsOpen, IsReady, IsRight, book_of, calls_out, doubt_in, entries_in, known_in, name_of}
use Rattle.cf_book.specs.Lives.{AreEntriesOf, AreLanesOf, AreLeasesOf, StandsFor, NamesLanes}
use Rattle.cf_book.specs.Record.{AppendsTo, Appends, with_doubt, world_left}
use Rattle.cf_book.specs.Settling.{ConcludesAs, StopsAt}
use Rattle.cf_book.specs.State.{BookLane, BookNow, come_home, home_of, lent_for}
use Rattle.cf_book.specs.declared.record.Record.{Record}
use Rattle.cf_book.specs.declared.stop.StopFault.{StopFault}
use Rattle.cf_book.specs.declared.stop.StopFault.TheVariants as stop
use Rattle.cf_book.proofs.Awaits.{awaited_after}
use Rattle.cf_book.proofs.Appended.{one_longer}
use Rattle.cf_book.proofs.Moves.{along, others_left}
use Rattle.cf_book.proofs.Outcomes.{one_fewer}
use Rattle.cf_core.specs.Theorem.{HoldsAlways}
use Rattle.cf_book.proofs.Parks.{AreOfOpening, CallComes, call_comes, call_parks}
use Rattle.cf_book.proofs.Raised.{raised_after}
use Rattle.cf_book.proofs.Written.{EndsSo, IsOpening, ends_so, known_entries, opening_appended}
use Rattle.cf_book.proofs.Ready.{names_home, not_home, still_out}
use Rattle.cf_book.proofs.Named.{opening_after}

-- what came home is the answer of a call that the book has out
pub came_back : {H : Type 0} (g : HandlerGhosts H) (lanes : List BookLane) (lane : Lane H) (told : Told) (answered : Answered H) → lane ≡ answered_lane answered
    → told ≡ told_of answered → HasAnswer g lanes answered → IsBack lanes (lane_now g lane) told
came_back {H} g lanes lane told answered e f h =
    subst (λ (l : Lane H). IsBack lanes (lane_now g l) told) (sym e) (subst (IsBack lanes (lane_now g (answered_lane answered))) (sym f) h)

-- a call that is out counts as out
out_flies : (leases : List Leased) (l : Leased) → In l leases → is_in_flight (map (λ (m : Leased). m.token) leases) l.token ≡ true
out_flies leases l i =
    any_of (λ t. l.token == t) (map (λ (m : Leased). m.token) leases) l.token (in_map (λ (m : Leased). m.token) l leases i) (eq-eqb l.token l.token refl)

-- the outcome that a lease's answer makes is what is written
outcome_is : (lease : Leased) (told : Told) (r : Reply) → lease.number ≡ told.number → lease.token ≡ told.token → reply_for told.answer ≡ Some r
    → IsOutcomeOf lease (Replied told.answer told.before told.after) (outcome_by told r)
outcome_is lease told r n t = by told.answer where
  so : (q : Reply) → q ≡ r → outcome_by told r ≡ entry.Outcome lease.number lease.token q told.before told.after
  so q s = ap (outcome_by told) (sym s) ∙ ap (λ m. entry.Outcome m told.token q told.before told.after) (sym n)
      ∙ ap (λ m. entry.Outcome lease.number m q told.before told.after) (sym t)

  by : (a : Answer) → reply_for a ≡ Some r → IsOutcomeOf lease (Replied a told.before told.after) (outcome_by told r)
  by (answer.Success physical attrs) e = so (reply.Success physical attrs) (some_is _ _ e)
  by (answer.Failed code) e = so (reply.Failed code) (some_is _ _ e)
  by answer.Fault e = so reply.Doubt (some_is _ _ e)
  by (answer.Stale fence) e = absurd (cc)
  by answer.NoMemory e = absurd (cc)

-- and its counts have their cause
pub counted : (a : Answer) (r : Reply) (before after : ℕ) → HasCause before after a → reply_for a ≡ Some r → IsCounted r before after
counted (answer.Success physical attrs) r before after h e = subst (λ q. IsCounted q before after) (some_is _ _ e) h.0
counted (answer.Failed code) r before after h e = subst (λ q. IsCounted q before after) (some_is _ _ e) h
counted answer.Fault r before after h e = subst (λ q. IsCounted q before after) (some_is _ _ e) h
counted (answer.Stale fence) r before after h e = absurd (cc)
counted answer.NoMemory r before after h e = absurd (cc)

-- the outcome of a call that is open still may follow
may_settle : (schemas : List Schema) (x : World) (tokens : List ℕ) (out : Leased) (told : Told) (r : Reply) → IsOpenLease x out → out.number ≡ told.number
    → out.token ≡ told.token → is_in_flight tokens told.token ≡ true → IsCounted r told.before told.after → MayFollow schemas x tokens (outcome_by told r)
may_settle schemas x tokens out told r o number token flies counts =
    let at : stack_of_operation told.number x ≡ Some (o.name, o.stack) = ap (λ n. stack_of_operation n x) (sym number) ∙ o.at in (
      o.name,
      o.stack,
      o.call.stage,
      at,
      o.call.in_stage,
      (flies, subst (λ n. is_some (pending_of n o.stack) ≡ true) token (ap is_some o.call.found), counts),
    )

-- The call is settled.
module _ {D : Type 0} (g : Ghosts D) (schemas : List Schema) (life : Life) (old new : BookNow D) (lane : LaneNow) (told : Told) (r : Reply)
    (c : CallComes schemas life old.lanes lane told) (stands : StandsFor old life) (home : IsHome old new lane) (running : old.stopped ≡ None)
    (certain : old.doubt ≡ None) where
  abbrev outcome : Entry
  outcome = outcome_by told r

  abbrev came_to : CallEnd
  came_to = Replied told.answer told.before told.after

  abbrev half : Life
  half = record life { lanes = c.after; leases = map (lease_replying told.token came_to) life.leases }

  as_known : life.entries ≡ old.entries
  as_known = known_entries old life stands certain

  happens : HasCause told.before told.after told.answer → reply_for told.answer ≡ Some r → LeasesOpen life → (end : End)
      → Happens schemas half (Settle told.token outcome end)
  happens cause is opens end =
      let flies : is_in_flight (tokens_out half) told.token ≡ true =
      subst (λ t. is_in_flight (tokens_out half) t ≡ true) c.token (out_flies half.leases c.lease (found_one (λ (m : Leased). told.token == m.token) half.leases c.lease c.leased).0) in
      let runs : is_running half ≡ true =
      ap (λ b. cond b (not life.is_stopped) false) stands.opened ∙ ap not (stands.running running) in (
        runs,
        c.lease,
        came_to,
        c.leased,
        c.replies,
        outcome_is c.lease told r c.number c.token is,
        may_settle schemas (world_of life) (tokens_out half) c.out told r (opens c.out c.is_out) c.out_number c.out_token flies (counted told.answer r told.before told.after cause is),
      )

  stands_so : (end : End) → EndsSo new outcome half end → AreRaised (life_after half (Settle told.token outcome end)) → NamesLanes (come_home lane old.lanes) (world_of (life_after half (Settle told.token outcome end)))
      → StandsFor new (life_after half (Settle told.token outcome end))
  stands_so end h r n = by end h r (subst (λ ls. NamesLanes ls (world_of (life_after half (Settle told.token outcome end)))) (sym home.lanes) n) where
    lanes : AreLanesOf new.lanes c.after
    lanes = subst (λ ls. AreLanesOf ls c.after) (sym home.lanes) c.lanes_are

    leases : AreLeasesOf new.lanes (filter (λ (m : Leased). not (told.token == m.token)) (map (lease_replying told.token came_to) life.leases))
    leases = subst (λ ls. AreLeasesOf ls (filter (λ (m : Leased). not (told.token == m.token)) (map (lease_replying told.token came_to) life.leases))) (sym home.lanes)
        (subst (AreLeasesOf (come_home lane old.lanes)) (sym (others_left told.token came_to life.leases)) c.leases_are)

    by : (end : End) → EndsSo new outcome half end → AreRaised (life_after half (Settle told.token outcome end)) → NamesLanes new.lanes (world_of (life_after half (Settle told.token outcome end))) → StandsFor new (life_after half (Settle told.token outcome end))
    by Whole h r n = record { entries = h.0; lanes = lanes; leases = leases; opened = stands.opened; granted = stands.granted ∙ sym home.granted; running = h.1; raised = r; named = n }
    by BrokenWith h r n = record { entries = h.0; lanes = lanes; leases = leases; opened = stands.opened; granted = stands.granted ∙ sym home.granted; running = h.1; raised = r; named = n }
    by BrokenWithout h r n = record { entries = h.0; lanes = lanes; leases = leases; opened = stands.opened; granted = stands.granted ∙ sym home.granted; running = h.1; raised = r; named = n }

  pub call_settles : {T : Type 0} (result : Result T StopFault) → HasCause told.before told.after told.answer → reply_for told.answer ≡ Some r → LeasesOpen life
      → Appends g old new outcome result → new.stopped ≡ stopped_by None result → SettlesCall schemas life new lane.name told r result
  call_settles result cause is opens appends stopped = (
    c.calls,
    c.made,
    λ end may. record {
      after = life_after half (Settle told.token outcome end);
      happen = along schemas life c.calls half (Settle told.token outcome end ∷ []) _ c.lives (happens cause is opens end, refl);
      stands =
          stands_so end (ends_so g old new half outcome as_known (stands.running running) result appends stopped end may)
          (raised_after schemas half (Settle told.token outcome end) tt (happens cause is opens end) c.raised)
          (opening_after schemas half (Settle told.token outcome end) tt (happens cause is opens end) ∙ c.named);
    },
  )

-- Which events settling is, whatever was answered and whether the book had stopped.
pub settles : {D T : Type 0} (g : Ghosts D) (schemas : List Schema) (life : Life) (old new : BookNow D) (lane : LaneNow) (told : Told) (result : Result T StopFault)
    → CallComes schemas life old.lanes lane told → HasCause told.before told.after told.answer → IsHome old new lane → (old.stopped ≡ None → old.doubt ≡ None)
    → SettlesBy g old new lane told old.stopped result → new.stopped ≡ stopped_by old.stopped result → StandsFor old life → LeasesOpen life
    → SettlesLife schemas life new lane told old.stopped (reply_for told.answer) result
settles {T = T} g schemas life old new lane told result c cause home certain h s stands opens = by old.stopped refl (reply_for told.answer) refl result h s where
  by : (o : Option StopFault) → old.stopped ≡ o → (p : Option Reply) → reply_for told.answer ≡ p → (result : Result T StopFault) → SettlesBy g old new lane told o result
      → new.stopped ≡ stopped_by o result → SettlesLife schemas life new lane told o p result
  by (Some fault) is p e result h s = call_parks schemas life old new lane told c home h.1 (λ n. let no : Some fault ≡ None = sym s ∙ n in absurd (cc)) stands
  by None is (Some r) e result h s =
      call_settles g schemas life old new lane told r c stands home is (certain is) result cause e opens
      (subst (λ p. SettlesReply g old new lane told p result) e h) s
  by None is None e (Ok x) h s = absurd (subst (λ p. SettlesReply g old new lane told p (Ok x)) e h)
  by None is None e (Err fault) h s =
      let (same, why) = subst (λ p. SettlesReply {T = T} g old new lane told p (Err fault)) e h in
      call_parks schemas life old new lane told c home same (λ n. is) stands

-- What the book keeps.
module _ {D : Type 0} (g : Ghosts D) (old new : Record D) (lanes : List BookLane) (lane : LaneNow) (told : Told) (place : ℕ)
    (back : IsBack lanes lane told) (ready : IsReady g old lanes) (spare : spare_of new.journal ≡ spare_of old.journal)
    (capacity : vec_capacity old.entries ≤ vec_capacity new.entries) where
  -- it is ready for the calls that are out still
  settled_ready : (r : Reply) → entries_in new ≡ entries_in old ++ outcome_by told r ∷ [] → IsOpen g new → new.world ≡ stepped old.world (outcome_by told r)
      → IsReady g new (come_home lane lanes)
  settled_ready r more opens step =
      let mine : IsAwaited old.world (granted_in told) = ready.awaited (lent_for (granted_in told) back.before) (granted_in told) back.out refl in
      let long : vec_len new.entries ≡ suc (vec_len old.entries) =
      new.entries.ok.0 ∙ one_longer (λ (e : Snapshot Entry). e.value) old.entries.items new.entries.items (outcome_by told r) more ∙ ap suc (sym old.entries.ok.0) in
      record {
        appends = opens;
        spare = omega (arith, ready.spare, spare);
        places = omega (arith, ready.places, long, capacity, one_fewer lanes back.before lane (granted_in told) back.out back.called.name);
        apart = subst (λ (x : Standing). AreApart x.world) (sym step) (stay_apart old.world.world (outcome_by told r) ready.apart tt);
        awaited = λ b call i e.
            let j = still_out lane lanes b call i e in
            subst (λ (x : Standing). IsAwaited x call) (sym step)
            (awaited_after old.world (granted_in told) mine r told.before told.after ready.apart call (other b call i j e) (ready.awaited b call j e));
        once = λ b d call third i j e f same. ready.once b d call third (still_out lane lanes b call i e) (still_out lane lanes d third j f) e f same;
      }
    where
      -- the one that came home is out no more
      other : (b : BookLane) (call : Granted) → In b (come_home lane lanes) → In b lanes → b.out ≡ Some call → call.token ≡ told.token → ⊥
      other b call i j e same =
          let it : b ≡ lent_for (granted_in told) back.before = ready.once b (lent_for (granted_in told) back.before) call (granted_in told) j back.out e refl same in
          not_home lane lanes b call i e (ap (λ (z : BookLane). z.lane.name) it ∙ sym back.called.name)

  pub right_settled : {T : Type 0} (homes homes' : List Home) (result : Result T StopFault) → IsRight g old lanes homes None → homes' ≡ map home_of (come_home lane lanes)
      → ConcludesAs g old new place told (reply_for told.answer) result → OnOk result (IsOpen g new)
      → OnOk result ((r : Reply) → reply_for told.answer ≡ Some r → new.world ≡ stepped old.world (outcome_by told r))
      → new.world.world ≡ world_left (entries_in new) → known_in g new → IsRight g new (come_home lane lanes) homes' (stopped_by None result)
  right_settled {T} homes homes' result right are concludes opens step world known = record {
    known = known;
    world = world;
    homes_are = are;
    names_differ = ap (all_differ bytes_eq) (names_home lane lanes) ∙ right.names_differ;
    epochs = λ b call i e. opening call (right.epochs b call (still_out lane lanes b call i e) e) (reply_for told.answer) concludes;
    ready = λ n. readies result (reply_for told.answer) refl concludes opens step n;
  }
    where
      opening : (call : Granted) → IsOpening call.epoch (entries_in old) (doubt_in old) → (p : Option Reply) → ConcludesAs g old new place told p result
          → IsOpening call.epoch (entries_in new) (doubt_in new)
      opening call was (Some r) h = opening_appended g old.disk new.disk (entries_in old) (entries_in new) (doubt_in old) (doubt_in new) (outcome_by told r) refl result h ready.appends.certain call.epoch was.0
      opening call was None h = by result h where
        by : (result : Result T StopFault) → ConcludesAs g old new place told None result → IsOpening call.epoch (entries_in new) (doubt_in new)
        by (Ok x) h = absurd h
        by (Err fault) h = subst (λ (z : Record D). IsOpening call.epoch (entries_in z) (doubt_in z)) (sym h.0) was

      readies : (result : Result T StopFault) (p : Option Reply) → reply_for told.answer ≡ p → ConcludesAs g old new place told (reply_for told.answer) result → OnOk result (IsOpen g new)
          → OnOk result ((r : Reply) → reply_for told.answer ≡ Some r → new.world ≡ stepped old.world (outcome_by told r)) → stopped_by None result ≡ None
          → IsReady g new (come_home lane lanes)
      readies (Ok x) (Some r) e h opens step n =
          settled_ready r (subst (λ p. ConcludesAs g old new place told p (Ok x)) e h).0 opens (step r e)
      readies (Ok x) None e h opens step n = absurd (subst (λ p. ConcludesAs g old new place told p (Ok x)) e h)
      readies (Err fault) p e h opens step n = absurd (cc)

-- the calls that are out of a book are of its last opening
pub of_opening : {D : Type 0} (g : Ghosts D) (r : Record D) (lanes : List BookLane) (homes : List Home) (granted : Bool) (stopped : Option StopFault)
    → IsRight g r lanes homes stopped → AreOfOpening (book_of r lanes granted stopped)
of_opening g r lanes homes granted stopped right b call es i e is = elim is [
  | inl s ↦ (right.epochs b call i e).0 ∙ ap (λ xs. (world_left xs).epoch) (sym s)
  | inr s ↦ (right.epochs b call i e).1 ∙ ap (λ xs. (world_left xs).epoch) (sym s)
]

-- why a call stopped the book, of the lane at the place that came home
stops_call : (lanes : List BookLane) (lane : LaneNow) (told : Told) (place : ℕ) (fault : StopFault)
    → (b : BookLane) × (slice_get lanes place ≡ Some b) × (b.lane.name ≡ lane.name) → StopsAt place told.epoch told.answer fault → StopsCall lanes lane told fault
stops_call lanes lane told place stop.NoMemory at h = h
stops_call lanes lane told place (stop.LaneAhead p fence epoch) at (is, same, of) =
    (is, of, at.0, subst (λ n. slice_get lanes n ≡ Some at.0) (sym same) at.1, at.2)
stops_call lanes lane told place stop.DiskFault at h = absurd h
stops_call lanes lane told place (stop.Full l need room) at h = absurd h

-- What settling writes, on a book that has not stopped.
settles_so : {D T : Type 0} (g : Ghosts D) (before after : Record D) (lanes lanes' : List BookLane) (granted granted' : Bool) (stopped stopped' : Option StopFault)
    (lane : LaneNow) (told : Told) (place : ℕ) (p : Option Reply) (result : Result T StopFault)
    → (b : BookLane) × (slice_get lanes place ≡ Some b) × (b.lane.name ≡ lane.name) → ConcludesAs g before after place told p result
    → SettlesReply g (book_of before lanes granted stopped) (book_of after lanes' granted' stopped') lane told p result
settles_so g before after lanes lanes' granted granted' stopped stopped' lane told place (Some r) result at h = h
settles_so g before after lanes lanes' granted granted' stopped stopped' lane told place None (Ok x) at h = h
settles_so g before after lanes lanes' granted granted' stopped stopped' lane told place None (Err fault) at h =
    (record { disk = ap (λ (r : Record _). r.disk) h.0; entries = ap entries_in h.0; doubt = ap doubt_in h.0 }, stops_call lanes lane told place fault at h.1)

pub settles_by : {H D T : Type 0} (h : HandlerGhosts H) (g : Ghosts D) (before after : Record D) (seen : BookNow D) (lanes lanes' : List BookLane)
    (granted granted' : Bool) (stopped stopped' : Option StopFault) (lane : Lane H) (told : Told) (answered : Answered H) (place : ℕ) (result : Result T StopFault)
    → book_of before lanes granted stopped ≡ seen → stopped ≡ None → lane ≡ answered_lane answered → told ≡ told_of answered
    → (b : BookLane) × (slice_get lanes place ≡ Some b) × (b.lane.name ≡ (lane_now h lane).name)
    → ConcludesAs g before after place told (reply_for told.answer) result
    → SettlesBy g seen (book_of after lanes' granted' stopped') (lane_now h (answered_lane answered)) (told_of answered) seen.stopped result
settles_by {H} h g before after seen lanes lanes' granted granted' stopped stopped' lane told answered place result view is e f at concludes =
    let new : BookNow _ = book_of after lanes' granted' stopped' in
    let old : BookNow _ = book_of before lanes granted stopped in
    let so : SettlesBy g old new (lane_now h lane) told None result =
    settles_so g before after lanes lanes' granted granted' stopped stopped' (lane_now h lane) told place (reply_for told.answer) result at concludes in
    subst (λ (b : BookNow _). SettlesBy g b new (lane_now h (answered_lane answered)) (told_of answered) b.stopped result) view
    (subst (λ o. SettlesBy g old new (lane_now h (answered_lane answered)) (told_of answered) o result) (sym is)
    (subst (λ (l : Lane H). SettlesBy g old new (lane_now h l) (told_of answered) None result) e
    (subst (λ (t : Told). SettlesBy g old new (lane_now h lane) t None result) f so)))

-- What settling writes, on a book that has stopped: nothing.
pub settles_stopped : {D : Type 0} (T : Type 0) (g : Ghosts D) (r : Record D) (seen : BookNow D) (lanes lanes' : List BookLane) (granted granted' : Bool)
    (stopped stopped' : Option StopFault) (lane : LaneNow) (told : Told) (fault : StopFault) → book_of r lanes granted stopped ≡ seen → stopped ≡ Some fault
    → SettlesBy {T = T} g seen (book_of r lanes' granted' stopped') lane told seen.stopped (Err fault)
settles_stopped T g r seen lanes lanes' granted granted' stopped stopped' lane told fault view is =
    let new : BookNow _ = book_of r lanes' granted' stopped' in
    subst (λ (b : BookNow _). SettlesBy {T = T} g b new lane told b.stopped (Err fault)) view
    (subst (λ o. SettlesBy {T = T} g (book_of r lanes granted stopped) new lane told o (Err fault)) (sym is)
    (refl, record { disk = refl; entries = refl; doubt = refl }))

-- what stops the book then
pub stops_so : {D T : Type 0} (old seen : BookNow D) (o now : Option StopFault) (result : Result T StopFault) → old ≡ seen → old.stopped ≡ o
    → now ≡ stopped_by o result → now ≡ stopped_by seen.stopped result
stops_so old seen o now result view is h =
    h ∙ ap (λ q. stopped_by q result) (sym is) ∙ ap (λ (b : BookNow _). stopped_by b.stopped result) view

-- Which events of a life settling an answer is.
pub settles_in : {H D T : Type 0} (h : HandlerGhosts H) (g : Ghosts D) (schemas : List Schema) (life : Life) (old seen new : BookNow D) (answered : Answered H)
    (result : Result T StopFault) → old ≡ seen → HasAnswer h seen.lanes answered → all_differ bytes_eq (map name_of old.lanes) ≡ true → AreOfOpening old
    → (old.stopped ≡ None → old.doubt ≡ None) → IsHome seen new (lane_now h (answered_lane answered))
    → SettlesBy g seen new (lane_now h (answered_lane answered)) (told_of answered) seen.stopped result → new.stopped ≡ stopped_by seen.stopped result
    → SettlesIn schemas life seen new (lane_now h (answered_lane answered)) (told_of answered) result
settles_in h g schemas life old seen new answered result view has differ opening certain home by_answer stopped stands holds =
    settles g schemas life seen new (lane_now h (answered_lane answered)) (told_of answered) result
    (call_comes schemas life seen (lane_now h (answered_lane answered)) (told_of answered) has
    (subst (λ (b : BookNow _). all_differ bytes_eq (map name_of b.lanes) ≡ true) view differ) (subst AreOfOpening view opening) stands holds)
    has.called.cause home (subst (λ (b : BookNow _). b.stopped ≡ None → b.doubt ≡ None) view certain) by_answer stopped stands holds.in_flight
