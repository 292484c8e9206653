-- What one round of a run comes to, from what its calls of the book answer.
use Rattle.std.proofs.Common.{◌≡◌, ◌⊎◌, inl, inr, ℕ, ◌==◌, ◌||◌, ◌≤◌, Bool, true, false, cond, List, [], ◌∷◌, ◌++◌, Option, Some, None, Result, Ok, Err, map, find, option_map, refl, sym, ◌∙◌, ap, subst, append-nil, arith}
use Rattle.std.specs.List.{filter_map}
use Rattle.std.specs.Option.{option_or}
use Rattle.std.proofs.lemmas.List.Folds.{find-append}
use Rattle.std.proofs.lemmas.List.Sums.{fold-append}
use Rattle.std.proofs.lemmas.Bool.{eq-eqb}
use Rattle.cf_effect.specs.Fold.{is_intent}
use Rattle.cf_effect.specs.Status.{Stage, is_in_progress, stage_of}
use Rattle.cf_effect.specs.Words.{has_token, pending_of}
use Rattle.cf_effect.specs.World.{StackState, is_going}
use Rattle.cf_plan.specs.Follow.{MayFollow, is_in_flight}
use Rattle.cf_plan.specs.Life.{Life}
use Rattle.cf_plan.proofs.Frame.{found_passes}
use Rattle.cf_plan.proofs.RunLists.{is_found_in}
use Rattle.std.specs.Cmp.{second_so}
use Rattle.std.specs.Prelude.{is_some}
use Rattle.cf_entry.proofs.Codec.{some_is}
use Rattle.std.specs.Str.{bytes_eq}
use Rattle.cf_schema.specs.declared.described.Schema.{Schema}
use Rattle.cf_tree.specs.Counts.{last_count}
use Rattle.cf_tree.specs.Named.{all_differ}
use Rattle.cf_tree.specs.Lists.{In}
use Rattle.cf_tree.specs.Lists.In.{here, there}
use Rattle.cf_tree.specs.declared.request.Request.{Request}
use Rattle.cf_disk.specs.declared.disk.Disk.{Ghosts as DiskGhosts}
use Rattle.cf_handler.specs.declared.handler.Handler.{Ghosts as HandlerGhosts}
use Rattle.cf_entry.specs.declared.entry.Entry.{Entry}
use Rattle.cf_entry.specs.declared.entry.Entry.TheVariants as entry
use Rattle.cf_entry.specs.declared.entry.Reply.{Reply}
use Rattle.cf_entry.specs.declared.status.Status.{Status}
use Rattle.cf_journal.specs.Record.{length_of}
use Rattle.cf_journal.proofs.Moments.{weaker}
use Rattle.cf_plan.proofs.Differ.{one_id}
use Rattle.cf_plan.proofs.Listed.{bytes_same, in_map, same_bytes}
use Rattle.std.proofs.lemmas.Option.{slice_get-map}
use Rattle.std.proofs.lemmas.Bool.{cases_lt}
use Rattle.cf_lane.specs.Calling.{Granted, IsCalled, granted_in, granted_of, leased_lane}
use Rattle.cf_lane.specs.Lanes.{LaneNow, lane_now}
use Rattle.cf_lane.specs.declared.lease.Lease.{Lease}
use Rattle.cf_lane.specs.declared.told.Told.{Told}
use Rattle.cf_next.specs.Chosen.{entry_for, leases_of, schemas_of}
use Rattle.cf_next.specs.declared.home.Home.{Home}
use Rattle.cf_next.specs.declared.step.Next.{Next}
use Rattle.cf_next.specs.declared.step.Next.TheVariants as next
use Rattle.cf_book.specs.Calls.{IsBack, IsHome, SettlesReply, StopsCall}
use Rattle.cf_book.specs.Ended.{end_status, ended_in, with_end}
use Rattle.cf_book.specs.Events.{outcome_by, reply_for}
use Rattle.cf_book.specs.Granting.{ComesNext, GrantsStep, IsDurable, IsLent, IsLacking, IsOpenCall, IsStill, KeepsLanes, NeverStuck, TakesStep, WritesCall}
use Rattle.cf_book.specs.Record.{Fits, HasFaulted, HasStopped, KeepsDisk, KeepsMoments, LeavesOneMore, Writes, with_doubt, world_left}
use Rattle.cf_book.specs.State.{BookLane, BookNow, NoneOut, at_home, come_home, home_of, lent_for, lent_out, with_lane}
use Rattle.cf_book.proofs.Settles.{counted}
use Rattle.cf_book.proofs.Standing.{OfHome, it, other, of_home}
use Rattle.cf_book.specs.declared.ending.Ended.{Ended}
use Rattle.cf_book.specs.declared.granting.Grant.{Grant}
use Rattle.cf_book.specs.declared.granting.Grant.TheVariants as grant
use Rattle.cf_book.specs.declared.stop.StopFault.{StopFault}
use Rattle.cf_book.specs.declared.stop.StopFault.TheVariants as stop
use Rattle.cf_workers.specs.Growing.{Extends, IsBetween}
use Rattle.cf_workers.specs.Driving.{AreSameLanes, CallMade, CouldNotWrite, EndsWith, Grows, HasEnd, IsAtRest, IsIntended, IsOutcome, LacksOutcome, LacksStep, Round, StopsAfter, StopsBefore, name_and_schema, names_of}
use Rattle.cf_workers.proofs.Crashes.{extends_doubt, extends_itself, extends_on, further, is_at}

-- at each moment of a call of the book a crash leaves what was there, or one entry more
pub grows_by : {D : Type 0} (g : DiskGhosts D) (old new : BookNow D) → Extends old.entries new.entries → KeepsMoments g old new → Grows g old new
grows_by g old new x moments told =
    weaker g.moment g.left_since old.disk new.disk (LeavesOneMore old.entries new.entries new.doubt) (IsBetween old.entries (with_doubt new.entries new.doubt)) (moments told) between where
      end : Extends new.entries (with_doubt new.entries new.doubt)
      end = extends_doubt new.entries new.doubt

      between : (file : List ℕ) → LeavesOneMore old.entries new.entries new.doubt file → IsBetween old.entries (with_doubt new.entries new.doubt) file
      between file (inl q) =
          further old.entries old.entries old.entries (with_doubt new.entries new.doubt) file (extends_itself old.entries) (extends_on old.entries new.entries (with_doubt new.entries new.doubt) x end)
          (is_at old.entries file q)
      between file (inr (inl q)) = further old.entries new.entries new.entries (with_doubt new.entries new.doubt) file x end (is_at new.entries file q)
      between file (inr (inr q)) =
          further old.entries (with_doubt new.entries new.doubt) (with_doubt new.entries new.doubt) (with_doubt new.entries new.doubt) file
          (extends_on old.entries new.entries (with_doubt new.entries new.doubt) x end) (extends_itself (with_doubt new.entries new.doubt)) (is_at (with_doubt new.entries new.doubt) file q)

-- an entry could not be written, with memory for it taken first or before
stopped_writing : {D : Type 0} (g : DiskGhosts D) (old new : BookNow D) (e : Entry) (fault : StopFault) → old.doubt ≡ None
    → HasStopped g old.disk new.disk old.doubt new.doubt e fault → CouldNotWrite g old.disk old new e fault
stopped_writing g old new e (stop.Full l need room) none h =
    (h.1 ∙ none, (λ told. ap (λ d. length_of (g.seen d)) h.0 ∙ h.2 told), h.3, h.4 ∙ ap g.room_of (sym h.0), h.5)
stopped_writing g old new e stop.DiskFault none h = h
stopped_writing g old new e (stop.LaneAhead lane fence epoch) none h = absurd h
stopped_writing g old new e stop.NoMemory none h = absurd h

-- where no call is out, no token is
pub none_leased : (lanes : List BookLane) → NoneOut lanes → leases_of (map home_of lanes) ≡ []
none_leased [] none = refl
none_leased (b ∷ bs) none = one b.out (none b here) (none_leased bs (λ a i. none a (there i))) where
  one : (o : Option Granted) → o ≡ None → leases_of (map home_of bs) ≡ [] → filter_map (λ (k : Home). k.out) (record { name = b.lane.name; schema = b.lane.schema; out = option_map (λ (c : Granted). c.token) o } ∷ map home_of bs) ≡ []
  one None q more = more
  one (Some c) q more = let never : ⊥ = cc in absurd never

-- an operation that has no end yet has it behind its entry
none_before : (number : ℕ) (ends : List Ended) (status : Status) → end_status number ends ≡ None
    → end_status number (ends ++ record { number = number; status = status } ∷ []) ≡ Some status
none_before number ends status none =
    ap (option_map (λ (e : Ended). e.status)) (find-append (λ (e : Ended). number == e.number) ends (record { number = number; status = status } ∷ []))
    ∙ by (find (λ (e : Ended). number == e.number) ends) none where
      one : Option Ended
      one = cond (number == number) (Some (record { number = number; status = status })) None

      by : (o : Option Ended) → option_map (λ (e : Ended). e.status) o ≡ None → option_map (λ (e : Ended). e.status) (option_or o one) ≡ Some status
      by None q = ap (λ b. option_map (λ (e : Ended). e.status) (cond b (Some (record { number = number; status = status })) None)) (eq-eqb number number refl)
      by (Some e) q = let never : ⊥ = cc in absurd never

pub now_ended : (number : ℕ) (es : List Entry) (status : Status) (failed : List (List ℕ)) → end_status number (ended_in es) ≡ None
    → HasEnd (es ++ entry.Done number status failed ∷ []) number status
now_ended number es status failed none =
    ap (end_status number) (fold-append with_end [] es (entry.Done number status failed ∷ [])) ∙ none_before number (ended_in es) status none

-- a step is not the end, nor does it wait
no_answer : {A B : Type 0} {P : Type 0} (a : A) (b : B) → ◌≡◌ {A = Result A B} (Ok a) (Err b) → P
no_answer a b q = let never : ⊥ = cc in absurd never

no_fault : {A B : Type 0} {P : Type 0} (a : A) (b : B) → ◌≡◌ {A = Result A B} (Err b) (Ok a) → P
no_fault a b q = let never : ⊥ = cc in absurd never

module _ {D H : Type 0} (d : DiskGhosts D) (h : HandlerGhosts H) (number : ℕ) (old new : BookNow D) (rest : IsAtRest d old)
    (goes : (schemas : List Schema) (life : Life) → NeverStuck schemas life old number) where
  short : LacksStep number old
  short = record { lacking = IsLacking.memory; never = goes }

  -- the step that comes next could not be written
  unwritten : (T : Type 0) (n : Next) (e : Entry) (fault : StopFault) → ComesNext old.lanes old.entries number n → entry_for number n ≡ Some e → KeepsLanes old new
      → Writes {T = T} d old new e (Err fault) → StopsBefore d number old new fault
  unwritten T n e (stop.Full l need room) c q k w = (w.0, k.lanes, inr (n, e, c, q, stopped_writing d old new e (stop.Full l need room) rest.certain w.1))
  unwritten T n e stop.DiskFault c q k w = (w.0, k.lanes, inr (n, e, c, q, stopped_writing d old new e stop.DiskFault rest.certain w.1))
  unwritten T n e (stop.LaneAhead lane fence epoch) c q k w = absurd w.1
  unwritten T n e stop.NoMemory c q k w = (w.1, k.lanes, inl (refl, w.2 ∙ rest.certain, short))

  still : IsStill old new → LacksStep number old → StopsBefore d number old new stop.NoMemory
  still s lacks = (s.0.entries, s.1.lanes, inl (refl, s.0.doubt ∙ rest.certain, lacks))

  repeat_stops : (T : Type 0) (e : Entry) (fault : StopFault) → WritesCall {T = T} d old new true e (Err fault) → KeepsLanes old new → StopsBefore d number old new fault
  repeat_stops T e stop.NoMemory w k = still (w, k) short
  repeat_stops T e (stop.Full l need room) w k = absurd w
  repeat_stops T e stop.DiskFault w k = absurd w
  repeat_stops T e (stop.LaneAhead lane fence epoch) w k = absurd w

  step_stops : (n : Next) (fault : StopFault) → ComesNext old.lanes old.entries number n → TakesStep d h old new number n (Err fault) → StopsBefore d number old new fault
  step_stops (next.Step path lane token r true) fault c t = repeat_stops (Grant H) (entry.Intent number token lane path r) fault t.0 t.1
  step_stops (next.Step path lane token r false) fault c t = unwritten (Grant H) (next.Step path lane token r false) (entry.Intent number token lane path r) fault c refl t.1 t.0
  step_stops (next.Keep path physical w) fault c t = unwritten (Grant H) (next.Keep path physical w) (entry.Kept number path physical w) fault c refl t.1 t.0
  step_stops (next.Turn p cause) fault c t = unwritten (Grant H) (next.Turn p cause) (entry.Phase number p cause) fault c refl t.1 t.0
  step_stops (next.End state failed) fault c t = unwritten (Grant H) (next.End state failed) (entry.Done number state failed) fault c refl t.1 t.0
  step_stops next.Wait fault c t = no_fault grant.Idle fault t.0

  -- a grant that stops the book
  pub grant_stops : (o : Option Status) (fault : StopFault) → GrantsStep d h old new number o (Err fault) → StopsBefore d number old new fault
  grant_stops (Some status) fault t = no_fault (grant.Over status) fault t.0
  grant_stops None fault (inl (n, c, t)) = step_stops n fault c t
  grant_stops None fault (inr (q, s, l)) = subst (λ f. StopsBefore d number old new f) (same q) (still s (record { lacking = l; never = goes })) where
    same : ◌≡◌ {A = Result (Grant H) StopFault} (Err fault) (Err stop.NoMemory) → stop.NoMemory ≡ fault
    same q = cc

  -- an entry of the step was appended, which lends no lane
  pub record IsMoved : Type 0 where
    pub round : Round d number old new
    pub grown : Extends old.entries new.entries
    pub lanes : new.lanes ≡ old.lanes
    pub certain : new.doubt ≡ None

  moved : (T : Type 0) (x : T) (n : Next) (e : Entry) → ComesNext old.lanes old.entries number n → entry_for number n ≡ Some e → is_intent e ≡ false
      → Writes d old new e (Ok x) → KeepsLanes old new → IsMoved
  moved T x n e c q i w k = record {
    round = Round.moves n e c q i w.2 w.0 k.lanes;
    grown = (e ∷ [], w.0);
    lanes = k.lanes;
    certain = w.1 ∙ rest.certain;
  }

  -- no operation ends in it
  pub record IsOn : Type 0 where
    pub moved : IsMoved
    pub same : ended_in new.entries ≡ ended_in old.entries

  -- a resource is kept, or a phase begins
  step_moves : (n : Next) → ComesNext old.lanes old.entries number n → TakesStep d h old new number n (Ok grant.Moved) → IsOn
  step_moves (next.Step path lane token r repeated) c t = absurd t.1
  step_moves (next.Keep path physical w) c t =
      let e : Entry = entry.Kept number path physical w in
      let m : IsMoved = moved (Grant H) grant.Moved (next.Keep path physical w) e c refl refl t.0 t.1 in
      record { moved = m; same = ap ended_in t.0.0 ∙ fold-append with_end [] old.entries (e ∷ []) }
  step_moves (next.Turn p cause) c t =
      let e : Entry = entry.Phase number p cause in
      let m : IsMoved = moved (Grant H) grant.Moved (next.Turn p cause) e c refl refl t.0 t.1 in
      record { moved = m; same = ap ended_in t.0.0 ∙ fold-append with_end [] old.entries (e ∷ []) }
  step_moves (next.End state failed) c t = absurd (unended t.2) where
    unended : ◌≡◌ {A = Grant H} grant.Moved (grant.Over state) → ⊥
    unended q = cc
  step_moves next.Wait c t = absurd (unwaited t.0) where
    unwaited : ◌≡◌ {A = Result (Grant H) StopFault} (Ok grant.Moved) (Ok grant.Idle) → ⊥
    unwaited q = cc

  pub grant_moves : (o : Option Status) → GrantsStep d h old new number o (Ok grant.Moved) → IsOn
  grant_moves (Some status) t = absurd (unended t.0) where
    unended : ◌≡◌ {A = Result (Grant H) StopFault} (Ok grant.Moved) (Ok (grant.Over status)) → ⊥
    unended q = cc
  grant_moves None (inl (n, c, t)) = step_moves n c t
  grant_moves None (inr (q, s, l)) = no_answer grant.Moved stop.NoMemory q

  -- no call is out, so nothing waits
  pub never_idle : (o : Option Status) → GrantsStep d h old new number o (Ok grant.Idle) → ⊥
  never_idle (Some status) t = unended t.0 where
    unended : ◌≡◌ {A = Result (Grant H) StopFault} (Ok grant.Idle) (Ok (grant.Over status)) → ⊥
    unended q = cc
  never_idle None (inl (n, c, t)) = waits n c t where
    waits : (n : Next) → ComesNext old.lanes old.entries number n → TakesStep d h old new number n (Ok grant.Idle) → ⊥
    waits (next.Step path lane token r repeated) c t = t.1
    waits (next.Keep path physical w) c t = cc
    waits (next.Turn p cause) c t = cc
    waits (next.End state failed) c t = cc
    waits next.Wait c t = c.5.may (none_leased old.lanes rest.none_out)
  never_idle None (inr (q, s, l)) = no_answer grant.Idle stop.NoMemory q

  -- the end is appended, or stood there
  pub record IsOverNow (status : Status) : Type 0 where
    pub how : (Round d number old new × EndsWith new.entries number status) ⊎ (IsStill old new × HasEnd old.entries number status)
    pub grown : Extends old.entries new.entries
    pub lanes : new.lanes ≡ old.lanes
    pub certain : new.doubt ≡ None
    pub ended : HasEnd new.entries number status

  was_over : (status shown : Status) → end_status number (ended_in old.entries) ≡ Some status → ◌≡◌ {A = Result (Grant H) StopFault} (Ok (grant.Over shown)) (Ok (grant.Over status)) → IsStill old new
      → IsOverNow shown
  was_over status shown at q s = record {
    how = inr (s, at ∙ ap Some (shown_is q));
    grown = subst (Extends old.entries) (sym s.0.entries) (extends_itself old.entries);
    lanes = s.1.lanes;
    certain = s.0.doubt ∙ rest.certain;
    ended = ap (λ es. end_status number (ended_in es)) s.0.entries ∙ at ∙ ap Some (shown_is q);
  } where
    shown_is : ◌≡◌ {A = Result (Grant H) StopFault} (Ok (grant.Over shown)) (Ok (grant.Over status)) → status ≡ shown
    shown_is q = cc

  is_over : (status shown : Status) (failed : List (List ℕ)) → end_status number (ended_in old.entries) ≡ None → ComesNext old.lanes old.entries number (next.End status failed)
      → Writes {T = Grant H} d old new (entry.Done number status failed) (Ok (grant.Over shown)) → KeepsLanes old new → ◌≡◌ {A = Grant H} (grant.Over shown) (grant.Over status) → IsOverNow shown
  is_over status shown failed none c w k q =
      let m : IsMoved = moved (Grant H) (grant.Over shown) (next.End status failed) (entry.Done number status failed) c refl refl w k in
      subst IsOverNow (shown_is q) (record {
        how = inl (m.round, record { front = old.entries; failed = failed; last = w.0 });
        grown = m.grown;
        lanes = m.lanes;
        certain = m.certain;
        ended = subst (λ es. HasEnd es number status) (sym w.0) (now_ended number old.entries status failed none);
      }) where
        shown_is : ◌≡◌ {A = Grant H} (grant.Over shown) (grant.Over status) → status ≡ shown
        shown_is q = cc

  step_ends : (n : Next) (status : Status) → end_status number (ended_in old.entries) ≡ None → ComesNext old.lanes old.entries number n → TakesStep d h old new number n (Ok (grant.Over status))
      → IsOverNow status
  step_ends (next.Step path lane token r repeated) status none c t = absurd t.1
  step_ends (next.Keep path physical w) status none c t = absurd (never t.2) where
    never : ◌≡◌ {A = Grant H} (grant.Over status) grant.Moved → ⊥
    never q = cc
  step_ends (next.Turn p cause) status none c t = absurd (never t.2) where
    never : ◌≡◌ {A = Grant H} (grant.Over status) grant.Moved → ⊥
    never q = cc
  step_ends (next.End state failed) status none c t = is_over state status failed none c t.0 t.1 t.2
  step_ends next.Wait status none c t = absurd (never t.0) where
    never : ◌≡◌ {A = Result (Grant H) StopFault} (Ok (grant.Over status)) (Ok grant.Idle) → ⊥
    never q = cc

  pub grant_ends : (o : Option Status) (status : Status) → end_status number (ended_in old.entries) ≡ o → GrantsStep d h old new number o (Ok (grant.Over status)) → IsOverNow status
  grant_ends (Some state) status at t = was_over state status at t.0 t.1
  grant_ends None status none (inl (n, c, t)) = step_ends n status none c t
  grant_ends None status none (inr (q, s, l)) = no_answer (grant.Over status) stop.NoMemory q

  -- a lane is lent for the call that comes next
  pub record IsCallNext (lease : Lease H) : Type 0 where
    pub path : List ℕ
    pub token : ℕ
    pub request : Request
    pub repeated : Bool
    pub b : BookLane
    pub chosen : ComesNext old.lanes old.entries number (next.Step path b.lane.name token request repeated)
    pub lent : IsLent old new b (record { epoch = (world_left old.entries).epoch; number = number; token = token; request = request })
    pub granted : granted_of lease ≡ record { epoch = (world_left old.entries).epoch; number = number; token = token; request = request }
    pub owns : lane_now h (leased_lane lease) ≡ b.lane
    pub entries : new.entries ≡ with_doubt old.entries (entry_for number (next.Step path b.lane.name token request repeated))
    pub fits : (e : Entry) → entry_for number (next.Step path b.lane.name token request repeated) ≡ Some e → Fits d old.disk e
    pub certain : new.doubt ≡ None

  -- its Intent is there, and if it is new there was room for it
  abbrev IsWrittenFor : Next → Type 0
  IsWrittenFor n = (new.entries ≡ with_doubt old.entries (entry_for number n)) × (new.doubt ≡ None)
      × ((e : Entry) → entry_for number n ≡ Some e → Fits d old.disk e)

  wrote_call : (path lane : List ℕ) (token : ℕ) (r : Request) (repeated : Bool) (lease : Lease H)
      → WritesCall {T = Grant H} d old new repeated (entry.Intent number token lane path r) (Ok (grant.Lease lease))
      → IsWrittenFor (next.Step path lane token r repeated)
  wrote_call path lane token r false lease w = (w.0, w.1 ∙ rest.certain, λ e q. subst (Fits d old.disk) (some_is _ _ q) w.2)
  wrote_call path lane token r true lease w = (w.entries, w.doubt ∙ rest.certain, λ e q. let never : ⊥ = cc in absurd never)

  step_lends : (n : Next) (lease : Lease H) → ComesNext old.lanes old.entries number n → TakesStep d h old new number n (Ok (grant.Lease lease)) → IsCallNext lease
  step_lends (next.Step path lane token r repeated) lease c (w, (b, lent, named, granted, owns)) =
      subst (λ name. ComesNext old.lanes old.entries number (next.Step path name token r repeated)
      → IsWrittenFor (next.Step path name token r repeated) → IsCallNext lease) named
      (λ at wrote. record {
        path = path;
        token = token;
        request = r;
        repeated = repeated;
        b = b;
        chosen = at;
        lent = lent;
        granted = granted;
        owns = owns;
        entries = wrote.0;
        certain = wrote.1;
        fits = wrote.2;
      }) c (wrote_call path lane token r repeated lease w)
  step_lends (next.Keep path physical w) lease c t = absurd (never t.2) where
    never : grant.Lease lease ≡ grant.Moved → ⊥
    never q = cc
  step_lends (next.Turn p cause) lease c t = absurd (never t.2) where
    never : grant.Lease lease ≡ grant.Moved → ⊥
    never q = cc
  step_lends (next.End state failed) lease c t = absurd (never t.2) where
    never : grant.Lease lease ≡ grant.Over state → ⊥
    never q = cc
  step_lends next.Wait lease c t = absurd (never t.0) where
    never : ◌≡◌ {A = Result (Grant H) StopFault} (Ok (grant.Lease lease)) (Ok grant.Idle) → ⊥
    never q = cc

  pub grant_lends : (o : Option Status) (lease : Lease H) → GrantsStep d h old new number o (Ok (grant.Lease lease)) → IsCallNext lease
  grant_lends (Some state) lease t = absurd (never t.0) where
    never : ◌≡◌ {A = Result (Grant H) StopFault} (Ok (grant.Lease lease)) (Ok (grant.Over state)) → ⊥
    never q = cc
  grant_lends None lease (inl (n, c, t)) = step_lends n lease c t
  grant_lends None lease (inr (q, s, l)) = no_answer (grant.Lease lease) stop.NoMemory q

-- A lane that was lent comes home: it is as if the lane at home had changed.
pub with_head : {A : Type 0} (x y : A) (xs ys : List A) → x ≡ y → xs ≡ ys → x ∷ xs ≡ y ∷ ys
with_head x y xs ys p q = ap (λ z. z ∷ xs) p ∙ ap (λ zs. y ∷ zs) q

home_again : (after was : LaneNow) (call : Granted) (lanes : List BookLane) → after.name ≡ was.name → come_home after (lent_out call was lanes) ≡ come_home after lanes
home_again after was call [] same = refl
home_again after was call (b ∷ bs) same =
    with_head (with_lane after.name (at_home after) (with_lane was.name (lent_for call was) b)) (with_lane after.name (at_home after) b) (come_home after (lent_out call was bs)) (come_home after bs)
    (one (bytes_eq was.name b.lane.name) refl) (home_again after was call bs same) where
      one : (t : Bool) → bytes_eq was.name b.lane.name ≡ t → with_lane after.name (at_home after) (cond t (lent_for call was) b) ≡ with_lane after.name (at_home after) b
      one true q =
          ap (λ t. cond t (at_home after) (lent_for call was)) (ap (λ n. bytes_eq n was.name) same ∙ same_bytes was.name)
          ∙ ap (λ t. cond t (at_home after) b) (sym (ap (λ n. bytes_eq n b.lane.name) same ∙ q))
      one false q = refl

-- none is out then
all_home : (after : LaneNow) (lanes : List BookLane) → NoneOut lanes → NoneOut (come_home after lanes)
all_home after lanes none b i = by (of_home after lanes b i) where
  by : OfHome after lanes b → b.out ≡ None
  by (it e) = ap (λ (x : BookLane). x.out) e
  by (other j n) = none b j

-- the lanes keep their names and types
pub same_home : (after was : LaneNow) (lanes : List BookLane) → In (at_home was) lanes → all_differ bytes_eq (names_of lanes) ≡ true → after.name ≡ was.name → after.schema ≡ was.schema
    → AreSameLanes lanes (come_home after lanes)
same_home after was lanes i differ name schema = all lanes each where
  each : (b : BookLane) → In b lanes → bytes_eq after.name b.lane.name ≡ true → after.schema ≡ b.lane.schema
  each b j t =
      schema ∙ ap (λ (x : BookLane). x.lane.schema) (one_id (λ (x : BookLane). x.lane.name) lanes differ (at_home was) b i j (sym name ∙ bytes_same after.name b.lane.name t))

  all : (ls : List BookLane) → ((b : BookLane) → In b ls → bytes_eq after.name b.lane.name ≡ true → after.schema ≡ b.lane.schema) → AreSameLanes ls (come_home after ls)
  all [] same = refl
  all (b ∷ bs) same =
      with_head (name_and_schema (with_lane after.name (at_home after) b)) (name_and_schema b) (map name_and_schema (come_home after bs)) (map name_and_schema bs)
      (one (bytes_eq after.name b.lane.name) refl) (all bs (λ a j. same a (there j))) where
        one : (t : Bool) → bytes_eq after.name b.lane.name ≡ t → name_and_schema (cond t (at_home after) b) ≡ name_and_schema b
        one true q = ap (λ n. (n, after.schema)) (bytes_same after.name b.lane.name q) ∙ ap (λ k. (b.lane.name, k)) (same b here q)
        one false q = refl

-- the place of a lane that came home is its place
stops_home : (after : LaneNow) (lanes : List BookLane) (told : Told) (fault : StopFault) → StopsCall lanes after told fault → StopsCall (come_home after lanes) after told fault
stops_home after lanes told (stop.LaneAhead place fence epoch) (answer, at, b, found, named) = (
  answer,
  at,
  at_home after,
  slice_get-map (with_lane after.name (at_home after)) lanes place ∙ ap (option_map (with_lane after.name (at_home after))) found
      ∙ ap (λ t. Some (cond t (at_home after) b)) (ap (bytes_eq after.name) named ∙ same_bytes after.name),
  refl,
)
stops_home after lanes told stop.NoMemory s = s
stops_home after lanes told (stop.Full l need room) s = absurd s
stops_home after lanes told stop.DiskFault s = absurd s

-- a count that rose later rose
risen_since : (first before after : ℕ) → first ≤ before → HasFaulted before after → HasFaulted first after
risen_since first before after le f = (
  omega (arith, le, f.0),
  λ below. elim (cases_lt before last_count) [
    | inl less ↦ omega (arith, le, f.1 less)
    | inr last ↦ omega (arith, le, f.0, below, last)
  ],
)

-- The call of a lease was made.
module _ {D H : Type 0} (d : DiskGhosts D) (h : HandlerGhosts H) (number : ℕ) (old lent : BookNow D) (rest : IsAtRest d old) (goes : (schemas : List Schema) (life : Life) → NeverStuck schemas life old number)
    (lease : Lease H) (k : IsCallNext d h number old lent rest goes lease) (after : LaneNow) (told : Told)
    (called : IsCalled (granted_of lease) (lane_now h (leased_lane lease)) after told) where
  abbrev pub call : Granted
  call = record { epoch = (world_left old.entries).epoch; number = number; token = k.token; request = k.request }

  pub was_called : IsCalled call k.b.lane after told
  was_called = subst (λ c. IsCalled c k.b.lane after told) k.granted (subst (λ l. IsCalled (granted_of lease) l after told) k.owns called)

  pub at_home_before : In (at_home k.b.lane) old.lanes
  at_home_before = subst (λ o. In (record { lane = k.b.lane; out = o }) old.lanes) k.lent.free k.lent.home

  abbrev pub made : CallMade number old.entries old.lanes
  made = record {
    path = k.path;
    token = k.token;
    request = k.request;
    repeated = k.repeated;
    lane = k.b.lane;
    chosen = k.chosen;
    home = at_home_before;
    after = after;
    told = told;
    called = was_called;
  }

  -- it is the answer of a lease that the book has out
  pub is_back : IsBack lent.lanes after told
  is_back = record {
    before = k.b.lane;
    out = subst (λ c. In (lent_for c k.b.lane) lent.lanes) (sym was_called.granted_is) (subst (In (lent_for call k.b.lane)) (sym k.lent.lanes) out_there);
    called = subst (λ c. IsCalled c k.b.lane after told) (sym was_called.granted_is) was_called;
  } where
    out_there : In (lent_for call k.b.lane) (lent_out call k.b.lane old.lanes)
    out_there =
        subst (λ t. In (cond t (lent_for call k.b.lane) k.b) (lent_out call k.b.lane old.lanes)) (same_bytes k.b.lane.name)
        (in_map (with_lane k.b.lane.name (lent_for call k.b.lane)) k.b old.lanes k.lent.home)

  module _ (new : BookNow D) (durable : IsDurable d lent (lane_now h (leased_lane lease)).name (granted_of lease)) (home : IsHome lent new after) (before : KeepsMoments d old lent) (behind : KeepsMoments d lent new)
      (keeps : KeepsDisk d old lent) where
    lanes_are : new.lanes ≡ come_home after old.lanes
    lanes_are = home.lanes ∙ ap (come_home after) k.lent.lanes ∙ home_again after k.b.lane call old.lanes was_called.name

    pub none_out : NoneOut new.lanes
    none_out = subst NoneOut (sym lanes_are) (all_home after old.lanes rest.none_out)

    pub same_lanes : AreSameLanes old.lanes new.lanes
    same_lanes = subst (AreSameLanes old.lanes) (sym lanes_are) (same_home after k.b.lane old.lanes at_home_before rest.differ was_called.name was_called.schema)

    to_lent : Extends old.entries lent.entries
    to_lent = subst (Extends old.entries) (sym k.entries) (extends_doubt old.entries (entry_for number (next.Step k.path k.b.lane.name k.token k.request k.repeated)))

    abbrev intends : Extends lent.entries new.entries → IsIntended d number old new made
    intends x = record {
      lent = lent;
      entries = k.entries;
      fits = k.fits;
      certain = k.certain;
      durable =
          subst (IsDurable d lent k.b.lane.name) (sym called.granted_is) (subst (λ (l : LaneNow). IsDurable d lent l.name (granted_of lease)) k.owns durable);
      before = grows_by d old lent to_lent before;
      after = grows_by d lent new x behind;
    }

    -- its outcome was written
    pub record IsSettled : Type 0 where
      pub round : Round d number old new
      pub grown : Extends old.entries new.entries
      pub none : NoneOut new.lanes
      pub same : AreSameLanes old.lanes new.lanes
      pub certain : new.doubt ≡ None

    outcome : (r : Reply) → reply_for told.answer ≡ Some r → Fits d lent.disk (outcome_by told r) → IsOutcome d number old made lent r
    outcome r q fits = record {
      reply = q;
      follows = subst (λ es. MayFollow schemas (world_left es) (k.token ∷ []) (outcome_by told r)) k.entries follows;
      fits = fits;
    } where
      schemas : List Schema
      schemas = schemas_of (map home_of old.lanes)

      granted : granted_in told ≡ granted_of lease
      granted = called.granted_is

      token_is : told.token ≡ k.token
      token_is = ap (λ (c : Granted). c.token) granted ∙ ap (λ (c : Granted). c.token) k.granted

      open_call : IsOpenCall lent.entries (lane_now h (leased_lane lease)).name (granted_in told)
      open_call = subst (IsOpenCall lent.entries (lane_now h (leased_lane lease)).name) (sym granted) durable.open_call

      moving : is_in_progress open_call.stack.status ≡ true
      moving =
          second_so (open_call.stack.operation == told.number) (is_in_progress open_call.stack.status)
          (found_passes (λ (p : List ℕ × StackState). is_going told.number p.1) (world_left lent.entries).stacks (open_call.name, open_call.stack) open_call.going)

      stage : (t : Stage) × (stage_of open_call.stack.status ≡ Some t)
      stage = by (stage_of open_call.stack.status) moving where
        by : (o : Option Stage) → is_some o ≡ true → (t : Stage) × (o ≡ Some t)
        by (Some t) e = (t, refl)
        by None e = let never : ⊥ = cc in absurd never

      pending : is_some (pending_of told.token open_call.stack) ≡ true
      pending =
          ap is_some (is_found_in (has_token told.token) open_call.stack.tokens
          (record { token = told.token; path = open_call.path; lane = (lane_now h (leased_lane lease)).name; request = told.request }) open_call.pending
          (eq-eqb told.token told.token refl)).1

      flies : is_in_flight (k.token ∷ []) told.token ≡ true
      flies = ap (λ b. (b || false)) (eq-eqb told.token k.token token_is)

      follows : MayFollow schemas (world_left lent.entries) (k.token ∷ []) (outcome_by told r)
      follows = (open_call.name, open_call.stack, stage.0, open_call.going, stage.1, (flies, pending, counted told.answer r told.before told.after called.cause q))

    pub settled : (T : Type 0) (o : Option Reply) (x : T) → reply_for told.answer ≡ o → SettlesReply {T = T} d lent new after told o (Ok x) → IsSettled
    settled T (Some r) x q w = record {
      round =
          Round.calls made r (intends (outcome_by told r ∷ [], w.0)) (outcome r q w.2) (w.0 ∙ ap (λ es. es ++ outcome_by told r ∷ []) k.entries)
          lanes_are;
      grown = extends_on old.entries lent.entries new.entries to_lent (outcome_by told r ∷ [], w.0);
      none = none_out;
      same = same_lanes;
      certain = w.1 ∙ k.certain;
    }
    settled T None x q w = absurd w

    -- or it was not, and the book stops
    pub lacks : (T : Type 0) (o : Option Reply) (fault : StopFault) → SettlesReply {T = T} d lent new after told o (Err fault)
        → (new.entries ≡ lent.entries) × LacksOutcome d lent.disk old new after told o fault
    lacks T (Some r) (stop.Full l need room) w = (w.0, stopped_writing d lent new (outcome_by told r) (stop.Full l need room) k.certain w.1)
    lacks T (Some r) stop.DiskFault w = (w.0, (risen_since (d.count old.disk) (d.count lent.disk) (d.count new.disk) keeps.count w.1.0, w.1.1, w.1.2))
    lacks T (Some r) (stop.LaneAhead lane fence epoch) w = absurd w.1
    lacks T (Some r) stop.NoMemory w = absurd w.1
    lacks T None fault w =
        (w.0.entries, (w.0.doubt ∙ k.certain, subst (λ ls. StopsCall ls after told fault) (sym home.lanes) (stops_home after lent.lanes told fault w.1)))

    pub call_stops : (T : Type 0) (fault : StopFault) → SettlesReply {T = T} d lent new after told (reply_for told.answer) (Err fault) → StopsAfter d number old new fault
    call_stops T fault w =
        let (same, lacking) = lacks T (reply_for told.answer) fault w in
        (made, intends ([], same ∙ sym (append-nil lent.entries)), same ∙ k.entries, lanes_are, lacking)

    pub grown_in_stop : (T : Type 0) (fault : StopFault) → SettlesReply {T = T} d lent new after told (reply_for told.answer) (Err fault) → Extends old.entries new.entries
    grown_in_stop T fault w = subst (Extends old.entries) (sym (lacks T (reply_for told.answer) fault w).0) to_lent
