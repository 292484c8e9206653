-- What one round of a run comes to, by what `grant` and `settle` answer.
use Rattle.std.proofs.Common.{◌≡◌, inl, inr, ℕ, ◌<◌, ◌^◌, true, List, [], ◌∷◌, ◌++◌, length, Option, Some, None, Result, Ok, Err, map, refl, sym, ◌∙◌, ap, subst, cond, false, Bool}
use Rattle.std.specs.Str.{bytes_eq}
use Rattle.cf_tree.specs.Named.{all_differ}
use Rattle.cf_disk.specs.declared.disk.Disk.{Ghosts as DiskGhosts}
use Rattle.cf_handler.specs.declared.handler.Handler.{Ghosts as HandlerGhosts}
use Rattle.cf_tree.specs.Lists.{In, is_among}
use Rattle.cf_tree.specs.Lists.In.{here, there}
use Rattle.cf_entry.specs.declared.entry.Entry.{Entry}
use Rattle.cf_entry.specs.declared.entry.Entry.TheVariants as entry
use Rattle.cf_entry.specs.declared.entry.Reply.{Reply}
use Rattle.cf_next.specs.Chosen.{entry_for}
use Rattle.cf_next.specs.declared.step.Next.TheVariants as next
use Rattle.cf_plan.proofs.Differ.{one_id}
use Rattle.cf_plan.proofs.Listed.{bytes_same}
use Rattle.cf_entry.specs.declared.status.Status.{Status}
use Rattle.cf_schema.specs.declared.described.Schema.{Schema}
use Rattle.cf_lane.specs.Calling.{Granted, IsCalled, granted_in, granted_of, leased_lane}
use Rattle.cf_lane.specs.Lanes.{LaneNow, lane_now}
use Rattle.cf_lane.specs.declared.lease.Lease.{Lease}
use Rattle.cf_lane.specs.declared.told.Told.{Told}
use Rattle.cf_plan.specs.Life.{Life}
use Rattle.cf_core.specs.Theorem.{HoldsAlways}
use Rattle.cf_book.specs.Calls.{IsBack, IsHome, SettlesBy, SettlesIn, SettlesLife, SettlesReply, stopped_by}
use Rattle.std.proofs.lemmas.List.Sums.{fold-append}
use Rattle.cf_book.specs.Ended.{end_status, ended_in, with_end}
use Rattle.cf_book.specs.Events.{outcome_by, reply_for}
use Rattle.cf_book.specs.Granting.{GrantsAs, GrantsIn, GrantsStep, HasBegun, IsDurable, NeverStuck}
use Rattle.cf_book.specs.Record.{KeepsDisk, KeepsMoments, KnowsDisk, with_doubt}
use Rattle.cf_book.specs.State.{BookLane, BookNow, NoneOut, at_home, lent_for, lent_out, with_lane}
use Rattle.cf_book.specs.Lives.{AreEntriesOf, StandsFor}
use Rattle.cf_book.specs.declared.granting.Grant.{Grant}
use Rattle.cf_book.specs.declared.granting.Grant.TheVariants as grant
use Rattle.cf_book.specs.declared.stop.StopFault.{StopFault}
use Rattle.cf_book.specs.declared.stop.StopFault.TheVariants as stop
use Rattle.cf_workers.specs.declared.drive.Drove.TheVariants.{Over, Stopped}
use Rattle.cf_workers.specs.Growing.{Extends}
use Rattle.cf_workers.specs.Driving.{AreSameLanes, IsAtRest, LacksOutcome, StopsBefore, name_and_schema, names_of}
use Rattle.cf_workers.specs.Leading.{GoesOn, IsStretch, LeadsWith}
use Rattle.cf_workers.proofs.Crashes.{extends_doubt, extends_itself}
use Rattle.cf_workers.proofs.Runs.{stretch_on}
use Rattle.cf_workers.proofs.Driven.{IsCallNext, IsMoved, IsOn, IsOverNow, at_home_before, call, call_stops, grant_ends, grant_lends, grant_moves, grant_stops, grows_by, is_back, lacks, never_idle, none_out, same_lanes, settled, with_head}
use Rattle.cf_workers.proofs.Leading.{same_names}
use Rattle.cf_workers.proofs.Lives.{IsCertainBut, among, grant_answers, grant_halts, parks_lead, settled_lead, unsettled_lead}

-- what a grant answered, and what it left
pub record IsGrant {D H : Type 0} (d : DiskGhosts D) (h : HandlerGhosts H) (number : ℕ) (old new : BookNow D) (result : Result (Grant H) StopFault) : Type 0 where
  pub stopped : new.stopped ≡ stopped_by old.stopped result
  pub grants : GrantsAs d h old new number old.stopped result
  pub begun : HasBegun new.entries number
  pub disk : KeepsDisk d old new
  pub bounded : length old.entries < 2 ^ 64
  pub moments : KeepsMoments d old new
  pub known : KnowsDisk d new
  pub moves : (schemas : List Schema) (life : Life) → GrantsIn schemas life old new number result
  pub never : (schemas : List Schema) (life : Life) → NeverStuck schemas life old number

module _ {D H : Type 0} (d : DiskGhosts D) (h : HandlerGhosts H) (number : ℕ) (old new : BookNow D) (rest : IsAtRest d old) where
  steps : (result : Result (Grant H) StopFault) → IsGrant d h number old new result → GrantsStep d h old new number (end_status number (ended_in old.entries)) result
  steps result k = subst (λ o. GrantsAs d h old new number o result) rest.running k.grants

  runs : (f : Grant H) → IsGrant d h number old new (Ok f) → new.stopped ≡ None
  runs f k = k.stopped ∙ ap (λ o. stopped_by {T = Grant H} o (Ok f)) rest.running

  halts : (fault : StopFault) → IsGrant d h number old new (Err fault) → new.stopped ≡ Some fault
  halts fault k = k.stopped ∙ ap (λ o. stopped_by {T = Grant H} o (Err fault)) rest.running

  rests_with : (f : Grant H) → IsGrant d h number old new (Ok f) → new.lanes ≡ old.lanes → new.doubt ≡ None → IsAtRest d new
  rests_with f k lanes certain = record {
    running = runs f k;
    none_out = subst NoneOut (sym lanes) rest.none_out;
    certain = certain;
    known = k.known;
    differ = subst (λ (ls : List BookLane). all_differ bytes_eq (names_of ls) ≡ true) (sym lanes) rest.differ;
  }

  stretched : (f : Grant H) → IsGrant d h number old new (Ok f) → new.lanes ≡ old.lanes → new.doubt ≡ None → Extends old.entries new.entries → IsStretch d old new
  stretched f k lanes certain grown = record {
    leads = λ schemas life described stands holds es is.
        grant_answers old new schemas life number rest.certain stands (Grant H) f certain (k.moves schemas life described stands holds) es is;
    grows = grows_by d old new grown k.moments;
    grown = grown;
    disk = k.disk;
    lanes = ap (map name_and_schema) lanes;
  }

  -- a resource is kept, or a phase begins
  pub goes_moved : (f : Grant H) → f ≡ grant.Moved → IsGrant d h number old new (Ok f) → GoesOn d number old new None
  goes_moved f is given =
      let k : IsGrant d h number old new (Ok grant.Moved) = subst (λ x. IsGrant d h number old new (Ok x)) is given in
      let on : IsOn d h number old new rest k.never = grant_moves d h number old new rest k.never (end_status number (ended_in old.entries)) (steps (Ok grant.Moved) k) in
      let m : IsMoved d h number old new rest k.never = on.moved in
      record {
        tells = (m.round, rests_with grant.Moved k m.lanes m.certain, k.begun, on.same);
        stretch = stretched grant.Moved k m.lanes m.certain m.grown;
        bounded = k.bounded;
      }

  -- the operation is over
  pub goes_over : (f : Grant H) (status : Status) → f ≡ grant.Over status → IsGrant d h number old new (Ok f) → GoesOn d number old new (Some (Over status))
  goes_over f status is given =
      let k : IsGrant d h number old new (Ok (grant.Over status)) = subst (λ x. IsGrant d h number old new (Ok x)) is given in
      let m : IsOverNow d h number old new rest k.never status =
      grant_ends d h number old new rest k.never (end_status number (ended_in old.entries)) status refl (steps (Ok (grant.Over status)) k) in
      record {
        tells = (rests_with (grant.Over status) k m.lanes m.certain, m.ended, m.how);
        stretch = stretched (grant.Over status) k m.lanes m.certain m.grown;
        bounded = k.bounded;
      }

  -- it never waits
  pub goes_nowhere : (f : Grant H) → f ≡ grant.Idle → IsGrant d h number old new (Ok f) → ⊥
  goes_nowhere f is given =
      let k : IsGrant d h number old new (Ok grant.Idle) = subst (λ x. IsGrant d h number old new (Ok x)) is given in
      never_idle d h number old new rest k.never (end_status number (ended_in old.entries)) (steps (Ok grant.Idle) k)

  -- the book stops before the step
  doubts : (fault : StopFault) → StopsBefore d number old new fault → IsCertainBut fault new
  doubts (stop.Full long need room) (same, lanes, inl (q, none, l)) = none
  doubts (stop.Full l need room) (same, lanes, inr (n, e, c, q, w)) = w.0
  doubts stop.DiskFault s = tt
  doubts (stop.LaneAhead lane fence epoch) (same, lanes, inl (q, none, l)) = none
  doubts (stop.LaneAhead lane fence epoch) (same, lanes, inr (n, e, c, q, w)) = absurd w
  doubts stop.NoMemory (same, lanes, inl (q, none, l)) = none
  doubts stop.NoMemory (same, lanes, inr (n, e, c, q, w)) = absurd w

  pub goes_stopped : (fault : StopFault) → IsGrant d h number old new (Err fault) → GoesOn d number old new (Some (Stopped fault))
  goes_stopped fault k =
      let s : StopsBefore d number old new fault = grant_stops d h number old new rest k.never (end_status number (ended_in old.entries)) fault (steps (Err fault) k) in
      let grown : Extends old.entries new.entries = subst (Extends old.entries) (sym s.0) (extends_itself old.entries) in
      record {
        tells = (halts fault k, subst NoneOut (sym s.1) rest.none_out, k.known, inl s);
        stretch = record {
          leads = λ schemas life described stands holds es is.
              grant_halts old new schemas life number rest.certain stands (Grant H) fault s.0 (doubts fault s) (k.moves schemas life described stands holds) es is;
          grows = grows_by d old new grown k.moments;
          grown = grown;
          disk = k.disk;
          lanes = ap (map name_and_schema) s.1;
        };
        bounded = k.bounded;
      }

-- What settling a call answered, and what it left.
pub record IsSettle {D T : Type 0} (d : DiskGhosts D) (lent new : BookNow D) (after : LaneNow) (told : Told) (result : Result T StopFault) : Type 0 where
  pub home : IsHome lent new after
  pub stopped : new.stopped ≡ stopped_by lent.stopped result
  pub settles : SettlesBy d lent new after told lent.stopped result
  pub begun : (number : ℕ) → HasBegun lent.entries number → HasBegun new.entries number
  pub disk : KeepsDisk d lent new
  pub moments : KeepsMoments d lent new
  pub known : KnowsDisk d new
  pub moves : (schemas : List Schema) (life : Life) → SettlesIn schemas life lent new after told result

-- a lane that is lent keeps its name and schema
same_lent : (was : LaneNow) (call : Granted) (lanes : List BookLane) → In (at_home was) lanes → all_differ bytes_eq (names_of lanes) ≡ true → AreSameLanes lanes (lent_out call was lanes)
same_lent was call lanes i differ = all lanes each where
  each : (b : BookLane) → In b lanes → bytes_eq was.name b.lane.name ≡ true → was.schema ≡ b.lane.schema
  each b j t = ap (λ (x : BookLane). x.lane.schema) (one_id (λ (x : BookLane). x.lane.name) lanes differ (at_home was) b i j (bytes_same was.name b.lane.name t))

  all : (ls : List BookLane) → ((b : BookLane) → In b ls → bytes_eq was.name b.lane.name ≡ true → was.schema ≡ b.lane.schema) → AreSameLanes ls (lent_out call was ls)
  all [] same = refl
  all (b ∷ bs) same =
      with_head (name_and_schema (with_lane was.name (lent_for call was) b)) (name_and_schema b) (map name_and_schema (lent_out call was bs)) (map name_and_schema bs)
      (one (bytes_eq was.name b.lane.name) refl) (all bs (λ a j. same a (there j))) where
        one : (t : Bool) → bytes_eq was.name b.lane.name ≡ t → name_and_schema (cond t (lent_for call was) b) ≡ name_and_schema b
        one true q = ap (λ n. (n, was.schema)) (bytes_same was.name b.lane.name q) ∙ ap (λ k. (b.lane.name, k)) (same b here q)
        one false q = refl

-- why an outcome is not there says what is in doubt
certain_but : {D : Type 0} (d : DiskGhosts D) (disk : D) (old new : BookNow D) (after : LaneNow) (told : Told) (o : Option Reply) (fault : StopFault)
    → LacksOutcome d disk old new after told o fault
    → IsCertainBut fault new
certain_but d disk old new after told (Some r) (stop.Full l need room) w = w.0
certain_but d disk old new after told (Some r) stop.DiskFault w = tt
certain_but d disk old new after told (Some r) (stop.LaneAhead lane fence epoch) w = absurd w
certain_but d disk old new after told (Some r) stop.NoMemory w = absurd w
certain_but d disk old new after told None (stop.Full l need room) w = w.0
certain_but d disk old new after told None stop.DiskFault w = tt
certain_but d disk old new after told None (stop.LaneAhead lane fence epoch) w = w.0
certain_but d disk old new after told None stop.NoMemory w = w.0

module _ {D H : Type 0} (d : DiskGhosts D) (h : HandlerGhosts H) (number : ℕ) (old lent : BookNow D) (rest : IsAtRest d old) (f : Grant H) (lease : Lease H) (is : f ≡ grant.Lease lease)
    (given : IsGrant d h number old lent (Ok f)) where
  abbrev granted : IsGrant d h number old lent (Ok (grant.Lease lease))
  granted = subst (λ x. IsGrant d h number old lent (Ok x)) is given

  pub called_next : IsCallNext d h number old lent rest granted.never lease
  called_next = grant_lends d h number old lent rest granted.never (end_status number (ended_in old.entries)) lease (steps d h number old lent rest (Ok (grant.Lease lease)) granted)

  lent_runs : lent.stopped ≡ None
  lent_runs = runs d h number old lent rest (grant.Lease lease) granted

  module _ (after : LaneNow) (told : Told) (called : IsCalled (granted_of lease) (lane_now h (leased_lane lease)) after told) where
    -- the book has the lease out whose answer it is
    pub may_settle : IsBack lent.lanes after told
    may_settle = is_back d h number old lent rest granted.never lease called_next after told called

    module _ (new : BookNow D) (durable : IsDurable d lent (lane_now h (leased_lane lease)).name (granted_of lease)) where
      to_lent : Extends old.entries lent.entries
      to_lent =
          subst (Extends old.entries) (sym called_next.entries)
          (extends_doubt old.entries (entry_for number (next.Step called_next.path called_next.b.lane.name called_next.token called_next.request called_next.repeated)))

      lent_same : AreSameLanes old.lanes lent.lanes
      lent_same =
          subst (AreSameLanes old.lanes) (sym called_next.lent.lanes)
          (same_lent called_next.b.lane (call d h number old lent rest granted.never lease called_next after told called) old.lanes (at_home_before d h number old lent rest granted.never lease called_next after told called) rest.differ)

      lent_ends : ended_in lent.entries ≡ ended_in old.entries
      lent_ends = ap ended_in called_next.entries ∙ by called_next.repeated where
        by : (b : Bool) → ended_in (with_doubt old.entries (entry_for number (next.Step called_next.path called_next.b.lane.name called_next.token called_next.request b))) ≡ ended_in old.entries
        by true = refl
        by false = fold-append with_end [] old.entries (entry.Intent number called_next.token called_next.b.lane.name called_next.path called_next.request ∷ [])

      to_lent_stretch : IsStretch d old lent
      to_lent_stretch = record {
        leads = λ schemas life described stands holds es at.
            grant_answers old lent schemas life number rest.certain stands (Grant H) (grant.Lease lease) called_next.certain (granted.moves schemas life described stands holds) es at;
        grows = grows_by d old lent to_lent granted.moments;
        grown = to_lent;
        disk = granted.disk;
        lanes = lent_same;
      }

      mine : is_among after.name (names_of lent.lanes) ≡ true
      mine =
          subst (λ n. is_among n (names_of lent.lanes) ≡ true) (sym may_settle.called.name) (among lent.lanes (lent_for (granted_in told) may_settle.before) may_settle.out)

      module _ (T : Type 0) (result : Result T StopFault) (k : IsSettle d lent new after told result) where
        settled_reply : SettlesReply d lent new after told (reply_for told.answer) result
        settled_reply = subst (λ o. SettlesBy d lent new after told o result) lent_runs k.settles

        new_same : AreSameLanes old.lanes new.lanes
        new_same = same_lanes d h number old lent rest granted.never lease called_next after told called new durable k.home granted.moments k.moments granted.disk

        home_same : AreSameLanes lent.lanes new.lanes
        home_same = new_same ∙ sym lent_same

        new_none : NoneOut new.lanes
        new_none = none_out d h number old lent rest granted.never lease called_next after told called new durable k.home granted.moments k.moments granted.disk

        moves_now : (schemas : List Schema) (life : Life) → StandsFor lent life → HoldsAlways schemas life → SettlesLife schemas life new after told None (reply_for told.answer) result
        moves_now schemas life stands holds = subst (λ o. SettlesLife schemas life new after told o (reply_for told.answer) result) lent_runs (k.moves schemas life stands holds)

        lanes_differ : all_differ bytes_eq (names_of new.lanes) ≡ true
        lanes_differ = ap (all_differ bytes_eq) (same_names old.lanes new.lanes new_same) ∙ rest.differ

        back_names : names_of new.lanes ≡ names_of lent.lanes
        back_names = same_names lent.lanes new.lanes home_same

        whole : IsStretch d lent new → IsStretch d old new
        whole s = stretch_on d old lent new called_next.certain to_lent_stretch s

      -- no operation ends in it
      ends_same : (e : Entry) → with_end (ended_in lent.entries) e ≡ ended_in lent.entries → new.entries ≡ lent.entries ++ e ∷ [] → ended_in new.entries ≡ ended_in old.entries
      ends_same e q w = ap ended_in w ∙ fold-append with_end [] lent.entries (e ∷ []) ∙ q ∙ lent_ends

      -- its outcome is written
      pub goes_called : (T : Type 0) (x : T) → IsSettle {T = T} d lent new after told (Ok x) → GoesOn d number old new None
      goes_called T x k = by (reply_for told.answer) refl where
        by : (o : Option Reply) → reply_for told.answer ≡ o → GoesOn d number old new None
        by None q = absurd (subst (λ o. SettlesReply {T = T} d lent new after told o (Ok x)) q (settled_reply T (Ok x) k))
        by (Some r) q =
            let w : SettlesReply {T = T} d lent new after told (Some r) (Ok x) = subst (λ o. SettlesReply {T = T} d lent new after told o (Ok x)) q (settled_reply T (Ok x) k) in
            let s = settled d h number old lent rest granted.never lease called_next after told called new durable k.home granted.moments k.moments granted.disk T (Some r) x q w in
            record {
              tells = (
                s.round,
                record {
                  running = k.stopped ∙ ap (λ o. stopped_by {T = T} o (Ok x)) lent_runs;
                  none_out = s.none;
                  certain = s.certain;
                  known = k.known;
                  differ = lanes_differ T (Ok x) k;
                },
                k.begun number granted.begun,
                ends_same (outcome_by told r) refl w.0,
              );
              stretch = whole T (Ok x) k (record {
                leads = λ schemas life described stands holds es at.
                    settled_lead lent new schemas life after told called_next.certain stands mine (back_names T (Ok x) k) T r x s.certain
                    (subst (λ o. SettlesLife {T = T} schemas life new after told None o (Ok x)) q (moves_now T (Ok x) k schemas life stands holds)) es at;
                grows = grows_by d lent new (outcome_by told r ∷ [], w.0) k.moments;
                grown = (outcome_by told r ∷ [], w.0);
                disk = k.disk;
                lanes = home_same T (Ok x) k;
              });
              bounded = granted.bounded;
            }

      -- or it could not be, or there is none
      pub goes_unsettled : (T : Type 0) (fault : StopFault) → IsSettle {T = T} d lent new after told (Err fault) → GoesOn d number old new (Some (Stopped fault))
      goes_unsettled T fault k =
          let w : SettlesReply {T = T} d lent new after told (reply_for told.answer) (Err fault) = settled_reply T (Err fault) k in
          let lacking = lacks d h number old lent rest granted.never lease called_next after told called new durable k.home granted.moments k.moments granted.disk T (reply_for told.answer) fault w in
          let grown : Extends lent.entries new.entries = subst (Extends lent.entries) (sym lacking.0) (extends_itself lent.entries) in
          record {
            tells = (
              k.stopped ∙ ap (λ o. stopped_by {T = T} o (Err fault)) lent_runs,
              new_none T (Err fault) k,
              k.known,
              inr (call_stops d h number old lent rest granted.never lease called_next after told called new durable k.home granted.moments k.moments granted.disk T fault w),
            );
            stretch = whole T (Err fault) k (record {
              leads = λ schemas life described stands holds es at.
                  leads_back schemas life stands (reply_for told.answer) refl lacking.0 (certain_but d lent.disk old new after told (reply_for told.answer) fault lacking.1)
                  (lacks_none lacking.1) (moves_now T (Err fault) k schemas life stands holds) es at;
              grows = grows_by d lent new grown k.moments;
              grown = grown;
              disk = k.disk;
              lanes = home_same T (Err fault) k;
            });
            bounded = granted.bounded;
          }
        where
          lacks_none : LacksOutcome d lent.disk old new after told (reply_for told.answer) fault → reply_for told.answer ≡ None → new.doubt ≡ None
          lacks_none l q = (subst (λ o. LacksOutcome d lent.disk old new after told o fault) q l).0

          leads_back : (schemas : List Schema) (life : Life) → StandsFor lent life → (o : Option Reply) → reply_for told.answer ≡ o → new.entries ≡ lent.entries → IsCertainBut fault new
              → (reply_for told.answer ≡ None → new.doubt ≡ None) → SettlesLife {T = T} schemas life new after told None (reply_for told.answer) (Err fault) → (es : List Entry)
              → AreEntriesOf new es → LeadsWith schemas life new es
          leads_back schemas life stands (Some r) q same but none l =
              unsettled_lead lent new schemas life after told called_next.certain stands mine (back_names T (Err fault) k) T r fault same but
              (subst (λ o. SettlesLife {T = T} schemas life new after told None o (Err fault)) q l)
          leads_back schemas life stands None q same but none l =
              parks_lead lent new schemas life after told called_next.certain stands mine (back_names T (Err fault) k) (none q)
              (subst (λ o. SettlesLife {T = T} schemas life new after told None o (Err fault)) q l)
