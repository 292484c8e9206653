-- The calls of a run: each had its Intent in the journal, where it stays, and lanes change by their fences and these calls alone.
use Rattle.std.proofs.Common.{◌≡◌, ◌⊎◌, inl, inr, ℕ, suc, zero, ◌≤◌, Bool, true, false, cond, List, [], ◌∷◌, ◌++◌, Result, Ok, Err, map, refl, sym, ◌∙◌, ap, subst, append-nil, true≢false, arith}
use Rattle.std.specs.Bool.{IsTrue}
use Rattle.std.specs.Str.{bytes_eq}
use Rattle.cf_tree.specs.Lists.{In}
use Rattle.cf_tree.specs.Lists.In.{here, there}
use Rattle.cf_tree.specs.declared.request.Request.{Request}
use Rattle.cf_disk.specs.declared.disk.Disk.{Ghosts as DiskGhosts}
use Rattle.cf_handler.specs.declared.fence.FenceAnswer.{FenceAnswer}
use Rattle.cf_handler.specs.declared.fence.FenceAnswer.TheVariants as fence
use Rattle.cf_handler.specs.declared.handler.Handler.{Ghosts as HandlerGhosts}
use Rattle.cf_entry.specs.declared.entry.Entry.{Entry}
use Rattle.cf_entry.specs.declared.entry.Entry.TheVariants as entry
use Rattle.cf_entry.specs.declared.status.Status.{Status}
use Rattle.cf_journal.proofs.Moments.{weaker}
use Rattle.cf_effect.specs.World.{StackState, is_going}
use Rattle.cf_effect.specs.declared.held.Pending.{Pending}
use Rattle.cf_lane.specs.Calling.{Granted, IsCalled}
use Rattle.cf_lane.specs.Lanes.{LaneNow, lane_with}
use Rattle.cf_lane.specs.declared.told.Told.{Told}
use Rattle.cf_plan.proofs.CreatedStays.{found_one}
use Rattle.cf_plan.proofs.Differ.{one_id}
use Rattle.cf_plan.proofs.Listed.{bytes_same, in_cons, in_last, in_map, in_none, same_bytes}
use Rattle.cf_plan.proofs.Members.{false_from}
use Rattle.cf_plan.proofs.RunLists.{in_end}
use Rattle.cf_core.proofs.Sent.{intents_told}
use Rattle.cf_next.specs.Chosen.{entry_for, leases_of, schemas_of}
use Rattle.cf_next.specs.declared.step.Next.TheVariants as next
use Rattle.cf_book.proofs.Called.{repeat_listed}
use Rattle.cf_book.specs.Events.{outcome_by}
use Rattle.cf_book.specs.Fences.{EachRaised, StopsRaising, handed_in}
use Rattle.cf_book.specs.Granting.{ComesNext}
use Rattle.cf_book.specs.Record.{with_doubt, world_left}
use Rattle.cf_book.specs.State.{BookLane, BookNow, at_home, come_home, home_of}
use Rattle.cf_book.specs.declared.stop.StopFault.{StopFault}
use Rattle.cf_workers.specs.Counting.{AreFewIn, calls_in}
use Rattle.cf_workers.specs.Growing.{Extends, IsBetween}
use Rattle.cf_workers.specs.Driving.{CallAt, CallMade, Course, DrivesTo, Grows, IsAtRest, IsIntended, Round, call_at, calls_of, calls_on, intended, names_of, step_of}
use Rattle.cf_workers.specs.declared.drive.Drove.{Drove}
use Rattle.cf_workers.specs.declared.drive.Drove.TheVariants.{Over, Stopped}
use Rattle.cf_workers.proofs.Courses.{on_more, rests}
use Rattle.cf_workers.proofs.Crashes.{extends_doubt, extends_itself, extends_on, joined}
use Rattle.cf_workers.proofs.FewCalls.{none_few}
use Rattle.cf_workers.proofs.Wrote.{lane_in, lanes_in}
use Rattle.cf_workers.specs.Intending.{AfterCalls, AreAfterCalls, BeginsWith, HasIntent, IsIntendedIn, without_log}
use Rattle.cf_prepare.specs.declared.wish.Order.{Order}
use Rattle.cf_workers.specs.Ordering.{DrivesFew, RunsOrder, WasBegun}

-- The call that comes next has its Intent among the entries: it is written now, or is made again and so open already.
asked : {number : ℕ} {es : List Entry} {lanes : List BookLane} (made : CallMade number es lanes) (n : ℕ)
    → In (entry.Intent n made.token made.lane.name made.path made.request) (intended made) → HasIntent (intended made) (call_at made)
asked made n i = (
  n,
  subst (λ (c : Granted). In (entry.Intent n c.token made.lane.name made.path c.request) (intended made)) (sym made.called.granted_is) i,
)

intent_there : (number : ℕ) (es : List Entry) (lanes : List BookLane) (path lane : List ℕ) (token : ℕ) (r : Request) (repeated : Bool)
    → ComesNext lanes es number (next.Step path lane token r repeated)
    → (n : ℕ) × In (entry.Intent n token lane path r) (with_doubt es (entry_for number (next.Step path lane token r repeated)))
intent_there number es lanes path lane token r false comes = (number, in_end (entry.Intent number token lane path r) es)
intent_there number es lanes path lane token r true (name, s, stage, on, is, c) =
    let p : Pending = record { token = token; path = path; lane = lane; request = r } in
    let stands = (found_one (λ (q : List ℕ × StackState). is_going number q.1) (world_left es).stacks (name, s) on).0 in
    intents_told es (name, s) stands p
    (repeat_listed (schemas_of (map home_of lanes)) name (world_left es) (leases_of (map home_of lanes)) s stage p c.may.repeats)

intent_of : {number : ℕ} {es : List Entry} {lanes : List BookLane} (made : CallMade number es lanes) → HasIntent (intended made) (call_at made)
intent_of {number} {es} {lanes} made =
    let i = intent_there number es lanes made.path made.lane.name made.token made.request made.repeated made.chosen in asked made i.0 i.1

-- lanes after calls, in their order
abbrev pub AreCalls : List LaneNow → List LaneNow → Type 0
AreCalls [] [] = Unit {0}
AreCalls (b ∷ bs) (a ∷ more) = AfterCalls b a × AreCalls bs more
AreCalls _ _ = ⊥

pub calls_none : (ls : List LaneNow) → AreCalls ls ls
calls_none [] = tt
calls_none (l ∷ ls) = (AfterCalls.none_made, calls_none ls)

-- a lane came home from its call: the others are as they were
module _ (was after : LaneNow) (granted : Granted) (call : Told) (called : IsCalled granted was after call) where
  abbrev Alone : List BookLane → Type 0
  Alone lanes = (b : BookLane) → In b lanes → bytes_eq after.name b.lane.name ≡ true → b.lane ≡ was

  calls_home : (first : List LaneNow) (lanes : List BookLane) → Alone lanes → AreCalls first (lanes_in lanes) → AreCalls first (lanes_in (come_home after lanes))
  calls_home [] [] alone k = tt
  calls_home [] (b ∷ bs) alone k = absurd k
  calls_home (f ∷ fs) [] alone k = absurd k
  calls_home (f ∷ fs) (b ∷ bs) alone k = (one (bytes_eq after.name b.lane.name) refl, calls_home fs bs (λ a i. alone a (there i)) k.1) where
    one : (t : Bool) → bytes_eq after.name b.lane.name ≡ t → AfterCalls f (cond t (at_home after) b).lane
    one true q = AfterCalls.one_more (subst (AfterCalls f) (alone b here q) k.0) called
    one false q = k.0

  in_home : (l : LaneNow) (lanes : List BookLane) → In l (lanes_in (come_home after lanes))
      → (In l (lanes_in lanes) × (bytes_eq after.name l.name ≡ false)) ⊎ (l ≡ after)
  in_home l [] i = absurd (in_none i)
  in_home l (b ∷ bs) i = by (bytes_eq after.name b.lane.name) refl (in_home l bs) (in_cons i) where
    by : (t : Bool) → bytes_eq after.name b.lane.name ≡ t
        → (In l (lanes_in (come_home after bs)) → (In l (lanes_in bs) × (bytes_eq after.name l.name ≡ false)) ⊎ (l ≡ after))
        → ((cond t (at_home after) b).lane ≡ l) ⊎ In l (lanes_in (come_home after bs))
        → (In l (lanes_in (b ∷ bs)) × (bytes_eq after.name l.name ≡ false)) ⊎ (l ≡ after)
    by true q more (inl e) = inr (sym e)
    by false q more (inl e) =
        inl (subst (λ (x : LaneNow). In x (lanes_in (b ∷ bs))) e here, ap (λ (x : LaneNow). bytes_eq after.name x.name) (sym e) ∙ q)
    by t q more (inr j) = elim (more j) [ inl k ↦ inl (there k.0, k.1) | inr k ↦ inr k ]

  -- and none has another name
  names_home : (lanes : List BookLane) → names_of (come_home after lanes) ≡ names_of lanes
  names_home [] = refl
  names_home (b ∷ bs) = one (bytes_eq after.name b.lane.name) refl ∙ ap (λ ns. b.lane.name ∷ ns) (names_home bs) where
    one : (t : Bool) → bytes_eq after.name b.lane.name ≡ t
        → (cond t (at_home after) b).lane.name ∷ names_of (come_home after bs) ≡ b.lane.name ∷ names_of (come_home after bs)
    one true q = ap (λ n. n ∷ names_of (come_home after bs)) (bytes_same after.name b.lane.name q)
    one false q = refl

-- the calls of a command, which began on this disk
module _ {D : Type 0} (g : DiskGhosts D) (start : D) where
  -- a call's Intent was there, and what was there then is there still
  pub record IsHeld (b : BookNow D) (c : CallAt) : Type 0 where
    pub intent : IsIntendedIn g start b.disk c
    pub stays : Extends intent.lent.entries b.entries

  -- The calls are those in the logs of the lanes, which come of the first ones by them.
  pub record AreHeld (first : List LaneNow) (b : BookNow D) (calls : List CallAt) : Type 0 where
    pub within : IsTrue g.tells → g.moment start ≤ g.moment b.disk
    pub lanes : AreCalls first (lanes_in b.lanes)
    pub each : (c : CallAt) → In c calls → IsHeld b c
    pub logs : (l : LaneNow) → In l (lanes_in b.lanes) → l.log ≡ calls_on l.name calls
    pub on : (c : CallAt) → In c calls → In c.lane (names_of b.lanes)

  held_on : (old new : BookNow D) (c : CallAt) → Grows g old new → Extends old.entries new.entries → IsHeld old c → IsHeld new c
  held_on old new c grows grown h =
      let lent : BookNow D = h.intent.lent in
      record {
        intent = record {
          lent = lent;
          intent = h.intent.intent;
          durable = h.intent.durable;
          within = h.intent.within;
          since = λ told.
              joined g.moment g.left_since lent.disk old.disk new.disk (BeginsWith lent.entries) (IsBetween old.entries (with_doubt new.entries new.doubt)) (BeginsWith lent.entries)
              (h.intent.since told) (grows told) (λ file p. p) (λ file i. (i.now, i.record_is, extends_on lent.entries old.entries i.now h.stays i.no_shorter));
        };
        stays = extends_on lent.entries old.entries new.entries h.stays grown;
      }

  held_now : (number : ℕ) (old new : BookNow D) (made : CallMade number old.entries old.lanes) → IsIntended g number old new made
      → (IsTrue g.tells → g.moment start ≤ g.moment old.disk) → Extends (intended made) new.entries → IsHeld new (call_at made)
  held_now number old new made intends within grown =
      let lent : BookNow D = intends.lent in
      record {
        intent = record {
          lent = lent;
          intent = subst (λ es. HasIntent es (call_at made)) (sym intends.entries) (intent_of made);
          durable = intends.durable;
          within = λ told. let first = within told in let second = (intends.before told).later in omega (arith, first, second);
          since = λ told.
              weaker g.moment g.left_since lent.disk new.disk (IsBetween lent.entries (with_doubt new.entries new.doubt)) (BeginsWith lent.entries) (intends.after told)
              (λ file i. (i.now, i.record_is, i.no_shorter));
        };
        stays = subst (λ es. Extends es new.entries) (sym intends.entries) grown;
      }

  module _ (first : List LaneNow) where
    later : (old new : BookNow D) (calls : List CallAt) → Grows g old new → AreHeld first old calls → IsTrue g.tells → g.moment start ≤ g.moment new.disk
    later old new calls grows so told = let before = so.within told in let after = (grows told).later in omega (arith, before, after)

    -- no lane is called
    held_moved : (old new : BookNow D) (calls : List CallAt) → new.lanes ≡ old.lanes → Grows g old new → Extends old.entries new.entries → AreHeld first old calls
        → AreHeld first new calls
    held_moved old new calls lanes grows grown so = record {
      within = later old new calls grows so;
      lanes = subst (λ (ls : List BookLane). AreCalls first (lanes_in ls)) (sym lanes) so.lanes;
      each = λ c i. held_on old new c grows grown (so.each c i);
      logs = λ l i. so.logs l (subst (λ (ls : List BookLane). In l (lanes_in ls)) lanes i);
      on = λ c i. subst (λ (ls : List BookLane). In c.lane (names_of ls)) (sym lanes) (so.on c i);
    }

    -- a call is made
    module _ (number : ℕ) (old new : BookNow D) (calls : List CallAt) (made : CallMade number old.entries old.lanes) (rest : IsAtRest g old)
        (intends : IsIntended g number old new made) (lanes : new.lanes ≡ come_home made.after old.lanes) (grows : Grows g old new)
        (grown : Extends (intended made) new.entries) (so : AreHeld first old calls) where
      abbrev more : List CallAt
      more = calls ++ call_at made ∷ []

      alone : (b : BookLane) → In b old.lanes → bytes_eq made.after.name b.lane.name ≡ true → b.lane ≡ made.lane
      alone b i q =
          ap (λ (x : BookLane). x.lane)
          (one_id (λ (x : BookLane). x.lane.name) old.lanes rest.differ b (at_home made.lane) i made.home (sym (bytes_same made.after.name b.lane.name q) ∙ made.called.name))

      grown_all : Extends old.entries new.entries
      grown_all = extends_on old.entries (intended made) new.entries (extends_doubt old.entries (entry_for number (step_of made))) grown

      names : names_of new.lanes ≡ names_of old.lanes
      names = ap names_of lanes ∙ names_home made.lane made.after _ made.told made.called old.lanes

      -- the log of its lane has it behind the calls before
      its_log : made.after.log ≡ calls_on made.after.name more
      its_log =
          made.called.log ∙ ap (λ (ts : List Told). ts ++ made.told ∷ []) (so.logs made.lane (lane_in old.lanes (at_home made.lane) made.home))
          ∙ sym (on_more made.lane.name calls (call_at made) true (same_bytes made.lane.name)) ∙ ap (λ n. calls_on n more) (sym made.called.name)

      -- the log of another one stays
      another : (l : LaneNow) → In l (lanes_in old.lanes) → bytes_eq made.after.name l.name ≡ false → l.log ≡ calls_on l.name more
      another l i apart =
          so.logs l i ∙ sym (append-nil (calls_on l.name calls))
          ∙ sym (on_more l.name calls (call_at made) false
          (false_from (bytes_eq l.name made.lane.name) (λ q.
          true≢false (sym (ap (bytes_eq made.after.name) (bytes_same l.name made.lane.name q ∙ sym made.called.name) ∙ same_bytes made.after.name) ∙ apart))))

      held_called : AreHeld first new more
      held_called = record {
        within = later old new calls grows so;
        lanes =
            subst (λ (ls : List BookLane). AreCalls first (lanes_in ls)) (sym lanes)
            (calls_home made.lane made.after _ made.told made.called first old.lanes alone so.lanes);
        each = λ c i. elim (in_last calls (call_at made) c i) [
          | inl j ↦ held_on old new c grows grown_all (so.each c j)
          | inr e ↦ subst (IsHeld new) (sym e) (held_now number old new made intends so.within grown)
        ];
        logs = λ l i. elim (in_home made.lane made.after _ made.told made.called l old.lanes (subst (λ (ls : List BookLane). In l (lanes_in ls)) lanes i)) [
          | inl k ↦ another l k.0 k.1
          | inr e ↦ subst (λ (x : LaneNow). x.log ≡ calls_on x.name more) (sym e) its_log
        ];
        on = λ c i. subst (In c.lane) (sym names) (elim (in_last calls (call_at made) c i) [
          | inl j ↦ so.on c j
          | inr e ↦
              subst (λ (x : CallAt). In x.lane (names_of old.lanes)) (sym e) (in_map (λ (b : BookLane). b.lane.name) (at_home made.lane) old.lanes made.home)
        ]);
      }

    held_course : {number : ℕ} {b last : BookNow D} → IsAtRest g b → AreHeld first b [] → (course : Course g number b last) → AreHeld first last (calls_of course)
    held_course rest so Course.begins = so
    held_course rest so (Course.goes {old} {new} course (Round.moves n e comes writes other fits wrote lanes) grows now) =
        held_moved old new (calls_of course) lanes grows (e ∷ [], wrote) (held_course rest so course)
    held_course {number} rest so (Course.goes {old} {new} course (Round.calls made r intends outcome wrote lanes) grows now) =
        held_called number old new (calls_of course) made (rests rest course) intends lanes grows (outcome_by made.told r ∷ [], wrote) (held_course rest so course)

    held_driven : (number : ℕ) (b new : BookNow D) (drove : Drove) → IsAtRest g b → AreHeld first b [] → (tells : DrivesTo g number b new drove)
        → AreHeld first new (calls_in g number b new drove tells)
    held_driven number b new (Over status) rest so (course, rested, ended, how) = held_course rest so course
    held_driven number b new (Stopped fault) rest so (last, course, (stopped, out, disk, inl (same, lanes, why)), keeps, grows) =
        held_moved last new (calls_of course) lanes grows (subst (Extends last.entries) (sym same) (extends_itself last.entries)) (held_course rest so course)
    held_driven number b new (Stopped fault) rest so (last, course, (stopped, out, disk, inr (made, intends, same, lanes, lacking)), keeps, grows) =
        held_called number last new (calls_of course) made (rests rest course) intends lanes grows
        (subst (Extends (intended made)) (sym same) (extends_itself (intended made))) (held_course rest so course)

    -- a run over a book on which no call was made before: its calls, which are few
    pub record HasCalls (entered ended : BookNow D) : Type 0 where
      pub calls : List CallAt
      pub held : AreHeld first ended calls
      pub few : AreFewIn entered calls

    module _ (entered ended : BookNow D) (within : IsTrue g.tells → g.moment start ≤ g.moment entered.disk) (are : AreCalls first (lanes_in entered.lanes))
        (silent : (l : LaneNow) → In l (lanes_in entered.lanes) → l.log ≡ []) where
      held_none : (b : BookNow D) → b.lanes ≡ entered.lanes → (IsTrue g.tells → g.moment start ≤ g.moment b.disk) → AreHeld first b []
      held_none b lanes now = record {
        within = now;
        lanes = subst (λ (ls : List BookLane). AreCalls first (lanes_in ls)) (sym lanes) are;
        each = λ c i. absurd (in_none i);
        logs = λ l i. silent l (subst (λ (ls : List BookLane). In l (lanes_in ls)) lanes i);
        on = λ c i. absurd (in_none i);
      }

      pub uncalled : ended.lanes ≡ entered.lanes → (IsTrue g.tells → g.moment start ≤ g.moment ended.disk) → HasCalls entered ended
      uncalled lanes now = record { calls = []; held = held_none ended lanes now; few = λ schemas life described stands holds. none_few }

      driven : (number : ℕ) (begun : BookNow D) (ordered : Order) (drove : Drove) → WasBegun g entered begun ordered number
          → DrivesFew g number entered begun ended drove → HasCalls entered ended
      driven number begun ordered drove (begins, lanes, rest, disk, grows) (tells, few) = record {
        calls = calls_in g number begun ended drove tells;
        held = held_driven number begun ended drove rest
            (held_none begun lanes (λ told. let before = within told in let after = (grows told).later in omega (arith, before, after))) tells;
        few = few;
      }

      pub held_run : (IsTrue g.tells → g.moment start ≤ g.moment ended.disk) → (ordered : Order) (result : Result Status StopFault)
          → RunsOrder g entered ended ordered result → HasCalls entered ended
      held_run now ordered (Ok status) (number, begun, goes, few) = driven number begun ordered (Over status) goes few
      held_run now ordered (Err f) (inl (begins, lanes, known)) = uncalled lanes now
      held_run now ordered (Err f) (inr (number, begun, goes, few)) = driven number begun ordered (Stopped f) goes few

-- the fences of lanes, and then their calls
pub all_same : (ls : List LaneNow) → AreAfterCalls ls ls
all_same [] = tt
all_same (l ∷ ls) = ((l, inl refl, AfterCalls.none_made), all_same ls)

pub stops_at : (bs ks : List LaneNow) (n epoch : ℕ) (x : FenceAnswer) → StopsRaising bs ks n epoch x → AreAfterCalls bs ks
stops_at [] ks n epoch x q = absurd q
stops_at (b ∷ bs) [] n epoch x q = absurd q
stops_at (b ∷ bs) (k ∷ ks) zero epoch x (r, q) = ((k, inr (epoch, x, r), AfterCalls.none_made), subst (AreAfterCalls bs) (sym q) (all_same bs))
stops_at (b ∷ bs) (k ∷ ks) (suc n) epoch x (r, rs) = ((k, inr (epoch, fence.Raised, r), AfterCalls.none_made), stops_at bs ks n epoch x rs)

pub raised_then : (bs ks ls : List LaneNow) (epoch : ℕ) → EachRaised bs ks epoch → AreCalls ks ls → AreAfterCalls bs ls
raised_then [] [] [] epoch r k = tt
raised_then [] [] (l ∷ ls) epoch r k = absurd k
raised_then [] (c ∷ ks) ls epoch r k = absurd r
raised_then (b ∷ bs) [] ls epoch r k = absurd r
raised_then (b ∷ bs) (c ∷ ks) [] epoch r k = absurd k
raised_then (b ∷ bs) (c ∷ ks) (l ∷ ls) epoch r k = ((c, inr (epoch, fence.Raised, r.0), k.0), raised_then bs ks ls epoch r.1 k.1)

-- their raising notes no call
pub raised_silent : (bs ks : List LaneNow) (epoch : ℕ) → EachRaised bs ks epoch → ((b : LaneNow) → In b bs → b.log ≡ []) → (k : LaneNow) → In k ks → k.log ≡ []
raised_silent [] [] epoch r none k i = absurd (in_none i)
raised_silent [] (c ∷ ks) epoch r none k i = absurd r
raised_silent (b ∷ bs) [] epoch r none k i = absurd r
raised_silent (b ∷ bs) (c ∷ ks) epoch r none k i =
    elim (in_cons i) [
      | inl e ↦ ap (λ (l : LaneNow). l.log) (sym e) ∙ r.0.log ∙ none b here
      | inr more ↦ raised_silent bs ks epoch r.1 (λ x j. none x (there j)) k more
    ]

pub home_lanes : (ns : List LaneNow) → lanes_in (map at_home ns) ≡ ns
home_lanes [] = refl
home_lanes (n ∷ ns) = ap (λ ls. n ∷ ls) (home_lanes ns)

pub names_in : (bs : List BookLane) → names_of bs ≡ map (λ (l : LaneNow). l.name) (lanes_in bs)
names_in [] = refl
names_in (b ∷ bs) = ap (λ ns. b.lane.name ∷ ns) (names_in bs)

pub without_logs : (bs : List BookLane) → map without_log (lanes_in bs) ≡ map (λ (b : BookLane). record b.lane { log = [] }) bs
without_logs [] = refl
without_logs (b ∷ bs) = ap (λ ls. record b.lane { log = [] } ∷ ls) (without_logs bs)

module _ {D H : Type 0} (g : DiskGhosts D) (h : HandlerGhosts H) where
  pub handed_logs : (hs : List H) → map without_log (handed_in h hs) ≡ handed_in h hs
  handed_logs [] = refl
  handed_logs (x ∷ hs) = ap (λ ls. lane_with h x [] ∷ ls) (handed_logs hs)

  pub handed_silent : (hs : List H) (l : LaneNow) → In l (handed_in h hs) → l.log ≡ []
  handed_silent [] l i = absurd (in_none i)
  handed_silent (x ∷ hs) l i = elim (in_cons i) [ inl e ↦ ap (λ (z : LaneNow). z.log) (sym e) | inr more ↦ handed_silent hs l more ]
