-- What an order over a book comes to, from what its beginning and its run come to.
use Rattle.std.proofs.Common.{◌≡◌, ◌≢◌, inl, inr, ℕ, ◌+◌, Bool, true, List, [], ◌∷◌, ◌++◌, Option, Some, None, Result, Ok, Err, map, refl, sym, ◌∙◌, ap, subst}
use Rattle.std.specs.Bool.{IsTrue}
use Rattle.std.specs.Prelude.{IfOk}
use Rattle.std.specs.Str.{bytes_eq}
use Rattle.std.proofs.lemmas.Grind.{fold-append}
use Rattle.std.proofs.lemmas.Option.{slice_get_within}
use Rattle.cf_tree.specs.Named.{all_differ}
use Rattle.cf_disk.specs.declared.disk.Disk.{Ghosts}
use Rattle.cf_schema.specs.declared.described.Schema.{Schema}
use Rattle.cf_entry.proofs.Codec.{some_is}
use Rattle.cf_entry.specs.declared.entry.Entry.{Entry}
use Rattle.cf_entry.specs.declared.entry.Entry.TheVariants as entry
use Rattle.cf_entry.specs.declared.entry.Reply.{Reply}
use Rattle.cf_entry.specs.declared.status.Status.{Status}
use Rattle.cf_effect.specs.World.{World, known_stack}
use Rattle.cf_stacks.specs.Apart.{AreApart}
use Rattle.cf_plan.proofs.Frame.{IsOn}
use Rattle.cf_plan.specs.Follow.{begins_from}
use Rattle.cf_plan.specs.Life.{Life}
use Rattle.cf_core.specs.Theorem.{HoldsAlways}
use Rattle.cf_core.proofs.Always.{events_hold}
use Rattle.cf_lane.specs.Lanes.{LaneNow}
use Rattle.cf_lane.specs.declared.told.Told.{Told}
use Rattle.cf_prepare.specs.declared.wish.Order.{Order}
use Rattle.cf_prepare.specs.declared.wish.Order.TheVariants as order
use Rattle.cf_book.specs.Beginning.{BeginsAs, BeginsIn, BeginsOrder, BeginsLife, IsPrepared}
use Rattle.cf_book.specs.Calls.{stopped_by}
use Rattle.cf_book.specs.Ended.{end_status, ended_in, with_end}
use Rattle.cf_book.specs.Events.{reply_for}
use Rattle.cf_book.specs.Lives.{DescribeLanes, StandsFor}
use Rattle.cf_book.specs.Record.{KeepsDisk, KeepsMoments, KnowsDisk, Writes, world_left}
use Rattle.cf_book.specs.State.{BookLane, BookNow, NoneOut}
use Rattle.cf_book.specs.declared.stop.StopFault.{StopFault}
use Rattle.cf_book.specs.declared.stop.StopFault.TheVariants as stop
use Rattle.cf_workers.specs.declared.drive.Drove.{Drove}
use Rattle.cf_workers.specs.declared.drive.Drove.TheVariants.{Over, Stopped}
use Rattle.cf_workers.specs.Counting.{AreFewIn, calls_in}
use Rattle.cf_workers.specs.Growing.{Extends}
use Rattle.cf_workers.specs.Driving.{Course, EndsWith, HasEnd, IsAtRest, LacksOutcome, Stops, name_and_schema, names_of}
use Rattle.cf_workers.specs.Leading.{Drives, DrivesAs, IsStretch, LeadsOn, LeadsWith}
use Rattle.cf_workers.proofs.Crashes.{extends_itself}
use Rattle.cf_workers.proofs.Driven.{grows_by}
use Rattle.cf_workers.proofs.Ending.{StaysOn, course_on, starts_on}
use Rattle.cf_workers.proofs.Lives.{IsCertainBut, begin_answers, begin_halts, leads_none}
use Rattle.cf_workers.proofs.Runs.{stretch_on}
use Rattle.cf_workers.specs.Ordering.{HasStack, IsEnded, IsJustOpened, IsOrderOn, IsPlaced, RunsOrder, WasBegun, number_of, schemas_in}

-- behind an opening no operation has ended
pub none_ended : (es : List Entry) → IsJustOpened es → ended_in es ≡ []
none_ended es (front, epoch, lanes, q) = ap ended_in q ∙ fold-append with_end [] front (entry.Opened epoch lanes ∷ [])

-- what a beginning answered, and what it left
pub record IsBeginning {D : Type 0} (g : Ghosts D) (old begun : BookNow D) (ordered : Order) (result : Result ℕ StopFault) : Type 0 where
  pub lanes : begun.lanes ≡ old.lanes
  pub stopped : begun.stopped ≡ stopped_by old.stopped result
  pub begins : BeginsAs g old begun ordered old.stopped result
  pub disk : KeepsDisk g old begun
  pub moments : KeepsMoments g old begun
  pub known : KnowsDisk g begun
  pub moves : (schemas : List Schema) (life : Life) → BeginsIn schemas life old begun ordered result

-- it is one
pub beginning : {D : Type 0} (g : Ghosts D) (old begun : BookNow D) (ordered : Order) (result : Result ℕ StopFault) → begun.lanes ≡ old.lanes
    → begun.stopped ≡ stopped_by old.stopped result → BeginsAs g old begun ordered old.stopped result → KeepsDisk g old begun → KeepsMoments g old begun → KnowsDisk g begun
    → ((schemas : List Schema) (life : Life) → BeginsIn schemas life old begun ordered result) → IsBeginning g old begun ordered result
beginning g old begun ordered result lanes stopped begins disk moments known moves =
    record { lanes = lanes; stopped = stopped; begins = begins; disk = disk; moments = moments; known = known; moves = moves }

-- no lane has a fence above the opening's epoch where what always holds holds
abbrev pub NeverFenced : {D : Type 0} → BookNow D → Result Status StopFault → Type 0
NeverFenced old (Ok status) = Unit {0}
NeverFenced old (Err fault) =
    (schemas : List Schema) (life : Life) → DescribeLanes schemas old.lanes → StandsFor old life → HoldsAlways schemas life
    → (place fence epoch : ℕ) → fault ≢ stop.LaneAhead place fence epoch

-- what a run leaves
pub record RunLeaves {D : Type 0} (g : Ghosts D) (old new : BookNow D) (name : List ℕ) (number : ℕ) (result : Result Status StopFault) : Type 0 where
  pub stack : HasStack new name number result
  pub stretch : IsStretch g old new
  pub never_fenced : NeverFenced old result
  pub home : NoneOut new.lanes
  pub known : KnowsDisk g new
  pub rest : IfOk result (λ status. IsAtRest g new)

-- what is ordered comes to, and what it leaves where it is of the stack of a name
pub record IsCarried {D : Type 0} (g : Ghosts D) (old new : BookNow D) (ordered : Order) (result : Result Status StopFault) : Type 0 where
  pub runs : RunsOrder g old new ordered result
  pub leaves : (name : List ℕ) → IsOrderOn name (world_left old.entries) ordered → RunLeaves g old new name (number_of ordered) result

pub is_true : (b : Bool) → IsTrue b → b ≡ true
is_true b t = t

one_number : (n m : ℕ) → ◌≡◌ {A = Result ℕ StopFault} (Ok n) (Ok m) → n ≡ m
one_number n m q = cc

-- a beginning that was written, or an operation that goes on, is that of the order
pub began_number : {D : Type 0} (g : Ghosts D) (old begun : BookNow D) (ordered : Order) (number : ℕ) → BeginsOrder g old begun ordered (Ok number) → number ≡ number_of ordered
began_number g old begun (order.Begin e) number w = w.1
began_number g old begun (order.Review e) number w = absurd w
began_number g old begun (order.Resume n) number w = one_number number n w.0

-- what of it is there then: nothing is in doubt, and its events
record HasBegunSo {D : Type 0} (old begun : BookNow D) : Type 0 where
  pub certain : begun.doubt ≡ None
  pub grown : Extends old.entries begun.entries
  pub leads : LeadsOn old begun

module _ {D : Type 0} (g : Ghosts D) (old begun : BookNow D) (rest : IsAtRest g old) where
  abbrev Moves : Order → Result ℕ StopFault → Type 0
  Moves ordered result =
      (schemas : List Schema) (life : Life) → DescribeLanes schemas old.lanes → StandsFor old life → HoldsAlways schemas life → BeginsLife schemas life begun ordered None result

  begun_so : (ordered : Order) (number : ℕ) → BeginsOrder g old begun ordered (Ok number) → Moves ordered (Ok number) → HasBegunSo old begun
  begun_so (order.Begin e) number w l = record {
    certain = w.0.1 ∙ rest.certain;
    grown = (e ∷ [], w.0.0);
    leads = λ schemas life d stands holds es at.
        begin_answers old begun schemas life e rest.certain stands number (w.0.1 ∙ rest.certain) (l schemas life d stands holds) es at;
  }
  begun_so (order.Review e) number w l = absurd w
  begun_so (order.Resume n) number w l = record {
    certain = w.1.doubt ∙ rest.certain;
    grown = subst (Extends old.entries) (sym w.1.entries) (extends_itself old.entries);
    leads = λ schemas life d stands holds es at. leads_none schemas life begun (w.1.doubt ∙ rest.certain) (l schemas life d stands holds) es at;
  }

  -- its stack stays on it
  starts : (name : List ℕ) (schemas : List Schema) → AreApart (world_left old.entries) → ended_in old.entries ≡ [] → (ordered : Order) (number : ℕ)
      → BeginsOrder g old begun ordered (Ok number) → IsPrepared schemas (world_left old.entries) ordered → IsOrderOn name (world_left old.entries) ordered → StaysOn name (number_of ordered) begun
  starts name schemas apart fresh (order.Begin (entry.Begin n stack kind)) number w p on =
      let next : n ≡ (world_left old.entries).operation + 1 = p.2.0 in
      let wrote : begun.entries ≡ old.entries ++ entry.Begin ((world_left old.entries).operation + 1) name kind ∷ [] =
      w.0.0 ∙ ap (λ (m : ℕ). old.entries ++ entry.Begin m stack kind ∷ []) next
      ∙ ap (λ (s : List ℕ). old.entries ++ entry.Begin ((world_left old.entries).operation + 1) s kind ∷ []) on in
      let from : begins_from kind (known_stack name (world_left old.entries)).status ≡ true =
      is_true (begins_from kind (known_stack name (world_left old.entries)).status)
      (subst (λ (s : List ℕ). IsTrue (begins_from kind (known_stack s (world_left old.entries)).status)) on p.2.1) in
      subst (λ (m : ℕ). StaysOn name m begun) (sym next) (starts_on g old begun name kind apart from wrote fresh)
  starts name schemas apart fresh (order.Resume n) number w p (above, s, found) =
      let same : begun.entries ≡ old.entries = w.1.entries in
      inl (
        (s, subst (λ (y : World). IsOn n name y s) (ap world_left (sym same)) (record { apart = apart; numbered = above; going = found })),
        ap ended_in same ∙ fresh,
      )
  starts name schemas apart fresh (order.Review e) number w p on = absurd w
  starts name schemas apart fresh (order.Begin (entry.Opened epoch lanes)) number w p on = absurd on
  starts name schemas apart fresh (order.Begin (entry.ChangeSet n stack source rows outputs)) number w p on = absurd on
  starts name schemas apart fresh (order.Begin (entry.Kept n path physical why)) number w p on = absurd on
  starts name schemas apart fresh (order.Begin (entry.Intent n token lane path request)) number w p on = absurd on
  starts name schemas apart fresh (order.Begin (entry.Outcome n token answer before after)) number w p on = absurd on
  starts name schemas apart fresh (order.Begin (entry.Phase n phase cause)) number w p on = absurd on
  starts name schemas apart fresh (order.Begin (entry.Done n status failed)) number w p on = absurd on

  -- it has ended, and its end is the last entry
  has_ended : (name : List ℕ) (number : ℕ) (new : BookNow D) (status : Status) → StaysOn name number begun → Course g number begun new → HasEnd new.entries number status
      → IsEnded new name number status
  has_ended name number new status start course has = by (course_on g name number course start) where
    by : StaysOn name number new → IsEnded new name number status
    by (inl (goes, none)) = let never : None ≡ Some status = sym (ap (end_status number) none) ∙ has in absurd (cc)
    by (inr over) = record {
      stack = over.stack;
      here = over.here;
      status_is = status_so;
      number_is = over.its_number;
      last = subst (EndsWith new.entries number) status_so over.last;
    } where
      status_so : over.stack.status ≡ status
      status_so = some_is _ _ (sym over.ends ∙ has)

  -- an entry could not be written
  unwritten : (e : Entry) (fault : StopFault) → Writes {T = ℕ} g old begun e (Err fault) → (begun.entries ≡ old.entries) × IsCertainBut fault begun
  unwritten e (stop.Full l need room) w = (w.0, w.1.1 ∙ rest.certain)
  unwritten e stop.DiskFault w = (w.0, tt)
  unwritten e (stop.LaneAhead place fence epoch) w = absurd w.1
  unwritten e stop.NoMemory w = (w.1, w.2 ∙ rest.certain)

  not_ahead : (e : Entry) (fault : StopFault) → Writes {T = ℕ} g old begun e (Err fault) → (place fence epoch : ℕ) → fault ≢ stop.LaneAhead place fence epoch
  not_ahead e (stop.Full l need room) w place fence epoch q = cc
  not_ahead e stop.DiskFault w place fence epoch q = cc
  not_ahead e (stop.LaneAhead p f ep) w place fence epoch q = w.1
  not_ahead e stop.NoMemory w place fence epoch q = cc

  never_resumed : (fault : StopFault) (n : ℕ) → ◌≡◌ {A = Result ℕ StopFault} (Err fault) (Ok n) → ⊥
  never_resumed fault n q = cc

module _ {D : Type 0} (g : Ghosts D) (old begun : BookNow D) (ordered : Order) (rest : IsAtRest g old) where
  begins_order : (result : Result ℕ StopFault) → IsBeginning g old begun ordered result → BeginsOrder g old begun ordered result
  begins_order result k = subst (λ o. BeginsAs g old begun ordered o result) rest.running k.begins

  home : (result : Result ℕ StopFault) → IsBeginning g old begun ordered result → NoneOut begun.lanes
  home result k = subst NoneOut (sym k.lanes) rest.none_out

  moves : (result : Result ℕ StopFault) (k : IsBeginning g old begun ordered result) → Moves g old begun rest ordered result
  moves result k schemas life d stands holds = subst (λ o. BeginsLife schemas life begun ordered o result) rest.running (k.moves schemas life d stands holds)

  -- it was not begun
  placed_by : (o : Order) (fault : StopFault) → BeginsOrder g old begun o (Err fault) → IsPlaced begun.lanes fault
  placed_by o (stop.Full l need room) w = tt
  placed_by o stop.DiskFault w = tt
  placed_by o stop.NoMemory w = tt
  placed_by (order.Begin e) (stop.LaneAhead place fence epoch) w = absurd w.0.1
  placed_by (order.Review e) (stop.LaneAhead place fence epoch) w = absurd w
  placed_by (order.Resume n) (stop.LaneAhead place fence epoch) w = absurd (never_resumed g old begun rest (stop.LaneAhead place fence epoch) n w.0)

  pub not_placed : (fault : StopFault) → IsBeginning g old begun ordered (Err fault) → IsPlaced begun.lanes fault
  not_placed fault k = placed_by ordered fault (begins_order (Err fault) k)

  pub not_begun : (fault : StopFault) → IsBeginning g old begun ordered (Err fault) → IsCarried g old begun ordered (Err fault)
  not_begun fault k =
      let w = begins_order (Err fault) k in
      record { runs = inl (w, k.lanes, k.known); leaves = λ name on. by ordered w (moves (Err fault) k) name }
    where
      by : (o : Order) → BeginsOrder g old begun o (Err fault) → Moves g old begun rest o (Err fault) → (name : List ℕ) → RunLeaves g old begun name (number_of ordered) (Err fault)
      by (order.Begin e) w l name =
          let (same, but) = unwritten g old begun rest e fault w.0 in
          let grown : Extends old.entries begun.entries = subst (Extends old.entries) (sym same) (extends_itself old.entries) in
          record {
            stack = tt;
            stretch = record {
              leads = λ schemas life d stands holds es at. begin_halts old begun schemas life e rest.certain stands fault same but (l schemas life d stands holds) es at;
              grows = grows_by g old begun grown k.moments;
              grown = grown;
              disk = k.disk;
              lanes = ap (map name_and_schema) k.lanes;
            };
            never_fenced = λ schemas life d stands holds place fence epoch q. not_ahead g old begun rest e fault w.0 place fence epoch q;
            home = home (Err fault) k;
            known = k.known;
            rest = tt;
          }
      by (order.Review e) w l name = absurd w
      by (order.Resume n) w l name = absurd (never_resumed g old begun rest fault n w.0)

  -- it was begun
  module _ (number : ℕ) (k : IsBeginning g old begun ordered (Ok number)) where
    written : BeginsOrder g old begun ordered (Ok number)
    written = begins_order (Ok number) k

    running : begun.stopped ≡ None
    running = k.stopped ∙ ap (λ o. stopped_by {T = ℕ} o (Ok number)) rest.running

    so : HasBegunSo old begun
    so = begun_so g old begun rest ordered number written (moves (Ok number) k)

    at_rest_now : IsAtRest g begun
    at_rest_now = record {
      running = running;
      none_out = home (Ok number) k;
      certain = so.certain;
      known = k.known;
      differ = subst (λ (ls : List BookLane). all_differ bytes_eq (names_of ls) ≡ true) (sym k.lanes) rest.differ;
    }

    is_begun : WasBegun g old begun ordered number
    is_begun = (written, k.lanes, at_rest_now, k.disk, grows_by g old begun so.grown k.moments)

    first : IsStretch g old begun
    first = record {
      leads = so.leads;
      grows = grows_by g old begun so.grown k.moments;
      grown = so.grown;
      disk = k.disk;
      lanes = ap (map name_and_schema) k.lanes;
    }

    -- the life that the begun book stands for then
    led : (schemas : List Schema) (life : Life) → DescribeLanes schemas old.lanes → StandsFor old life → HoldsAlways schemas life → LeadsWith schemas life begun begun.entries
    led schemas life described stands holds = first.leads schemas life described stands holds begun.entries (inl refl)

    module _ (new : BookNow D) (drove : Drove) (so_driven : DrivesAs g number begun new begun.stopped drove) where
      drives : Drives g number begun new drove
      drives = subst (λ o. DrivesAs g number begun new o drove) running so_driven

      whole : IsStretch g old new
      whole = stretch_on g old begun new so.certain first drives.stretch

      few : AreFewIn old (calls_in g number begun new drove drives.tells)
      few schemas life described stands holds =
          let l = led schemas life described stands holds in
          drives.few schemas l.after (subst (DescribeLanes schemas) (sym k.lanes) described) l.stands (events_hold schemas life l.after l.events holds l.happen).0

    -- and ended
    pub is_over : (new : BookNow D) (status : Status) → DrivesAs g number begun new begun.stopped (Over status) → NoneOut new.lanes → KnowsDisk g new
        → AreApart (world_left old.entries) → IsJustOpened old.entries → IsPrepared (schemas_in old.lanes) (world_left old.entries) ordered → IsCarried g old new ordered (Ok status)
    is_over new status driven out known apart opened prepared =
        let d : Drives g number begun new (Over status) = drives new (Over status) driven in
        record {
          runs = (number, begun, is_begun, (d.tells, few new (Over status) driven));
          leaves = λ name on. record {
            stack = stack_of name on d;
            stretch = whole new (Over status) driven;
            never_fenced = tt;
            home = out;
            known = known;
            rest = d.tells.1;
          };
        }
      where
        stack_of : (name : List ℕ) → IsOrderOn name (world_left old.entries) ordered → Drives g number begun new (Over status) → IsEnded new name (number_of ordered) status
        stack_of name on d =
            let tells = subst (λ (m : ℕ). Drives g m begun new (Over status)) (began_number g old begun ordered number written) d in
            has_ended g old begun rest name (number_of ordered) new status
            (starts g old begun rest name (schemas_in old.lanes) apart (none_ended old.entries opened) ordered number written prepared on) tells.tells.0 tells.tells.2

    -- or the book stopped
    placed : (lanes : List BookLane) (lane : LaneNow) (told : Told) (o : Option Reply) (disk : D) (b c : BookNow D) (fault : StopFault) → LacksOutcome g disk b c lane told o fault
        → IsPlaced c.lanes fault
    placed lanes lane told o disk b c (stop.Full l need room) w = tt
    placed lanes lane told o disk b c stop.DiskFault w = tt
    placed lanes lane told o disk b c stop.NoMemory w = tt
    placed lanes lane told (Some r) disk b c (stop.LaneAhead place fence epoch) w = absurd w
    placed lanes lane told None disk b c (stop.LaneAhead place fence epoch) (none, (old_answer, at, l, found, named)) = slice_get_within c.lanes place l found

    stops_placed : (b c : BookNow D) (fault : StopFault) → Stops g number b c fault → IsPlaced c.lanes fault
    stops_placed b c fault (stopped, out, known, inr (made, intends, same, lanes, w)) =
        placed c.lanes made.after made.told (reply_for made.told.answer) intends.lent.disk b c fault w
    stops_placed b c (stop.Full l need room) (stopped, out, known, inl s) = tt
    stops_placed b c stop.DiskFault (stopped, out, known, inl s) = tt
    stops_placed b c stop.NoMemory (stopped, out, known, inl s) = tt
    stops_placed b c (stop.LaneAhead place fence epoch) (stopped, out, known, inl (same, lanes, inl (q, none, l))) = let never : ⊥ = cc in absurd never
    stops_placed b c (stop.LaneAhead place fence epoch) (stopped, out, known, inl (same, lanes, inr (n, f, comes, q, w))) = absurd w

    pub is_placed : (new : BookNow D) (fault : StopFault) → DrivesAs g number begun new begun.stopped (Stopped fault) → IsPlaced new.lanes fault
    is_placed new fault driven = let d = drives new (Stopped fault) driven in stops_placed d.tells.0 new fault d.tells.2

    pub is_cut : (new : BookNow D) (fault : StopFault) → DrivesAs g number begun new begun.stopped (Stopped fault) → NoneOut new.lanes → KnowsDisk g new
        → IsCarried g old new ordered (Err fault)
    is_cut new fault driven out known =
        let d : Drives g number begun new (Stopped fault) = drives new (Stopped fault) driven in
        record {
          runs = inr (number, begun, is_begun, (d.tells, few new (Stopped fault) driven));
          leaves = λ name on. record {
            stack = tt;
            stretch = whole new (Stopped fault) driven;
            never_fenced = λ schemas life described stands holds place fence epoch q.
                let l = led schemas life described stands holds in
                d.never_old schemas l.after (subst (DescribeLanes schemas) (sym k.lanes) described) l.stands
                (events_hold schemas life l.after l.events holds l.happen).0 place fence epoch (ap Stopped q);
            home = out;
            known = known;
            rest = tt;
          };
        }
