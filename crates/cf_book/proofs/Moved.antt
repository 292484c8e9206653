-- A step that is taken, of the record and the lanes of a book.
use Rattle.std.proofs.Common.{◌≡◌, ℕ, ◌+◌, ◌≤◌, Bool, true, false, List, Option, Some, None, Result, Ok, Err, OnOk, map, length, refl, sym, ◌∙◌, ap, subst, true≢false, vec_len, vec_capacity}
use Rattle.std.specs.List.{list_any}
use Rattle.std.specs.Str.{bytes_eq}
use Rattle.cf_tree.specs.Lists.{In}
use Rattle.cf_tree.specs.Named.{all_differ}
use Rattle.cf_tree.specs.declared.request.Request.{Request}
use Rattle.cf_disk.specs.declared.disk.Disk.{Ghosts}
use Rattle.cf_handler.specs.declared.handler.Handler.{Ghosts as HandlerGhosts}
use Rattle.cf_schema.specs.declared.described.Schema.{Schema}
use Rattle.cf_entry.specs.declared.entry.Entry.{Entry}
use Rattle.cf_entry.specs.declared.entry.Entry.TheVariants as entry
use Rattle.cf_journal.specs.Record.{spare_of}
use Rattle.cf_effect.specs.Status.{Stage}
use Rattle.cf_effect.specs.World.{StackState, World, stack_of_operation}
use Rattle.cf_lane.specs.Calling.{Granted, granted_of, leased_lane}
use Rattle.cf_lane.specs.Lanes.{lane_now}
use Rattle.cf_lane.specs.declared.lease.Lease.{Lease as Leased}
use Rattle.cf_stacks.specs.Room.{Standing, stack_of_call}
use Rattle.cf_next.specs.Chosen.{HasNoStep, IsNext, MayCallAgain, MayStart, entry_for, leases_of, schemas_of}
use Rattle.cf_next.specs.declared.chosen.NextFault.{NextFault}
use Rattle.cf_next.specs.declared.chosen.NextFault.TheVariants as fault
use Rattle.cf_next.specs.declared.home.Home.{Home}
use Rattle.cf_next.specs.declared.step.Next.{Next}
use Rattle.cf_next.specs.declared.step.Next.TheVariants as next
use Rattle.cf_plan.specs.Follow.{MayFollow}
use Rattle.cf_plan.specs.Life.{IsGranted, Life, Whole, appended, granted}
use Rattle.cf_stacks.specs.Apart.{AreApart}
use Rattle.cf_book.specs.Calls.{stopped_by}
use Rattle.cf_book.specs.Granting.{ComesNext, Follows, HandsOut, IsLacking, IsOpenCall, KeepsLanes, MayFollowNow, MovesIn, MovesOn, StepsIn, TakesStep, WritesCall}
use Rattle.cf_book.specs.Inside.{IsOpen, IsRight, StepsOver, WritesIn, book_of, entries_in, known_in, name_of}
use Rattle.cf_book.specs.Lending.{AwaitsAs, EntersIn, IsLentTo, is_expected, is_out_for}
use Rattle.cf_book.specs.Record.{Writes, world_left}
use Rattle.cf_book.specs.State.{BookLane, BookNow, home_of, lent_out}
use Rattle.cf_book.specs.declared.granting.Grant.{Grant}
use Rattle.cf_book.specs.declared.granting.Grant.TheVariants.{Lease}
use Rattle.cf_book.specs.declared.record.Record.{Record}
use Rattle.cf_book.specs.declared.stop.StopFault.{StopFault}
use Rattle.cf_book.specs.declared.stop.StopFault.TheVariants as stop
use Rattle.cf_book.proofs.Called.{lent_life, repeat_listed, unlent_life}
use Rattle.cf_book.proofs.Grants.{follows_by, lanes_tell, repeats_by, unwritten_life, written_life}
use Rattle.cf_book.proofs.Issued.{called_there, ready_issued, right_granted, right_issued, right_unissued}

module _ {D : Type 0} (g : Ghosts D) (r r' : Record D) (lanes : List BookLane) (homes : List Home) (given : Bool) (stopped : Option StopFault) (old : BookNow D)
    (is : book_of r lanes given stopped ≡ old) (running : old.stopped ≡ None) (right : IsRight g r lanes homes stopped) where
  pub ran : stopped ≡ None
  ran = ap (λ (b : BookNow D). b.stopped) is ∙ running

  pub runs : IsRight g r lanes homes None
  runs = subst (IsRight g r lanes homes) ran right

  pub sure : old.doubt ≡ None
  sure = sym (ap (λ (b : BookNow D). b.doubt) is) ∙ (right.ready ran).appends.certain

  pub stands_apart : AreApart (world_left old.entries)
  stands_apart = subst (λ (b : BookNow D). AreApart (world_left b.entries)) is (subst AreApart right.world (right.ready ran).apart)

  pub right_moved : {T : Type 0} (e : Entry) (result : Result T StopFault) → IsGranted e → MayFollowNow old.lanes old.entries e → WritesIn g r r' e result
      → OnOk result (IsOpen g r') → OnOk result (StepsOver r.world e r'.world) → OnOk result (vec_len r'.entries + length lanes ≤ vec_capacity r'.entries)
      → spare_of r.journal ≤ spare_of r'.journal → r'.world.world ≡ world_left (entries_in r') → known_in g r' → IsRight g r' lanes homes (stopped_by None result)
  right_moved {T = T} e result grants may writes opens steps places spare world known =
      right_granted {T = T} g r r' lanes homes (schemas_of (map home_of old.lanes)) e result runs grants
      (subst (λ (b : BookNow D). MayFollow (schemas_of (map home_of old.lanes)) (world_left b.entries) (leases_of (map home_of b.lanes)) e) (sym is) may)
      writes opens steps places spare world known

  -- the lanes are as they were
  pub keeps_lanes : (after : Option StopFault) → KeepsLanes old (book_of r' lanes given after)
  keeps_lanes after = record { lanes = ap (λ (b : BookNow D). b.lanes) is; granted = ap (λ (b : BookNow D). b.has_granted) is }

  -- the entry was appended, or not
  pub moves_on_ok : {H : Type 0} (e : Entry) (a : Grant H) (after : Option StopFault) → WritesIn {T = Unit {0}} g r r' e (Ok tt)
      → MovesOn g old (book_of r' lanes given after) e a (Ok a)
  moves_on_ok {H = H} e a after w = (
    subst (λ (b : BookNow D). Writes {T = Grant H} g b (book_of r' lanes given after) e (Ok a)) is w,
    keeps_lanes after,
    refl,
  )

  pub moves_on_err : {H : Type 0} (e : Entry) (a : Grant H) (fault : StopFault) (after : Option StopFault) → WritesIn {T = Unit {0}} g r r' e (Err fault)
      → MovesOn {H = H} g old (book_of r' lanes given after) e a (Err fault)
  moves_on_err {H = H} e a fault after w = (
    subst (λ (b : BookNow D). Writes {T = Grant H} g b (book_of r' lanes given after) e (Err fault)) is (other_type fault w),
    keeps_lanes after,
    tt,
  )
    where
      other_type : (fault : StopFault) → WritesIn {T = Unit {0}} g r r' e (Err fault) → WritesIn {T = Grant H} g r r' e (Err fault)
      other_type stop.NoMemory w = w
      other_type stop.DiskFault w = w
      other_type (stop.Full l need room) w = w
      other_type (stop.LaneAhead place fence epoch) w = w

  -- as an event of a life
  pub moves_in_ok : {H : Type 0} (schemas : List Schema) (life : Life) (e : Entry) (a : Grant H) (after : Option StopFault) → IsGranted e
      → MayFollowNow old.lanes old.entries e → granted Whole e (appended Whole e life) ≡ appended Whole e life → MovesOn g old (book_of r' lanes given after) e a (Ok a)
      → after ≡ None → MovesIn schemas life old (book_of r' lanes given after) e (Ok a)
  moves_in_ok schemas life e a after grants may plain moves s described stands holds =
      written_life g schemas life old (book_of r' lanes given after) e grants (follows_by schemas old.lanes old.entries e (lanes_tell schemas life old sure described stands holds) stands_apart grants may) stands running sure
      moves.1.lanes moves.1.granted a plain moves.0 s

  pub moves_in_err : {H : Type 0} (schemas : List Schema) (life : Life) (e : Entry) (a : Grant H) (fault : StopFault) → IsGranted e
      → MayFollowNow old.lanes old.entries e → MovesOn {H = H} g old (book_of r' lanes given (Some fault)) e a (Err fault)
      → MovesIn {T = Grant H} schemas life old (book_of r' lanes given (Some fault)) e (Err fault)
  moves_in_err {H = H} schemas life e a fault grants may moves described stands holds =
      unwritten_life g schemas life old (book_of r' lanes given (Some fault)) e grants (follows_by schemas old.lanes old.entries e (lanes_tell schemas life old sure described stands holds) stands_apart grants may) stands running
      sure moves.1.lanes moves.1.granted (Grant H) fault moves.0 refl

-- A call that is granted, or was not.
writes_call : {D T U : Type 0} (g : Ghosts D) (r r' : Record D) (lanes lanes' : List BookLane) (given given' : Bool) (stopped stopped' : Option StopFault)
    (twice : Bool) (e : Entry) (x : T) (y : U) → EntersIn g r r' twice e (Ok x)
    → WritesCall g (book_of r lanes given stopped) (book_of r' lanes' given' stopped') twice e (Ok y)
writes_call g r r' lanes lanes' given given' stopped stopped' false e x y h = h
writes_call g r r' lanes lanes' given given' stopped stopped' true e x y h = record { disk = h.0; entries = h.1; doubt = h.2 }

unwrites_call : {D : Type 0} (T U : Type 0) (g : Ghosts D) (r r' : Record D) (lanes lanes' : List BookLane) (given given' : Bool) (stopped stopped' : Option StopFault)
    (twice : Bool) (e : Entry) (fault : StopFault) → EntersIn {T = T} g r r' twice e (Err fault)
    → WritesCall {T = U} g (book_of r lanes given stopped) (book_of r' lanes' given' stopped') twice e (Err fault)
unwrites_call T U g r r' lanes lanes' given given' stopped stopped' false e stop.NoMemory h = h
unwrites_call T U g r r' lanes lanes' given given' stopped stopped' false e stop.DiskFault h = h
unwrites_call T U g r r' lanes lanes' given given' stopped stopped' false e (stop.Full l need room) h = h
unwrites_call T U g r r' lanes lanes' given given' stopped stopped' false e (stop.LaneAhead place fence epoch) h = h
unwrites_call T U g r r' lanes lanes' given given' stopped stopped' true e stop.NoMemory h = record { disk = h.0; entries = h.1; doubt = h.2 }
unwrites_call T U g r r' lanes lanes' given given' stopped stopped' true e stop.DiskFault h = absurd h
unwrites_call T U g r r' lanes lanes' given given' stopped stopped' true e (stop.Full l need room) h = absurd h
unwrites_call T U g r r' lanes lanes' given given' stopped stopped' true e (stop.LaneAhead place fence epoch) h = absurd h

-- what comes next as a call: it may be written, or is open and may be made again
may_start_again : (schemas : List Schema) (name : List ℕ) (x : World) (out : List ℕ) (s : StackState) (stage : Stage) (path lane : List ℕ) (token : ℕ) (r : Request) (twice : Bool)
    → MayStart schemas name x out s stage (next.Step path lane token r twice) → twice ≡ true → MayCallAgain schemas name x out s stage path lane token r
may_start_again schemas name x out s stage path lane token r true may e = may
may_start_again schemas name x out s stage path lane token r false may e = absurd (true≢false (sym e))

may_write : (lanes : List BookLane) (es : List Entry) (number : ℕ) (path lane : List ℕ) (token : ℕ) (r : Request) (twice : Bool)
    → Follows lanes es number (next.Step path lane token r twice) → twice ≡ false → MayFollowNow lanes es (entry.Intent number token lane path r)
may_write lanes es number path lane token r false follows e = follows (entry.Intent number token lane path r) refl
may_write lanes es number path lane token r true follows e = absurd (true≢false e)

module _ {D H : Type 0} (g : Ghosts D) (h : HandlerGhosts H) (r r' : Record D) (lanes lanes' : List BookLane) (homes homes' : List Home) (given : Bool)
    (stopped : Option StopFault) (old : BookNow D) (is : book_of r lanes given stopped ≡ old) (running : old.stopped ≡ None)
    (right : IsRight g r lanes homes stopped) (number token : ℕ) (path lane : List ℕ) (q : Request) (twice : Bool)
    (comes : ComesNext old.lanes old.entries number (next.Step path lane token q twice)) (follows : Follows old.lanes old.entries number (next.Step path lane token q twice))
    (spare : spare_of r.journal ≤ spare_of r'.journal) (world : r'.world.world ≡ world_left (entries_in r')) (known : known_in g r')
    (are : homes' ≡ map home_of lanes') where
  abbrev intent : Entry
  intent = entry.Intent number token lane path q

  abbrev its_call : Granted
  its_call = record { epoch = r.world.world.epoch; number = number; token = token; request = q }

  abbrev step : Next
  step = next.Step path lane token q twice

  writes_now : twice ≡ false → MayFollow (schemas_of (map home_of old.lanes)) (world_left (entries_in r)) (leases_of (map home_of lanes)) intent
  writes_now e =
      subst (λ (b : BookNow D). MayFollow (schemas_of (map home_of old.lanes)) (world_left b.entries) (leases_of (map home_of b.lanes)) intent) (sym is)
      (may_write old.lanes old.entries number path lane token q twice follows e)

  -- it could not be
  pub uncalled_right : (T : Type 0) (fault : StopFault) → lanes' ≡ lanes → EntersIn {T = T} g r r' twice intent (Err fault) → IsRight g r' lanes' homes' (Some fault)
  uncalled_right T fault same enters =
      subst (λ ls. IsRight g r' ls homes' (Some fault)) (sym same)
      (right_unissued T g r r' lanes homes homes' twice number token lane path q fault (runs g r r' lanes homes given stopped old is running right) enters world known
      (are ∙ ap (map home_of) same))

  keeps_so : (fault : StopFault) → lanes' ≡ lanes → KeepsLanes old (book_of r' lanes' given (Some fault))
  keeps_so fault same = record { lanes = same ∙ ap (λ (b : BookNow D). b.lanes) is; granted = ap (λ (b : BookNow D). b.has_granted) is }

  pub uncalled_takes : (T : Type 0) (fault : StopFault) → lanes' ≡ lanes → EntersIn {T = T} g r r' twice intent (Err fault)
      → TakesStep {H = H} g h old (book_of r' lanes' given (Some fault)) number step (Err fault)
  uncalled_takes T fault same enters = (
    subst (λ (b : BookNow D). WritesCall {T = Grant H} g b (book_of r' lanes' given (Some fault)) twice intent (Err fault)) is
        (unwrites_call T (Grant H) g r r' lanes lanes' given given stopped (Some fault) twice intent fault enters),
    keeps_so fault same,
  )

  pub uncalled_life : (T : Type 0) (schemas : List Schema) (life : Life) (fault : StopFault) → lanes' ≡ lanes → EntersIn {T = T} g r r' twice intent (Err fault)
      → StepsIn {T = Grant H} schemas life old (book_of r' lanes' given (Some fault)) number step (Err fault)
  uncalled_life T schemas life fault same enters described stands holds =
      unlent_life (Grant H) g schemas life old (book_of r' lanes' given (Some fault)) number token path lane q stands running
      (sure g r r' lanes homes given stopped old is running right) twice fault
      (λ e. follows_by schemas old.lanes old.entries intent
      (lanes_tell schemas life old (sure g r r' lanes homes given stopped old is running right) described stands holds) (stands_apart g r r' lanes homes given stopped old is running right) tt
      (may_write old.lanes old.entries number path lane token q twice follows e))
      (uncalled_takes T fault same enters).0 refl (keeps_so fault same)

-- It is granted to the lane of its name, which is at home.
module _ {D H : Type 0} (g : Ghosts D) (h : HandlerGhosts H) (r r' : Record D) (lanes lanes' : List BookLane) (homes homes' : List Home) (given : Bool)
    (stopped : Option StopFault) (old : BookNow D) (is : book_of r lanes given stopped ≡ old) (running : old.stopped ≡ None)
    (right : IsRight g r lanes homes stopped) (number token : ℕ) (path : List ℕ) (q : Request) (twice : Bool) (b : BookLane)
    (comes : ComesNext old.lanes old.entries number (next.Step path b.lane.name token q twice))
    (follows : Follows old.lanes old.entries number (next.Step path b.lane.name token q twice)) (spare : spare_of r.journal ≤ spare_of r'.journal)
    (world : r'.world.world ≡ world_left (entries_in r')) (known : known_in g r') (are : homes' ≡ map home_of lanes') (lease : Leased H)
    (home : In b lanes) (free : b.out ≡ None) (lent : lanes' ≡ lent_out (record { epoch = r.world.world.epoch; number = number; token = token; request = q }) b.lane lanes)
    (granted_is : granted_of lease ≡ record { epoch = r.world.world.epoch; number = number; token = token; request = q }) (owns : lane_now h (leased_lane lease) ≡ b.lane)
    (expected : is_expected number token r.world.world twice ≡ true) (unused : list_any (is_out_for token) homes ≡ false) (opens : IsOpen g r')
    (awaits : AwaitsAs twice r.world (entry.Intent number token b.lane.name path q) r'.world) (places : vec_len r'.entries + length lanes ≤ vec_capacity r'.entries)
    (enters : EntersIn g r r' twice (entry.Intent number token b.lane.name path q) (Ok lease)) where
  abbrev the_call : Granted
  the_call = record { epoch = r.world.world.epoch; number = number; token = token; request = q }

  abbrev the_intent : Entry
  the_intent = entry.Intent number token b.lane.name path q

  abbrev the_step : Next
  the_step = next.Step path b.lane.name token q twice

  abbrev tables : List Schema
  tables = schemas_of (map home_of old.lanes)

  abbrev name : List ℕ
  name = comes.0

  abbrev s : StackState
  s = comes.1

  abbrev stage : Stage
  stage = comes.2

  at : stack_of_operation number (world_left (entries_in r)) ≡ Some (name, s)
  at = subst (λ (o : BookNow D). stack_of_operation number (world_left o.entries) ≡ Some (name, s)) (sym is) comes.3

  now_runs : IsRight g r lanes homes None
  now_runs = runs g r r' lanes homes given stopped old is running right

  may_again : twice ≡ true → MayCallAgain tables name (world_left old.entries) (leases_of (map home_of old.lanes)) s stage path b.lane.name token q
  may_again = may_start_again tables name (world_left old.entries) (leases_of (map home_of old.lanes)) s stage path b.lane.name token q twice comes.5.may

  may_now : twice ≡ false → MayFollow tables (world_left (entries_in r)) (leases_of (map home_of lanes)) the_intent
  may_now e =
      subst (λ (o : BookNow D). MayFollow tables (world_left o.entries) (leases_of (map home_of o.lanes)) the_intent) (sym is)
      (may_write old.lanes old.entries number path b.lane.name token q twice follows e)

  listed : twice ≡ true → In (record { token = token; path = path; lane = b.lane.name; request = q }) s.tokens
  listed e =
      repeat_listed tables name (world_left old.entries) (leases_of (map home_of old.lanes)) s stage
      (record { token = token; path = path; lane = b.lane.name; request = q }) (may_again e).repeats

  pub called_right : IsRight g r' lanes' homes' None
  called_right =
      subst (λ ls. IsRight g r' ls homes' None) (sym lent)
      (right_issued g r r' lanes homes homes' tables number token path q b name s lease now_runs at unused opens places spare world known twice expected awaits may_now
      listed enters (are ∙ ap (map home_of) lent))

  open_now : IsOpenCall (entries_in r') b.lane.name the_call
  open_now =
      (ready_issued g r r' lanes homes homes' tables number token path q b name s lease now_runs at unused opens places spare world known twice expected awaits may_now
      listed).2

  abbrev now : BookNow D
  now = book_of r' lanes' true stopped

  lanes_now : now.lanes ≡ lent_out the_call b.lane old.lanes
  lanes_now = lent ∙ ap (λ (o : BookNow D). lent_out the_call b.lane o.lanes) is

  home_now : In b old.lanes
  home_now = subst (λ (o : BookNow D). In b o.lanes) is home

  writes_now_ok : WritesCall {T = Grant H} g old now twice the_intent (Ok (Lease lease))
  writes_now_ok =
      subst (λ (o : BookNow D). WritesCall {T = Grant H} g o now twice the_intent (Ok (Lease lease))) is
      (writes_call g r r' lanes lanes' given true stopped stopped twice the_intent lease (Lease lease) enters)

  epoch : r.world.world.epoch ≡ (world_left old.entries).epoch
  epoch = ap (λ (w : World). w.epoch) right.world ∙ ap (λ (o : BookNow D). (world_left o.entries).epoch) is

  pub called_takes : TakesStep g h old now number the_step (Ok (Lease lease))
  called_takes = (
    writes_now_ok,
    subst (λ n. HandsOut h old now b.lane.name (record { epoch = n; number = number; token = token; request = q }) (Ok (Lease lease))) epoch (
      b,
      record { home = home_now; free = free; lanes = lanes_now; granted = refl; open_call = open_now; certain = opens.certain },
      refl,
      granted_is,
      owns,
    ),
  )

  pub called_life : (schemas : List Schema) (life : Life) → StepsIn schemas life old now number the_step (Ok (Lease lease))
  called_life schemas life described stands holds =
      let tells = lanes_tell schemas life old (sure g r r' lanes homes given stopped old is running right) described stands holds in
      let apart = stands_apart g r r' lanes homes given stopped old is running right in
      lent_life g schemas life old now number token r.world.world.epoch path q b stands running (sure g r r' lanes homes given stopped old is running right) (Lease lease)
      home_now free (subst (λ (o : BookNow D). all_differ bytes_eq (map name_of o.lanes) ≡ true) is right.names_differ) apart name s stage comes.3 comes.4 twice
      (λ e. follows_by schemas old.lanes old.entries the_intent tells apart tt (may_write old.lanes old.entries number path b.lane.name token q twice follows e))
      (λ e. repeats_by schemas old.lanes old.entries number name s stage path b.lane.name token q tells apart comes.3 comes.4 (may_again e))
      (λ e. subst (λ (w : World). stack_of_call token w ≡ Some (name, s)) (right.world ∙ ap (λ (o : BookNow D). world_left o.entries) is)
      (called_there r.world.world token name s number (right.ready (ran g r r' lanes homes given stopped old is running right)).apart
      (ap (stack_of_operation number) right.world ∙ at) (subst (λ t. is_expected number token r.world.world t ≡ true) e expected)).0)
      holds writes_now_ok (ran g r r' lanes homes given stopped old is running right) lanes_now refl

-- the same of the lane that the step names
pub record HasCalled {D H : Type 0} (g : Ghosts D) (h : HandlerGhosts H) (r' : Record D) (lanes' : List BookLane) (homes' : List Home) (stopped : Option StopFault)
    (old : BookNow D) (number token : ℕ) (path : List ℕ) (q : Request) (twice : Bool) (lease : Leased H) (lane : List ℕ) : Type 0 where
  pub right : IsRight g r' lanes' homes' None
  pub takes : TakesStep g h old (book_of r' lanes' true stopped) number (next.Step path lane token q twice) (Ok (Lease lease))
  pub lives : (schemas : List Schema) (life : Life) → StepsIn {T = Grant H} schemas life old (book_of r' lanes' true stopped) number (next.Step path lane token q twice) (Ok (Lease lease))

pub has_called : {D H : Type 0} (g : Ghosts D) (h : HandlerGhosts H) (r r' : Record D) (lanes lanes' : List BookLane) (homes homes' : List Home) (given : Bool)
    (stopped : Option StopFault) (old : BookNow D) (is : book_of r lanes given stopped ≡ old) (running : old.stopped ≡ None)
    (right : IsRight g r lanes homes stopped) (number token : ℕ) (path lane : List ℕ) (q : Request) (twice : Bool) (b : BookLane)
    (lease : Leased H) (l : IsLentTo h lanes lanes' lane (record { epoch = r.world.world.epoch; number = number; token = token; request = q }) lease b)
    → ComesNext old.lanes old.entries number (next.Step path lane token q twice) → Follows old.lanes old.entries number (next.Step path lane token q twice)
    → spare_of r.journal ≤ spare_of r'.journal → r'.world.world ≡ world_left (entries_in r') → known_in g r' → homes' ≡ map home_of lanes'
    → is_expected number token r.world.world twice ≡ true → list_any (is_out_for token) homes ≡ false → IsOpen g r'
    → AwaitsAs twice r.world (entry.Intent number token lane path q) r'.world → vec_len r'.entries + length lanes ≤ vec_capacity r'.entries
    → EntersIn g r r' twice (entry.Intent number token lane path q) (Ok lease)
    → HasCalled g h r' lanes' homes' stopped old number token path q twice lease lane
has_called g h r r' lanes lanes' homes homes' given stopped old is running right number token path lane q twice b lease l comes follows spare world known are expected
    unused opens awaits places enters =
    let back : lane ≡ b.lane.name = sym l.named in
    let c = subst (λ n. ComesNext old.lanes old.entries number (next.Step path n token q twice)) back comes in
    let f = subst (λ n. Follows old.lanes old.entries number (next.Step path n token q twice)) back follows in
    let a = subst (λ n. AwaitsAs twice r.world (entry.Intent number token n path q) r'.world) back awaits in
    let e = subst (λ n. EntersIn {T = Leased _} g r r' twice (entry.Intent number token n path q) (Ok lease)) back enters in
    subst (λ n. HasCalled g h r' lanes' homes' stopped old number token path q twice lease n) l.named (record {
      right = called_right g h r r' lanes lanes' homes homes' given stopped old is running right number token path q twice b c f spare world known are lease l.home l.free
          l.lent l.granted l.owns expected unused opens a places e;
      takes = called_takes g h r r' lanes lanes' homes homes' given stopped old is running right number token path q twice b c f spare world known are lease l.home l.free
          l.lent l.granted l.owns expected unused opens a places e;
      lives = called_life g h r r' lanes lanes' homes homes' given stopped old is running right number token path q twice b c f spare world known are lease l.home l.free
          l.lent l.granted l.owns expected unused opens a places e;
    })

-- The world was looked at, and the book is as it was.
pub right_looked : {D : Type 0} (g : Ghosts D) (r : Record D) (w : Standing) (lanes : List BookLane) (homes : List Home) (stopped : Option StopFault) → w ≡ r.world
    → IsRight g r lanes homes stopped → IsRight g (record r { world = w }) lanes homes stopped
right_looked g r w lanes homes stopped same right = subst (λ v. IsRight g (record r { world = v }) lanes homes stopped) (sym same) right

-- it stops
pub right_stopped : {D : Type 0} (g : Ghosts D) (r : Record D) (w : Standing) (lanes : List BookLane) (homes : List Home) (stopped : Option StopFault) (fault : StopFault)
    → w ≡ r.world → IsRight g r lanes homes stopped → IsRight g (record r { world = w }) lanes homes (Some fault)
right_stopped g r w lanes homes stopped fault same right = record {
  known = right.known;
  world = ap (λ (v : Standing). v.world) same ∙ right.world;
  homes_are = right.homes_are;
  names_differ = right.names_differ;
  epochs = right.epochs;
  ready = λ n. absurd (cc);
}

-- what comes next over the same world and by the same lanes
pub next_as : (homes hs : List Home) (x y : World) (number : ℕ) (n : Next) → homes ≡ hs → x ≡ y → IsNext (schemas_of homes) x (leases_of homes) number n
    → IsNext (schemas_of hs) y (leases_of hs) number n
next_as homes hs x y number n e f h =
    subst (λ z. IsNext (schemas_of hs) z (leases_of hs) number n) f (subst (λ ks. IsNext (schemas_of ks) x (leases_of ks) number n) e h)

-- nothing comes next, and why
pub lacks_as : (homes : List Home) (lanes : List BookLane) (x : World) (es : List Entry) (number : ℕ) (r : Result Next NextFault) (f : NextFault)
    → homes ≡ map home_of lanes → x ≡ world_left es → (r ≡ Err fault.NoStep → HasNoStep (schemas_of homes) x (leases_of homes) number) → r ≡ Err f
    → IsLacking lanes es number
lacks_as homes lanes x es number r fault.NoMemory are same none is = IsLacking.memory
lacks_as homes lanes x es number r fault.NoStep are same none is =
    IsLacking.step (subst (λ z. HasNoStep (schemas_of (map home_of lanes)) z (leases_of (map home_of lanes)) number) same
    (subst (λ hs. HasNoStep (schemas_of hs) x (leases_of hs) number) are (none is)))

pub follows_as : (homes hs : List Home) (x y : World) (number : ℕ) (n : Next) → homes ≡ hs → x ≡ y
    → ((e : Entry) → entry_for number n ≡ Some e → MayFollow (schemas_of homes) x (leases_of homes) e)
    → (e : Entry) → entry_for number n ≡ Some e → MayFollow (schemas_of hs) y (leases_of hs) e
follows_as homes hs x y number n e f h =
    subst (λ z. (e : Entry) → entry_for number n ≡ Some e → MayFollow (schemas_of hs) z (leases_of hs) e) f
    (subst (λ ks. (e : Entry) → entry_for number n ≡ Some e → MayFollow (schemas_of ks) x (leases_of ks) e) e h)
