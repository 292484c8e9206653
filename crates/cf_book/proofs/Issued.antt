-- What always holds of a book is kept where an entry is granted, and where a lane is lent for a call.
use Rattle.std.proofs.Common.{◌≡◌, ◌⊎◌, inl, inr, ℕ, ◌+◌, ◌≤◌, ◌==◌, Bool, true, false, ◌&&◌, not, List, [], ◌∷◌, ◌++◌, Option, Some, None, Result, Ok, Err, OnOk, find, is_some, map, length, refl, sym, ◌∙◌, ap, subst, arith, cond, true≢false, vec_len, vec_capacity}
use Rattle.std.proofs.lemmas.Bool.{eq-eqb}
use Rattle.std.proofs.lemmas.List.{length-map}
use Rattle.std.specs.Cmp.{first_so, second_so}
use Rattle.std.specs.List.{list_any}
use Rattle.std.specs.Option.{option_map_or}
use Rattle.std.specs.Str.{bytes_eq}
use Rattle.cf_tree.specs.Lists.{In}
use Rattle.cf_tree.specs.Named.{all_differ}
use Rattle.cf_tree.specs.declared.request.Request.{Request}
use Rattle.cf_tree.specs.Keys.{value_at}
use Rattle.cf_disk.specs.declared.disk.Disk.{Ghosts}
use Rattle.cf_entry.proofs.Codec.{some_is}
use Rattle.cf_entry.specs.declared.entry.Entry.{Entry}
use Rattle.cf_entry.specs.declared.entry.Entry.TheVariants as entry
use Rattle.cf_entry.specs.declared.entry.Reply.TheVariants as reply
use Rattle.cf_effect.specs.Calls.{call_under, is_call, new_call}
use Rattle.cf_effect.specs.declared.call.Call.{Call}
use Rattle.cf_effect.specs.declared.held.Pending.{Pending}
use Rattle.cf_effect.specs.Fold.{world_after}
use Rattle.cf_effect.specs.Words.{has_token, pending_of}
use Rattle.cf_effect.specs.World.{StackState, World, is_going, stack_of_operation}
use Rattle.cf_schema.specs.declared.described.Schema.{Schema}
use Rattle.cf_journal.specs.Record.{spare_of}
use Rattle.cf_next.specs.Chosen.{leases_of}
use Rattle.cf_next.specs.declared.home.Home.{Home}
use Rattle.cf_plan.proofs.CreatedStays.{found_in_more, found_still}
use Rattle.cf_plan.proofs.Going.{IsLike, like_intended}
use Rattle.cf_plan.proofs.Listed.{bytes_same}
use Rattle.cf_plan.proofs.RunLists.{in_end}
use Rattle.cf_plan.specs.Follow.{MayFollow}
use Rattle.cf_plan.specs.Life.{IsGranted}
use Rattle.cf_stacks.specs.Apart.{AreApart, HasNextNumber}
use Rattle.cf_stacks.specs.Room.{HasRoom, Standing, awaited_at, has_call, stack_of_call, stepped, with_room}
use Rattle.cf_stacks.proofs.Awaited.{repeat_is_awaited, room_stays}
use Rattle.cf_stacks.proofs.Worlds.{found_stands}
use Rattle.cf_lane.specs.Calling.{Granted}
use Rattle.cf_lane.specs.Lanes.{LaneNow}
use Rattle.cf_book.specs.Calls.{stopped_by}
use Rattle.cf_book.specs.Granting.{IsOpenCall}
use Rattle.cf_book.specs.Inside.{IsAwaited, IsOpen, IsReady, IsRight, StepsOver, WritesIn, calls_out, doubt_in, entries_in, known_in, name_of}
use Rattle.cf_book.specs.Lending.{AwaitsAs, EntersIn, is_called_on, is_expected, is_new_on, is_out_for}
use Rattle.cf_book.specs.Record.{with_doubt, world_left}
use Rattle.cf_book.specs.State.{BookLane, home_of, lent_for, lent_out, with_lane}
use Rattle.cf_book.specs.declared.record.Record.{Record}
use Rattle.cf_book.specs.declared.stop.StopFault.{StopFault}
use Rattle.cf_book.specs.declared.stop.StopFault.TheVariants as stop
use Rattle.cf_book.proofs.Awaits.{awaited_granted}
use Rattle.cf_book.proofs.Begins.{calls_within}
use Rattle.cf_book.proofs.Leased.{flies_out}
use Rattle.cf_book.proofs.Lent.{OfLent, it, names_lent, of_lent, other, unused_by}
use Rattle.cf_core.proofs.Operations.{at_it, left, like_goes}
use Rattle.cf_book.proofs.Raised.{granted_new}
use Rattle.cf_book.proofs.Written.{IsOpening, kept_calls, kept_world, opening_written, ready_stepped, right_written}

-- nothing that is granted has a number of its own
granted_number : (e : Entry) (x : World) → IsGranted e → HasNextNumber e x
granted_number (entry.Kept number path physical w) x i = tt
granted_number (entry.Intent number token lane path r) x i = tt
granted_number (entry.Phase number p cause) x i = tt
granted_number (entry.Done number state failed) x i = tt
granted_number (entry.Outcome number token a before after) x i = absurd i
granted_number (entry.Opened epoch lanes) x i = absurd i
granted_number (entry.Begin number name k) x i = absurd i
granted_number (entry.ChangeSet number name source rows outputs) x i = absurd i

-- The book is ready behind an entry that is granted.
pub ready_granted : {D : Type 0} (g : Ghosts D) (old new : Record D) (lanes : List BookLane) (schemas : List Schema) (e : Entry) → IsReady g old lanes → IsGranted e
    → MayFollow schemas old.world.world (leases_of (map home_of lanes)) e → IsOpen g new → StepsOver old.world e new.world
    → vec_len new.entries + length lanes ≤ vec_capacity new.entries → spare_of old.journal ≤ spare_of new.journal → IsReady g new lanes
ready_granted g old new lanes schemas e ready grants follows opens steps places spare =
    let out : List ℕ = leases_of (map home_of lanes) in
    ready_stepped g old new lanes e ready opens steps (omega (arith, places, calls_within lanes)) spare (granted_number e old.world.world grants)
    (λ y b call i o same a. awaited_granted schemas y out (subst AreApart (sym same) ready.apart) call (flies_out lanes b call i o) a e grants
    (subst (λ x. MayFollow schemas x out e) (sym same) follows))

pub right_granted : {D T : Type 0} (g : Ghosts D) (old new : Record D) (lanes : List BookLane) (homes : List Home) (schemas : List Schema) (e : Entry)
    (result : Result T StopFault) → IsRight g old lanes homes None → IsGranted e
    → MayFollow schemas (world_left (entries_in old)) (leases_of (map home_of lanes)) e → WritesIn g old new e result → OnOk result (IsOpen g new)
    → OnOk result (StepsOver old.world e new.world) → OnOk result (vec_len new.entries + length lanes ≤ vec_capacity new.entries)
    → spare_of old.journal ≤ spare_of new.journal → new.world.world ≡ world_left (entries_in new) → known_in g new
    → IsRight g new lanes homes (stopped_by None result)
right_granted {T = T} g old new lanes homes schemas e result right grants may writes opens steps places spare world known =
    right_written g old new lanes homes e result right (granted_new e grants) writes world known (by result opens steps places)
  where
    by : (result : Result T StopFault) → OnOk result (IsOpen g new) → OnOk result (StepsOver old.world e new.world)
        → OnOk result (vec_len new.entries + length lanes ≤ vec_capacity new.entries) → OnOk result (IsReady g new lanes)
    by (Ok x) o s p =
        ready_granted g old new lanes schemas e (right.ready refl) grants
        (subst (λ x. MayFollow schemas x (leases_of (map home_of lanes)) e) (sym right.world) may) o s p spare
    by (Err fault) o s p = tt

-- A new call is awaited behind its Intent.
module _ (x : Standing) (number token : ℕ) (lane path : List ℕ) (r : Request) (name : List ℕ) (s : StackState)
    (at : stack_of_operation number x.world ≡ Some (name, s)) (new : not (list_any (has_token token) s.tokens) ≡ true) where
  abbrev intent : Entry
  intent = entry.Intent number token lane path r

  abbrev asked : Pending
  asked = record { token = token; path = path; lane = lane; request = r }

  abbrev behind : StackState
  behind = left x.world number name s at intent refl

  like : IsLike s behind
  like = let a = like_intended number asked s in record { operation = a.operation; status = a.status }

  goes_on : stack_of_operation number (stepped x intent).world ≡ Some (name, behind)
  goes_on = at_it x.world number name s at intent refl (like_goes x.world number name s at intent refl like)

  listed : is_some (find (is_call token) (s.ledger ++ new_call number s.status asked ∷ [])) ≡ true
  listed = by (find (is_call token) s.ledger) refl where
    its : is_call token (new_call number s.status asked) ≡ true
    its = eq-eqb token token refl

    by : (o : Option Call) → find (is_call token) s.ledger ≡ o → is_some (find (is_call token) (s.ledger ++ new_call number s.status asked ∷ [])) ≡ true
    by None e = ap is_some (found_in_more (is_call token) s.ledger (new_call number s.status asked) its e)
    by (Some c) e = ap is_some (found_still (is_call token) s.ledger (new_call number s.status asked ∷ []) c e)

  has_row : is_some (call_under token behind) ≡ true
  has_row = by (list_any (has_token token) s.tokens) new where
    with_it : StackState
    with_it = record s { tokens = s.tokens ++ asked ∷ []; ledger = s.ledger ++ new_call number s.status asked ∷ [] }

    by : (b : Bool) → not b ≡ true → is_some (find (is_call token) (cond b s with_it).ledger) ≡ true
    by true n = absurd (true≢false (sym n))
    by false n = listed

  has_room : has_call token (awaited_at name (stepped x intent)) ≡ true
  has_room = elim (room_stays x number token lane path name r [] number 0 0 reply.Doubt s behind at tt goes_on tt) [
    | inl (awaited, short) ↦
        sym (ap (λ (o : Option (List ℕ × StackState)). option_map_or (λ z. has_call token (awaited_at z.0 (stepped x intent))) o false) goes_on) ∙ awaited
    | inr ready ↦ absurd (cc)
  ]

  opened : In asked behind.tokens
  opened = by (list_any (has_token token) s.tokens) new where
    with_it : StackState
    with_it = record s { tokens = s.tokens ++ asked ∷ []; ledger = s.ledger ++ new_call number s.status asked ∷ [] }

    by : (b : Bool) → not b ≡ true → In asked (cond b s with_it).tokens
    by true n = absurd (true≢false (sym n))
    by false n = in_end asked s.tokens

  pub open_new : (epoch : ℕ) (es : List Entry) → (stepped x intent).world ≡ world_left es
      → IsOpenCall es lane (record { epoch = epoch; number = number; token = token; request = r })
  open_new epoch es is = record { name = name; stack = behind; path = path; going = sym (ap (stack_of_operation number) is) ∙ goes_on; pending = opened }

  pub awaited_new : (epoch : ℕ) → IsAwaited (stepped x intent) (record { epoch = epoch; number = number; token = token; request = r })
  awaited_new epoch = record { name = name; stack = behind; at = goes_on; row = has_row; room = has_room }

-- The stack on which a call is open that is made again.
pub called_there : (x : World) (token : ℕ) (name : List ℕ) (s : StackState) (number : ℕ) → AreApart x → stack_of_operation number x ≡ Some (name, s)
    → is_called_on token (stack_of_operation number x) (stack_of_call token x) ≡ true
    → (stack_of_call token x ≡ Some (name, s)) × (is_some (call_under token s) ≡ true)
called_there x token name s number apart at called =
    by (stack_of_call token x) refl (subst (λ (o : Option (List ℕ × StackState)). is_called_on token o (stack_of_call token x) ≡ true) at called)
  where
    by : (o : Option (List ℕ × StackState)) → stack_of_call token x ≡ o → is_called_on token (Some (name, s)) o ≡ true
        → (stack_of_call token x ≡ Some (name, s)) × (is_some (call_under token s) ≡ true)
    by None e h = absurd (true≢false (sym h))
    by (Some q) e h =
        let row = second_so (bytes_eq name q.0) (is_some (call_under token s)) h in
        let named : name ≡ q.0 = bytes_same name q.0 (first_so (bytes_eq name q.0) (is_some (call_under token s)) h) in
        let here : value_at name x.stacks ≡ Some s = found_stands (λ (p : List ℕ × StackState). is_going number p.1) x.stacks (name, s) apart.names at in
        let there : value_at q.0 x.stacks ≡ Some q.1 = found_stands (λ (p : List ℕ × StackState). is_some (pending_of token p.1)) x.stacks q apart.names e in
        let same : q.1 ≡ s = some_is _ _ (sym there ∙ ap (λ n. value_at n x.stacks) (sym named) ∙ here) in (
          e ∙ ap (λ n. Some (n, q.1)) (sym named) ∙ ap (λ (z : StackState). Some (name, z)) same,
          row,
        )

-- A call that is made again is awaited where room is made for its outcome.
pub awaited_again : (x : Standing) (number token epoch : ℕ) (lane path : List ℕ) (r : Request) (name : List ℕ) (s : StackState) → AreApart x.world
    → stack_of_operation number x.world ≡ Some (name, s) → is_called_on token (stack_of_operation number x.world) (stack_of_call token x.world) ≡ true
    → IsAwaited (with_room (entry.Intent number token lane path r) x) (record { epoch = epoch; number = number; token = token; request = r })
awaited_again x number token epoch lane path r name s apart at called =
    let (found, row) = called_there x.world token name s number apart at called in
    record { name = name; stack = s; at = at; row = row; room = repeat_is_awaited x number token lane path name r s found }

-- One call more is out.
pub ready_lent : {D : Type 0} (g : Ghosts D) (r : Record D) (lanes : List BookLane) (lane : LaneNow) (call : Granted) → IsReady g r lanes
    → vec_len r.entries + length lanes ≤ vec_capacity r.entries → IsAwaited r.world call
    → ((a : BookLane) (c : Granted) → In a lanes → a.out ≡ Some c → c.token ≡ call.token → ⊥) → IsReady g r (lent_out call lane lanes)
ready_lent g r lanes lane call h places awaited unused = record {
  appends = h.appends;
  spare = h.spare;
  places = omega (arith, places, calls_within (lent_out call lane lanes), length-map lanes (with_lane lane.name (lent_for call lane)));
  apart = h.apart;
  awaited = λ c k i e. awaits c k e (of_lent call lane lanes c i);
  once = λ c d k l i j e f same. apart_by c d k l e f same (of_lent call lane lanes c i) (of_lent call lane lanes d j);
}
  where
    is_call_of : (c : BookLane) (k : Granted) → c ≡ lent_for call lane → c.out ≡ Some k → k ≡ call
    is_call_of c k s e = some_is _ _ (sym e ∙ ap (λ (z : BookLane). z.out) s)

    awaits : (c : BookLane) (k : Granted) → c.out ≡ Some k → OfLent call lane lanes c → IsAwaited r.world k
    awaits c k e (it s) = subst (IsAwaited r.world) (sym (is_call_of c k s e)) awaited
    awaits c k e (other i n) = h.awaited c k i e

    apart_by : (c d : BookLane) (k l : Granted) → c.out ≡ Some k → d.out ≡ Some l → k.token ≡ l.token → OfLent call lane lanes c → OfLent call lane lanes d → c ≡ d
    apart_by c d k l e f same (it s) (it t) = s ∙ sym t
    apart_by c d k l e f same (it s) (other j n) = absurd (unused d l j f (sym same ∙ ap (λ (z : Granted). z.token) (is_call_of c k s e)))
    apart_by c d k l e f same (other i n) (it t) = absurd (unused c k i e (same ∙ ap (λ (z : Granted). z.token) (is_call_of d l t f)))
    apart_by c d k l e f same (other i n) (other j m) = h.once c d k l i j e f same

-- the opening is the last one still
entered_opening : {D T : Type 0} (g : Ghosts D) (old new : Record D) (repeated : Bool) (number token : ℕ) (lane path : List ℕ) (q : Request) (result : Result T StopFault)
    → EntersIn g old new repeated (entry.Intent number token lane path q) result → doubt_in old ≡ None → (n : ℕ) → n ≡ (world_left (entries_in old)).epoch
    → IsOpening n (entries_in new) (doubt_in new)
entered_opening {T = T} g old new repeated number token lane path q result h certain n is = by repeated result h where
  same : (entries_in new ≡ entries_in old) → (doubt_in new ≡ doubt_in old) → IsOpening n (entries_in new) (doubt_in new)
  same es d =
      subst (λ xs. IsOpening n xs (doubt_in new)) (sym es) (subst (IsOpening n (entries_in old)) (sym (d ∙ certain)) (is, is))

  by : (repeated : Bool) (result : Result T StopFault) → EntersIn g old new repeated (entry.Intent number token lane path q) result
      → IsOpening n (entries_in new) (doubt_in new)
  by false result h =
      opening_written g old.disk new.disk (entries_in old) (entries_in new) (doubt_in old) (doubt_in new) (entry.Intent number token lane path q) refl
      result h certain n is
  by true (Ok x) h = same h.1 h.2
  by true (Err stop.NoMemory) h = same h.1 h.2
  by true (Err stop.DiskFault) h = absurd h
  by true (Err (stop.Full l need room)) h = absurd h
  by true (Err (stop.LaneAhead place fence epoch)) h = absurd h

-- What always holds where a call could not be granted.
pub right_unissued : {D : Type 0} (T : Type 0) (g : Ghosts D) (old new : Record D) (lanes : List BookLane) (homes homes' : List Home) (repeated : Bool) (number token : ℕ)
    (lane path : List ℕ) (q : Request) (fault : StopFault) → IsRight g old lanes homes None
    → EntersIn {T = T} g old new repeated (entry.Intent number token lane path q) (Err fault) → new.world.world ≡ world_left (entries_in new) → known_in g new
    → homes' ≡ map home_of lanes → IsRight g new lanes homes' (Some fault)
right_unissued T g old new lanes homes homes' repeated number token lane path q fault right enters world known are = record {
  known = known;
  world = world;
  homes_are = are;
  names_differ = right.names_differ;
  epochs = λ b call i out.
      entered_opening {T = T} g old new repeated number token lane path q (Err fault) enters (right.ready refl).appends.certain call.epoch (right.epochs b call i out).0;
  ready = λ n. absurd (cc);
}

-- What always holds where it was.
module _ {D T : Type 0} (g : Ghosts D) (old new : Record D) (lanes : List BookLane) (homes homes' : List Home) (schemas : List Schema) (number token : ℕ)
    (path : List ℕ) (q : Request) (b : BookLane) (name : List ℕ) (s : StackState) (x : T) (right : IsRight g old lanes homes None)
    (at : stack_of_operation number (world_left (entries_in old)) ≡ Some (name, s)) (unused : list_any (is_out_for token) homes ≡ false)
    (opens : IsOpen g new) (places : vec_len new.entries + length lanes ≤ vec_capacity new.entries) (spare : spare_of old.journal ≤ spare_of new.journal)
    (world : new.world.world ≡ world_left (entries_in new)) (known : known_in g new) where
  abbrev its_intent : Entry
  its_intent = entry.Intent number token b.lane.name path q

  abbrev its_call : Granted
  its_call = record { epoch = old.world.world.epoch; number = number; token = token; request = q }

  abbrev its_pending : Pending
  its_pending = record { token = token; path = path; lane = b.lane.name; request = q }

  ready : IsReady g old lanes
  ready = right.ready refl

  going : stack_of_operation number old.world.world ≡ Some (name, s)
  going = ap (stack_of_operation number) right.world ∙ at

  pub ready_issued : (repeated : Bool) → is_expected number token old.world.world repeated ≡ true → AwaitsAs repeated old.world its_intent new.world
      → (repeated ≡ false → MayFollow schemas (world_left (entries_in old)) (leases_of (map home_of lanes)) its_intent)
      → (repeated ≡ true → In its_pending s.tokens) → IsReady g new lanes × IsAwaited new.world its_call × IsOpenCall (entries_in new) b.lane.name its_call
  ready_issued false expected steps follows its = (
    ready_granted g old new lanes schemas its_intent ready tt
        (subst (λ z. MayFollow schemas z (leases_of (map home_of lanes)) its_intent) (sym right.world) (follows refl)) opens steps places spare,
    (by steps).0,
    (by steps).1,
  )
    where
      by : StepsOver old.world its_intent new.world → IsAwaited new.world its_call × IsOpenCall (entries_in new) b.lane.name its_call
      by (y, keeps, step) =
          let same : y.world ≡ old.world.world = kept_world old.world its_intent y keeps in
          let at_y : stack_of_operation number y.world ≡ Some (name, s) = ap (stack_of_operation number) same ∙ going in
          let fresh : not (list_any (has_token token) s.tokens) ≡ true = subst (λ (o : Option (List ℕ × StackState)). is_new_on token o ≡ true) going expected in (
            subst (λ (z : Standing). IsAwaited z its_call) (sym step)
                (awaited_new y number token b.lane.name path q name s at_y fresh old.world.world.epoch),
            open_new y number token b.lane.name path q name s at_y fresh old.world.world.epoch (entries_in new)
                (sym (ap (λ (z : Standing). z.world) step) ∙ world),
          )
  ready_issued true expected room follows its = (
    record {
      appends = opens;
      spare = (let h = ready.spare in omega (arith, h, spare));
      places = omega (arith, places, calls_within lanes);
      apart = subst (λ (z : Standing). AreApart z.world) (sym room) ready.apart;
      awaited = λ c k i e. kept_calls old.world its_intent new.world k (inr (inl room)) (ready.awaited c k i e);
      once = ready.once;
    },
    subst (λ (z : Standing). IsAwaited z its_call) (sym room)
        (awaited_again old.world number token old.world.world.epoch b.lane.name path q name s ready.apart going expected),
    record {
      name = name;
      stack = s;
      path = path;
      going = sym (ap (stack_of_operation number) (sym (ap (λ (z : Standing). z.world) room) ∙ world)) ∙ going;
      pending = its refl;
    },
  )

  pub right_issued : (repeated : Bool) → is_expected number token old.world.world repeated ≡ true → AwaitsAs repeated old.world its_intent new.world
      → (repeated ≡ false → MayFollow schemas (world_left (entries_in old)) (leases_of (map home_of lanes)) its_intent)
      → (repeated ≡ true → In its_pending s.tokens) → EntersIn g old new repeated its_intent (Ok x)
      → homes' ≡ map home_of (lent_out its_call b.lane lanes) → IsRight g new (lent_out its_call b.lane lanes) homes' None
  right_issued repeated expected awaits follows its enters are =
      let (r, a, o) = ready_issued repeated expected awaits follows its in
      record {
        known = known;
        world = world;
        homes_are = are;
        names_differ = ap (all_differ bytes_eq) (names_lent its_call b.lane lanes) ∙ right.names_differ;
        epochs = λ c k i e. opening c k e (of_lent its_call b.lane lanes c i);
        ready = λ n. ready_lent g new lanes b.lane its_call r places a
            (unused_by lanes token (subst (λ hs. list_any (is_out_for token) hs ≡ false) right.homes_are unused));
      }
    where
      stays : (n : ℕ) → n ≡ (world_left (entries_in old)).epoch → IsOpening n (entries_in new) (doubt_in new)
      stays n is = entered_opening g old new repeated number token b.lane.name path q (Ok x) enters ready.appends.certain n is

      opening : (c : BookLane) (k : Granted) → c.out ≡ Some k → OfLent its_call b.lane lanes c → IsOpening k.epoch (entries_in new) (doubt_in new)
      opening c k e (it same) =
          let mine : k ≡ its_call = some_is _ _ (sym e ∙ ap (λ (z : BookLane). z.out) same) in
          stays k.epoch (ap (λ (z : Granted). z.epoch) mine ∙ ap (λ (z : World). z.epoch) right.world)
      opening c k e (other i n) = stays k.epoch (right.epochs c k i e).0
