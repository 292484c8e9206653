-- What a book stands for where a lane comes home, and how a lease and a call are parked.
use Rattle.std.proofs.Common.{◌≡◌, ◌⊎◌, ℕ, ◌==◌, Bool, true, not, List, [], ◌∷◌, ◌++◌, inl, inr, Option, Some, None, map, filter, find, option_map, refl, sym, ◌∙◌, ap, subst, cond, false}
use Rattle.std.specs.Str.{bytes_eq}
use Rattle.cf_tree.specs.Lists.{In}
use Rattle.cf_tree.specs.Named.{all_differ}
use Rattle.cf_handler.specs.Fence.{CallMove, FencedLane}
use Rattle.cf_handler.specs.Tells.{CallTells, LateEffect, Lates}
use Rattle.cf_handler.specs.declared.handler.Handler.{Ghosts}
use Rattle.cf_schema.specs.declared.described.Schema.{Schema}
use Rattle.cf_entry.specs.declared.entry.Entry.{Entry}
use Rattle.cf_lane.specs.Calling.{Granted, answered_lane, granted_in, granted_of, leased_lane, told_of}
use Rattle.cf_lane.specs.Lanes.{LaneNow, lane_now}
use Rattle.cf_lane.specs.declared.told.Told.{Told}
use Rattle.cf_plan.specs.Lanes.{Lane, lane_at}
use Rattle.cf_plan.specs.Life.{Act, Answered as Replied, AreRaised, CallEnd, Event, Happens, IsLife, Lease as Leased, Life, Park, lease_at, lease_replying, life_after, without_lease, world_of}
use Rattle.std.proofs.lemmas.Bool.{eq-eqb}
use Rattle.cf_plan.proofs.ChangedLists.{find_mapped}
use Rattle.cf_plan.proofs.CreatedStays.{found_one}
use Rattle.cf_core.specs.Theorem.{HoldsAlways}
use Rattle.cf_book.specs.Calls.{IsBack, IsHome}
use Rattle.cf_book.specs.Events.{IsCallMade, ParksCall, late_on}
use Rattle.cf_book.specs.Inside.{MayComeHome, name_of}
use Rattle.cf_book.specs.Lives.{AreEntriesOf, AreLanesOf, AreLeasesOf, LeadsTo, NamesLanes, StandsFor, lease_for, told_lane}
use Rattle.cf_book.specs.Parking.{MayPark, Parks, parked_lane}
use Rattle.cf_book.specs.Record.{IsUnwritten, with_doubt, world_left}
use Rattle.cf_book.specs.State.{BookLane, BookNow, IsOut, come_home, lent_for}
use Rattle.cf_book.specs.declared.homing.Parked.{Parked}
use Rattle.cf_book.specs.declared.homing.Parked.TheVariants.{Lease, Answered}
use Rattle.cf_book.proofs.Raised.{call_of_book, raised_along, raised_so}
use Rattle.cf_book.proofs.Moves.{IsMovedTo, along, call_leads, others_left}
use Rattle.cf_book.proofs.Standing.{lanes_home, lease_stands, leases_home}
use Rattle.cf_book.proofs.Named.{named_home}

pub may_come : {H : Type 0} (g : Ghosts H) (lanes : List BookLane) (p : Parked H) → MayPark g lanes p → MayComeHome g lanes (parked_lane p)
may_come g lanes (Lease l) h = (lane_now g (leased_lane l), granted_of l, h, refl, refl)
may_come g lanes (Answered a) h = (h.before, granted_in (told_of a), h.out, sym h.called.name, sym h.called.schema)

-- the calls that are out are of the last opening, with the entry in doubt or without it
abbrev pub AreOfOpening : {D : Type 0} → BookNow D → Type 0
AreOfOpening b = (lane : BookLane) (call : Granted) (es : List Entry) → In lane b.lanes → lane.out ≡ Some call → AreEntriesOf b es
    → call.epoch ≡ (world_left es).epoch

-- how a lane that tells stands in a life
pub record IsToldAs (was : LaneNow) (l : Lane) : Type 0 where
  pub state : FencedLane
  pub told : was.told ≡ Some state
  pub is : l ≡ record { name = was.name; kind = was.schema.kind; state = state }

pub told_as : (was : LaneNow) (call : Granted) (l : Lane) → told_lane (lent_for call was) ≡ Some l → IsToldAs was l
told_as was call l e = by was.told refl e where
  by : (o : Option FencedLane) → was.told ≡ o → option_map (λ (s : FencedLane). record { name = was.name; kind = was.schema.kind; state = s }) o ≡ Some l
      → IsToldAs was l
  by None t e = absurd (cc)
  by (Some s) t e = record { state = s; told = t; is = cc }

-- The book stands for a life with these lanes and leases where nothing is written as its lane comes home.
stands_home : {D : Type 0} (old new : BookNow D) (lane : LaneNow) (life after : Life) → IsHome old new lane → IsUnwritten old new
    → (new.stopped ≡ None → old.stopped ≡ None) → StandsFor old life → after.entries ≡ life.entries → after.is_open ≡ life.is_open
    → after.has_granted ≡ life.has_granted → after.is_stopped ≡ life.is_stopped → AreLanesOf (come_home lane old.lanes) after.lanes
    → AreLeasesOf (come_home lane old.lanes) after.leases → AreRaised after → NamesLanes (come_home lane old.lanes) (world_of after) → StandsFor new after
stands_home old new lane life after home same runs stands es opens granted stopped lanes leases raised named = record {
  entries = elim stands.entries [
    | inl e ↦ inl (es ∙ e ∙ sym same.entries)
    | inr e ↦ inr (es ∙ e ∙ ap (λ xs. with_doubt xs old.doubt) (sym same.entries) ∙ ap (with_doubt new.entries) (sym same.doubt))
  ];
  lanes = subst (λ ls. AreLanesOf ls after.lanes) (sym home.lanes) lanes;
  leases = subst (λ ls. AreLeasesOf ls after.leases) (sym home.lanes) leases;
  opened = opens ∙ stands.opened;
  granted = granted ∙ stands.granted ∙ sym home.granted;
  running = λ n. stopped ∙ stands.running (runs n);
  raised = raised;
  named = subst (λ ls. NamesLanes ls (world_of after)) (sym home.lanes) named;
}

-- a lease that has its answer keeps its token
same_token : (token : ℕ) (reply : CallEnd) (m : Leased) → (lease_replying token reply m).token ≡ m.token
same_token token reply m = by (token == m.token) where
  by : (b : Bool) → (cond b (record m { reply = Some reply }) m).token ≡ m.token
  by true = refl
  by false = refl

-- The call that was made, as events of a life: those that lead to where its lease has its answer, and the lanes and leases as it is gone.
pub record CallComes (schemas : List Schema) (life : Life) (lanes : List BookLane) (lane : LaneNow) (told : Told) : Type 0 where
  pub calls : List Event
  pub made : IsCallMade lane.name told calls
  pub after : List Lane
  pub lease : Leased
  pub number : lease.number ≡ told.number
  pub token : lease.token ≡ told.token
  pub replies : lease.reply ≡ Some (Replied told.answer told.before told.after)
  pub leased : lease_at told.token (record life { lanes = after; leases = map (lease_replying told.token (Replied told.answer told.before told.after)) life.leases })
      ≡ Some lease
  pub lives : IsLife schemas life calls
      (record life { lanes = after; leases = map (lease_replying told.token (Replied told.answer told.before told.after)) life.leases })
  pub raised : AreRaised
      (record life { lanes = after; leases = map (lease_replying told.token (Replied told.answer told.before told.after)) life.leases })
  pub named : NamesLanes (come_home lane lanes) (world_of life)
  pub lanes_are : AreLanesOf (come_home lane lanes) after
  pub leases_are : AreLeasesOf (come_home lane lanes) (filter (λ (m : Leased). not (told.token == m.token)) life.leases)
  pub out : Leased
  pub is_out : In out life.leases
  pub out_number : out.number ≡ told.number
  pub out_token : out.token ≡ told.token

module _ {D : Type 0} (schemas : List Schema) (life : Life) (old : BookNow D) (was lane : LaneNow) (call : Granted)
    (out : IsOut old.lanes was call) (differ : all_differ bytes_eq (map name_of old.lanes) ≡ true) (named : lane.name ≡ was.name)
    (typed : lane.schema ≡ was.schema) (stands : StandsFor old life) (holds : HoldsAlways schemas life) where
  abbrev mine : Leased
  mine = lease_for (lent_for call was) call

  leased : lease_at call.token life ≡ Some mine
  leased = lease_stands old.lanes was lane call out differ named typed life.leases stands.leases holds.leases

  less : AreLeasesOf (come_home lane old.lanes) (filter (λ (m : Leased). not (call.token == m.token)) life.leases)
  less = leases_home old.lanes was lane call out differ named typed life.leases stands.leases holds.leases

  -- the lease is parked
  lease_parks : (new : BookNow D) → IsHome old new lane → IsUnwritten old new → (new.stopped ≡ None → old.stopped ≡ None) → lane ≡ was
      → LeadsTo schemas life (Park call.token ∷ []) new
  lease_parks new home unwritten runs same =
      let (l, told, at) = stands.lanes (lent_for call was) out in
      let t = told_as was call l told in
      let here : lane_at was.name life.lanes ≡ Some (record l { state = t.state }) =
      ap (λ (z : Lane). lane_at z.name life.lanes) (sym t.is) ∙ at ∙ ap Some (t.is ∙ ap (λ (z : Lane). record z { state = t.state }) (sym t.is)) in
      let lanes = lanes_home old.lanes was lane call out differ named typed life.lanes life.lanes l t.state stands.lanes told
      (ap (λ (z : LaneNow). z.told) same ∙ t.told) (record { itself = here; others = λ m n. refl }) in
      record {
        after = without_lease call.token life;
        happen = ((stands.opened, mine, leased), refl);
        stands = stands_home old new lane life (without_lease call.token life) home unwritten runs stands refl refl refl refl lanes less stands.raised
            (named_home old.lanes differ (world_of life) was lane call out named typed stands.named);
      }

-- the call that was made comes home
pub call_comes : {D : Type 0} (schemas : List Schema) (life : Life) (old : BookNow D) (lane : LaneNow) (told : Told) → IsBack old.lanes lane told
    → all_differ bytes_eq (map name_of old.lanes) ≡ true → AreOfOpening old → StandsFor old life → HoldsAlways schemas life
    → CallComes schemas life old.lanes lane told
call_comes schemas life old lane told back differ opening stands holds =
    let was = back.before in
    let call : Granted = granted_in told in
    let called = back.called in
    let mine : Leased = lease_for (lent_for call was) call in
    let (l, tells, at) = stands.lanes (lent_for call was) back.out in
    let t = told_as was call l tells in
    let leased : lease_at call.token life ≡ Some mine = lease_stands old.lanes was lane call back.out differ called.name called.schema life.leases stands.leases holds.leases in
    let moves : CallTells was.name (Some t.state) lane.told call.epoch call.token call.request told.answer =
    subst (λ o. CallTells was.name o lane.told call.epoch call.token call.request told.answer) t.told called.tells in
    let (mid, lates, after, is, move) = moves in
    let epoch : call.epoch ≡ (world_of life).epoch = opening (lent_for call was) call life.entries back.out refl stands.entries in
    let here : lane_at was.name life.lanes ≡ Some l = ap (λ (z : Lane). lane_at z.name life.lanes) (sym t.is) ∙ at in
    let its : l.state ≡ t.state = ap (λ (z : Lane). z.state) t.is in
    let (effects, left, lanes, lives, moved) = call_leads schemas life mine l mid after told.answer told.before told.after leased refl here
    (subst (λ (z : FencedLane). Lates was.name z mid) (sym its) lates) called.cause
    (subst (λ n. CallMove was.name mid after n call.token call.request told.answer) epoch move) in
    let reply : CallEnd = Replied told.answer told.before told.after in
    let test : Leased → Bool = λ m. call.token == m.token in
    let still : find test (map (lease_replying call.token reply) life.leases) ≡ Some (lease_replying call.token reply mine) =
    find_mapped test (lease_replying call.token reply) life.leases (λ m. ap (λ n. call.token == n) (same_token call.token reply m)) ∙ ap (option_map (lease_replying call.token reply)) leased in
    let its_reply : lease_replying call.token reply mine ≡ record mine { reply = Some reply } =
    ap (λ b. cond b (record mine { reply = Some reply }) mine) (eq-eqb call.token call.token refl) in
    record {
      calls = map (late_on was.name) effects ++ Act call.token reply left ∷ [];
      made = record { effects = effects; left = left; are = ap (λ n. map (late_on n) effects ++ Act call.token reply left ∷ []) (sym called.name) };
      after = lanes;
      lease = record mine { reply = Some reply };
      number = refl;
      token = refl;
      replies = refl;
      leased = still ∙ ap Some its_reply;
      lives = lives;
      raised = raised_along schemas life (map (late_on was.name) effects ++ Act call.token reply left ∷ []) _ (call_of_book was.name effects call.token reply left) lives stands.raised;
      named = named_home old.lanes differ (world_of life) was lane call back.out called.name called.schema stands.named;
      lanes_are = lanes_home old.lanes was lane call back.out differ called.name called.schema life.lanes lanes l after stands.lanes tells is moved;
      leases_are = leases_home old.lanes was lane call back.out differ called.name called.schema life.leases stands.leases holds.leases;
      out = mine;
      is_out = (found_one test life.leases mine leased).0;
      out_number = refl;
      out_token = refl;
    }

-- and is parked
pub call_parks : {D : Type 0} (schemas : List Schema) (life : Life) (old new : BookNow D) (lane : LaneNow) (told : Told)
    → CallComes schemas life old.lanes lane told → IsHome old new lane → IsUnwritten old new → (new.stopped ≡ None → old.stopped ≡ None)
    → StandsFor old life → ParksCall schemas life new lane.name told
call_parks schemas life old new lane told c home unwritten runs stands =
    let reply : CallEnd = Replied told.answer told.before told.after in
    let half : Life = record life { lanes = c.after; leases = map (lease_replying told.token reply) life.leases } in
    let gone : Life = record life { lanes = c.after; leases = filter (λ (m : Leased). not (told.token == m.token)) life.leases } in
    let is_gone : gone ≡ life_after half (Park told.token) =
    ap (λ (ms : List Leased). record life { lanes = c.after; leases = ms }) (sym (others_left told.token reply life.leases)) in (
      c.calls,
      c.made,
      record {
        after = gone;
        happen = along schemas life c.calls half (Park told.token ∷ []) gone c.lives ((stands.opened, c.lease, c.leased), is_gone);
        stands = stands_home old new lane life gone home unwritten runs stands refl refl refl refl c.lanes_are c.leases_are (raised_so half gone refl refl c.raised) c.named;
      },
    )

pub parks : {H D : Type 0} (g : Ghosts H) (schemas : List Schema) (life : Life) (old new : BookNow D) (p : Parked H) → MayPark g old.lanes p
    → all_differ bytes_eq (map name_of old.lanes) ≡ true → AreOfOpening old → IsHome old new (lane_now g (parked_lane p)) → IsUnwritten old new
    → new.stopped ≡ old.stopped → StandsFor old life → HoldsAlways schemas life → Parks g schemas life new p
parks g schemas life old new (Lease l) may differ opening home unwritten stopped stands holds =
    lease_parks schemas life old (lane_now g (leased_lane l)) (lane_now g (leased_lane l)) (granted_of l) may differ refl refl stands holds new home unwritten
    (λ n. sym stopped ∙ n) refl
parks g schemas life old new (Answered a) may differ opening home unwritten stopped stands holds =
    call_parks schemas life old new (lane_now g (answered_lane a)) (told_of a)
    (call_comes schemas life old (lane_now g (answered_lane a)) (told_of a) may differ opening stands holds) home unwritten (λ n. sym stopped ∙ n) stands
