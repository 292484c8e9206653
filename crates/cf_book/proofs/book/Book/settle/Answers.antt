use Rattle.std.proofs.Common.{arith, IsTrue, ◌≡◌, ◌∙◌, None, Some, Option, Ok, Err, List, map, refl, sym, ap, subst, inl, inr}
use Rattle.cf_entry.specs.declared.entry.Reply.{Reply}
use Rattle.cf_disk.specs.Disk.{LeavesOnly}
use Rattle.cf_journal.specs.Record.{spare_of}
use Rattle.cf_lane.specs.Calling.{answered_lane, granted_in, told_of}
use Rattle.cf_lane.specs.Lanes.{lane_now}
use Rattle.cf_lane.specs.declared.lane.Lane.{Lane}
use Rattle.cf_book.specs.Calls.{HasAnswer, SettlesBy}
use Rattle.cf_book.specs.Granting.{HasBegun}
use Rattle.cf_book.specs.Inside.{HasWayBack, IsRight, book_of, doubt_in, entries_in, places_now}
use Rattle.cf_book.specs.Record.{KeepsRoom, LeavesOneMore}
use Rattle.cf_book.specs.State.{BookNow, come_home, home_of, lent_for}
use Rattle.cf_book.proofs.Appended.{same_room, unmoved}
use Rattle.cf_book.proofs.Begun.{stays_begun}
use Rattle.cf_book.proofs.Closing.{ends_settled}
use Rattle.cf_book.proofs.Outcomes.{one_is_out, outcome_has_room, outcome_is_short}
use Rattle.cf_book.proofs.InTime.{comes_in_time, few_entries}
use Rattle.cf_book.proofs.Parks.{AreOfOpening}
use Rattle.cf_book.proofs.Ready.{right_home, way_home}
use Rattle.cf_book.proofs.Settles.{came_back, of_opening, right_settled, settles_by, settles_in, settles_stopped, stops_so}
use Rattle.cf_book.specs.declared.stop.StopFault.{StopFault}
use Rattle.cf_book.proofs.book.Book.settle.Goals as goal

pub take_home-place-requires-clause-out : goal.take_home-place-requires-clause-out
take_home-place-requires-clause-out g c =
    let lanes = places_now g.H.Handler c.self.inside.places.items in
    let has = subst (λ (b : BookNow g.row.D.Denot). HasAnswer g.H.Handler b.lanes c.args.answered) (sym c.self.view_is) c.requires in
    let back = came_back g.H.Handler lanes c.take-lane.result.0 c.take-lane.result.1 c.args.answered c.take-lane.ensures.lane c.take-lane.ensures.told has in
    (back.before, granted_in c.take-lane.result.1, back.out, sym back.called.name, sym back.called.schema)

pub conclude-requires-clause-opened : goal.conclude-requires-clause-opened
conclude-requires-clause-opened g c =
    (c.self.invariant.0.ready c.in-None.is).appends

pub conclude-requires-clause-room : goal.conclude-requires-clause-room
conclude-requires-clause-room g c r e =
    let lanes = places_now g.H.Handler c.self.inside.places.items in
    let has = subst (λ (b : BookNow g.row.D.Denot). HasAnswer g.H.Handler b.lanes c.args.answered) (sym c.self.view_is) c.requires in
    let back = came_back g.H.Handler lanes c.take-lane.result.0 c.take-lane.result.1 c.args.answered c.take-lane.ensures.lane c.take-lane.ensures.told has in
    let ready = c.self.invariant.0.ready c.in-None.is in
    outcome_has_room c.self.inside.record.world c.take-lane.result.1 r
    (ready.awaited (lent_for (granted_in c.take-lane.result.1) back.before) (granted_in c.take-lane.result.1) back.out refl) back.called.short e

pub conclude-requires-clause-short : goal.conclude-requires-clause-short
conclude-requires-clause-short g c r e =
    let lanes = places_now g.H.Handler c.self.inside.places.items in
    let has = subst (λ (b : BookNow g.row.D.Denot). HasAnswer g.H.Handler b.lanes c.args.answered) (sym c.self.view_is) c.requires in
    let back = came_back g.H.Handler lanes c.take-lane.result.0 c.take-lane.result.1 c.args.answered c.take-lane.ensures.lane c.take-lane.ensures.told has in
    outcome_is_short c.take-lane.result.1 r (spare_of c.self.inside.record.journal) back.called.short e (c.self.invariant.0.ready c.in-None.is).spare

pub conclude-requires-clause-places : goal.conclude-requires-clause-places
conclude-requires-clause-places g c =
    let lanes = places_now g.H.Handler c.self.inside.places.items in
    let has = subst (λ (b : BookNow g.row.D.Denot). HasAnswer g.H.Handler b.lanes c.args.answered) (sym c.self.view_is) c.requires in
    let back = came_back g.H.Handler lanes c.take-lane.result.0 c.take-lane.result.1 c.args.answered c.take-lane.ensures.lane c.take-lane.ensures.told has in
    let ready = c.self.invariant.0.ready c.in-None.is in
    let some = one_is_out lanes back.before (granted_in c.take-lane.result.1) back.out in
    let few = ready.places in
    omega (arith, few, some)

pub invariant_of-self : goal.invariant_of-self
invariant_of-self g c =
    let lanes = places_now g.H.Handler c.self.inside.places.items in
    let lane = lane_now g.H.Handler c.take-lane.result.0 in (
      subst (λ ls. IsRight g.D.Disk c.self.inside.record ls c.take_home-place.new.homes c.self.inside.stopped) (sym c.take_home-place.ensures.places)
          (right_home g.D.Disk c.self.inside.record lane lanes c.self.inside.homes c.take_home-place.new.homes c.self.inside.stopped c.self.invariant.0
          (c.take_home-place.ensures.homes ∙ ap (map home_of) c.take_home-place.ensures.places)),
      subst (λ ls. HasWayBack ls c.self.inside.emptied) (sym c.take_home-place.ensures.places) (way_home lane lanes c.self.inside.emptied c.self.invariant.1),
      c.self.invariant.2,
    )

pub invariant_of-self-in-Ok : goal.invariant_of-self-in-Ok
invariant_of-self-in-Ok g c =
    let lanes = places_now g.H.Handler c.self.inside.places.items in
    let has = subst (λ (b : BookNow g.row.D.Denot). HasAnswer g.H.Handler b.lanes c.args.answered) (sym c.self.view_is) c.requires in
    let back = came_back g.H.Handler lanes c.take-lane.result.0 c.take-lane.result.1 c.args.answered c.take-lane.ensures.lane c.take-lane.ensures.told has in
    let lane = lane_now g.H.Handler c.take-lane.result.0 in
    let right = subst (λ o. IsRight g.D.Disk c.self.inside.record lanes c.self.inside.homes o) c.in-None.is c.self.invariant.0 in (
      subst (λ o. IsRight g.D.Disk c.conclude.new.record (places_now g.H.Handler c.take_home-place.new.places.items) c.take_home-place.new.homes o) (sym c.in-None.is)
          (subst (λ ls. IsRight g.D.Disk c.conclude.new.record ls c.take_home-place.new.homes None) (sym c.take_home-place.ensures.places)
          (right_settled g.D.Disk c.self.inside.record c.conclude.new.record lanes lane c.take-lane.result.1 c.take_home-place.result back (right.ready refl)
          c.in-Ok.ensures.spare c.in-Ok.ensures.capacity {T = Unit {0}} c.self.inside.homes c.take_home-place.new.homes (Ok tt) right
          (c.take_home-place.ensures.homes ∙ ap (map home_of) c.take_home-place.ensures.places) c.in-Ok.ensures.concludes c.in-Ok.ensures.opened
          c.in-Ok.ensures.stepped c.in-Ok.ensures.world c.in-Ok.ensures.known)),
      subst (λ ls. HasWayBack ls c.self.inside.emptied) (sym c.take_home-place.ensures.places) (way_home lane lanes c.self.inside.emptied c.self.invariant.1),
      c.self.invariant.2 ∙ sym (ends_settled {T = Unit {0}} g.D.Disk c.self.inside.record c.conclude.new.record c.take_home-place.result c.take-lane.result.1 _ (Ok tt) c.in-Ok.ensures.concludes),
    )

pub invariant_of-self-in-Err : goal.invariant_of-self-in-Err
invariant_of-self-in-Err g c =
    let lanes = places_now g.H.Handler c.self.inside.places.items in
    let has = subst (λ (b : BookNow g.row.D.Denot). HasAnswer g.H.Handler b.lanes c.args.answered) (sym c.self.view_is) c.requires in
    let back = came_back g.H.Handler lanes c.take-lane.result.0 c.take-lane.result.1 c.args.answered c.take-lane.ensures.lane c.take-lane.ensures.told has in
    let lane = lane_now g.H.Handler c.take-lane.result.0 in
    let right = subst (λ o. IsRight g.D.Disk c.self.inside.record lanes c.self.inside.homes o) c.in-None.is c.self.invariant.0 in (
      subst (λ ls. IsRight g.D.Disk c.conclude.new.record ls c.take_home-place.new.homes (Some c.in-Err.fault)) (sym c.take_home-place.ensures.places)
          (right_settled g.D.Disk c.self.inside.record c.conclude.new.record lanes lane c.take-lane.result.1 c.take_home-place.result back (right.ready refl)
          c.in-Err.ensures.spare c.in-Err.ensures.capacity {T = Unit {0}} c.self.inside.homes c.take_home-place.new.homes (Err c.in-Err.fault) right
          (c.take_home-place.ensures.homes ∙ ap (map home_of) c.take_home-place.ensures.places) c.in-Err.ensures.concludes c.in-Err.ensures.opened
          c.in-Err.ensures.stepped c.in-Err.ensures.world c.in-Err.ensures.known),
      subst (λ ls. HasWayBack ls c.self.inside.emptied) (sym c.take_home-place.ensures.places) (way_home lane lanes c.self.inside.emptied c.self.invariant.1),
      c.self.invariant.2 ∙ sym (ends_settled {T = Unit {0}} g.D.Disk c.self.inside.record c.conclude.new.record c.take_home-place.result c.take-lane.result.1 _ (Err c.in-Err.fault) c.in-Err.ensures.concludes),
    )

pub returns-in-Some-clause-home : goal.returns-in-Some-clause-home
returns-in-Some-clause-home g c =
    record {
      lanes = c.take_home-place.ensures.places ∙ ap (λ (l : Lane g.row.H.Denot). come_home (lane_now g.H.Handler l) (places_now g.H.Handler c.self.inside.places.items)) c.take-lane.ensures.lane
          ∙ ap (λ (b : BookNow g.row.D.Denot). come_home (lane_now g.H.Handler (answered_lane c.args.answered)) b.lanes) c.self.view_is;
      granted = ap (λ (b : BookNow g.row.D.Denot). b.has_granted) c.self.view_is;
    }

pub returns-in-Ok-clause-home : goal.returns-in-Ok-clause-home
returns-in-Ok-clause-home g c =
    record {
      lanes = c.take_home-place.ensures.places ∙ ap (λ (l : Lane g.row.H.Denot). come_home (lane_now g.H.Handler l) (places_now g.H.Handler c.self.inside.places.items)) c.take-lane.ensures.lane
          ∙ ap (λ (b : BookNow g.row.D.Denot). come_home (lane_now g.H.Handler (answered_lane c.args.answered)) b.lanes) c.self.view_is;
      granted = ap (λ (b : BookNow g.row.D.Denot). b.has_granted) c.self.view_is;
    }

pub returns-in-Err-clause-home : goal.returns-in-Err-clause-home
returns-in-Err-clause-home g c =
    record {
      lanes = c.take_home-place.ensures.places ∙ ap (λ (l : Lane g.row.H.Denot). come_home (lane_now g.H.Handler l) (places_now g.H.Handler c.self.inside.places.items)) c.take-lane.ensures.lane
          ∙ ap (λ (b : BookNow g.row.D.Denot). come_home (lane_now g.H.Handler (answered_lane c.args.answered)) b.lanes) c.self.view_is;
      granted = ap (λ (b : BookNow g.row.D.Denot). b.has_granted) c.self.view_is;
    }

pub returns-in-Some-clause-stopped : goal.returns-in-Some-clause-stopped
returns-in-Some-clause-stopped g c = stops_so {T = Unit {0}} (book_of c.self.inside.record (places_now g.H.Handler c.self.inside.places.items) c.self.inside.has_granted c.self.inside.stopped) _ (Some c.in-Some.fault) c.self.inside.stopped (Err c.in-Some.fault) c.self.view_is c.in-Some.is c.in-Some.is

pub returns-in-Some-clause-settles : goal.returns-in-Some-clause-settles
returns-in-Some-clause-settles g c = settles_stopped (Unit {0}) g.D.Disk c.self.inside.record _ (places_now g.H.Handler c.self.inside.places.items) _ c.self.inside.has_granted _ c.self.inside.stopped _ (lane_now g.H.Handler (answered_lane c.args.answered)) (told_of c.args.answered) c.in-Some.fault c.self.view_is c.in-Some.is

pub returns-in-Some-clause-moments : goal.returns-in-Some-clause-moments
returns-in-Some-clause-moments g c =
    subst (λ (b : BookNow g.row.D.Denot). IsTrue g.D.Disk.tells → LeavesOnly g.D.Disk.moment g.D.Disk.left_since b.disk c.self.inside.record.disk (LeavesOneMore b.entries (entries_in c.self.inside.record) (doubt_in c.self.inside.record)))
    c.self.view_is
    (λ told. unmoved g.D.Disk c.self.inside.record.disk (entries_in c.self.inside.record) (doubt_in c.self.inside.record) told
    (λ bytes left. g.met.D.Disk.only_now c.self.inside.record.disk bytes told left) c.self.invariant.0.known)

pub returns-in-Some-clause-moves : goal.returns-in-Some-clause-moves
returns-in-Some-clause-moves g c schemas life =
    let lanes = places_now g.H.Handler c.self.inside.places.items in
    let right = c.self.invariant.0 in
    settles_in {T = Unit {0}} g.H.Handler g.D.Disk schemas life (book_of c.self.inside.record lanes c.self.inside.has_granted c.self.inside.stopped) _ _ c.args.answered _ c.self.view_is c.requires
    right.names_differ (of_opening g.D.Disk c.self.inside.record lanes c.self.inside.homes c.self.inside.has_granted c.self.inside.stopped right)
    (λ n. (right.ready n).appends.certain) (returns-in-Some-clause-home g c) (returns-in-Some-clause-settles g c) (returns-in-Some-clause-stopped g c)

pub returns-in-Ok-clause-stopped : goal.returns-in-Ok-clause-stopped
returns-in-Ok-clause-stopped g c = stops_so {T = Unit {0}} (book_of c.self.inside.record (places_now g.H.Handler c.self.inside.places.items) c.self.inside.has_granted c.self.inside.stopped) _ None c.self.inside.stopped (Ok tt) c.self.view_is c.in-None.is c.in-None.is

pub returns-in-Ok-clause-settles : goal.returns-in-Ok-clause-settles
returns-in-Ok-clause-settles g c =
    let lanes = places_now g.H.Handler c.self.inside.places.items in
    settles_by {T = Unit {0}} g.H.Handler g.D.Disk c.self.inside.record c.conclude.new.record _ lanes _ c.self.inside.has_granted _ c.self.inside.stopped _ c.take-lane.result.0 c.take-lane.result.1 c.args.answered
    c.take_home-place.result (Ok tt) c.self.view_is c.in-None.is c.take-lane.ensures.lane c.take-lane.ensures.told c.take_home-place.ensures.at c.in-Ok.ensures.concludes

pub returns-in-Ok-clause-moves : goal.returns-in-Ok-clause-moves
returns-in-Ok-clause-moves g c schemas life =
    let lanes = places_now g.H.Handler c.self.inside.places.items in
    let right = c.self.invariant.0 in
    settles_in {T = Unit {0}} g.H.Handler g.D.Disk schemas life (book_of c.self.inside.record lanes c.self.inside.has_granted c.self.inside.stopped) _ _ c.args.answered _ c.self.view_is c.requires
    right.names_differ (of_opening g.D.Disk c.self.inside.record lanes c.self.inside.homes c.self.inside.has_granted c.self.inside.stopped right)
    (λ n. (right.ready n).appends.certain) (returns-in-Ok-clause-home g c) (returns-in-Ok-clause-settles g c) (returns-in-Ok-clause-stopped g c)

pub returns-in-Err-clause-stopped : goal.returns-in-Err-clause-stopped
returns-in-Err-clause-stopped g c = stops_so {T = Unit {0}} (book_of c.self.inside.record (places_now g.H.Handler c.self.inside.places.items) c.self.inside.has_granted c.self.inside.stopped) _ None (Some c.in-Err.fault) (Err c.in-Err.fault) c.self.view_is c.in-None.is refl

pub returns-in-Err-clause-settles : goal.returns-in-Err-clause-settles
returns-in-Err-clause-settles g c =
    let lanes = places_now g.H.Handler c.self.inside.places.items in
    settles_by {T = Unit {0}} g.H.Handler g.D.Disk c.self.inside.record c.conclude.new.record _ lanes _ c.self.inside.has_granted _ c.self.inside.stopped _ c.take-lane.result.0 c.take-lane.result.1 c.args.answered
    c.take_home-place.result (Err c.in-Err.fault) c.self.view_is c.in-None.is c.take-lane.ensures.lane c.take-lane.ensures.told c.take_home-place.ensures.at c.in-Err.ensures.concludes

pub returns-in-Err-clause-moves : goal.returns-in-Err-clause-moves
returns-in-Err-clause-moves g c schemas life =
    let lanes = places_now g.H.Handler c.self.inside.places.items in
    let right = c.self.invariant.0 in
    settles_in {T = Unit {0}} g.H.Handler g.D.Disk schemas life (book_of c.self.inside.record lanes c.self.inside.has_granted c.self.inside.stopped) _ _ c.args.answered _ c.self.view_is c.requires
    right.names_differ (of_opening g.D.Disk c.self.inside.record lanes c.self.inside.homes c.self.inside.has_granted c.self.inside.stopped right)
    (λ n. (right.ready n).appends.certain) (returns-in-Err-clause-home g c) (returns-in-Err-clause-settles g c) (returns-in-Err-clause-stopped g c)

pub returns-in-Ok-clause-moments : goal.returns-in-Ok-clause-moments
returns-in-Ok-clause-moments g c =
    subst (λ (b : BookNow g.row.D.Denot). IsTrue g.D.Disk.tells → LeavesOnly g.D.Disk.moment g.D.Disk.left_since b.disk c.conclude.new.record.disk (LeavesOneMore b.entries (entries_in c.conclude.new.record) (doubt_in c.conclude.new.record)))
    c.self.view_is
    c.conclude.ensures.moments

pub returns-in-Err-clause-moments : goal.returns-in-Err-clause-moments
returns-in-Err-clause-moments g c =
    subst (λ (b : BookNow g.row.D.Denot). IsTrue g.D.Disk.tells → LeavesOnly g.D.Disk.moment g.D.Disk.left_since b.disk c.conclude.new.record.disk (LeavesOneMore b.entries (entries_in c.conclude.new.record) (doubt_in c.conclude.new.record)))
    c.self.view_is
    c.conclude.ensures.moments

pub returns-in-Some-clause-known : goal.returns-in-Some-clause-known
returns-in-Some-clause-known g c = c.self.invariant.0.known

pub returns-in-Ok-clause-known : goal.returns-in-Ok-clause-known
returns-in-Ok-clause-known g c = c.conclude.ensures.known

pub returns-in-Err-clause-known : goal.returns-in-Err-clause-known
returns-in-Err-clause-known g c = c.conclude.ensures.known

pub take_home-place-requires-clause-homes : goal.take_home-place-requires-clause-homes
take_home-place-requires-clause-homes g c = c.self.invariant.0.homes_are

pub take_home-place-requires-clause-differ : goal.take_home-place-requires-clause-differ
take_home-place-requires-clause-differ g c = c.self.invariant.0.names_differ

pub conclude-requires-clause-world : goal.conclude-requires-clause-world
conclude-requires-clause-world g c = c.self.invariant.0.world

pub returns-in-Some-clause-disk : goal.returns-in-Some-clause-disk
returns-in-Some-clause-disk g c = subst (λ (b : BookNow g.row.D.Denot). KeepsRoom g.D.Disk b.disk c.self.inside.record.disk) c.self.view_is (same_room g.D.Disk c.self.inside.record.disk)

pub returns-in-Ok-clause-disk : goal.returns-in-Ok-clause-disk
returns-in-Ok-clause-disk g c = subst (λ (b : BookNow g.row.D.Denot). KeepsRoom g.D.Disk b.disk c.conclude.new.record.disk) c.self.view_is c.conclude.ensures.keeps

pub returns-in-Err-clause-disk : goal.returns-in-Err-clause-disk
returns-in-Err-clause-disk g c = subst (λ (b : BookNow g.row.D.Denot). KeepsRoom g.D.Disk b.disk c.conclude.new.record.disk) c.self.view_is c.conclude.ensures.keeps

pub returns-in-Some-clause-begun : goal.returns-in-Some-clause-begun
returns-in-Some-clause-begun g c number =
    subst (λ (b : BookNow g.row.D.Denot). HasBegun b.entries number → HasBegun (entries_in c.self.inside.record) number) c.self.view_is (λ begun. begun)

pub returns-in-Ok-clause-begun : goal.returns-in-Ok-clause-begun
returns-in-Ok-clause-begun g c number =
    let lanes = places_now g.H.Handler c.self.inside.places.items in
    let has = subst (λ (b : BookNow g.row.D.Denot). HasAnswer g.H.Handler b.lanes c.args.answered) (sym c.self.view_is) c.requires in
    let back = came_back g.H.Handler lanes c.take-lane.result.0 c.take-lane.result.1 c.args.answered c.take-lane.ensures.lane c.take-lane.ensures.told has in
    let ready = c.self.invariant.0.ready c.in-None.is in
    subst (λ (b : BookNow g.row.D.Denot). HasBegun b.entries number → HasBegun (entries_in c.conclude.new.record) number) c.self.view_is
    (stays_begun {T = Unit {0}} g.D.Disk c.self.inside.record c.conclude.new.record c.take_home-place.result c.take-lane.result.1 _ (Ok tt) c.self.invariant.0.world ready.apart
    (ready.awaited (lent_for (granted_in c.take-lane.result.1) back.before) (granted_in c.take-lane.result.1) back.out refl) c.in-Ok.ensures.concludes number)

pub returns-in-Err-clause-begun : goal.returns-in-Err-clause-begun
returns-in-Err-clause-begun g c number =
    let lanes = places_now g.H.Handler c.self.inside.places.items in
    let has = subst (λ (b : BookNow g.row.D.Denot). HasAnswer g.H.Handler b.lanes c.args.answered) (sym c.self.view_is) c.requires in
    let back = came_back g.H.Handler lanes c.take-lane.result.0 c.take-lane.result.1 c.args.answered c.take-lane.ensures.lane c.take-lane.ensures.told has in
    let ready = c.self.invariant.0.ready c.in-None.is in
    subst (λ (b : BookNow g.row.D.Denot). HasBegun b.entries number → HasBegun (entries_in c.conclude.new.record) number) c.self.view_is
    (stays_begun {T = Unit {0}} g.D.Disk c.self.inside.record c.conclude.new.record c.take_home-place.result c.take-lane.result.1 _ (Err c.in-Err.fault) c.self.invariant.0.world ready.apart
    (ready.awaited (lent_for (granted_in c.take-lane.result.1) back.before) (granted_in c.take-lane.result.1) back.out refl) c.in-Err.ensures.concludes number)

pub returns-in-Some-clause-in_time : goal.returns-in-Some-clause-in_time
returns-in-Some-clause-in_time g c =
    comes_in_time c.args.self.now _ (told_of c.args.answered) c.requires (subst AreOfOpening c.self.view_is
    (of_opening g.D.Disk c.self.inside.record (places_now g.H.Handler c.self.inside.places.items) c.self.inside.homes c.self.inside.has_granted c.self.inside.stopped c.self.invariant.0))

pub returns-in-Ok-clause-in_time : goal.returns-in-Ok-clause-in_time
returns-in-Ok-clause-in_time g c =
    comes_in_time c.args.self.now _ (told_of c.args.answered) c.requires (subst AreOfOpening c.self.view_is
    (of_opening g.D.Disk c.self.inside.record (places_now g.H.Handler c.self.inside.places.items) c.self.inside.homes c.self.inside.has_granted c.self.inside.stopped c.self.invariant.0))

pub returns-in-Err-clause-in_time : goal.returns-in-Err-clause-in_time
returns-in-Err-clause-in_time g c =
    comes_in_time c.args.self.now _ (told_of c.args.answered) c.requires (subst AreOfOpening c.self.view_is
    (of_opening g.D.Disk c.self.inside.record (places_now g.H.Handler c.self.inside.places.items) c.self.inside.homes c.self.inside.has_granted c.self.inside.stopped c.self.invariant.0))

pub returns-in-Some-clause-bounded : goal.returns-in-Some-clause-bounded
returns-in-Some-clause-bounded g c = few_entries c.self.inside.record

pub returns-in-Ok-clause-bounded : goal.returns-in-Ok-clause-bounded
returns-in-Ok-clause-bounded g c = few_entries c.conclude.new.record

pub returns-in-Err-clause-bounded : goal.returns-in-Err-clause-bounded
returns-in-Err-clause-bounded g c = few_entries c.conclude.new.record
