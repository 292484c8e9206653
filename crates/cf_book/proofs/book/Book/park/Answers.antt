use Rattle.std.proofs.Common.{◌≡◌, List, map, refl, sym, ◌∙◌, ap, subst, inl, inr}
use Rattle.cf_lane.specs.Lanes.{lane_now}
use Rattle.cf_book.specs.Inside.{HasWayBack, IsRight, MayComeHome, doubt_in, entries_in, places_now}
use Rattle.cf_book.specs.Parking.{MayPark, Parks, parked_lane}
use Rattle.cf_book.specs.Record.{with_doubt, world_left}
use Rattle.cf_book.specs.Lives.{StandsFor}
use Rattle.cf_book.specs.State.{BookNow, come_home, home_of}
use Rattle.cf_lane.specs.declared.lane.Lane.{Lane}
use Rattle.cf_book.proofs.InTime.{parks_in_time}
use Rattle.cf_book.proofs.Parks.{AreOfOpening, may_come, parks}
use Rattle.cf_book.proofs.Settles.{of_opening}
use Rattle.cf_book.proofs.Ready.{right_home, way_home}
use Rattle.cf_book.proofs.book.Book.park.Goals as goal

pub take_home-requires-clause-out : goal.take_home-requires-clause-out
take_home-requires-clause-out g c =
    let lanes = places_now g.H.Handler c.self.inside.places.items in
    subst (MayComeHome g.H.Handler lanes) (sym c.into_lane-lane.ensures)
    (may_come g.H.Handler lanes c.args.parked (subst (λ (b : BookNow g.row.D.Denot). MayPark g.H.Handler b.lanes c.args.parked) (sym c.self.view_is) c.requires))

pub invariant_of-self : goal.invariant_of-self
invariant_of-self g c =
    let lanes = places_now g.H.Handler c.self.inside.places.items in
    let lane = lane_now g.H.Handler c.into_lane-lane.result in (
      subst (λ ls. IsRight g.D.Disk c.self.inside.record ls c.take_home.new.homes c.self.inside.stopped) (sym c.take_home.ensures.places)
          (right_home g.D.Disk c.self.inside.record lane lanes c.self.inside.homes c.take_home.new.homes c.self.inside.stopped c.self.invariant.0 (c.take_home.ensures.homes ∙ ap (map home_of) c.take_home.ensures.places)),
      subst (λ ls. HasWayBack ls c.self.inside.emptied) (sym c.take_home.ensures.places) (way_home lane lanes c.self.inside.emptied c.self.invariant.1),
      c.self.invariant.2,
    )

pub returns-clause-moves : goal.returns-clause-moves
returns-clause-moves g c schemas life stands holds =
    let old : BookNow g.row.D.Denot = record {
      disk = c.self.inside.record.disk;
      entries = entries_in c.self.inside.record;
      doubt = doubt_in c.self.inside.record;
      lanes = places_now g.H.Handler c.self.inside.places.items;
      has_granted = c.self.inside.has_granted;
      stopped = c.self.inside.stopped;
    } in
    let right = c.self.invariant.0 in
    parks g.H.Handler schemas life old _ c.args.parked
    (subst (λ (b : BookNow g.row.D.Denot). MayPark g.H.Handler b.lanes c.args.parked) (sym c.self.view_is) c.requires) right.names_differ
    (λ b call es i e is. elim is [
      | inl s ↦ (right.epochs b call i e).0 ∙ ap (λ xs. (world_left xs).epoch) (sym s)
      | inr s ↦ (right.epochs b call i e).1 ∙ ap (λ xs. (world_left xs).epoch) (sym s)
    ])
    (record {
      lanes = c.take_home.ensures.places ∙ ap (λ (l : Lane g.row.H.Denot). come_home (lane_now g.H.Handler l) old.lanes) c.into_lane-lane.ensures;
      granted = refl;
    })
    (record { disk = refl; entries = refl; doubt = refl }) refl
    (subst (λ (b : BookNow g.row.D.Denot). StandsFor b life) (sym c.self.view_is) stands) holds

pub returns-clause-in_time : goal.returns-clause-in_time
returns-clause-in_time g c =
    parks_in_time g.H.Handler c.args.self.now c.args.parked c.requires (subst AreOfOpening c.self.view_is
    (of_opening g.D.Disk c.self.inside.record (places_now g.H.Handler c.self.inside.places.items) c.self.inside.homes c.self.inside.has_granted c.self.inside.stopped c.self.invariant.0))

pub returns-clause-known : goal.returns-clause-known
returns-clause-known g c = c.self.invariant.0.known
