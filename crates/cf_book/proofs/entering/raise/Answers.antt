use Rattle.std.proofs.Common.{◌∙◌, refl, subst}
use Rattle.cf_book.specs.Fences.{EachRaised, handed_in}
use Rattle.cf_book.specs.Finding.{StopsAtLane}
use Rattle.cf_book.proofs.AtStart.{book_right, places_fit, stop_fits, stops_lane}
use Rattle.cf_book.proofs.entering.raise.Goals as goal

pub places_for-places-requires-clause-room : goal.places_for-places-requires-clause-room
places_for-places-requires-clause-room g c =
    places_fit g.H.Handler c.args.lanes.items c.raise_all.new.lanes.items c.epoch-epoch.result c.args.room c.requires.room c.in-None.ensures

pub invariant_of-result : goal.invariant_of-result
invariant_of-result g c =
    book_right g.D.Disk c.args.base c.args.room (handed_in g.H.Handler c.args.lanes.items) (handed_in g.H.Handler c.raise_all.new.lanes.items) _ _
    c.requires.record c.requires.none_ended c.requires.places c.requires.room
    (subst (EachRaised (handed_in g.H.Handler c.args.lanes.items) (handed_in g.H.Handler c.raise_all.new.lanes.items)) c.epoch-epoch.ensures c.in-None.ensures)
    c.places_for-places.ensures c.new.ensures.items

pub returns-in-None : goal.returns-in-None
returns-in-None g c = record {
  raised = handed_in g.H.Handler c.raise_all.new.lanes.items;
  fences =
      subst (EachRaised (handed_in g.H.Handler c.args.lanes.items) (handed_in g.H.Handler c.raise_all.new.lanes.items)) c.epoch-epoch.ensures c.in-None.ensures;
  lanes_are = c.places_for-places.ensures;
  disk_is = refl;
  entries = refl;
  certain = c.requires.record.opened.certain;
  ungranted = refl;
  running = refl;
}

pub name_at-requires : goal.name_at-requires
name_at-requires g c =
    stop_fits g.H.Handler c.args.lanes.items c.raise_all.new.lanes.items c.epoch-epoch.result c.into_homes-homes.result c.in-Some.stop.at c.in-Some.stop.answer
    (c.into_homes-homes.ensures ∙ c.requires.room.homes_are) c.in-Some.ensures.0

pub unraised-requires : goal.unraised-requires
unraised-requires g c = c.in-Some.ensures.1

pub returns-in-Some : goal.returns-in-Some
returns-in-Some g c = (
  c.into_disk.ensures,
  subst (λ n. StopsAtLane (handed_in g.H.Handler c.args.lanes.items) (handed_in g.H.Handler c.raise_all.new.lanes.items) n c.unraised.result) c.epoch-epoch.ensures
      (stops_lane (handed_in g.H.Handler c.args.lanes.items) (handed_in g.H.Handler c.raise_all.new.lanes.items) c.into_homes-homes.result c.in-Some.stop.at
      c.epoch-epoch.result c.in-Some.stop.answer c.name_at.result c.unraised.result (c.into_homes-homes.ensures ∙ c.requires.room.homes_are) c.in-Some.ensures.0
      c.name_at.ensures c.unraised.ensures),
)
