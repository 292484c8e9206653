use Rattle.std.proofs.Common.{◌≡◌, None, Some, sym, ◌∙◌, ap}
use Rattle.cf_tree.specs.declared.request.Request.{Request}
use Rattle.cf_lane.specs.Calling.{Granted, leased_lane}
use Rattle.cf_lane.specs.Lanes.{LaneNow}
use Rattle.cf_book.specs.Inside.{call_in, place_now}
use Rattle.cf_book.specs.State.{at_home, lent_for}
use Rattle.cf_book.specs.declared.place.Place.{Place}
use Rattle.cf_book.proofs.Lent.{same_lane_now}
use Rattle.cf_book.proofs.lending.lend.Goals as goal

pub lane_in-was-requires : goal.lane_in-was-requires
lane_in-was-requires g c = c.requires.home

pub put_home-requires : goal.put_home-requires
put_home-requires g c e =
    let no : Some (call_in c.args.call) ≡ None = sym (ap (λ (p : Place g.row.H.Denot). (place_now g.H.Handler p).out) c.replace.ensures.after) ∙ e in
    cc no

pub returns-in-Ok : goal.returns-in-Ok
returns-in-Ok g c = (
  ap (place_now g.H.Handler) c.replace.ensures.after ∙ ap (lent_for (call_in c.args.call)) c.lane_in-was.ensures,
  c.in-Ok.ensures.granted
      ∙ ap (λ (r : Request). record { epoch = c.args.call.epoch; number = c.args.call.number; token = c.args.call.token; request = r }) (sym c.requires.asked),
  same_lane_now g.H.Handler c.in-Home.lane (leased_lane c.in-Ok.lease) c.in-Ok.ensures.lane
      ∙ ap (λ (p : Place g.row.H.Denot). (place_now g.H.Handler p).lane) (sym c.in-Home.is ∙ c.replace.ensures.value),
)

pub returns-in-Err : goal.returns-in-Err
returns-in-Err g c =
    c.put_home.ensures ∙ ap at_home (same_lane_now g.H.Handler c.in-Home.lane c.in-Err.unlent.lane c.in-Err.ensures.back)
    ∙ ap (place_now g.H.Handler) (sym c.in-Home.is ∙ c.replace.ensures.value)
