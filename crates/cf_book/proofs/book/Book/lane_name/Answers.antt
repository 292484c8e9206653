use Rattle.std.proofs.Common.{ap, ◌∙◌}
use Rattle.cf_book.specs.Inside.{places_now}
use Rattle.cf_book.specs.State.{BookNow}
use Rattle.cf_book.proofs.Lanes.{home_named}
use Rattle.cf_book.proofs.book.Book.lane_name.Goals as goal

pub returns : goal.returns
returns g c =
    home_named (places_now g.H.Handler c.self.inside.places.items) c.args.self.now.lanes c.as_slice.result.now c.args.place c.index-as_slice-place.result
    (ap (λ (b : BookNow g.row.D.Denot). b.lanes) c.self.view_is) (c.as_slice.ensures ∙ c.self.invariant.0.homes_are) c.requires
