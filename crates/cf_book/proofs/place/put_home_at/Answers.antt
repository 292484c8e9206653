use Rattle.std.proofs.Common.{◌≡◌, ap, ◌∙◌, slice_set}
use Rattle.std.proofs.lemmas.List.{map-set}
use Rattle.cf_book.specs.Inside.{place_now, places_now}
use Rattle.cf_book.specs.State.{BookLane}
use Rattle.cf_book.proofs.place.put_home_at.Goals as goal

pub returns : goal.returns
returns g c = map-set (place_now g.H.Handler) c.args.places.now.items c.args.at c.put_home.new.place
    ∙ ap (λ (b : BookLane). slice_set (places_now g.H.Handler c.args.places.now.items) c.args.at b) c.put_home.ensures
