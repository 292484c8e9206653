use Rattle.std.proofs.Common.{◌≡◌, None, sym, ◌∙◌, ap, subst}
use Rattle.std.proofs.lemmas.List.{map-set}
use Rattle.cf_book.specs.Inside.{call_in, place_now, places_now}
use Rattle.cf_book.specs.Lending.{LendsPlace}
use Rattle.cf_book.specs.State.{BookLane}
use Rattle.cf_book.proofs.Lent.{lends_at, place_there}
use Rattle.cf_book.proofs.lending.lend_at.Goals as goal

pub lend-requires-clause-home : goal.lend-requires-clause-home
lend-requires-clause-home g c =
    let (b, stands, free) = c.requires.home in
    ap (λ (z : BookLane). z.out) (place_there g.H.Handler c.args.places.now.items c.args.at b c.index_mut.result.now stands c.index_mut.ensures.value) ∙ free

pub returns : goal.returns
returns g c =
    let (b, stands, free) = c.requires.home in
    lends_at g.H.Handler (places_now g.H.Handler c.args.places.now.items) _ c.args.at b (place_now g.H.Handler c.lend.new.place) (call_in c.args.call) c.lend.result stands free
    (map-set (place_now g.H.Handler) c.args.places.now.items c.args.at c.lend.new.place)
    (subst (λ (z : BookLane). LendsPlace g.H.Handler z (place_now g.H.Handler c.lend.new.place) (call_in c.args.call) c.lend.result)
    (place_there g.H.Handler c.args.places.now.items c.args.at b c.index_mut.result.now stands c.index_mut.ensures.value) c.lend.ensures)
