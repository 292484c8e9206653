use Rattle.std.proofs.Common.{arith, ◌≡◌, ◌+◌, ◌≤◌, None, List, [], ◌∷◌, ◌++◌, map, ap, sym, subst, vec_len, vec_capacity}
use Rattle.std.specs.Vec.Iter.{into_iter_items, into_iter_len}
use Rattle.cf_book.specs.Inside.{place_now, places_now}
use Rattle.cf_book.specs.State.{BookLane, NoneOut}
use Rattle.cf_book.specs.declared.place.Place.{Place}
use Rattle.cf_book.proofs.Handed.{bare, first_home, given, one_given, rest_home}
use Rattle.cf_book.proofs.place.handlers_of.Goals as goal

pub handler_in-requires : goal.handler_in-requires
handler_in-requires g c =
    first_home g.H.Handler c.in-Some.place (into_iter_items c.next.new.self)
    (subst (λ (ps : List (Place g.row.H.Denot)). NoneOut (places_now g.H.Handler ps)) c.in-Some.ensures.items c.loop-place.invariant.home)

pub loop-place-preserved : goal.loop-place-preserved
loop-place-preserved g c =
    let h = g.H.Handler in
    let all = map (bare h) (places_now h c.args.places.items) in
    let left = into_iter_items c.next.new.self in
    let so = subst (λ (ps : List (Place g.row.H.Denot)). given h c.loop-place.handlers.items ++ map (bare h) (places_now h ps) ≡ all) c.in-Some.ensures.items c.loop-place.invariant.given in
    record {
      given =
          subst (λ (hs : List g.row.H.Denot). given h hs ++ map (bare h) (places_now h left) ≡ all) (sym c.push_reserved.ensures.items)
          (one_given h c.loop-place.handlers.items c.handler_in.result c.in-Some.place left all so c.handler_in.ensures);
      home =
          rest_home h c.in-Some.place left
          (subst (λ (ps : List (Place g.row.H.Denot)). NoneOut (places_now h ps)) c.in-Some.ensures.items c.loop-place.invariant.home);
      room =
          let fewer = c.in-Some.ensures.len in
          let more = c.push_reserved.ensures.len in
          let room = c.push_reserved.ensures.capacity in
          let was = c.loop-place.invariant.room in
          omega (arith, fewer, more, room, was);
    }
