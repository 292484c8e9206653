use Rattle.std.proofs.Common.{◌≡◌, None, Some, List, map, position, slice_get, slice_set, refl, sym, ap, ◌∙◌, subst}
use Rattle.std.specs.Str.{bytes_eq}
use Rattle.cf_next.specs.declared.home.Home.{Home}
use Rattle.cf_lane.specs.Lanes.{lane_now}
use Rattle.cf_book.specs.Inside.{places_now}
use Rattle.cf_book.specs.State.{home_of, lent_for}
use Rattle.cf_book.proofs.Lanes.{comes_home, found_so, freed, lent_place, lent_there}
use Rattle.cf_book.proofs.place.take_home.Goals as goal

pub place_of-at-requires : goal.place_of-at-requires
place_of-at-requires g c =
    let (was, call, out, named, typed) = c.requires.out in
    let lanes = places_now g.H.Handler c.args.places.now.items in
    let name = (lane_now g.H.Handler c.args.lane).name in
    let (at, found) = lent_place lanes was call out c.requires.differ name named in
    (at, found_so name c.name.result.now (map home_of lanes) c.as_slice.result.now at (sym c.name.ensures.value) (sym (c.as_slice.ensures ∙ c.requires.homes)) found)

pub put_home_at-requires : goal.put_home_at-requires
put_home_at-requires g c =
    let (was, call, out, named, typed) = c.requires.out in
    let lanes = places_now g.H.Handler c.args.places.now.items in
    let name = (lane_now g.H.Handler c.args.lane).name in
    let found = found_so c.name.result.now name c.as_slice.result.now (map home_of lanes) c.place_of-at.result c.name.ensures.value (c.as_slice.ensures ∙ c.requires.homes) c.place_of-at.ensures in
    (call, was, lent_there lanes was call out c.requires.differ name named c.place_of-at.result found)

pub returns-clause-places : goal.returns-clause-places
returns-clause-places g c =
    let (was, call, out, named, typed) = c.requires.out in
    let lanes = places_now g.H.Handler c.args.places.now.items in
    let name = (lane_now g.H.Handler c.args.lane).name in
    let found = found_so c.name.result.now name c.as_slice.result.now (map home_of lanes) c.place_of-at.result c.name.ensures.value (c.as_slice.ensures ∙ c.requires.homes) c.place_of-at.ensures in
    c.put_home_at.ensures ∙ comes_home lanes was call out c.requires.differ name named c.place_of-at.result found (lane_now g.H.Handler c.args.lane) refl

pub returns-clause-homes : goal.returns-clause-homes
returns-clause-homes g c =
    let (was, call, out, named, typed) = c.requires.out in
    let (h, got, left) = c.free.ensures in
    let lanes = places_now g.H.Handler c.args.places.now.items in
    let name = (lane_now g.H.Handler c.args.lane).name in
    let found = found_so c.name.result.now name c.as_slice.result.now (map home_of lanes) c.place_of-at.result c.name.ensures.value (c.as_slice.ensures ∙ c.requires.homes) c.place_of-at.ensures in
    let same = c.as_mut_slice.ensures.value in
    freed lanes (places_now g.H.Handler c.put_home_at.new.places.items) was (lane_now g.H.Handler c.args.lane) call c.args.homes.now c.free.new.homes c.place_of-at.result h c.requires.homes
    (subst (λ (hs : List Home). slice_get hs c.place_of-at.result ≡ Some h) same got)
    (left ∙ ap (λ (hs : List Home). slice_set hs c.place_of-at.result (record h { out = None })) same)
    (lent_there lanes was call out c.requires.differ name named c.place_of-at.result found) named typed c.put_home_at.ensures

pub returns-clause-at : goal.returns-clause-at
returns-clause-at g c =
    let (was, call, out, named, typed) = c.requires.out in
    let lanes = places_now g.H.Handler c.args.places.now.items in
    let name = (lane_now g.H.Handler c.args.lane).name in
    let found = found_so c.name.result.now name c.as_slice.result.now (map home_of lanes) c.place_of-at.result c.name.ensures.value (c.as_slice.ensures ∙ c.requires.homes) c.place_of-at.ensures in
    (lent_for call was, lent_there lanes was call out c.requires.differ name named c.place_of-at.result found, named)
