use Rattle.std.proofs.Common.{refl, subst}
use Rattle.cf_effect.specs.Following.{IsPlaceIn}
use Rattle.cf_effect.proofs.Noted.{stands_nowhere, stands_there}
use Rattle.cf_effect.proofs.findings.note_place.Goals as goal

pub returns-in-Some : goal.returns-in-Some
returns-in-Some c =
    stands_there c.args.layout.now c.args.at c.in-Some.place c.args.held.now c.args.places.now.items c.put_place.new.places.items c.if-held.false
    (subst (IsPlaceIn c.args.layout.now c.args.held.now.path) c.in-Some.is c.place_near.ensures) c.put_place.ensures

pub returns-in-None : goal.returns-in-None
returns-in-None c =
    stands_nowhere c.args.layout.now c.args.at c.args.held.now c.args.places.now.items c.args.places.now.items c.if-held.false
    (subst (IsPlaceIn c.args.layout.now c.args.held.now.path) c.in-None.is c.place_near.ensures) refl
