use Rattle.std.proofs.Common.{◌≡◌, ◌∙◌, ap, arith, find, position, Some}
use Rattle.cf_effect.proofs.Places.{at_place, looked_up}
use Rattle.cf_effect.proofs.index.PathIndex.get.Goals as goal

pub returns-in-Some : goal.returns-in-Some
returns-in-Some g c =
    let all = c.self.inside.rows.now in
    let test = g.T.FoundByPath.is_found_by c.args.path.now in
    let place : position test all ≡ Some c.in-Some.at.now = grind (arith, c.self.invariant c.args.path.now, c.in-Some.ensures, c.as_str.ensures) in
    looked_up all c.in-Some.at.now c.get-in-Some.result c.get-in-Some.ensures.lookup.1 c.get-in-Some.ensures.lookup.3
    ∙ at_place test all c.in-Some.at.now place ∙ ap (find test) c.self.view_is
