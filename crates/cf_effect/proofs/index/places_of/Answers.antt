use Rattle.std.proofs.Common.{◌∙◌, ◌<◌, ◌+◌, arith, length, subst, sym, take}
use Rattle.cf_effect.specs.Index.{ArePlacesOf}
use Rattle.cf_effect.proofs.Indexed.{one_passed, one_placed}
use Rattle.cf_effect.proofs.index.places_of.Goals.{in-Some+in_ok-put_place, in_default}
use Rattle.cf_effect.proofs.index.places_of.Goals as goal

pub loop-at-preserved : goal.loop-at-preserved
loop-at-preserved g c =
    let test = g.T.FoundByPath.is_found_by in
    let within : c.loop-at.at < length c.args.rows.now = omega arith in
    elim c.match-found_by.branch [
      | in-Some+in_ok-put_place w ↦
          one_placed test c.args.rows.now c.loop-at.at c.index-rows-at.result within c.index-rows-at.is w.in-Some.path.now c.loop-at.places c.match-found_by.places w.in-Some.ensures c.loop-at.invariant
          (w.places-is ∙ w.in_ok-put_place.ensures)
      | in_default w ↦
          subst (ArePlacesOf test (take (c.loop-at.at + 1) c.args.rows.now)) (sym w.places-is)
          (one_passed test c.args.rows.now c.loop-at.at c.index-rows-at.result within c.index-rows-at.is c.loop-at.places w.in_default.ensures c.loop-at.invariant)
    ]
