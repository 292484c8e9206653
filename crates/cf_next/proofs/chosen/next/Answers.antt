use Rattle.std.proofs.Common.{◌∙◌, ℕ, List, IfOk, ap, subst}
use Rattle.cf_schema.specs.declared.described.Schema.{Schema}
use Rattle.cf_effect.specs.World.{World}
use Rattle.cf_next.specs.Chosen.{IsNext, leases_of, schemas_of}
use Rattle.cf_next.proofs.OnStack.{next_may}
use Rattle.cf_next.proofs.chosen.next.Goals as goal

pub returns-clause-may_follow : goal.returns-clause-may_follow
returns-clause-may_follow c =
    let r = c.next_in-next.result in
    let number = c.args.number in
    let x = c.args.world.now.world in
    let out = leases_of c.args.homes.now in
    let stays = ap (λ w. w.world) c.look_ahead.ensures in
    let leased = c.as_slice.ensures.value ∙ c.in_ok-out.ensures in
    let on_world = subst (λ (y : World). IfOk r (λ n. IsNext c.in_ok-schemas.schemas y c.as_slice.result.now number n)) stays c.next_in-next.ensures.chosen in
    let on_leases = subst (λ (ts : List ℕ). IfOk r (λ n. IsNext c.in_ok-schemas.schemas x ts number n)) leased on_world in
    let chosen = subst (λ (ss : List Schema). IfOk r (λ n. IsNext ss x out number n)) c.in_ok-schemas.ensures on_leases in
    next_may (schemas_of c.args.homes.now) x out number r chosen
