use Rattle.std.proofs.Common.{◌≡◌, ◌≤◌, true, IfSome, List, Option, Some, None, find, refl, sym, ap, subst, ◌∙◌}
use Rattle.cf_tree.specs.Keys.{ascends}
use Rattle.cf_stacks.specs.Standing.{NamedStanding}
use Rattle.cf_effect.specs.World.{is_going}
use Rattle.cf_stacks.proofs.Going.{call_prepared, none_going}
use Rattle.cf_stacks.proofs.standing.Fields.parts_for.Goals as goal

pub returns-in-None : goal.returns-in-None
returns-in-None c =
    let order : ascends c.args.self.now.stacks ≡ true = subst (λ (ss : List NamedStanding). ascends ss ≡ true) c.as_slice.ensures.value c.as_slice.ensures.in_order in
    (refl, none_going c.args.self.now order c.args.number (sym (ap (λ (ss : List NamedStanding). find (λ s. is_going c.args.number s.1.stack) ss) c.as_slice.ensures.value) ∙ sym c.in-None.ensures))

pub returns-in-Ok : goal.returns-in-Ok
returns-in-Ok c =
    let order : ascends c.args.self.now.stacks ≡ true = subst (λ (ss : List NamedStanding). ascends ss ≡ true) c.as_slice.ensures.value c.as_slice.ensures.in_order in
    let found : find (λ (s : NamedStanding). is_going c.args.number s.1.stack) c.args.self.now.stacks ≡ Some c.in-Some.pair.now =
    sym (ap (λ (ss : List NamedStanding). find (λ s. is_going c.args.number s.1.stack) ss) c.as_slice.ensures.value) ∙ sym c.in-Some.ensures in
    let two : 2 ≤ c.in-Some.pair.now.1.spare = subst (λ (o : Option NamedStanding). IfSome o (λ s. 2 ≤ s.1.spare)) found c.requires in
    call_prepared c.args.self.now order c.args.number c.args.token c.args.lane.now c.args.path.now c.args.request.now c.in_ok-name-in-Some.name c.in-Some.pair.now c.in-Ok.parts c.in_ok-place-in-Some.place
    found c.in_ok-name-in-Some.ensures c.in_ok-place-in-Some.ensures c.in-Ok.ensures.parts (c.in-Ok.ensures.fits two)
