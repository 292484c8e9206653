use Rattle.std.proofs.Common.{◌≡◌, ◌≤◌, true, find, IfSome, Option, sym, ap, subst, ◌∙◌}
use Rattle.cf_stacks.specs.Room.{StackStanding}
use Rattle.cf_stacks.specs.Standing.{NamedStanding, calls_in, stack_in}
use Rattle.cf_effect.specs.World.{is_going}
use Rattle.cf_effect.proofs.Closed.{none_closed}
use Rattle.cf_stacks.proofs.Places.{found_set, on_ok, passes_at, same_at, within}
use Rattle.cf_stacks.proofs.ready.reserve_going.Goals as goal

pub returns-in-Some-clause-stacks : goal.returns-in-Some-clause-stacks
returns-in-Some-clause-stacks c =
    let x : NamedStanding = c.index_mut.result.now in
    same_at stack_in c.args.pairs.now.items c.in-Some.at x (x.0, c.reserve.new.self) (within (λ (s : NamedStanding). is_going c.args.number s.1.stack) c.args.pairs.now.items c.in-Some.at x (cc))
    (ap (λ (v : StackStanding). (x.0, v.stack)) c.reserve.ensures.same ∙ ap stack_in c.index_mut.ensures.value)

pub returns-in-Some-clause-calls : goal.returns-in-Some-clause-calls
returns-in-Some-clause-calls c =
    let x : NamedStanding = c.index_mut.result.now in
    same_at calls_in c.args.pairs.now.items c.in-Some.at x (x.0, c.reserve.new.self) (within (λ (s : NamedStanding). is_going c.args.number s.1.stack) c.args.pairs.now.items c.in-Some.at x (cc))
    (ap (λ (v : StackStanding). (x.0, v.awaited)) c.reserve.ensures.same ∙ ap calls_in c.index_mut.ensures.value)

pub returns-in-Some-clause-ok : goal.returns-in-Some-clause-ok
returns-in-Some-clause-ok c =
    let x : NamedStanding = c.index_mut.result.now in
    let still : is_going c.args.number c.reserve.new.self.stack ≡ true =
    ap (λ (v : StackStanding). is_going c.args.number v.stack) c.reserve.ensures.same ∙ passes_at (λ (s : NamedStanding). is_going c.args.number s.1.stack) c.args.pairs.now.items c.in-Some.at x (cc) c.index_mut.ensures.value in
    let found = found_set (λ (s : NamedStanding). is_going c.args.number s.1.stack) c.args.pairs.now.items c.in-Some.at x (x.0, c.reserve.new.self) (cc) c.index_mut.ensures.value still in
    on_ok c.reserve.result c.reserve.ensures.ok (λ h. subst (λ (o : Option NamedStanding). IfSome o (λ s. 2 ≤ s.1.spare)) (sym found) h)

pub returns-in-None-clause-ok : goal.returns-in-None-clause-ok
returns-in-None-clause-ok c =
    subst (λ (o : Option NamedStanding). IfSome o (λ s. 2 ≤ s.1.spare)) (none_closed (λ (s : NamedStanding). is_going c.args.number s.1.stack) c.args.pairs.now.items (cc)) tt
