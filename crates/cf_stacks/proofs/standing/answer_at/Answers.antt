use Rattle.std.proofs.Common.{◌≡◌, arith, true, sym, ap, subst, IfSome, Option, ◌∙◌}
use Rattle.cf_stacks.specs.Room.{has_call}
use Rattle.cf_stacks.specs.Standing.{NamedStanding, answered_at}
use Rattle.cf_effect.specs.World.{is_going}
use Rattle.cf_effect.proofs.Closed.{first_closed}
use Rattle.cf_stacks.proofs.Places.{answers_at, some_named, within}
use Rattle.cf_stacks.proofs.standing.answer_at.Goals as goal

pub index_mut-requires : goal.index_mut-requires
index_mut-requires c =
    let inside = within (λ (s : NamedStanding). is_going c.args.number s.1.stack) c.args.pairs.now.items c.args.at some_named c.requires.place in
    omega (arith, inside, c.args.pairs.now.ok.0)

pub take_outcome-requires-clause-awaited : goal.take_outcome-requires-clause-awaited
take_outcome-requires-clause-awaited c =
    subst (λ (o : Option NamedStanding). IfSome o (λ s. has_call c.args.token s.1.awaited ≡ true))
    (sym (first_closed (λ (s : NamedStanding). is_going c.args.number s.1.stack) c.args.pairs.now.items c.args.at c.index_mut.result.now c.requires.place c.index_mut.ensures.value)) c.requires.awaited

pub returns : goal.returns
returns c =
    answers_at (answered_at c.args.place c.args.entry) (λ (s : NamedStanding). is_going c.args.number s.1.stack) c.args.pairs.now.items c.args.at c.index_mut.result.now c.take_outcome.new.self
    c.requires.order c.requires.place c.index_mut.ensures.value c.take_outcome.ensures
