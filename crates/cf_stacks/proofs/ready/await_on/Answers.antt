use Rattle.std.proofs.Common.{◌≡◌, Option, sym, ap, ◌∙◌}
use Rattle.cf_stacks.specs.Room.{StackStanding}
use Rattle.cf_stacks.specs.Standing.{NamedStanding, calls_in, has_open, stack_in}
use Rattle.cf_stacks.proofs.Places.{awaits_at, awaits_none, either_way, on_err, on_ok, same_at, within}
use Rattle.cf_stacks.proofs.ready.await_on.Goals as goal

pub returns-in-Some-clause-stacks : goal.returns-in-Some-clause-stacks
returns-in-Some-clause-stacks c =
    let x : NamedStanding = c.index_mut.result.now in
    let same : c.await_call.new.self.stack ≡ x.1.stack =
    either_way c.await_call.result c.await_call.ensures.ok c.await_call.ensures.err (λ h. ap (λ (v : StackStanding). v.stack) h) (λ h. ap (λ (v : StackStanding). v.stack) h) in
    same_at stack_in c.args.pairs.now.items c.in-Some.at x (x.0, c.await_call.new.self) (within (has_open c.args.token) c.args.pairs.now.items c.in-Some.at x (cc))
    (ap (λ s. (x.0, s)) same ∙ ap stack_in c.index_mut.ensures.value)

pub returns-in-Some-clause-ok : goal.returns-in-Some-clause-ok
returns-in-Some-clause-ok c =
    on_ok c.await_call.result c.await_call.ensures.ok (λ h. awaits_at c.args.token c.args.pairs.now.items c.in-Some.at c.index_mut.result.now c.await_call.new.self c.requires (cc) c.index_mut.ensures.value
    (ap (λ (v : StackStanding). v.awaited) h))

pub returns-in-Some-clause-err : goal.returns-in-Some-clause-err
returns-in-Some-clause-err c =
    let x : NamedStanding = c.index_mut.result.now in
    on_err c.await_call.result c.await_call.ensures.err (λ h.
    same_at calls_in c.args.pairs.now.items c.in-Some.at x (x.0, c.await_call.new.self) (within (has_open c.args.token) c.args.pairs.now.items c.in-Some.at x (cc))
    (ap (λ (v : StackStanding). (x.0, v.awaited)) h ∙ ap calls_in c.index_mut.ensures.value))

pub returns-in-None-clause-ok : goal.returns-in-None-clause-ok
returns-in-None-clause-ok c = awaits_none c.args.token c.args.pairs.now.items (cc)
