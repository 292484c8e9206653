use Rattle.std.proofs.Common.{◌≡◌, ◌≤◌, None, arith, sym, ap, ◌∙◌}
use Rattle.cf_stacks.specs.declared.standing.Fields.{Fields}
use Rattle.cf_stacks.specs.Room.{Standing}
use Rattle.cf_stacks.specs.Worlds.{entry_ready}
use Rattle.cf_stacks.proofs.Awaiting.{awaits_total}
use Rattle.cf_stacks.proofs.Stood.{awaits_so, no_entry}
use Rattle.cf_stacks.proofs.Totals.{total_same}
use Rattle.cf_stacks.proofs.world.World.await_again.Goals as goal

pub invariant_of-self : goal.invariant_of-self
invariant_of-self c =
    let same = total_same c.await_again.new.self.stacks c.self.inside.fields.stacks c.in_err-await_again-in-Intent.ensures.err in
    let place = ap (λ (y : Fields). y.place) c.await_again.ensures.rest in
    let none : c.self.inside.ready ≡ None = no_entry c.self.inside.ready (ap (λ (v : Standing). v.ready) c.self.view_is ∙ c.requires) in
    rw none (record { ready = tt; total = omega (arith, same, c.self.invariant.total); counts = omega (arith, place, c.self.invariant.counts) })

pub invariant_of-self-in-Intent : goal.invariant_of-self-in-Intent
invariant_of-self-in-Intent c =
    let most = awaits_total c.in-Intent.token c.self.inside.fields.stacks c.await_again.new.self.stacks c.in_order.ensures c.in_ok-await_again-in-Intent.ensures.ok in
    let place = ap (λ (y : Fields). y.place) c.await_again.ensures.rest in
    let none : c.self.inside.ready ≡ None = no_entry c.self.inside.ready (ap (λ (v : Standing). v.ready) c.self.view_is ∙ c.requires) in
    rw none (record { ready = tt; total = omega (arith, most, c.self.invariant.total); counts = omega (arith, place, c.in_ok-leaves_places-in-Intent.ensures) })

pub returns-in_ok-await_again-in-Intent-clause-ok : goal.returns-in_ok-await_again-in-Intent-clause-ok
returns-in_ok-await_again-in-Intent-clause-ok c =
    awaits_so c.self.inside.fields c.await_again.new.self (entry_ready c.self.inside.ready) c.args.self.now c.in-Intent.number c.in-Intent.token c.in-Intent.lane c.in-Intent.path c.in-Intent.request c.args.entry.now
    c.in_order.ensures c.await_again.ensures.rest c.await_again.ensures.stacks c.in_ok-await_again-in-Intent.ensures.ok c.self.view_is c.in-Intent.is
