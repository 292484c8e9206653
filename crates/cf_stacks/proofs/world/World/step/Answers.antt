use Rattle.std.proofs.Common.{◌≡◌, ◌≤◌, Option, Some, None, arith, sym, ap, subst, ◌∙◌}
use Rattle.cf_entry.specs.declared.entry.Entry.{Entry}
use Rattle.cf_stacks.specs.declared.ready.Ready.{Ready}
use Rattle.cf_stacks.specs.Room.{HasRoom, Standing}
use Rattle.cf_stacks.specs.Standing.{awaited_in, world_in}
use Rattle.cf_effect.specs.World.{World}
use Rattle.cf_stacks.specs.Worlds.{entry_ready}
use Rattle.cf_stacks.proofs.Stood.{answer_counts, ready_for, stepped_so}
use Rattle.cf_stacks.proofs.world.World.step.Goals as goal

pub step_answer-requires : goal.step_answer-requires
step_answer-requires c =
    let one = answer_counts c.self.inside.fields c.in_order.ensures c.in-Some.number c.in-Some.token c.args.entry c.in-Some.ensures.some in
    record { place = omega (arith, one, c.self.invariant.total, c.self.invariant.counts); answer = c.in-Some.ensures.some }

pub apply-requires : goal.apply-requires
apply-requires c =
    let there : entry_ready c.self.inside.ready ≡ Some c.args.entry =
    c.in-None.ensures.none (entry_ready c.self.inside.ready) (subst (λ (v : Standing). HasRoom v c.args.entry) (sym c.self.view_is) c.requires) in
    let k : c.self.inside.ready ≡ Some c.in-Some-take.ready = sym c.take-in-None.ensures.value ∙ c.in-Some-take.is in
    let r = ready_for c.self.inside c.self.invariant c.in-Some-take.ready k c.args.entry there in
    record { place = omega (arith, r.2); copy = r.0; work = r.1 }

pub invariant_of-self : goal.invariant_of-self
invariant_of-self c =
    let place = ap (λ (w : World). w.place) c.step_answer.ensures.steps.world in
    rw c.take.ensures.after (record {
      ready = tt;
      total = omega (arith, c.step_answer.ensures.total, c.self.invariant.total);
      counts = omega (arith, place, c.step_answer.ensures.total, c.self.invariant.total, c.self.invariant.counts);
    })

pub returns-in-Some : goal.returns-in-Some
returns-in-Some c =
    ap (λ (r : Option Ready). record { world = world_in c.step_answer.new.self; ready = entry_ready r; awaited = awaited_in c.step_answer.new.self }) c.take.ensures.after
    ∙ stepped_so c.self.inside.fields c.step_answer.new.self c.args.entry (entry_ready c.self.inside.ready) c.args.self.now c.step_answer.ensures.steps c.self.view_is

pub returns-in-Some-take : goal.returns-in-Some-take
returns-in-Some-take c =
    ap (λ (r : Option Ready). record { world = world_in c.apply.new.self; ready = entry_ready r; awaited = awaited_in c.apply.new.self }) c.take-in-None.ensures.after
    ∙ stepped_so c.self.inside.fields c.apply.new.self c.args.entry (entry_ready c.self.inside.ready) c.args.self.now c.apply.ensures.steps c.self.view_is

pub unreachable-requires : goal.unreachable-requires
unreachable-requires c =
    let there : entry_ready c.self.inside.ready ≡ Some c.args.entry =
    c.in-None.ensures.none (entry_ready c.self.inside.ready) (subst (λ (v : Standing). HasRoom v c.args.entry) (sym c.self.view_is) c.requires) in
    let none : c.self.inside.ready ≡ None = sym c.take-in-None.ensures.value ∙ c.in-None-take.is in
    let lost : entry_ready None ≡ Some c.args.entry = ap entry_ready (sym none) ∙ there in
    absurd (cc)
