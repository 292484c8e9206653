use Rattle.std.proofs.Common.{◌≡◌, ◌≤◌, Option, Some, None, arith, sym, ap, subst, ◌∙◌}
use Rattle.cf_entry.specs.declared.entry.Entry.{Entry}
use Rattle.cf_stacks.specs.declared.standing.Fields.{Fields}
use Rattle.cf_stacks.specs.Ready.{IsPrepared}
use Rattle.cf_stacks.specs.Room.{Standing}
use Rattle.cf_stacks.specs.Worlds.{entry_ready}
use Rattle.cf_stacks.proofs.Stood.{kept_so, no_entry}
use Rattle.cf_stacks.proofs.Totals.{total_same}
use Rattle.cf_stacks.proofs.world.World.prepare.Goals as goal

pub invariant_of-self : goal.invariant_of-self
invariant_of-self c =
    let kept = c.prepare.ensures.kept in
    let same = total_same c.prepare.new.self.stacks c.self.inside.fields.stacks kept.calls in
    let place = ap (λ (y : Fields). y.place) kept.rest in
    rw c.replace.ensures.after (record {
      ready = subst (λ (e : Entry). IsPrepared e c.prepare.new.self c.in-Ok.work) (sym c.in_ok-copy.ensures) c.in-Ok.ensures.ok;
      total = omega (arith, same, c.self.invariant.total);
      counts = omega (arith, place, c.in_ok-leaves_places.ensures);
    })

pub returns-in-Ok-clause-ok : goal.returns-in-Ok-clause-ok
returns-in-Ok-clause-ok c =
    kept_so c.self.inside.fields c.prepare.new.self (entry_ready c.replace.new.dest) (entry_ready c.self.inside.ready) c.args.self.now c.prepare.ensures.kept c.self.view_is
    ∙ ap (λ (r : Option Entry). record c.args.self.now { ready = r }) (ap entry_ready c.replace.ensures.after ∙ ap (λ (e : Entry). Some e) c.in_ok-copy.ensures)

pub invariant_of-self-in-Err : goal.invariant_of-self-in-Err
invariant_of-self-in-Err c =
    let kept = c.prepare.ensures.kept in
    let same = total_same c.prepare.new.self.stacks c.self.inside.fields.stacks kept.calls in
    let place = ap (λ (y : Fields). y.place) kept.rest in
    let none : c.self.inside.ready ≡ None = no_entry c.self.inside.ready (ap (λ (v : Standing). v.ready) c.self.view_is ∙ c.requires) in
    rw none (record { ready = tt; total = omega (arith, same, c.self.invariant.total); counts = omega (arith, place, c.self.invariant.counts) })

pub returns-in-Err-clause-err : goal.returns-in-Err-clause-err
returns-in-Err-clause-err c =
    kept_so c.self.inside.fields c.prepare.new.self (entry_ready c.self.inside.ready) (entry_ready c.self.inside.ready) c.args.self.now c.prepare.ensures.kept c.self.view_is
    ∙ ap (λ (r : Option Entry). record c.args.self.now { ready = r }) (ap (λ (v : Standing). v.ready) c.self.view_is)
