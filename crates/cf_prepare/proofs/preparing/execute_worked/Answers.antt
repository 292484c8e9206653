use Rattle.std.proofs.Common.{◌≡◌, ◌+◌}
use Rattle.std.specs.Prelude.{⊤}
use Rattle.cf_entry.specs.declared.entry.Entry.TheVariants as entry
use Rattle.cf_plan.specs.Accept.{with_imports}
use Rattle.cf_effect.specs.Begin.{source_for}
use Rattle.cf_effect.specs.World.{known_stack}
use Rattle.cf_prepare.specs.Orders.{kind_by}
use Rattle.cf_prepare.specs.Refusals.{if_unchanged}
use Rattle.cf_prepare.specs.declared.wish.Order.TheVariants as order
use Rattle.cf_prepare.proofs.Working.{executes_err, unchanged_not}
use Rattle.cf_prepare.proofs.preparing.execute_worked.Goals as goal

pub returns-in-Err : goal.returns-in-Err
returns-in-Err c =
    λ d e. executes_err {A = Unit {0}} (λ u. ⊤)
    (λ o. o
    ≡ order.Begin (entry.Begin (c.args.world.now.world.operation + 1) c.args.name.now
    (kind_by (known_stack c.args.name.now c.args.world.now.world) (with_imports (source_for c.args.name.now 0 c.args.set.now.source) c.args.worked.imports))))
    (if_unchanged d) c.args.number d.rows c.args.set.now.rows c.in-Err.fault (unchanged_not d) (c.in-Err.ensures d e)
