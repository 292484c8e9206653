use Rattle.std.proofs.Common.{◌≡◌, Some, subst, refl}
use Rattle.cf_effect.specs.World.{known_stack}
use Rattle.cf_prepare.specs.Refusals.{set_of}
use Rattle.cf_prepare.specs.declared.wish.PrepareFault.TheVariants.{NoMemory}
use Rattle.cf_prepare.specs.declared.wish.Wish.TheVariants.{Execute}
use Rattle.cf_top.specs.Tasks.{PreparesWish}
use Rattle.cf_top.proofs.Ordered.{short_wish}
use Rattle.cf_top.proofs.executing.order_execution.Goals as goal

pub order_wish-requires : goal.order_wish-requires
order_wish-requires c k at =
    c.in-Ok.ensures k (subst (λ name. set_of c.args.number (known_stack name c.args.world.now.world) ≡ Some k) c.in-Ok-try_clone.ensures at)

pub returns-in-Ok-try_clone : goal.returns-in-Ok-try_clone
returns-in-Ok-try_clone c =
    subst (λ name. PreparesWish c.args.schemas.now c.args.world.now.world (Execute name c.args.number) c.order_wish.result) c.in-Ok-try_clone.ensures c.order_wish.ensures

-- there is no memory
pub returns-in-Err : goal.returns-in-Err
returns-in-Err c = (NoMemory, short_wish c.args.schemas.now c.args.world.now.world (Execute c.args.stack.now c.args.number), refl)

pub returns-in_default : goal.returns-in_default
returns-in_default c = (NoMemory, short_wish c.args.schemas.now c.args.world.now.world (Execute c.args.stack.now c.args.number), refl)
