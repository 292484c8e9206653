use Rattle.std.proofs.Common.{ap, refl, sym, subst, ◌∙◌}
use Rattle.std.specs.Prelude.{IfOk}
use Rattle.cf_top.specs.Tasks.{FindsOrder, IsLoadable, IsNumbered, early_refusal, load_library}
use Rattle.cf_face.specs.Words.{load_choice}
use Rattle.cf_top.proofs.Deployed.{deployed, loaded}
use Rattle.cf_top.proofs.Meeting.{used}
use Rattle.cf_top.proofs.GoingOn.{continued, executed, resumed}
use Rattle.cf_top.proofs.doing.order_of.Goals as goal

pub order_load-requires : goal.order_load-requires
order_load-requires g c = let few = subst IsLoadable c.in-Load.is c.requires.few in record { some = few.0; few = few.1 }

pub returns-in-Deploy-clause-finds : goal.returns-in-Deploy-clause-finds
returns-in-Deploy-clause-finds g c =
    subst (λ t. FindsOrder (used g.L.Library c.args.library.now c.order_choice.new.library) c.args.schemas.now c.args.world.now.world c.args.stack.now t c.order_choice.result) (sym c.in-Deploy.is)
    (deployed (used g.L.Library c.args.library.now c.order_choice.new.library) c.args.schemas.now c.args.world.now.world c.args.stack.now c.in-Deploy.choice
    (ap (early_refusal c.args.stack.now c.args.world.now.world) (sym c.in-Deploy.is) ∙ c.requires.free) c.order_choice.result c.order_choice.ensures.finds)

pub returns-in-Continue-clause-finds : goal.returns-in-Continue-clause-finds
returns-in-Continue-clause-finds g c =
    subst (λ t. FindsOrder (used g.L.Library c.args.library.now c.args.library.now) c.args.schemas.now c.args.world.now.world c.args.stack.now t c.order_continuation.result) (sym c.in-Continue.is)
    (continued (used g.L.Library c.args.library.now c.args.library.now) c.args.schemas.now c.args.world.now.world c.args.stack.now (refl, refl) c.in-Continue.paths c.order_continuation.result c.order_continuation.ensures)

pub returns-in-Resume-clause-finds : goal.returns-in-Resume-clause-finds
returns-in-Resume-clause-finds g c =
    subst (λ t. FindsOrder (used g.L.Library c.args.library.now c.args.library.now) c.args.schemas.now c.args.world.now.world c.args.stack.now t c.order_resumption.result) (sym c.in-Resume.is)
    (resumed (used g.L.Library c.args.library.now c.args.library.now) c.args.schemas.now c.args.world.now.world c.args.stack.now (refl, refl) c.order_resumption.result c.order_resumption.ensures.prepares
    (λ ordered q. subst (λ r. IfOk r IsNumbered) q c.order_resumption.ensures.numbered))

pub returns-in-Execute-clause-finds : goal.returns-in-Execute-clause-finds
returns-in-Execute-clause-finds g c =
    subst (λ t. FindsOrder (used g.L.Library c.args.library.now c.args.library.now) c.args.schemas.now c.args.world.now.world c.args.stack.now t c.order_execution.result) (sym c.in-Execute.is)
    (executed (used g.L.Library c.args.library.now c.args.library.now) c.args.schemas.now c.args.world.now.world c.args.stack.now (refl, refl) c.in-Execute.number c.order_execution.result c.order_execution.ensures)

pub returns-in-Load-clause-finds : goal.returns-in-Load-clause-finds
returns-in-Load-clause-finds g c =
    subst (λ t. FindsOrder (used g.L.Library c.args.library.now c.args.library.now) c.args.schemas.now c.args.world.now.world c.args.stack.now t c.order_load.result) (sym c.in-Load.is)
    (loaded (used g.L.Library c.args.library.now c.args.library.now) c.args.schemas.now c.args.world.now.world c.args.stack.now (refl, refl) c.in-Load.count c.order_load.result
    (deployed (load_library c.in-Load.count) c.args.schemas.now c.args.world.now.world c.args.stack.now (load_choice c.in-Load.count)
    (ap (early_refusal c.args.stack.now c.args.world.now.world) (sym c.in-Load.is) ∙ c.requires.free) c.order_load.result c.order_load.ensures))
