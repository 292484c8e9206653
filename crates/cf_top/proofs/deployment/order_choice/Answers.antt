use Rattle.std.proofs.Common.{Some, None, Ok, subst}
use Rattle.cf_io.specs.Library.{CountsMisses, StandsUnder, bytes_found}
use Rattle.cf_top.proofs.Meeting.{used}
use Rattle.cf_top.proofs.Deployed.{fetched, missed}
use Rattle.cf_top.proofs.deployment.order_choice.Goals as goal

pub returns-in-Ok-Some-clause-finds : goal.returns-in-Ok-Some-clause-finds
returns-in-Ok-Some-clause-finds g c =
    fetched (used g.L.Library c.args.library.now c.fetch.new.self) c.args.purpose c.args.schemas.now c.args.world.now.world c.args.stack.now c.args.choice.now c.in-Ok-Some.bytes.items c.check_template.result
    (subst (λ name. StandsUnder (g.L.Library.texts c.args.library.now) name (Some c.in-Ok-Some.bytes.items)) c.as_str.ensures (subst (λ f. StandsUnder (g.L.Library.texts c.args.library.now) c.as_str.result.now (bytes_found f)) c.in-Ok-Some.field-0-is c.in-Ok-Some.ensures.found))
    c.check_template.ensures

pub returns-in-Ok-None-clause-finds : goal.returns-in-Ok-None-clause-finds
returns-in-Ok-None-clause-finds g c =
    missed (used g.L.Library c.args.library.now c.fetch.new.self) c.args.purpose c.args.schemas.now c.args.world.now.world c.args.stack.now c.args.choice.now c.missing.result
    (subst (λ name. StandsUnder (g.L.Library.texts c.args.library.now) name None) c.as_str.ensures (subst (λ f. StandsUnder (g.L.Library.texts c.args.library.now) c.as_str.result.now (bytes_found f)) c.in-Ok-None.field-0-is c.in-Ok-None.ensures.found))
    (subst (λ f. CountsMisses (g.L.Library.missed c.args.library.now) (g.L.Library.missed c.fetch.new.self) (Ok f)) c.in-Ok-None.field-0-is c.in-Ok-None.ensures.misses).1 c.missing.ensures
