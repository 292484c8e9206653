use Rattle.std.proofs.Common.{sym, ◌∙◌}
use Rattle.cf_next.proofs.FirstBegun.{begun_chosen}
use Rattle.cf_next.proofs.chosen.next_by.Goals as goal

pub returns-in-Some : goal.returns-in-Some
returns-in-Some c = λ stage in_stage.
    begun_chosen c.args.schemas.now c.args.name.now c.args.world.now.world c.args.out.now c.args.stack.now.stack stage c.args.offer.now
    (c.requires.offer stage in_stage) c.in-Some.step (sym c.in_ok-begun.ensures ∙ c.in-Some.is)
