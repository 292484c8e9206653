use Rattle.std.proofs.Common.{refl, ap, map, ◌∙◌}
use Rattle.cf_stacks.specs.Standing.{calls_in, calls_total, standing_in, world_in}
use Rattle.cf_stacks.proofs.Stepped.{after, awaited_not, changed_not}
use Rattle.cf_stacks.proofs.standing.Fields.step_nothing.Goals as goal

pub returns : goal.returns
returns c = record {
  steps = record {
    world = after (world_in c.args.self.now) (world_in c.args.self.now) (world_in c.count.new.self) c.args.entry (changed_not c.args.self.now c.args.entry c.requires.opening c.requires.none) c.count.ensures.world;
    awaited = ap (map calls_in) c.count.ensures.stacks ∙ awaited_not c.args.self.now c.args.entry (standing_in c.args.self.now) refl refl c.requires.none;
  };
  total = ap calls_total c.count.ensures.stacks;
}
