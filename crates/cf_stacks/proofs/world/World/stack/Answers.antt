use Rattle.std.proofs.Common.{ap, option_map, sym, ◌∙◌}
use Rattle.cf_tree.specs.Keys.{value_at}
use Rattle.cf_stacks.specs.Room.{StackStanding, Standing}
use Rattle.cf_stacks.proofs.Worlds.{value_under}
use Rattle.cf_stacks.proofs.world.World.stack.Goals as goal

pub returns : goal.returns
returns c =
    ap (option_map (λ (t : StackStanding). t.stack)) c.get.ensures
    ∙ sym (value_under (λ (t : StackStanding). t.stack) c.args.name.now c.self.inside.fields.stacks)
    ∙ ap (λ (v : Standing). value_at c.args.name.now v.world.stacks) c.self.view_is
