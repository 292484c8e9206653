use Rattle.std.proofs.Common.{ap, find, option_map, sym, List, ◌∙◌}
use Rattle.cf_stacks.specs.Room.{StackStanding, Standing}
use Rattle.cf_stacks.specs.Standing.{NamedStanding, stack_in}
use Rattle.cf_effect.specs.World.{is_going, stack_of_operation}
use Rattle.cf_stacks.proofs.Worlds.{find_under}
use Rattle.cf_stacks.proofs.world.World.stack_of_operation.Goals as goal

pub returns : goal.returns
returns c =
    ap (option_map stack_in) (c.going_in.ensures ∙ ap (λ (ss : List NamedStanding). find (λ s. is_going c.args.number s.1.stack) ss) c.as_slice.ensures.value)
    ∙ sym (find_under (λ (t : StackStanding). t.stack) (is_going c.args.number) c.self.inside.fields.stacks)
    ∙ ap (λ (v : Standing). stack_of_operation c.args.number v.world) c.self.view_is
