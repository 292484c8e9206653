use Rattle.std.proofs.Common.{ap, subst}
use Rattle.std.specs.Option.{option_copied}
use Rattle.cf_effect.specs.Layout.{IsLayoutOf}
use Rattle.cf_effect.specs.World.{StackState}
use Rattle.cf_stacks.specs.Room.{StackStanding}
use Rattle.cf_stacks.proofs.stack.StackState.layout.Goals as goal

pub returns : goal.returns
returns c = subst (λ (s : StackState). IsLayoutOf s (option_copied c.layout_of.result)) (ap (λ (v : StackStanding). v.stack) c.self.view_is) c.layout_of.ensures
