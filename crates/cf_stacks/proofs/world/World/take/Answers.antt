use Rattle.std.proofs.Common.{◌≡◌, ap, sym, subst, ◌∙◌}
use Rattle.cf_effect.specs.Fold.{world_after}
use Rattle.cf_stacks.specs.Room.{HasRoom, Standing}
use Rattle.cf_stacks.proofs.Folded.{room_made}
use Rattle.cf_stacks.proofs.world.World.take.Goals as goal

pub step-requires : goal.step-requires
step-requires c = subst (λ (x : Standing). HasRoom x c.args.entry) (sym c.in-Ok.ensures.ok) (room_made c.args.entry c.args.self.now)

pub returns-in-Ok : goal.returns-in-Ok
returns-in-Ok c = ap (λ (x : Standing). x.world) c.step.ensures ∙ ap (λ (x : Standing). world_after x.world c.args.entry) c.in-Ok.ensures.ok
