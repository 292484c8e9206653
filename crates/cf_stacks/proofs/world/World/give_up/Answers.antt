use Rattle.std.proofs.Common.{◌≡◌, Option, None, arith, ap, ◌∙◌}
use Rattle.cf_stacks.specs.declared.ready.Ready.{Ready}
use Rattle.cf_stacks.specs.Room.{Standing}
use Rattle.cf_stacks.specs.Standing.{awaited_in, world_in}
use Rattle.cf_stacks.specs.Worlds.{entry_ready}
use Rattle.cf_stacks.proofs.world.World.give_up.Goals as goal

pub invariant_of-self : goal.invariant_of-self
invariant_of-self c = rw c.take.ensures.after (record { ready = tt; total = c.self.invariant.total; counts = omega (arith, c.self.invariant.counts) })

pub returns : goal.returns
returns c =
    ap (λ (r : Option Ready). record { world = world_in c.self.inside.fields; ready = entry_ready r; awaited = awaited_in c.self.inside.fields }) c.take.ensures.after
    ∙ ap (λ (v : Standing). record v { ready = None }) c.self.view_is
