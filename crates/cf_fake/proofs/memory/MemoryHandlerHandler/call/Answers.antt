use Rattle.std.proofs.Common.{◌<◌, [], refl, rules}
use Rattle.cf_handler.specs.Fence.{FencedLane}
use Rattle.cf_fake.specs.Late.{lane_at}
use Rattle.cf_fake.proofs.memory.MemoryHandlerHandler.call.Goals as goal

pub returns-then-epoch-self-clause-told : goal.returns-then-epoch-self-clause-told
returns-then-epoch-self-clause-told c =
    let lane : FencedLane = lane_at c.args.self.now.store.settled.items c.args.self.now.waiting.items c.args.self.now.fence in
    let before : c.args.epoch < c.args.self.now.fence = search rules in
    (lane, ([], refl), lane, refl, (before, refl, refl))
