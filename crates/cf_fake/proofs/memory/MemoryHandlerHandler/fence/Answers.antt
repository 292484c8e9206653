use Rattle.std.proofs.Common.{◌<◌, ◌≤◌, [], refl, inl, rules}
use Rattle.cf_tree.specs.Counts.{HasRisen}
use Rattle.cf_handler.specs.Fence.{FencedLane}
use Rattle.cf_fake.specs.Late.{lane_at}
use Rattle.cf_fake.proofs.memory.MemoryHandlerHandler.fence.Goals as goal

pub returns-then-epoch-self-clause-told : goal.returns-then-epoch-self-clause-told
returns-then-epoch-self-clause-told c =
    let lane : FencedLane = lane_at c.args.self.now.store.settled.items c.args.self.now.waiting.items c.args.self.now.fence in
    let ahead : c.args.epoch ≤ c.args.self.now.fence = search rules in
    (lane, ([], refl), lane, refl, (ahead, refl, refl))

pub returns-then-breaks_fence-clause-told : goal.returns-then-breaks_fence-clause-told
returns-then-breaks_fence-clause-told c =
    let lane : FencedLane = lane_at c.args.self.now.store.settled.items c.args.self.now.waiting.items c.args.self.now.fence in
    let below : c.args.self.now.fence < c.args.epoch = search rules in
    let rose : HasRisen c.args.self.now.faults c.saturating_add-self.result = search rules in
    (lane, ([], refl), lane, refl, (rose, below, inl refl))

pub returns-clause-told : goal.returns-clause-told
returns-clause-told c =
    let lane : FencedLane = lane_at c.args.self.now.store.settled.items c.args.self.now.waiting.items c.args.self.now.fence in
    let raised : FencedLane = lane_at c.args.self.now.store.settled.items c.args.self.now.waiting.items c.args.epoch in
    let below : c.args.self.now.fence < c.args.epoch = search rules in
    (lane, ([], refl), raised, refl, (below, refl))
