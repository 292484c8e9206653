use Rattle.std.proofs.Common.{IfOk, subst}
use Rattle.cf_handler.specs.Move.{LaneMove}
use Rattle.cf_fake.specs.Sound.{AnswersInLane, lane_of}
use Rattle.cf_fake.specs.Late.{lane_at}
use Rattle.cf_fake.proofs.Acting.{worked}
use Rattle.cf_fake.proofs.memory.MemoryHandler.answer_planned.Goals as goal

pub returns-in_default-clause-moves : goal.returns-in_default-clause-moves
returns-in_default-clause-moves c =
    worked c.args.self.now.store.name (lane_at c.args.self.now.store.settled.items c.args.self.now.waiting.items c.args.self.now.fence) c.act_due.new.store.settled.items c.answer.new.self.settled.items c.act_due.new.waiting.items c.args.self.now.fence c.args.epoch c.args.token c.args.request.now c.answer.result
    c.act_due.ensures.late c.requires.passes
    (subst (λ n. IfOk c.answer.result (λ x. AnswersInLane n x × LaneMove n (lane_of c.act_due.new.store.settled.items) (lane_of c.answer.new.self.settled.items) c.args.token c.args.request.now x)) c.act_due.ensures.stays.0 c.answer.ensures.moves)
    c.answer.ensures.err
