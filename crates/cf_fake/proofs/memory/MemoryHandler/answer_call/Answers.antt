use Rattle.std.proofs.Common.{Some, refl, subst, sym}
use Rattle.cf_tree.specs.declared.request.Answer.{Answer}
use Rattle.cf_handler.specs.Tells.{CallTells}
use Rattle.cf_fake.specs.Sound.{AnswersInLane}
use Rattle.cf_fake.specs.Late.{lane_at}
use Rattle.cf_fake.proofs.memory.MemoryHandler.answer_call.Goals as goal
use Rattle.cf_fake.proofs.memory.MemoryHandler.answer_call.Goals.{in-Ok, in-Err}

pub returns-clause-moves : goal.returns-clause-moves
returns-clause-moves c =
    let before = lane_at c.args.self.now.store.settled.items c.args.self.now.waiting.items c.args.self.now.fence in
    let after = lane_at c.answer_planned.new.self.store.settled.items c.answer_planned.new.self.waiting.items c.answer_planned.new.self.fence in
    elim c.match-answer_planned.branch [
      | in-Ok w ↦
          subst (λ (x : Answer). AnswersInLane c.args.self.now.store.name x × CallTells c.args.self.now.store.name (Some before) (Some after) c.args.epoch c.args.token c.args.request.now x) (sym w.answer-is) w.in-Ok.ensures.moves
      | in-Err w ↦
          subst (λ (x : Answer). AnswersInLane c.args.self.now.store.name x × CallTells c.args.self.now.store.name (Some before) (Some after) c.args.epoch c.args.token c.args.request.now x) (sym w.answer-is)
          (tt, (after, w.in-Err.ensures.moves, after, refl, refl))
    ]
