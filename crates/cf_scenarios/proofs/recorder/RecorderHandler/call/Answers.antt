use Rattle.std.proofs.Common.{ℕ, [], Some, refl, subst, sym}
use Rattle.cf_tree.specs.declared.request.Answer.{Answer}
use Rattle.cf_tree.specs.declared.request.Request.{Request}
use Rattle.cf_handler.specs.Fence.{FencedLane}
use Rattle.cf_handler.specs.Tells.{CallTells}
use Rattle.cf_fake.specs.declared.memory.MemoryHandler.{MemoryHandler}
use Rattle.cf_fake.specs.Late.{lane_at}
use Rattle.cf_scenarios.specs.declared.recorder.Recorder.{Recorder}
use Rattle.cf_scenarios.proofs.recorder.RecorderHandler.call.Goals as goal
use Rattle.cf_scenarios.proofs.recorder.RecorderHandler.call.Goals.{then-contains, else-contains}

-- what a handler tells of its lane
abbrev told : MemoryHandler → FencedLane
told h = lane_at h.store.settled.items h.waiting.items h.fence

-- a call of one that was this handler before and is that one after it
abbrev Tells : MemoryHandler → MemoryHandler → ℕ → ℕ → Request → Answer → Type 0
Tells before after epoch token request answer =
    CallTells before.store.name (Some (told before)) (Some (told after)) epoch token request answer

pub returns-clause-told : goal.returns-clause-told
returns-clause-told c =
    let before : MemoryHandler = c.args.self.now.handler in
    let request : Request = c.args.request.now in
    subst (λ (h : MemoryHandler). Tells before h c.args.epoch c.args.token request c.if-contains.answer) (sym c.keep.ensures)
    (elim c.if-contains.branch [
      | then-contains w ↦
          subst (λ (r : Recorder). Tells before r.handler c.args.epoch c.args.token request c.if-contains.answer) (sym w.self-is)
          (subst (λ (a : Answer). Tells before before c.args.epoch c.args.token request a) (sym w.answer-is)
          (told before, ([], refl), told before, refl, refl))
      | else-contains w ↦
          subst (λ (r : Recorder). Tells before r.handler c.args.epoch c.args.token request c.if-contains.answer) (sym w.self-is)
          (subst (λ (a : Answer). Tells before w.call-answer.new.self c.args.epoch c.args.token request a) (sym w.answer-is)
          w.call-answer.ensures.told)
    ])
