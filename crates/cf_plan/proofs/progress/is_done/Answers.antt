use Rattle.std.proofs.Common.{◌≡◌, ◌↔◌, Bool, true, sym, subst}
use Rattle.cf_plan.specs.Forward.{AllDone}
use Rattle.cf_plan.proofs.StatesOpen.{all_done_by}
use Rattle.cf_plan.proofs.progress.is_done.Goals as goal

pub returns : goal.returns
returns c =
    subst (λ (b : Bool). (b ≡ true) ↔ AllDone c.args.stack.now.stack) (sym c.are_all_done_at.ensures)
    (all_done_by c.args.stack.now.stack c.args.states.now c.args.done.now c.requires.states c.requires.done c.requires.enough)
