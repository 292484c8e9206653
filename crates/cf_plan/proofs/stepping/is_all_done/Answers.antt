use Rattle.std.proofs.Common.{◌≡◌, ◌↔◌, Bool, true, sym, subst}
use Rattle.cf_plan.specs.Forward.{AllDone}
use Rattle.cf_plan.proofs.Causing.{all_done_is}
use Rattle.cf_plan.proofs.stepping.is_all_done.Goals as goal

pub returns : goal.returns
returns c =
    subst (λ (b : Bool). (b ≡ true) ↔ AllDone c.args.stack.now.stack) (sym c.are_all_done.ensures)
    (all_done_is c.args.stack.now.stack c.args.terms.now c.args.done.now c.requires.terms c.requires.done)
