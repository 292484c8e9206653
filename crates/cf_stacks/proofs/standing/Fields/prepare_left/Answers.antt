use Rattle.std.proofs.Common.{◌≡◌, ℕ, List, Some, sym, ap, ◌∙◌}
use Rattle.cf_stacks.proofs.Prepared.{is_for}
use Rattle.cf_stacks.proofs.standing.Fields.prepare_left.Goals as goal

pub returns-in-Ok : goal.returns-in-Ok
returns-in-Ok c = (c.requires.opening, c.requires.intent, is_for c.args.self.now c.in_order.ensures c.args.entry.now c.in_ok-name-in-Some.name (sym c.in-Some.ensures ∙ ap (λ (k : List ℕ). Some k) (sym c.in_ok-name-in-Some.ensures)), c.in-Ok.ensures)
