use Rattle.std.proofs.Common.{◌++◌, ◌∙◌, ℕ, List, ap, subst}
use Rattle.cf_effect.specs.declared.held.Held.{Held}
use Rattle.cf_plan.specs.Done.{CanJoin, Joined, updated_paths}
use Rattle.cf_plan.proofs.Doing.{are_done}
use Rattle.cf_plan.proofs.done.done_by.Goals as goal

pub returns : goal.returns
returns c =
    let held = c.requires.held in
    are_done c.args.stack.now.stack c.args.terms.now c.requires.terms c.args.now.now c.requires.now c.push_updated.new.paths c.add_all_right.new.done
    (c.in_ok-push_updated.ensures ∙ ap (λ l. l ++ updated_paths c.args.stack.now.stack) c.in_ok-done.ensures)
    (subst (λ (hs : List Held). Joined c.args.terms.now c.args.now.now hs c.push_updated.new.paths c.add_all_right.new.done) held
    c.in_ok-add_all_right.ensures.joined)
    (subst (λ (hs : List Held). (p : List ℕ) → CanJoin c.args.terms.now c.args.now.now hs c.add_all_right.new.done p → ⊥) held
    c.in_ok-add_all_right.ensures.all)
