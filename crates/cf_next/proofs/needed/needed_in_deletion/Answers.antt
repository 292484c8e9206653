use Rattle.std.proofs.Common.{◌∙◌, ◌++◌, ℕ, List, ap}
use Rattle.cf_next.specs.Needed.{held_needs}
use Rattle.cf_next.proofs.Needing.{in_deletion}
use Rattle.cf_next.proofs.needed.needed_in_deletion.Goals as goal

pub returns : goal.returns
returns c =
    let s = c.args.stack.now.stack in
    in_deletion s c.add_held_needs.new.needed (c.in_ok-add_held_needs.ensures ∙ ap (λ (ids : List (List ℕ)). ids ++ held_needs s) c.in_ok-needed.ensures)
