use Rattle.std.proofs.Common.{◌≡◌, ℕ, List, Option, Some, None, option_map, sym, ap, ◌∙◌}
use Rattle.cf_tree.specs.Keys.{value_at}
use Rattle.cf_stacks.specs.Room.{StackStanding}
use Rattle.cf_stacks.proofs.Prepared.{name_there}
use Rattle.cf_stacks.proofs.standing.Fields.name_there.Goals as goal

pub returns-in-Some : goal.returns-in-Some
returns-in-Some c =
    let found : value_at c.args.name.now c.args.self.now.stacks ≡ Some c.in-Some.field-0.now = ap (λ (k : List ℕ). value_at k c.args.self.now.stacks) (sym c.as_str.ensures) ∙ sym c.in-Some.ensures in
    sym (name_there c.args.self.now c.args.name.now ∙ ap (λ (o : Option StackStanding). option_map (λ (t : StackStanding). c.args.name.now) o) found)

pub returns-in-None : goal.returns-in-None
returns-in-None c =
    let lost : value_at c.args.name.now c.args.self.now.stacks ≡ None = ap (λ (k : List ℕ). value_at k c.args.self.now.stacks) (sym c.as_str.ensures) ∙ sym c.in-None.ensures in
    sym (name_there c.args.self.now c.args.name.now ∙ ap (λ (o : Option StackStanding). option_map (λ (t : StackStanding). c.args.name.now) o) lost)
