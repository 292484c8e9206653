use Rattle.std.proofs.Common.{◌∙◌, ◌++◌, ◌∷◌, ℕ, List, [], true, ap}
use Rattle.cf_tree.specs.Keys.{put}
use Rattle.cf_plan.proofs.NameSets.{set_joined}
use Rattle.cf_plan.proofs.index.NameIndex.push.Goals as goal

pub invariant_of-self-2 : goal.invariant_of-self-2
invariant_of-self-2 c =
    set_joined c.self.inside.names.items c.push_reserved.new.self.items c.self.inside.set c.insert.new.self c.args.name.now c.self.invariant
    (c.push_reserved.ensures.items ∙ (λ j. c.reserve.ensures.items j ++ c.in_ok-last.ensures j ∷ []))
    (c.in_ok-insert.ensures.ok ∙ ap (λ (n : List ℕ). put n true c.self.inside.set) c.in_ok-try_clone.ensures)
