use Rattle.std.proofs.Common.{◌≡◌, ℕ, List, Some, subst}
use Rattle.cf_tree.specs.Keys.{value_at}
use Rattle.cf_effect.specs.Following.{AreTaken}
use Rattle.cf_effect.specs.State.{state_of}
use Rattle.cf_effect.proofs.Noted.{forgotten, member_there}
use Rattle.cf_effect.proofs.following.forget_users.Goals as goal

pub returns-in-Some-place_of : goal.returns-in-Some-place_of
returns-in-Some-place_of c =
    let place : value_at c.args.path.now c.in-Some.layout.now.places ≡ Some c.in-Some-place_of.at = cc in (
      forgotten (state_of c.args.state.now) c.in-Some.layout.now c.args.path.now c.in-Some-place_of.at c.args.found.now.items c.forget_each.new.found.items c.in-Some.ensures place
          (subst (λ (ps : List ℕ). AreTaken ps c.args.found.now.items c.forget_each.new.found.items) c.users_at.ensures c.forget_each.ensures),
      member_there (state_of c.args.state.now) c.in-Some.layout.now c.args.path.now c.in-Some-place_of.at c.in-Some.ensures place,
    )
