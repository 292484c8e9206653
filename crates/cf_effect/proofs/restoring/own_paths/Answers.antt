use Rattle.std.proofs.Common.{◌∙◌, ℕ, IfOk, IfSome, List, Option, subst}
use Rattle.cf_effect.specs.Restoring.{AreOwnPlaces}
use Rattle.cf_effect.proofs.restoring.own_paths.Goals as goal

pub returns : goal.returns
returns c =
    subst (λ (names : List (Option (List ℕ))). IfOk c.own_places.result (λ places. IfSome places (AreOwnPlaces names)))
    (c.as_slice.ensures.value ∙ c.in_ok-paths.ensures) c.own_places.ensures
