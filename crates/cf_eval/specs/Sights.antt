-- What is seen of the resources of a template (template reference: Ref, Fn::GetAtt; that a resource is seen before all of it is
-- known is this project's own).
use Rattle.std.specs.Prelude.{ℕ, Bool, List, [], ◌∷◌, ◌++◌, Option, Some, None, codes, map, if◌then◌else◌}
use Rattle.std.specs.Option.{option_copied}
use Rattle.cf_tree.specs.Keys.{put, value_at}
use Rattle.cf_eval.specs.declared.env.Sight.{Sight}
use Rattle.cf_eval.specs.declared.env.Sight.TheVariants as sight
use Rattle.cf_eval.specs.declared.sights.SeenAt.{SeenAt}
use Rattle.cf_eval.specs.declared.sights.Shown.{Shown}
use Rattle.cf_eval.specs.declared.sights.Shown.TheVariants as shown

-- a resource's path: its stack's path and its logical id
abbrev pub path_in : List ℕ → List ℕ → List ℕ
path_in [] id = id
path_in (b ∷ bs) id = (b ∷ bs) ++ codes "/" ++ id

-- a resource that is made, by what is seen at its path
abbrev pub seen_as : Option SeenAt → Sight
seen_as None = sight.Made None None
seen_as (Some s) = sight.Made s.physical s.attrs

-- the resources of the stack at a path, each with whether it is made, over what is seen by path
abbrev pub sight_at : List ℕ → List (List ℕ × SeenAt) → List ℕ × Bool → List ℕ × Sight
sight_at stack seen r = (r.0, if r.1 then seen_as (value_at (path_in stack r.0) seen) else sight.NotMade)

abbrev pub seen_through : List ℕ → List (List ℕ × SeenAt) → List (List ℕ × Bool) → List (List ℕ × Sight)
seen_through stack seen made = map (sight_at stack seen) made

-- with those that have come since, the last one first
abbrev pub with_come : List (List ℕ × Sight) → List (List ℕ × Sight) → List (List ℕ × Sight)
with_come [] sights = sights
with_come (p ∷ ps) sights = put p.0 p.1 (with_come ps sights)

-- what a look-up shows
abbrev pub sight_shown : Shown → Sight
sight_shown shown.NotMade = sight.NotMade
sight_shown (shown.Made physical attrs) = sight.Made (option_copied physical) (option_copied attrs)
sight_shown (shown.Nested id outputs) = sight.Nested id.now outputs.now
