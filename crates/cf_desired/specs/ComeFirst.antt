-- What a path needs comes before it in the order of work (this project's own law).
use Rattle.std.specs.Prelude.{◌≡◌, ◌⊎◌, ℕ, true, List, [], ◌∷◌, ◌++◌, None, IsTrue, ⊤, filter, map}
use Rattle.std.specs.List.{list_all}
use Rattle.cf_tree.specs.declared.source.Source.{Source}
use Rattle.cf_tree.specs.Keys.{value_at}
use Rattle.cf_tree.specs.declared.template.Res.{Res}
use Rattle.cf_graph.specs.Needs.{is_made, needs_in}
use Rattle.cf_tree.specs.Lists.{is_among}
use Rattle.cf_desired.specs.Seeing.{Seen}
use Rattle.cf_desired.specs.Shape.{Entering, StandsFor, in_order, stood_for, needed_by, shape_of}
use Rattle.cf_desired.specs.Stack.{Verdicts}
use Rattle.cf_desired.specs.Valued.{resources_in}
use Rattle.cf_desired.specs.Work.{Member}

-- what each needs is among the paths before it
abbrev pub ComeFirst : List (List ℕ) → List Member → Type 0
ComeFirst before [] = ⊤
ComeFirst before (m ∷ ms) = IsTrue (list_all (λ q. is_among q before) m.needs) × ComeFirst (before ++ m.path ∷ []) ms

abbrev pub NeedsComeFirst : Type 0
NeedsComeFirst = (source : Source) (seen : Seen) → ComeFirst [] (resources_in (shape_of source seen))

-- What a resource needs is also what those resources stand for that the order of work tells for it: where ids stand for paths
-- they are of made resources.
abbrev pub OrderTellsNeeds : Type 0
OrderTellsNeeds =
    (e : Entering) (conds : Verdicts) (stands : StandsFor) (r : Res)
    → ((id : List ℕ) → (value_at id stands ≡ None)
    ⊎ (is_among id (map (λ x. x.name) (filter (is_made conds) e.stack.template.resources)) ≡ true))
    → needed_by e conds stands r ≡ in_order (stood_for stands (needs_in e.stack.template conds r) ++ e.needs)
