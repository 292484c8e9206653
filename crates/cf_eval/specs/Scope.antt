-- What an expression is evaluated over (template reference; what is not known yet is this project's own).
use Rattle.std.specs.Prelude.{ℕ, List, Bool, true, false, Option, Some, None, option_map}
use Rattle.cf_tree.specs.Datum.{Data}
use Rattle.cf_tree.specs.Keys.{value_at}
use Rattle.cf_tree.specs.Value.{datum_of}
use Rattle.cf_tree.specs.declared.bound.Setting.{Setting}
use Rattle.cf_tree.specs.declared.bound.Setting.TheVariants as setting
use Rattle.cf_tree.specs.declared.bound.Verdict.{Verdict}
use Rattle.cf_tree.specs.declared.bound.Verdict.TheVariants as verdict
use Rattle.cf_eval.specs.declared.env.Sight.{Sight}
use Rattle.cf_eval.specs.Outcome.{Outcome, got, later, bad, undecided}

-- the mappings of a template, each with its keys and their values
abbrev pub Mappings : Type 0
Mappings = List (List ℕ × List (List ℕ × List (List ℕ × Data)))

-- what its parameters are bound to, what its conditions come to, what is seen of its resources
abbrev pub Settings : Type 0
Settings = List (List ℕ × Setting)

abbrev pub Verdicts : Type 0
Verdicts = List (List ℕ × Verdict)

abbrev pub Sights : Type 0
Sights = List (List ℕ × Sight)

-- what lies beyond parameters, mappings and conditions: in a resource or an output, what is seen of each resource, and the exports of
-- other stacks; in a condition, the names of the resources, none of which it may refer to
pub data Beyond : Type 0 where
  open_to : Sights → List (List ℕ × List ℕ) → Beyond
  closed_to : List (List ℕ) → Beyond

-- what a parameter is bound to, by its name, where the inner None is one that is Later; each mapping by its name; pseudo parameters but
-- `AWS::NoValue`; and what a condition comes to, asked for at a place by its name
pub record Scope : Type 0 where
  pub params : List ℕ → Option (Option Data)
  pub mapping : List ℕ → Option (List (List ℕ × List (List ℕ × Data)))
  pub pseudo : List (List ℕ × Data)
  pub decided : List ℕ → List ℕ → Outcome Bool
  pub beyond : Beyond

-- what a parameter is bound to, where None is Later
abbrev pub setting_of : Setting → Option Data
setting_of (setting.Value v) = Some (datum_of v)
setting_of setting.Later = None

-- what a condition comes to, where None is Later
abbrev pub verdict_of : Verdict → Option Bool
verdict_of verdict.True = Some true
verdict_of verdict.False = Some false
verdict_of verdict.Later = None

-- what a condition comes to where it is decided, the inner None being Later
abbrev pub decided_at : List ℕ → List ℕ → Option (Option Bool) → Outcome Bool
decided_at at name (Some (Some b)) = got b
decided_at at name (Some None) = later
decided_at at name None = bad (undecided name at)

-- a condition among those that are decided; one that is not is asked for
abbrev pub verdict_among : Verdicts → List ℕ → List ℕ → Outcome Bool
verdict_among conds at name = decided_at at name (option_map verdict_of (value_at name conds))

-- the scope of parts: mappings, what parameters are bound to, pseudo parameters, how conditions are decided, and what lies beyond
abbrev pub scope_from : Mappings → Settings → List (List ℕ × Data) → (List ℕ → List ℕ → Outcome Bool) → Beyond → Scope
scope_from mappings bound pseudo decided beyond = record {
  params = λ name. option_map setting_of (value_at name bound);
  mapping = λ name. value_at name mappings;
  pseudo = pseudo;
  decided = decided;
  beyond = beyond;
}

-- the scope of a template's resources and outputs, over what its conditions come to, what is seen of its resources, and the exports of
-- other stacks
abbrev pub resource_scope : Mappings → Settings → Verdicts → List (List ℕ × Data) → Sights → List (List ℕ × List ℕ) → Scope
resource_scope mappings bound conds pseudo seen imports = scope_from mappings bound pseudo (verdict_among conds) (open_to seen imports)

-- the scope in which a template's conditions are evaluated, whose resources have these names: no condition is decided in it, so that an
-- evaluation that asks for one stops there
abbrev pub condition_scope : Mappings → Settings → List (List ℕ × Data) → List (List ℕ) → Scope
condition_scope mappings bound pseudo names = scope_from mappings bound pseudo (λ at name. bad (undecided name at)) (closed_to names)
