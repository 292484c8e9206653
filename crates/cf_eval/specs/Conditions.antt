-- What the conditions of a template come to (template reference, condition functions).
use Rattle.std.specs.Prelude.{ℕ, zero, suc, Bool, not, List, [], ◌∷◌, ◌++◌, length, Option, Some, None, map, option_map, unwrap_or, if◌then◌else◌}
use Rattle.std.specs.List.{list_all, list_any}
use Rattle.cf_tree.specs.declared.template.Template.{Template}
use Rattle.cf_tree.specs.Datum.{Data, Items, text, whole, truth, list, dict, no_items, item}
use Rattle.cf_tree.specs.Keys.{value_at}
use Rattle.cf_tree.specs.Lists.{is_among}
use Rattle.cf_tree.specs.Same.{same_data}
use Rattle.cf_tree.specs.Tests.{Test, TestNode, Tests, cond, equals, negation, all_of, any_of, named, no_tests, test, place_of_test}
use Rattle.cf_eval.specs.Outcome.{Outcome, got, later, bad, fault, on_got, both, each, or_wrong, undeclared_at_fault}
use Rattle.cf_eval.specs.Scope.{Scope, Settings, condition_scope}
use Rattle.cf_eval.specs.Texts.{Found, truth_text}
use Rattle.cf_eval.specs.Functions.{or_fault}
use Rattle.cf_eval.specs.Value.{form_found}
use Rattle.std.specs.Fmt.{signed_decimal}
use Rattle.cf_eval.specs.declared.fault.EvalWhy.TheVariants.{UnknownName, CircularCondition}

-- a member before the others, where all of them can be compared
abbrev pub item_before : Option Data → Option Items → Option Items
item_before (Some d) ds = option_map (item d) ds
item_before None ds = None

-- a value with each number and each truth value in it as a text; no value with a map in it is compared
abbrev mutual
  pub compared : Data → Option Data
  compared (text t) = Some (text t)
  compared (whole n) = Some (text (signed_decimal n))
  compared (truth b) = Some (text (truth_text b))
  compared (list ds) = option_map list (compared_items ds)
  compared (dict ms) = None

  pub compared_items : Items → Option Items
  compared_items no_items = Some no_items
  compared_items (item d ds) = item_before (compared d) (compared_items ds)

-- whether two values are equal once both are compared so
abbrev pub equal_if : Option Data → Option Data → Option Bool
equal_if (Some a) (Some b) = Some (same_data a b)
equal_if (Some a) None = None
equal_if None b = None

abbrev pub equal_values : Option Data → Option Data → Option Bool
equal_values (Some a) (Some b) = equal_if (compared a) (compared b)
equal_values (Some a) None = None
equal_values None b = None

-- `Fn::Equals`: whether two values are equal
abbrev pub equals_found : List ℕ → Found → Found → Outcome Bool
equals_found at left right = both left right (λ a b. or_wrong at (equal_values a b))

-- `Fn::And` and `Fn::Or`: whether all conditions hold, or one of them
abbrev pub all_found : List (Outcome Bool) → Outcome Bool
all_found parts = on_got (each parts) (λ bs. got (list_all (λ b. b) bs))

abbrev pub any_found : List (Outcome Bool) → Outcome Bool
any_found parts = on_got (each parts) (λ bs. got (list_any (λ b. b) bs))

abbrev mutual
  -- a condition, where the innermost function around it stands at `around`
  pub test_found : Scope → Option (List ℕ) → Test → Outcome Bool
  test_found s around (cond at n) = test_node_found s around at n

  pub test_node_found : Scope → Option (List ℕ) → List ℕ → TestNode → Outcome Bool
  test_node_found s around at (equals a b) = equals_found at (form_found s (Some at) a) (form_found s (Some at) b)
  test_node_found s around at (negation c) = on_got (test_found s (Some at) c) (λ b. got (not b))
  test_node_found s around at (all_of cs) = all_found (tests_found s (Some at) cs)
  test_node_found s around at (any_of cs) = any_found (tests_found s (Some at) cs)
  test_node_found s around at (named name) = s.decided (unwrap_or around at) name

  pub tests_found : Scope → Option (List ℕ) → Tests → List (Outcome Bool)
  tests_found s around no_tests = []
  tests_found s around (test c cs) = test_found s around c ∷ tests_found s around cs

-- the same scope, with conditions decided by f
abbrev pub decided_by : (List ℕ → List ℕ → Outcome Bool) → Scope → Scope
decided_by f s = record s { decided = f }

-- What a condition comes to, asked for at a place while those of `under` are being decided, in the order in which they were asked for: it
-- needs itself where it is one of these. `left` is how many conditions there are beside them.
abbrev pub condition_found : ℕ → Scope → List (List ℕ × Test) → List (List ℕ) → List ℕ → List ℕ → Outcome Bool
condition_found zero s conds under at name = bad (fault (if is_among name under then CircularCondition else UnknownName) at)
condition_found (suc left) s conds under at name =
    if is_among name under then bad (fault CircularCondition at)
    else on_got (or_fault UnknownName at (value_at name conds))
    (test_found (decided_by (condition_found left s conds (under ++ name ∷ [])) s) None)

-- a condition that is Later is noted as None
abbrev pub noted_verdict : Outcome Bool → Outcome (Option Bool)
noted_verdict (got b) = got (Some b)
noted_verdict later = got None
noted_verdict (bad w) = bad w

abbrev pub verdict_found : Scope → List (List ℕ × Test) → List ℕ × Test → Outcome (List ℕ × Option Bool)
verdict_found s conds c = on_got (noted_verdict (condition_found (length conds) s conds [] (place_of_test c.1) c.0)) (λ v. got (c.0, v))

-- all conditions, decided in the order of their names
abbrev pub conditions_found : Scope → List (List ℕ × Test) → Outcome (List (List ℕ × Option Bool))
conditions_found s conds = each (map (verdict_found s conds) conds)

-- the scope of a template's conditions, which may refer to none of its resources
abbrev pub scope_within : Template → Settings → List (List ℕ × Data) → Scope
scope_within template bound pseudo = condition_scope template.mappings bound pseudo (map (λ r. r.name) template.resources)

-- what the conditions of a template come to
abbrev pub conditions_of : Template → Settings → List (List ℕ × Data) → Outcome (List (List ℕ × Option Bool))
conditions_of template bound pseudo = undeclared_at_fault (conditions_found (scope_within template bound pseudo) template.conds)
