-- The conditions of a template (template reference, condition functions): `Fn::Equals` of two values, `Fn::Not`, `Fn::And` and `Fn::Or` of
-- two to ten, and `{"Condition": name}`.
use Rattle.std.specs.Prelude.{ℕ, suc, List, [], ◌∷◌, ◌++◌, ◌&&◌, nat_le, codes, Bool, Ok, Err, if◌then◌else◌}
use Rattle.std.specs.Str.{bytes_eq}
use Rattle.serde_json.specs.Data.{Data, array, object, Items, no_items, item, Members, no_members, member}
use Rattle.cf_tree.specs.Keys.{put}
use Rattle.cf_tree.specs.Tests.{Test, TestNode, cond, equals, negation, all_of, any_of, named, tests_of}
use Rattle.cf_tree.specs.declared.template.Param.{Param}
use Rattle.cf_template.specs.declared.refusal.TemplateFault.TheVariants.{WrongShape, BadName}
use Rattle.cf_template.specs.declared.function.Function.{Function}
use Rattle.cf_template.specs.declared.function.Function.TheVariants.{Equals, Not, And, Or}
use Rattle.cf_template.specs.Refusals.{Reading, after, mapped, provided}
use Rattle.cf_template.specs.Places.{member_place, item_at}
use Rattle.cf_template.specs.Words.{is_name}
use Rattle.cf_template.specs.Functions.{function_in, has_function, stray_object}
use Rattle.cf_template.specs.Exprs.{literal_text, form_of}

-- how many items a list has
abbrev pub items_count : Items → ℕ
items_count no_items = 0
items_count (item d ds) = suc (items_count ds)

abbrev pub is_two_to_ten : ℕ → Bool
is_two_to_ten n = nat_le 2 n && nat_le n 10

-- the two values that are compared
abbrev pub equals_of : List Param → Data → List ℕ → Reading TestNode
equals_of ps (array (item a (item b no_items))) at =
    after (form_of ps a (item_at at 0)) (λ f. mapped (equals f) (form_of ps b (item_at at 1)))
equals_of ps d at = Err (WrongShape at)

-- the object that names a condition
abbrev pub condition_named : Members → List ℕ → Reading TestNode
condition_named (member k d no_members) at =
    if bytes_eq k (codes "Condition") then mapped named (literal_text d (member_place at k)) else Err (WrongShape at)
condition_named ms at = Err (WrongShape at)

abbrev mutual
  pub test_of : List Param → Data → List ℕ → Reading Test
  test_of ps (object ms) at = mapped (cond at) (if has_function ms then test_call ps (function_in ms) ms at else condition_named ms at)
  test_of ps d at = Err (WrongShape at)

  -- each condition function with its argument
  pub test_call : List Param → Function → Members → List ℕ → Reading TestNode
  test_call ps Equals (member k d ms) at = equals_of ps d (member_place at k)
  test_call ps Not (member k d ms) at = negation_of ps d (member_place at k)
  test_call ps And (member k d ms) at = mapped (λ cs. all_of (tests_of cs)) (several_of ps d (member_place at k))
  test_call ps Or (member k d ms) at = mapped (λ cs. any_of (tests_of cs)) (several_of ps d (member_place at k))
  test_call ps f ms at = Err (stray_object ms at)

  pub negation_of : List Param → Data → List ℕ → Reading TestNode
  negation_of ps (array (item a no_items)) at = mapped negation (test_of ps a (item_at at 0))
  negation_of ps d at = Err (WrongShape at)

  pub several_of : List Param → Data → List ℕ → Reading (List Test)
  several_of ps (array ds) at = provided (is_two_to_ten (items_count ds)) (WrongShape at) (tests_in ps ds at 0 [])
  several_of ps d at = Err (WrongShape at)

  -- the items of a list behind those found before
  pub tests_in : List Param → Items → List ℕ → ℕ → List Test → Reading (List Test)
  tests_in ps no_items at i found = Ok found
  tests_in ps (item d ds) at i found = after (test_of ps d (item_at at i)) (λ c. tests_in ps ds at (suc i) (found ++ c ∷ []))

-- the members of the section put into those found before
abbrev pub conds_in : List Param → Members → List ℕ → List (List ℕ × Test) → Reading (List (List ℕ × Test))
conds_in ps no_members at found = Ok found
conds_in ps (member k d ms) at found =
    provided (is_name k) (BadName (member_place at k)) (after (test_of ps d (member_place at k)) (λ c. conds_in ps ms at (put k c found)))
