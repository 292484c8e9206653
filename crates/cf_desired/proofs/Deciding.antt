-- Conditions that are all decided stay so as parameters become known.
use Rattle.std.proofs.Common.{◌≡◌, ℕ, zero, suc, List, [], ◌∷◌, ◌++◌, Bool, true, false, Option, Some, None, refl, ap, ◌∙◌, map}
use Rattle.std.specs.Prelude.{cond, length}
use Rattle.cf_tree.specs.Datum.{Data}
use Rattle.cf_tree.specs.Keys.{value_at}
use Rattle.cf_tree.specs.Lists.{is_among}
use Rattle.cf_tree.specs.Tests as tests
use Rattle.cf_tree.specs.Tests.{Test, TestNode, Tests, equals, negation, all_of, any_of, named, no_tests, test, place_of_test}
use Rattle.cf_tree.specs.declared.template.Template.{Template}
use Rattle.cf_eval.specs.declared.fault.EvalWhy.TheVariants.{UnknownName, CircularCondition}
use Rattle.cf_desired.specs.Shape.{first_later}
use Rattle.cf_eval.specs.Conditions.{equal_values, test_found, test_node_found, tests_found, decided_by, condition_found, noted_verdict, verdict_found, conditions_found, scope_within, conditions_of}
use Rattle.cf_eval.specs.Functions.{or_fault}
use Rattle.cf_desired.specs.Given.{Given, settings_for}
use Rattle.cf_eval.specs.Knows.{KnowsMore}
use Rattle.cf_eval.specs.Outcome.{Outcome, fault, undecided, below, got, later, bad, on_got, both, each, or_wrong, undeclared_at_fault}
use Rattle.cf_eval.specs.Scope.{Scope}
use Rattle.cf_desired.proofs.Keeping.{GivenKeeps, settings_keep}
use Rattle.cf_eval.proofs.Knowing.{Stands, itself, stands_on, stands_both, StandAll, stands_each, form_value_stands as form_stands}

module _ (s t : Scope) (k : KnowsMore s t) where
  mutual
    test_stands : (around : Option (List ℕ)) (c : Test) → Stands false (test_found s around c) (test_found t around c)
    test_stands around (tests.cond at n) = node_stands around at n

    node_stands : (around : Option (List ℕ)) (at : List ℕ) (n : TestNode) → Stands false (test_node_found s around at n) (test_node_found t around at n)
    node_stands around at (equals a b) = stands_both false _ _ _ _ _ _ (form_stands s t k (Some at) a) (form_stands s t k (Some at) b) (λ x y. itself false (or_wrong at (equal_values x y)))
    node_stands around at (negation c) = stands_on false _ _ _ _ (test_stands (Some at) c) (λ b. refl)
    node_stands around at (all_of cs) = stands_on false _ _ _ _ (stands_each false _ _ (tests_stand (Some at) cs)) (λ bs. refl)
    node_stands around at (any_of cs) = stands_on false _ _ _ _ (stands_each false _ _ (tests_stand (Some at) cs)) (λ bs. refl)
    node_stands around at (named name) = decided (s.decided _ name) (t.decided _ name) (k.decided _ name) where
      decided : (x y : Outcome Bool) → Stands false x y → Stands false x y
      decided x y h = h

    tests_stand : (around : Option (List ℕ)) (cs : Tests) → StandAll false (tests_found s around cs) (tests_found t around cs)
    tests_stand around no_tests = tt
    tests_stand around (test c cs) = (test_stands around c, tests_stand around cs)

decided_more : (s t : Scope) → KnowsMore s t → (f g : List ℕ → List ℕ → Outcome Bool) → ((at name : List ℕ) → Stands false (f at name) (g at name)) → KnowsMore (decided_by f s) (decided_by g t)
decided_more s t k f g h = record { params = k.params; mapping = k.mapping; pseudo = k.pseudo; decided = h; beyond = k.beyond }

condition_stands : (left : ℕ) (s t : Scope) → KnowsMore s t → (conds : List (List ℕ × Test)) (under : List (List ℕ)) (at name : List ℕ)
    → Stands false (condition_found left s conds under at name) (condition_found left t conds under at name)
condition_stands zero s t k conds under at name = tt
condition_stands (suc left) s t k conds under at name =
    either (is_among name under) (condition_stands left s t k conds (under ++ name ∷ [])) where
      either : (c : Bool) → ((place n : List ℕ) → Stands false (condition_found left s conds (under ++ name ∷ []) place n) (condition_found left t conds (under ++ name ∷ []) place n))
          → Stands false (cond c (bad (fault CircularCondition at)) (on_got (or_fault UnknownName at (value_at name conds)) (test_found (decided_by (condition_found left s conds (under ++ name ∷ [])) s) None)))
          (cond c (bad (fault CircularCondition at)) (on_got (or_fault UnknownName at (value_at name conds)) (test_found (decided_by (condition_found left t conds (under ++ name ∷ [])) t) None)))
      either true ih = tt
      either false ih = stands_on false _ _ _ _ (itself false (or_fault UnknownName at (value_at name conds))) (λ c. test_stands _ _ (decided_more s t k _ _ ih) None c)

-- one more verdict before others
verdict_and :
    (n : List ℕ) (x y : Outcome Bool) → Stands false x y → (xs ys : Outcome (List (List ℕ × Option Bool)))
    → ((ws : List (List ℕ × Option Bool)) → xs ≡ got ws → first_later ws ≡ None → ys ≡ got ws) → (vs : List (List ℕ × Option Bool))
    → both (on_got (noted_verdict x) (λ v. got (n, v))) xs (λ a rest. got (a ∷ rest)) ≡ got vs → first_later vs ≡ None
    → both (on_got (noted_verdict y) (λ v. got (n, v))) ys (λ a rest. got (a ∷ rest)) ≡ got vs
verdict_and n (got b) y h (got ws) ys ih vs q l =
    let same : ((n, Some b) ∷ ws) ≡ vs = cc in
    ap (λ z. both (on_got (noted_verdict z) (λ v. got (n, v))) ys (λ a rest. got (a ∷ rest))) h
    ∙ ap (λ z. both {B = List (List ℕ × Option Bool)} (got (n, Some b)) z (λ a rest. got (a ∷ rest))) (ih ws refl (ap first_later same ∙ l)) ∙ ap got same
verdict_and n (got b) y h later ys ih vs q l = let no : ⊥ = cc in absurd no
verdict_and n (got b) y h (bad w) ys ih vs q l = let no : ⊥ = cc in absurd no
verdict_and n later y h (got ws) ys ih vs q l = let same : ((n, None) ∷ ws) ≡ vs = cc in let none : Some n ≡ None = ap first_later same ∙ l in let no : ⊥ = cc in absurd no
verdict_and n later y h later ys ih vs q l = let no : ⊥ = cc in absurd no
verdict_and n later y h (bad w) ys ih vs q l = let no : ⊥ = cc in absurd no
verdict_and n (bad w) y h xs ys ih vs q l = let no : ⊥ = cc in absurd no

module _ (s t : Scope) (k : KnowsMore s t) (conds : List (List ℕ × Test)) where
  all_stand : (cs : List (List ℕ × Test)) (vs : List (List ℕ × Option Bool)) → each (map (verdict_found s conds) cs) ≡ got vs → first_later vs ≡ None → each (map (verdict_found t conds) cs) ≡ got vs
  all_stand [] vs q l = q
  all_stand (c ∷ cs) vs q l =
      verdict_and c.0 (condition_found (length conds) s conds [] (place_of_test c.1) c.0) (condition_found (length conds) t conds [] (place_of_test c.1) c.0)
      (condition_stands (length conds) s t k conds [] (place_of_test c.1) c.0) (each (map (verdict_found s conds) cs)) (each (map (verdict_found t conds) cs)) (all_stand cs) vs q l

plain_got : {A : Type 0} (x : Outcome A) (v : A) → undeclared_at_fault x ≡ got v → x ≡ got v
plain_got (got a) v h = h
plain_got later v h = h
plain_got (bad (fault why at)) v h = h
plain_got (bad (undecided name at)) v h = let no : ⊥ = cc in absurd no
plain_got (bad (below why stack at)) v h = h

pub conditions_stay : (t : Template) (g h : Given) → GivenKeeps g h → (pseudo : List (List ℕ × Data)) (vs : List (List ℕ × Option Bool))
    → conditions_of t (settings_for t.params g) pseudo ≡ got vs → first_later vs ≡ None → conditions_of t (settings_for t.params h) pseudo ≡ got vs
conditions_stay t g h k pseudo vs q l =
    ap undeclared_at_fault (all_stand (scope_within t (settings_for t.params g) pseudo) (scope_within t (settings_for t.params h) pseudo)
    (record { params = λ name. settings_keep g h k name t.params; mapping = λ name. refl; pseudo = refl; decided = λ at name. tt; beyond = refl })
    t.conds t.conds vs (plain_got (conditions_found (scope_within t (settings_for t.params g) pseudo) t.conds) vs q) l)
