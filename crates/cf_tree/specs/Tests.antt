-- What a condition of a template is (template reference, condition functions).
use Rattle.std.specs.Prelude.{◌≡◌, ℕ, ◌+◌, List, [], ◌∷◌, refl}
use Rattle.std.specs.Coded.{Coded, code_by}
use Rattle.cf_tree.specs.Forms.{Form, Node, Forms, Fields, form_code}
use Rattle.cf_tree.specs.Forms as form

mutual
  -- a condition: its place, and what stands there
  pub data Test : Type 0 where
    cond : List ℕ → TestNode → Test

  pub data TestNode : Type 0 where
    equals : Form → Form → TestNode
    negation : Test → TestNode
    all_of : Tests → TestNode
    any_of : Tests → TestNode
    named : List ℕ → TestNode

  pub data Tests : Type 0 where
    no_tests : Tests
    test : Test → Tests → Tests

abbrev pub tests_of : List Test → Tests
tests_of [] = no_tests
tests_of (c ∷ cs) = test c (tests_of cs)

-- the place of a condition, and what stands there
abbrev pub place_of_test : Test → List ℕ
place_of_test (cond at n) = at

abbrev pub test_node_in : Test → TestNode
test_node_in (cond at n) = n

-- how many parts it is made of
abbrev mutual
  pub parts_of_test : Test → ℕ
  parts_of_test (cond at n) = parts_of_test_node n + 1

  pub parts_of_test_node : TestNode → ℕ
  parts_of_test_node (equals f g) = 1
  parts_of_test_node (negation c) = parts_of_test c + 1
  parts_of_test_node (all_of cs) = parts_of_tests cs + 1
  parts_of_test_node (any_of cs) = parts_of_tests cs + 1
  parts_of_test_node (named t) = 1

  pub parts_of_tests : Tests → ℕ
  parts_of_tests no_tests = 1
  parts_of_tests (test c cs) = parts_of_test c + parts_of_tests cs + 1

-- a condition as an expression, by which it is kept
abbrev mutual
  test_form : Test → Form
  test_form (cond at n) = form.expr at (test_node_form n)

  test_node_form : TestNode → Node
  test_node_form (equals f g) = form.select f g
  test_node_form (negation c) = form.base64 (test_form c)
  test_node_form (all_of cs) = form.list (tests_form cs)
  test_node_form (any_of cs) = form.choice [] (form.expr [] (form.list (tests_form cs))) (form.expr [] (form.ref []))
  test_node_form (named t) = form.ref t

  tests_form : Tests → Forms
  tests_form no_tests = form.no_forms
  tests_form (test c cs) = form.form (test_form c) (tests_form cs)

abbrev mutual
  test_from : Form → Test
  test_from (form.expr at n) = cond at (test_node_from n)

  test_node_from : Node → TestNode
  test_node_from (form.select f g) = equals f g
  test_node_from (form.base64 f) = negation (test_from f)
  test_node_from (form.list fs) = all_of (tests_from fs)
  test_node_from (form.choice t (form.expr at (form.list fs)) f) = any_of (tests_from fs)
  test_node_from (form.ref t) = named t
  test_node_from n = named []

  tests_from : Forms → Tests
  tests_from form.no_forms = no_tests
  tests_from (form.form f fs) = test (test_from f) (tests_from fs)

mutual
  test_back : (c : Test) → test_from (test_form c) ≡ c
  test_back (cond at n) = λ i. cond at (test_node_back n i)

  test_node_back : (n : TestNode) → test_node_from (test_node_form n) ≡ n
  test_node_back (equals f g) = refl
  test_node_back (negation c) = λ i. negation (test_back c i)
  test_node_back (all_of cs) = λ i. all_of (tests_back cs i)
  test_node_back (any_of cs) = λ i. any_of (tests_back cs i)
  test_node_back (named t) = refl

  tests_back : (cs : Tests) → tests_from (tests_form cs) ≡ cs
  tests_back no_tests = refl
  tests_back (test c cs) = λ i. test (test_back c i) (tests_back cs i)

pub test-from-form : (c : Test) → test_from (test_form c) ≡ c
test-from-form = test_back

-- how a condition is kept
abbrev pub test_code : Coded Test
test_code = code_by Form form_code test_form test_from test-from-form
