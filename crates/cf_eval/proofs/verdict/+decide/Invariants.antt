use Rattle.std.proofs.Common.{◌≡◌, ◌+◌, ◌*◌, Some, drop}
use Rattle.cf_tree.specs.Test.{test_node_of}
use Rattle.cf_tree.specs.Tests.{parts_of_test, parts_of_test_node, parts_of_tests, tests_of}
use Rattle.cf_eval.specs.Conditions.{tests_found, all_found, any_found}
use Rattle.cf_eval.specs.ScopeOf.{scope_of}
use Rattle.cf_eval.proofs.Verdicts.{all_after, any_after}
use Rattle.cf_eval.proofs.verdict.+decide.Given as goal

abbrev pub decreases-test : goal.decreases-test
decreases-test l = 4 * parts_of_test l.cond.now

abbrev pub decreases-node : goal.decreases-node
decreases-node l = 4 * parts_of_test_node (test_node_of l.node.now) + 2

abbrev pub decreases-all_hold : goal.decreases-all_hold
decreases-all_hold l = 4 * parts_of_tests (tests_of l.conds.now) + 1

abbrev pub decreases-any_holds : goal.decreases-any_holds
decreases-any_holds l = 4 * parts_of_tests (tests_of l.conds.now) + 1

abbrev pub invariant-all_hold-loop-cond : goal.invariant-all_hold-loop-cond
invariant-all_hold-loop-cond l = all_found (tests_found (scope_of l.scope) (Some l.at) (tests_of l.conds)) ≡ all_after l.late l.all (tests_found (scope_of l.scope) (Some l.at) (tests_of (drop l.cond-index l.cond-items)))

abbrev pub invariant-any_holds-loop-cond : goal.invariant-any_holds-loop-cond
invariant-any_holds-loop-cond l = any_found (tests_found (scope_of l.scope) (Some l.at) (tests_of l.conds)) ≡ any_after l.late l.any (tests_found (scope_of l.scope) (Some l.at) (tests_of (drop l.cond-index l.cond-items)))
