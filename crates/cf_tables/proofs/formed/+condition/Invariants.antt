use Rattle.std.proofs.Common.{◌+◌, ◌*◌}
use Rattle.cf_tree.specs.Test.{test_node_of}
use Rattle.cf_tree.specs.Tests.{parts_of_test, parts_of_test_node, parts_of_tests, tests_of}
use Rattle.cf_tables.proofs.formed.+condition.Given as goal

abbrev pub decreases-condition_form : goal.decreases-condition_form
decreases-condition_form l = 4 * parts_of_test l.cond.now

abbrev pub decreases-test_form : goal.decreases-test_form
decreases-test_form l = 4 * parts_of_test_node (test_node_of l.node.now) + 2

abbrev pub decreases-tests_form : goal.decreases-tests_form
decreases-tests_form l = 4 * parts_of_tests (tests_of l.conds.now) + 1
