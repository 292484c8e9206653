use Rattle.std.proofs.Common.{◌≡◌, ◌+◌, ◌*◌, drop}
use Rattle.cf_tree.specs.Test.{test_node_of}
use Rattle.cf_tree.specs.Tests.{parts_of_test, parts_of_test_node, parts_of_tests, tests_of}
use Rattle.cf_top.specs.NotYet.{tests_import}
use Rattle.cf_top.proofs.not_yet.+test_imports.Given as goal

abbrev pub decreases-test_imports : goal.decreases-test_imports
decreases-test_imports l = 4 * parts_of_test l.cond.now

abbrev pub decreases-test_node_imports : goal.decreases-test_node_imports
decreases-test_node_imports l = 4 * parts_of_test_node (test_node_of l.node.now) + 2

abbrev pub decreases-tests_import : goal.decreases-tests_import
decreases-tests_import l = 4 * parts_of_tests (tests_of l.conds.now) + 1

abbrev pub invariant-tests_import-loop-cond : goal.invariant-tests_import-loop-cond
invariant-tests_import-loop-cond l = tests_import (tests_of l.conds) ≡ tests_import (tests_of (drop l.cond-index l.cond-items))
