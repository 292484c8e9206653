-- A condition is larger than what it holds (this project's own).
use Rattle.std.specs.Prelude.{◌+◌, ◌≤◌, List, [], ◌∷◌}
use Rattle.std.proofs.Common.{arith}
use denote.Param.Weighed.{most}
use Rattle.cf_tree.specs.Tests.{Test, parts_of_test, parts_of_test_node, parts_of_tests, tests_of}
use Rattle.cf_tree.specs.Test.{test_node_of}
use Rattle.cf_tree.specs.declared.cond.CondNode.{CondNode}
use Rattle.cf_tree.specs.declared.cond.CondNode.TheVariants as node
use Rattle.cf_tree.specs.declared.cond.Cond.TheDeep.{deep-CondNode}

pub deep_le-test_node : (n : CondNode) → deep-CondNode n ≤ parts_of_test_node (test_node_of n) + 1
deep_le-test_node (node.Equals left right) = omega arith
deep_le-test_node (node.Not c) = omega arith
deep_le-test_node (node.And cs) = omega arith
deep_le-test_node (node.Or cs) = omega arith
deep_le-test_node (node.Name t) = omega arith

pub most_le-tests : (cs : List Test) → most (λ (c : Test). parts_of_test c + 1) cs ≤ parts_of_tests (tests_of cs)
most_le-tests [] = omega arith
most_le-tests (c ∷ cs) = omega (arith, most_le-tests cs)
