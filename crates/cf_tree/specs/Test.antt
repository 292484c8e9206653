-- What the conditions of the crate stand for (this project's own).
use Rattle.cf_tree.specs.Tests.{TestNode, equals, negation, all_of, any_of, named, tests_of}
use Rattle.cf_tree.specs.declared.cond.CondNode.{CondNode}
use Rattle.cf_tree.specs.declared.cond.CondNode.TheVariants as node

abbrev pub test_node_of : CondNode → TestNode
test_node_of (node.Equals left right) = equals left right
test_node_of (node.Not c) = negation c.value
test_node_of (node.And cs) = all_of (tests_of cs)
test_node_of (node.Or cs) = any_of (tests_of cs)
test_node_of (node.Name t) = named t
