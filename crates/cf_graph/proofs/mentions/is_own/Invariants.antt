use Rattle.std.proofs.Common.{◌≡◌, drop, is_some}
use Rattle.cf_tree.specs.Form.{fields_in}
use Rattle.cf_tree.specs.Forms.{fields_of}
use Rattle.cf_tree.specs.Keys.{value_at}
use Rattle.cf_graph.specs.Mentions.{keys_of}
use Rattle.cf_graph.specs.Mentioned.{as_keys}
use Rattle.cf_graph.proofs.mentions.is_own.Given as goal

abbrev pub invariant-loop-pair : goal.invariant-loop-pair
invariant-loop-pair l = is_some (value_at l.name (as_keys (keys_of (fields_of (fields_in l.own))))) ≡ is_some (value_at l.name (as_keys (keys_of (fields_of (fields_in (drop l.pair-index l.own))))))
