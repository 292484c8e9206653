use Rattle.std.proofs.Common.{◌≡◌, ◌++◌, filter, drop}
use Rattle.cf_tree.specs.Forms.{fields_of}
use Rattle.cf_tree.specs.Form.{fields_in}
use Rattle.cf_graph.specs.Mentions.{fields_mentions}
use Rattle.cf_graph.specs.Needs.{holds_in, is_evaluated}
use Rattle.cf_graph.specs.Mentioned.{mentioned}
use Rattle.cf_graph.proofs.needs.prop_mentions.Given as goal

abbrev pub invariant-loop-pair : goal.invariant-loop-pair
invariant-loop-pair l =
    fields_mentions (holds_in l.conds) (fields_of (filter (λ p. is_evaluated l.resource.kind p.0) l.resource.props)) ≡ mentioned l.found.items ++ fields_mentions (holds_in l.conds) (fields_of (filter (λ p. is_evaluated l.resource.kind p.0) (fields_in (drop l.pair-index l.pair-items))))
