use Rattle.std.proofs.Common.{◌≡◌, ◌++◌, drop}
use Rattle.std.specs.Prelude.{flat_map}
use Rattle.cf_tree.specs.Form.{fields_in}
use Rattle.cf_tree.specs.Forms.{fields_of}
use Rattle.cf_graph.specs.Mentions.{holes_in, keys_of}
use Rattle.cf_graph.specs.Mentioned.{mentioned}
use Rattle.cf_graph.proofs.mentions.hole_mentions.Given as goal

abbrev pub invariant-loop-part : goal.invariant-loop-part
invariant-loop-part l =
    mentioned l.initial.found.items ++ flat_map (holes_in (keys_of (fields_of (fields_in l.own)))) l.parts ≡ mentioned l.found.items ++ flat_map (holes_in (keys_of (fields_of (fields_in l.own)))) (drop l.part-index l.part-items)
