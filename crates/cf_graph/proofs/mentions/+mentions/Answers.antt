use Rattle.std.proofs.Common.{ℕ, List, ◌++◌, ◌∙◌, ap, append_assoc}
use Rattle.std.specs.Prelude.{flat_map}
use Rattle.cf_tree.specs.Forms.{Form, fields_of}
use Rattle.cf_tree.specs.Form.{fields_in}
use Rattle.cf_graph.specs.Mentions.{Mention, fields_mentions, holes_in, keys_of}
use Rattle.cf_graph.specs.Needs.{holds_in}
use Rattle.cf_graph.specs.Mentioned.{mentioned}
use Rattle.cf_graph.proofs.mentions.+mentions.Goals as goal

pub sub_mentions-returns : goal.sub_mentions-returns
sub_mentions-returns t c =
    let own = fields_in c.as_slice-own.result.now in
    let holds = holds_in c.args.conds.now in
    let holes = λ (fs : List (List ℕ × Form)). flat_map (holes_in (keys_of (fields_of fs))) c.args.parts.now in
    c.in_ok-hole_mentions.ensures ∙ ap (λ (ms : List Mention). ms ++ holes own) c.in_ok-field_mentions.ensures
    ∙ append_assoc (mentioned c.args.found.now.items) (fields_mentions holds (fields_of own)) (holes own)
    ∙ ap (λ (fs : List (List ℕ × Form)). mentioned c.args.found.now.items ++ (fields_mentions holds (fields_of fs) ++ holes fs)) c.as_slice-own.ensures.value
