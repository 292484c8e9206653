use Rattle.std.proofs.Common.{◌++◌, ◌∙◌, ap, decimal, codes, string_bytes}
use Rattle.cf_load.specs.Text.{id_of}
use Rattle.cf_load.proofs.Pieces.{in_four}
use Rattle.cf_load.proofs.push_opening.Goals as goal

pub returns : goal.returns
returns c =
    c.in_ok-push_number.ensures
    ∙ ap (λ t. t ++ decimal c.args.number) (c.in_ok-push_str-2.ensures.bytes
    ∙ ap (λ t. t ++ codes "\":{\"Properties\":{\"Key\":\"k") (c.in_ok-push_id.ensures
    ∙ ap (λ t. t ++ id_of c.args.number) c.in_ok-push_str.ensures.bytes))
    ∙ in_four (string_bytes c.args.text.now) (codes "\"") (id_of c.args.number) (codes "\":{\"Properties\":{\"Key\":\"k") (decimal c.args.number)
