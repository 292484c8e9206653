use Rattle.std.proofs.Common.{◌++◌, ◌∙◌, ℕ, Vec, Global, ap, codes}
use Rattle.cf_load.specs.Text.{id_of, records_text}
use Rattle.cf_load.proofs.Pieces.{in_four}
use Rattle.cf_load.proofs.load_text.Goals as goal

pub returns : goal.returns
returns c =
    ap (λ (v : Vec ℕ Global). v.items) c.into_bytes.ensures.value
    ∙ c.in_ok-push_str-3.ensures.bytes
    ∙ ap (λ t. t ++ codes "}}") (c.in_ok-push_records.ensures
    ∙ ap (λ t. t ++ records_text c.args.count) (c.in_ok-push_str-2.ensures.bytes
    ∙ ap (λ t. t ++ codes "\",\"Length\"]}}},\"Resources\":{") (c.in_ok-push_id.ensures
    ∙ ap (λ t. t ++ id_of c.args.count) (c.in_ok-push_str.ensures.bytes
    ∙ ap (λ t. t ++ codes "{\"Outputs\":{\"Last\":{\"Value\":{\"Fn::GetAtt\":[\"") c.new-text.ensures.bytes))))
    ∙ in_four (codes "{\"Outputs\":{\"Last\":{\"Value\":{\"Fn::GetAtt\":[\"") (id_of c.args.count)
    (codes "\",\"Length\"]}}},\"Resources\":{") (records_text c.args.count) (codes "}}")
