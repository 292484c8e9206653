use Rattle.std.proofs.Common.{◌≡◌, ◌∙◌, ℕ, List, Some, None, ap, refl, sym}
use Rattle.std.specs.Option.{option_copied}
use Rattle.std.proofs.lemmas.Result.{IfOk-weaker}
use Rattle.cf_param.specs.declared.offered.Piece.{Piece}
use Rattle.cf_desired.specs.declared.laying.Count.{Count}
use Rattle.cf_desired.specs.Given.{pieces, unknown}
use Rattle.cf_desired.specs.Kept.{IsShape, IsShapeFrom, entering_in}
use Rattle.cf_desired.specs.Shape.{shape_of}
use Rattle.cf_desired.specs.Templates.{template_named}
use Rattle.cf_desired.proofs.Finding.{not_some}
use Rattle.cf_desired.proofs.LaidBy.{root_few, root_ordered, shape_laid, shape_missing}
use Rattle.cf_desired.proofs.laying.shape_of.Goals as goal

abbrev none : Count
none = record { templates = 0; members = 0 }

pub returns-in_default : goal.returns-in_default
returns-in_default c =
    let source = c.args.source.now in
    let seen = c.args.seen.now in
    let missing : template_named source.root source ≡ None = sym c.template_named.ensures ∙ ap (λ o. option_copied o) (not_some c.template_named.result c.in_default.not-Some) in
    let laid = c.in_ok-laid.laid in
    IfOk-weaker c.shape_from.result (IsShapeFrom laid) (λ s. IsShape s (shape_of source seen))
    (λ s from. shape_missing source seen unknown none c.in_ok-name.name laid s missing c.in_ok-name.ensures refl refl (c.in_ok-laid.ensures.laid source seen unknown) from.turns from.templates from.members)
    c.shape_from.ensures

pub lay-requires-clause-ordered : goal.lay-requires-clause-ordered
lay-requires-clause-ordered c =
    let found : template_named c.args.source.now.root c.args.source.now ≡ Some c.in-Some.template.now = sym c.template_named.ensures ∙ ap (λ o. option_copied o) c.in-Some.is in
    root_ordered c.args.source.now c.in-Some.template.now (entering_in c.in_ok-entering.entering) found c.in_ok-entering.ensures

pub lay-requires-clause-few : goal.lay-requires-clause-few
lay-requires-clause-few c =
    let found : template_named c.args.source.now.root c.args.source.now ≡ Some c.in-Some.template.now = sym c.template_named.ensures ∙ ap (λ o. option_copied o) c.in-Some.is in
    root_few c.args.source.now c.in-Some.template.now (entering_in c.in_ok-entering.entering) none found c.in_ok-entering.ensures refl refl

pub returns : goal.returns
returns c =
    let source = c.args.source.now in
    let found : template_named source.root source ≡ Some c.in-Some.template.now = sym c.template_named.ensures ∙ ap (λ o. option_copied o) c.in-Some.is in
    let given = ap (λ (ps : List (List ℕ × Piece)). pieces ps) c.in_ok-pieces_of.ensures in
    let seen = c.args.seen.now in
    let laid = c.in_ok-laid-2.laid in
    IfOk-weaker c.shape_from-2.result (IsShapeFrom laid) (λ s. IsShape s (shape_of source seen))
    (λ s from. shape_laid source seen c.in-Some.template.now (entering_in c.in_ok-entering.entering) (pieces c.in_ok-pieces_of.field-0) none laid s found
    c.in_ok-entering.ensures given refl refl c.in_ok-laid-2.ensures.laid from.turns from.templates from.members)
    c.shape_from-2.ensures
