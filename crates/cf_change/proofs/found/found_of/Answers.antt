use Rattle.std.proofs.Common.{◌≡◌, ◌∙◌, ap}
use Rattle.std.proofs.lemmas.Result.{IfOk-weaker}
use Rattle.cf_desired.specs.Kept.{IsShape}
use Rattle.cf_desired.specs.Seeing.{Seen}
use Rattle.cf_desired.specs.Shape.{shape_of}
use Rattle.cf_desired.specs.Work.{Body}
use Rattle.cf_change.specs.Changes.{found_by, found_of, held_seen}
use Rattle.cf_change.proofs.found.found_of.Goals as goal

pub returns : goal.returns
returns c =
    let schemas = c.args.schemas.now in
    let held = c.args.held.now in
    let source = c.args.source.now in
    let seen : c.in_ok-seen.seen ≡ held_seen held = c.in_ok-seen.ensures ∙ ap held_seen c.as_slice.ensures in
    IfOk-weaker c.found_by.result (λ f. (b : Body) → IsShape c.in_ok-shape.shape b → f ≡ found_by schemas held source b) (λ f. f ≡ found_of schemas held source)
    (λ f e. e (shape_of source c.in_ok-seen.seen) c.in_ok-shape.ensures ∙ ap (λ (s : Seen). found_by schemas held source (shape_of source s)) seen)
    c.found_by.ensures
