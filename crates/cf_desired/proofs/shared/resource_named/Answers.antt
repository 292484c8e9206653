use Rattle.std.proofs.Common.{◌≡◌, ◌∙◌, List, Ok, ap, get_or, sym}
use Rattle.cf_tree.specs.Keys.{place}
use Rattle.cf_tree.specs.declared.template.Res.{Res}
use Rattle.cf_template.proofs.Ordered.{under_names}
use Rattle.cf_desired.proofs.ResourceAt.{named_read}
use Rattle.cf_desired.proofs.shared.resource_named.Goals as goal

pub returns-in-Ok : goal.returns-in-Ok
returns-in-Ok c =
    let id = c.args.id.now in
    let rs = c.args.template.now.resources in
    let r = c.index-resources-at.result in
    let at : place id (under_names rs) ≡ Ok c.in-Ok.at = ap (λ (xs : List Res). place id (under_names xs)) (sym c.as_slice-resources.ensures) ∙ sym c.place_named.ensures ∙ c.in-Ok.is in
    let read : r ≡ get_or rs c.in-Ok.at r = c.index-resources-at.is ∙ ap (λ (xs : List Res). get_or xs c.in-Ok.at r) c.as_slice-resources.ensures in
    named_read id rs c.in-Ok.at c.requires.ordered r read at
