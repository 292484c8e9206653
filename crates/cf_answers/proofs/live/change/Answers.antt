use Rattle.std.proofs.Common.{◌≡◌, [], get_or, set, ap, sym, ◌∙◌}
use Rattle.cf_answers.specs.declared.live.LiveResource.{LiveResource}
use Rattle.cf_answers.specs.Live.{lives, with_values}
use Rattle.cf_answers.proofs.Changes.{updated_there}
use Rattle.cf_answers.proofs.live.change.Goals as goal

pub returns-in-Some-clause-ok : goal.returns-in-Some-clause-ok
returns-in-Some-clause-ok c =
    let d : LiveResource = record { id = []; kind = []; props = []; attrs = [] } in
    let found = rw c.as_slice.ensures.value at c.in-Some.ensures.found in
    let e = c.put.ensures d in
    let u = updated_there c.args.id.now c.args.props.now c.args.attrs.now c.args.live.now.items c.in-Some.at d c.requires found.0 (found.1 d) in
    let pe : c.in_ok-props.props ≡ c.args.props.now = c.in_ok-props.ensures in
    let ae : c.in_ok-attrs.attrs ≡ c.args.attrs.now = c.in_ok-attrs.ensures in
    ap lives e ∙ ((λ i. lives (set c.args.live.now.items c.in-Some.at (with_values (pe i) (ae i) (get_or c.args.live.now.items c.in-Some.at d)))) ∙ sym u)
