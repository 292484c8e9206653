use Rattle.std.proofs.Common.{◌∙◌, ◌++◌, ap, sym, map, filter, List, append-nil, ℕ}
use Rattle.std.specs.BTreeSet.{contains}
use Rattle.std.specs.Ordering.{nat_cmp}
use Rattle.std.specs.Cmp.Lexicographic.{slice_cmp}
use Rattle.std.proofs.lemmas.List.{drop_all}
use Rattle.cf_tree.specs.declared.template.Res.{Res}
use Rattle.cf_graph.specs.Needs.{is_made}
use Rattle.cf_graph.specs.Mentioned.{needs_mentioned}
use Rattle.cf_graph.proofs.Needed.{over}
use Rattle.cf_graph.proofs.needs.needs_among_made.Goals as goal

pub returns : goal.returns
returns c =
    let conds = c.args.conds.now in
    let has = contains (slice_cmp nat_cmp) c.in_ok-params.params in
    let needed = λ (rs : List Res). map {B = List ℕ × List (List ℕ)} (λ (r : Res). (r.name, needs_mentioned has c.args.made.now conds r)) (filter (is_made conds) rs) in
    let all = c.loop-resource.all.items in
    sym (c.loop-resource.invariant ∙ ap (λ (rs : List Res). all ++ needed rs) (drop_all c.loop-resource.resource-index c.as_slice-resource-items.result.now c.loop-resource-test.false) ∙ append-nil all)
    ∙ over c.args.template.now conds c.args.made.now has c.in_ok-params.ensures
