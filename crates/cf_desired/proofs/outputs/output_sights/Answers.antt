use Rattle.std.proofs.Common.{◌≡◌, ◌∙◌, ◌+◌, ◌-◌, ◌<◌, ℕ, List, ◌∷◌, length, drop, map, ap, sym, arith}
use Rattle.std.proofs.lemmas.List.{drop_more}
use Rattle.cf_tree.specs.Keys.{put}
use Rattle.cf_tree.specs.declared.template.Out.{Out}
use Rattle.cf_eval.specs.Env.{scope_in}
use Rattle.cf_desired.specs.Kept.{kept_stack_in}
use Rattle.cf_desired.specs.Seeing.{by_names, output_seen, sight_of_output}
use Rattle.cf_desired.proofs.outputs.output_sights.Goals as goal

pub loop-at-preserved : goal.loop-at-preserved
loop-at-preserved c =
    let items = c.as_slice-outputs.result.now in
    let i = c.loop-at.at - 1 in
    let below : i < length items = omega arith in
    let next : i + 1 ≡ c.loop-at.at = omega arith in
    let left : List Out = drop (i + 1) items in
    let split : drop i items ≡ c.index-outputs-at.result ∷ left = drop_more items i c.index-outputs-at.result below ∙ ap (λ (o : Out). o ∷ left) (sym c.index-outputs-at.is) in
    let s = scope_in c.args.env.now in
    let seen = output_seen (kept_stack_in c.args.stack.now) c.args.conds.now s in (
      omega arith,
      c.in_ok-insert.ensures.ok
          ∙ (λ j. put (c.in_ok-output_attribute.ensures j) ((c.in_ok-sight.ensures ∙ ap (λ (p : List ℕ). sight_of_output p c.args.conds.now s c.index-outputs-at.result) c.requires.stack) j) (c.loop-at.invariant.1 j))
          ∙ ap (λ (k : ℕ). put (seen c.index-outputs-at.result).0 (seen c.index-outputs-at.result).1 (by_names (map seen (drop k items)))) (sym next)
          ∙ ap (λ (os : List Out). by_names (map seen os)) (sym split),
    )
