use Rattle.std.proofs.Common.{◌≡◌, ◌∙◌, ◌+◌, ◌++◌, List, [], ◌∷◌, take, map, ap, sym}
use Rattle.std.specs.Prelude.{filter}
use Rattle.std.proofs.lemmas.List.{take_more}
use Rattle.cf_tree.specs.declared.template.Out.{Out}
use Rattle.cf_eval.specs.Env.{scope_in}
use Rattle.cf_desired.specs.Met.{output_at}
use Rattle.cf_desired.specs.Seeing.{is_output_made}
use Rattle.cf_desired.proofs.Blames.{one_less, one_more}
use Rattle.cf_desired.proofs.outputs.outputs_over.Goals as goal
use Rattle.cf_desired.proofs.outputs.outputs_over.Goals.{then-is_output_made+in_ok-output_over+in_ok-push, else-is_output_made}

pub loop-output-preserved : goal.loop-output-preserved
loop-output-preserved c =
    let items = c.as_slice-output-items.result.now in
    let i = c.loop-output.output-index in
    let o = c.output-item.result in
    let is_made = is_output_made c.args.conds.now in
    let out = output_at c.args.env.now.stack.now c.args.conds.now (scope_in c.args.env.now) in
    let more : take (i + 1) items ≡ take i items ++ o ∷ [] = take_more items i o c.loop-output-test.true ∙ ap (λ (x : Out). take i items ++ x ∷ []) (sym c.output-item.is) in
    let whole = ap (λ (os : List Out). map out (filter is_made os)) (sym more) in
    elim c.if-is_output_made.branch [
      | then-is_output_made+in_ok-output_over+in_ok-push w ↦
          w.outputs-is ∙ w.in_ok-push.ensures.ok ∙ (λ j. c.loop-output.invariant j ++ w.in_ok-output_over.ensures j ∷ [])
          ∙ sym (one_more out is_made (take i items) o (sym c.is_output_made.ensures ∙ w.if-is_output_made.true)) ∙ whole
      | else-is_output_made w ↦
          w.outputs-is ∙ c.loop-output.invariant ∙ sym (one_less out is_made (take i items) o (sym c.is_output_made.ensures ∙ w.if-is_output_made.false)) ∙ whole
    ]
