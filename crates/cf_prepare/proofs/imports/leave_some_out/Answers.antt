use Rattle.std.proofs.Common.{ℕ, Bool, ◌||◌, ◌+◌, List, ap, sym, subst, ◌∙◌, map, drop}
use Rattle.cf_prepare.proofs.Leaving.{TriedSome, tried_next, tried_over}
use Rattle.cf_prepare.proofs.imports.leave_some_out.Goals as goal
use Rattle.cf_prepare.proofs.imports.leave_some_out.Goals.{then-out, else-out}

pub loop-name-preserved : goal.loop-name-preserved
loop-name-preserved c =
    let items = c.as_slice-name-items.result.now in
    let so_far = c.loop-name.left_out in
    let next =
    tried_next c.args.seen.now c.args.wanted.now c.args.source.now c.loop-name.source c.leave_out.new.source items c.loop-name.name-index c.name-item.result so_far
    c.in_ok-out.out (c.as_slice-name-items.ensures ∙ c.in_ok-names.ensures ∙ ap (map (λ (i : List ℕ × List ℕ). i.0)) c.as_slice.ensures.value) c.loop-name-test.true
    c.name-item.is c.loop-name.invariant c.in_ok-out.ensures in
    let told =
    λ (b : Bool). TriedSome c.args.seen.now c.args.wanted.now c.args.source.now c.leave_out.new.source (drop (c.loop-name.name-index + 1) items)
    (map (λ i. i.0) c.args.source.now.imports) b in
    elim c.if-out.branch [
      | then-out w ↦ subst told (ap (λ b. b || so_far) w.if-out.true ∙ sym w.if-out.true ∙ sym w.left_out-is) next
      | else-out w ↦ subst told (ap (λ b. b || so_far) w.if-out.false ∙ sym w.left_out-is) next
    ]

pub returns : goal.returns
returns c =
    tried_over c.args.seen.now c.args.wanted.now c.args.source.now c.loop-name.source c.as_slice-name-items.result.now c.loop-name.name-index c.loop-name.left_out
    c.loop-name-test.false c.loop-name.invariant
