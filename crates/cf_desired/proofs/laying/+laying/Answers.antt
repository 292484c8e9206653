use Rattle.std.proofs.Common.{◌∙◌, ap, refl, sym}
use Rattle.std.specs.Prelude.{codes}
use Rattle.cf_tree.specs.Keys.{value_at}
use Rattle.cf_eval.specs.Env.{scope_in}
use Rattle.cf_desired.specs.declared.shape.Turn.TheVariants as turn
use Rattle.cf_desired.specs.Kept.{decision_in, entering_in, kept_entry_in, offer_in, scope_by, kept_stack_in}
use Rattle.cf_desired.specs.Laying.{none_laid, enterable_below, step_by}
use Rattle.cf_desired.specs.Shape.{own_in}
use Rattle.cf_desired.specs.Stack.{Stack}
use Rattle.cf_desired.proofs.LaidBy.{barred_by, contents_by, halted_by, nested_by, opened_by, shut_by}
use Rattle.cf_desired.proofs.laying.+laying.Goals as goal

pub lay-returns-in-Halted-clause-laid : goal.lay-returns-in-Halted-clause-laid
lay-returns-in-Halted-clause-laid t c =
    halted_by c.args.left c.args.laying.now.source.now c.args.laying.now.seen.now (entering_in c.args.entering) (kept_entry_in c.args.entry) (offer_in c.args.given.now) c.args.count
    c.in_ok-bound.bound c.in_ok-pseudo.pseudo c.in_ok-bound.ensures c.in_ok-pseudo.ensures
    c.in_ok-flaw.field-0 c.in-Halted.flaw c.halted.result c.in_ok-flaw.ensures c.in-Halted.is c.halted.ensures.laid

pub lay-returns-clause-laid : goal.lay-returns-clause-laid
lay-returns-clause-laid t c =
    opened_by c.args.left c.args.laying.now.source.now c.args.laying.now.seen.now (entering_in c.args.entering) (kept_entry_in c.args.entry) (offer_in c.args.given.now) c.args.count
    c.in_ok-bound.bound c.in_ok-pseudo.pseudo c.in_ok-bound.ensures c.in_ok-pseudo.ensures
    c.in-Opened.conds c.in-Opened.order.entries c.requires.ordered (sym (ap decision_in c.in-Opened.is) ∙ c.in_ok-flaw.ensures)
    (turn.Opened c.args.entry c.args.entering.stack c.in-Opened.conds c.in_ok-contents-in-Opened.contents.made) c.in_ok-contents-in-Opened.contents c.opened.result
    c.in_ok-contents-in-Opened.ensures.contents refl
    c.opened.ensures.turns c.opened.ensures.outputs c.opened.ensures.paths c.opened.ensures.count

pub contents_of-returns-clause-contents : goal.contents_of-returns-clause-contents
contents_of-returns-clause-contents t c =
    let source = c.args.laying.now.source.now in
    let seen = c.args.laying.now.seen.now in
    let stack = kept_stack_in c.args.context.now.stack.now in
    let conds = c.args.context.now.conds.now in
    contents_by stack conds (scope_by c.args.context.now) (step_by (enterable_below c.args.left source seen) source seen (entering_in c.args.entering.now) conds (scope_by c.args.context.now))
    (λ ids. none_laid seen stack conds ids c.args.count.templates c.args.count.members) c.args.order.now.entries c.in_ok-so_far.so_far c.work.new.so_far
    c.in_ok-own.own (own_in stack.template c.args.order.now.entries) c.in_ok-made.made c.in_ok-laid.laid c.in_ok-own.ensures c.in_ok-made.ensures
    (c.in_ok-so_far.ensures conds c.in_ok-made.ensures) c.in_ok-work.ensures.so_far c.in_ok-laid.ensures.laid

pub nest-returns-clause-so_far : goal.nest-returns-clause-so_far
nest-returns-clause-so_far t c =
    nested_by c.args.left c.args.laying.now.source.now c.args.laying.now.seen.now (entering_in c.args.entering.now) c.args.context.now.conds.now (scope_by c.args.context.now)
    c.args.so_far.now c.args.ids.now c.args.resource c.in_ok-nesting.nesting c.in_ok-try_clone.field-0 (value_at (codes "Parameters") c.args.resource.props) c.in_ok-unnamed.unnamed
    (scope_in c.env_over-env.result) c.env_over-env.result.stack.now c.in_ok-way.way c.in_ok-laid.laid c.join.new.so_far c.join.result
    c.in_ok-nesting.ensures c.in_ok-try_clone.ensures refl c.in_ok-unnamed.ensures c.env_over-env.ensures.scope
    (c.env_over-env.ensures.stack ∙ ap (λ (s : Stack). s.path) c.requires.stack) c.in_ok-way.ensures c.in_ok-laid.ensures.laid c.join.ensures

pub within-returns-in-Shut-clause-laid : goal.within-returns-in-Shut-clause-laid
within-returns-in-Shut-clause-laid t c =
    shut_by c.args.laying.now.source.now c.args.laying.now.seen.now (entering_in c.args.entering.now) c.args.inner.nesting (value_at (codes "Parameters") c.args.inner.resource.props) c.args.inner.resource c.args.left
    c.args.count c.args.way c.in-Shut.flaw c.shut.result c.in-Shut.is c.shut.ensures.laid

pub within-returns-in-Barred-clause-laid : goal.within-returns-in-Barred-clause-laid
within-returns-in-Barred-clause-laid t c =
    barred_by c.args.laying.now.source.now c.args.laying.now.seen.now (entering_in c.args.entering.now) c.args.inner.nesting (value_at (codes "Parameters") c.args.inner.resource.props) c.args.inner.resource c.args.left
    c.args.count c.args.way c.in-Barred.flaw c.barred.result (kept_entry_in c.entry_of.result) c.in-Barred.is c.entry_of.ensures c.barred.ensures.laid
