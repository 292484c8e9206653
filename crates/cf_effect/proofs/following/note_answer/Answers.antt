use Rattle.std.proofs.Common.{◌≡◌}
use Rattle.cf_tree.specs.declared.request.Request.TheVariants as request
use Rattle.cf_entry.specs.declared.entry.Reply.TheVariants as reply
use Rattle.cf_effect.specs.State.{state_of}
use Rattle.cf_effect.proofs.Followed.{stays_created}
use Rattle.cf_effect.proofs.Noted.{created_by}
use Rattle.cf_effect.proofs.following.note_answer.Goals as goal

pub returns-in-Success-clause-findings : goal.returns-in-Success-clause-findings
returns-in-Success-clause-findings c =
    λ t restores.
    let asked : c.args.pending.now.request ≡ request.Create c.in-Create.kind c.in-Create.props = cc in
    let told : c.args.answer.now ≡ reply.Success c.in-Success.physical c.in-Success.attrs = cc in
    created_by (state_of c.args.state.now) c.note_made.new.findings c.args.pending.now c.args.answer.now c.in-Create.kind c.in-Create.props c.in-Success.physical c.in-Success.attrs
    asked told (c.note_made.ensures.made t) restores

pub returns-in-Success-clause-ahead : goal.returns-in-Success-clause-ahead
returns-in-Success-clause-ahead c =
    λ t.
    let asked : c.args.pending.now.request ≡ request.Create c.in-Create.kind c.in-Create.props = cc in
    let told : c.args.answer.now ≡ reply.Success c.in-Success.physical c.in-Success.attrs = cc in
    stays_created (state_of c.args.state.now) c.args.findings.now c.note_made.new.findings c.args.pending.now.request c.args.answer.now c.in-Create.kind c.in-Create.props
    c.in-Success.physical c.in-Success.attrs asked told (c.note_made.ensures.ahead t)
