use Rattle.std.proofs.Common.{◌≡◌, Some, find, ap, sym, ◌∙◌}
use Rattle.cf_entry.specs.declared.entry.Entry.TheVariants as entry
use Rattle.cf_effect.specs.State.{state_of}
use Rattle.cf_effect.specs.Words.{has_token, pending_of}
use Rattle.cf_effect.proofs.Followed.{stays_after}
use Rattle.cf_effect.proofs.Noted.{entry_noted}
use Rattle.cf_effect.proofs.following.note_entry.Goals as goal

pub returns-in-Some-clause-findings : goal.returns-in-Some-clause-findings
returns-in-Some-clause-findings c =
    λ t place.
    let is : c.args.entry.now ≡ entry.Outcome c.in-Outcome.number c.in-Outcome.token c.in-Outcome.answer c.in-Outcome.before c.in-Outcome.after = cc in
    let open_there : pending_of c.in-Outcome.token (state_of c.args.state.now) ≡ Some c.in-Some.pending.now =
    sym (c.in-Some.ensures ∙ ap (find (has_token c.in-Outcome.token)) c.as_slice.ensures.value) in
    entry_noted (state_of c.args.state.now) c.note_answer.new.findings c.args.entry.now c.in-Some.pending.now c.in-Outcome.number c.in-Outcome.token c.in-Outcome.answer
    c.in-Outcome.before c.in-Outcome.after place is open_there (c.note_answer.ensures.findings t)

pub returns-in-Some-clause-ahead : goal.returns-in-Some-clause-ahead
returns-in-Some-clause-ahead c =
    λ t.
    let is : c.args.entry.now ≡ entry.Outcome c.in-Outcome.number c.in-Outcome.token c.in-Outcome.answer c.in-Outcome.before c.in-Outcome.after = cc in
    let open_there : pending_of c.in-Outcome.token (state_of c.args.state.now) ≡ Some c.in-Some.pending.now =
    sym (c.in-Some.ensures ∙ ap (find (has_token c.in-Outcome.token)) c.as_slice.ensures.value) in
    stays_after (state_of c.args.state.now) c.args.findings.now c.note_answer.new.findings c.args.entry.now c.in-Some.pending.now c.in-Outcome.number c.in-Outcome.token
    c.in-Outcome.answer c.in-Outcome.before c.in-Outcome.after is open_there (c.note_answer.ensures.ahead t)
