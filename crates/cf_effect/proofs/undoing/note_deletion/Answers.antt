use Rattle.std.proofs.Common.{◌≡◌, Some, find, ap, sym, ◌∙◌}
use Rattle.cf_entry.specs.declared.entry.Entry.TheVariants as entry
use Rattle.cf_effect.specs.State.{state_of}
use Rattle.cf_effect.specs.Words.{has_token, pending_of}
use Rattle.cf_effect.proofs.Undone.{undone_by}
use Rattle.cf_effect.proofs.undoing.note_deletion.Goals as goal

pub returns-in-Some : goal.returns-in-Some
returns-in-Some c =
    λ t place.
    let is : c.args.entry.now ≡ entry.Outcome c.in-Outcome.number c.in-Outcome.token c.in-Outcome.answer c.in-Outcome.before c.in-Outcome.after = cc in
    let open_there : pending_of c.in-Outcome.token (state_of c.args.state.now) ≡ Some c.in-Some.pending.now =
    sym (c.in-Some.ensures ∙ ap (find (has_token c.in-Outcome.token)) c.as_slice.ensures.value) in
    undone_by (state_of c.args.state.now) c.args.entry.now c.args.undoing.now c.note_answer.new.undoing c.in-Outcome.number c.in-Outcome.token c.in-Outcome.before c.in-Outcome.after
    c.in-Some.pending.now c.in-Outcome.answer is open_there c.requires (c.note_answer.ensures t) place
