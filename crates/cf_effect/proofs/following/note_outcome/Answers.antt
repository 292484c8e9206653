use Rattle.cf_effect.specs.State.{state_of}
use Rattle.cf_effect.proofs.Followed.{entry_followed}
use Rattle.cf_effect.proofs.following.note_outcome.Goals as goal

pub returns : goal.returns
returns c =
    λ t place.
    entry_followed (state_of c.args.state.now) c.args.entry.now c.args.findings.now c.lose_unless.new.findings c.note_entry.new.findings c.is_created_by.result c.is_created_by.ensures
    c.lose_unless.ensures c.requires (c.note_entry.ensures.findings t) (c.note_entry.ensures.ahead t) place
