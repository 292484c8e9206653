use Rattle.std.proofs.Common.{◌++◌, ap, ◌∙◌}
use Rattle.cf_entry.specs.Entry.{spelling_of}
use Rattle.cf_effect.specs.Heard.{is_success_outcome}
use Rattle.cf_effect.proofs.Kept.{kept_spelled}
use Rattle.cf_effect.proofs.heard.HeardEntry.spell.Goals as goal

pub invariant_of-result : goal.invariant_of-result
invariant_of-result c =
    ap is_success_outcome
    (kept_spelled c.write_entry.new.to.items c.args.entry.now
    (c.write_entry.ensures.appended ∙ ap (λ bytes. bytes ++ spelling_of c.args.entry.now) c.requires.empty)
    (c.write_entry.ensures.readable c.requires.proper))
    ∙ c.requires.success

pub returns : goal.returns
returns c =
    kept_spelled c.write_entry.new.to.items c.args.entry.now
    (c.write_entry.ensures.appended ∙ ap (λ bytes. bytes ++ spelling_of c.args.entry.now) c.requires.empty)
    (c.write_entry.ensures.readable c.requires.proper)
