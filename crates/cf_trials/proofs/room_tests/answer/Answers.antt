-- The call was asked for, so its outcome has room; the others that were asked for stay so.
use Rattle.cf_entry.specs.declared.entry.Entry.TheVariants as entry
use Rattle.cf_trials.proofs.Asked.{asked_has_room, asked_yet}
use Rattle.cf_trials.proofs.room_tests.answer.Goals as goal

pub step-requires : goal.step-requires
step-requires c =
    asked_has_room c.room_stays.ensures c.args.token c.args.world.now c.args.reply c.requires.asked c.requires.on_s c.requires.short

pub returns : goal.returns
returns c = record {
  others = λ t other w. rw (c.step.ensures) (asked_yet t c.args.world.now (entry.Outcome 1 c.args.token c.args.reply 0 0) other w);
}
