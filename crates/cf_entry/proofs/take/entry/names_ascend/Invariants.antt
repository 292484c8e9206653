use Rattle.std.proofs.Common.{◌≡◌, drop, option_map}
use Rattle.cf_entry.specs.Entry.{texts_ascend}
use Rattle.cf_entry.proofs.Ascend.{texts_ascend_after}
use Rattle.cf_entry.proofs.take.entry.names_ascend.Given as goal

abbrev pub invariant-loop-name : goal.invariant-loop-name
invariant-loop-name l = texts_ascend l.names ≡ texts_ascend_after (option_map (λ t. t.now) l.before) (drop l.name-index l.names)
