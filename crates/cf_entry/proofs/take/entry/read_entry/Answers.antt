use Rattle.std.proofs.Common.{◌≡◌, None, arith, sym, ◌∙◌}
use Rattle.cf_entry.specs.EntryReading.{entry_of}
use Rattle.cf_entry.proofs.Spelled.{read_is_spelled, spelled_is_read, unread_is_not_spelled}
use Rattle.cf_entry.proofs.take.entry.read_entry.Goals as goal

pub returns-in-Ok-clause-found : goal.returns-in-Ok-clause-found
returns-in-Ok-clause-found c =
    read_is_spelled c.args.bytes.now c.in-Ok.entry (λ i. omega (arith, c.type_inv.bytes i)) c.in-Ok.ensures

pub returns-in-Ok-clause-only : goal.returns-in-Ok-clause-only
returns-in-Ok-clause-only c = λ e h s. sym c.in-Ok.ensures ∙ spelled_is_read c.args.bytes.now e h s

pub returns-in-Err-NoEntry-clause-only : goal.returns-in-Err-NoEntry-clause-only
returns-in-Err-NoEntry-clause-only c = λ e h s.
    let none : entry_of c.args.bytes.now ≡ None = rw c.in-Err-NoEntry.field-0-is at c.in-Err-NoEntry.ensures in
    absurd (unread_is_not_spelled c.args.bytes.now none e h s)

pub returns-in-Err-NoEntry-clause-missing : goal.returns-in-Err-NoEntry-clause-missing
returns-in-Err-NoEntry-clause-missing c = λ e h s.
    let none : entry_of c.args.bytes.now ≡ None = rw c.in-Err-NoEntry.field-0-is at c.in-Err-NoEntry.ensures in
    unread_is_not_spelled c.args.bytes.now none e h s
