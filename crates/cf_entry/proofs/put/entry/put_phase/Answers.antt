use Rattle.std.proofs.Common.{[], ◌∷◌, ◌++◌}
use Rattle.cf_entry.specs.Bytes.{eight_bytes, option_bytes, AddsBytes}
use Rattle.cf_entry.specs.Entry.{cause_bytes}
use Rattle.cf_entry.specs.Numbers.{phase_number}
use Rattle.cf_entry.proofs.Joined.{adds_then}
use Rattle.cf_entry.proofs.put.entry.put_phase.Goals as goal

pub returns-clause-added : goal.returns-clause-added
returns-clause-added c =
    let number = eight_bytes c.args.number in
    let phase = phase_number c.args.phase ∷ [] in
    let last = option_bytes cause_bytes c.args.cause.now in
    let s : AddsBytes c.put_eight.new.to c.put_byte-2.new.to phase = rw (← c.number.ensures) c.put_byte-2.ensures in
    adds_then c.args.to.now c.put_byte.new.to c.put_cause_if_any.new.to (6 ∷ []) (number ++ (phase ++ last)) c.put_byte.ensures
    (adds_then c.put_byte.new.to c.put_eight.new.to c.put_cause_if_any.new.to number (phase ++ last) c.put_eight.ensures
    (adds_then c.put_eight.new.to c.put_byte-2.new.to c.put_cause_if_any.new.to phase last s c.put_cause_if_any.ensures.added))
