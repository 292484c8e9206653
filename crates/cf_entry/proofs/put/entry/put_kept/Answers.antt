use Rattle.std.proofs.Common.{[], ◌∷◌, ◌++◌}
use Rattle.cf_entry.specs.Bytes.{eight_bytes, text_bytes, AddsBytes}
use Rattle.cf_entry.specs.Numbers.{why_number}
use Rattle.cf_entry.proofs.Joined.{adds_then}
use Rattle.cf_entry.proofs.put.entry.put_kept.Goals as goal

pub returns-clause-added : goal.returns-clause-added
returns-clause-added c =
    let number = eight_bytes c.args.number in
    let path = text_bytes c.args.path.now in
    let physical = text_bytes c.args.physical.now in
    let last = why_number c.args.why ∷ [] in
    let s : AddsBytes c.put_text-2.new.to c.put_byte-2.new.to last = rw (← c.number.ensures) c.put_byte-2.ensures in
    adds_then c.args.to.now c.put_byte.new.to c.put_byte-2.new.to (3 ∷ []) (number ++ (path ++ (physical ++ last))) c.put_byte.ensures
    (adds_then c.put_byte.new.to c.put_eight.new.to c.put_byte-2.new.to number (path ++ (physical ++ last)) c.put_eight.ensures
    (adds_then c.put_eight.new.to c.put_text.new.to c.put_byte-2.new.to path (physical ++ last) c.put_text.ensures.added
    (adds_then c.put_text.new.to c.put_text-2.new.to c.put_byte-2.new.to physical last c.put_text-2.ensures.added s)))
