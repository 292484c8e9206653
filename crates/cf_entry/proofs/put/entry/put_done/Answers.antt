use Rattle.std.proofs.Common.{[], ◌∷◌, ◌++◌}
use Rattle.cf_entry.specs.Bytes.{eight_bytes, text_bytes, list_bytes, AddsBytes}
use Rattle.cf_entry.specs.Status.{status_number}
use Rattle.cf_entry.proofs.Joined.{adds_then}
use Rattle.cf_entry.proofs.put.entry.put_done.Goals as goal

pub returns-clause-added : goal.returns-clause-added
returns-clause-added c =
    let n = status_number c.args.status in
    let failed = list_bytes text_bytes c.args.failed.now in
    let t : AddsBytes c.put_byte-2.new.to c.put_texts.new.to failed = rw (← c.as_slice.ensures) c.put_texts.ensures.added in
    let s : AddsBytes c.put_eight.new.to c.put_byte-2.new.to (n ∷ []) = rw (← c.number.ensures) c.put_byte-2.ensures in
    adds_then c.args.to.now c.put_byte.new.to c.put_texts.new.to (7 ∷ []) (eight_bytes c.args.number ++ (n ∷ failed)) c.put_byte.ensures
    (adds_then c.put_byte.new.to c.put_eight.new.to c.put_texts.new.to (eight_bytes c.args.number) (n ∷ failed) c.put_eight.ensures
    (adds_then c.put_eight.new.to c.put_byte-2.new.to c.put_texts.new.to (n ∷ []) failed s t))
