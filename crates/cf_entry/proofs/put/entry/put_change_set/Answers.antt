use Rattle.std.proofs.Common.{[], ◌∷◌, ◌++◌}
use Rattle.cf_entry.specs.Bytes.{truth_byte, eight_bytes, text_bytes, list_bytes, AddsBytes}
use Rattle.cf_entry.specs.Entry.{source_bytes, row_bytes}
use Rattle.cf_entry.proofs.Joined.{adds_then}
use Rattle.cf_entry.proofs.put.entry.put_change_set.Goals as goal

pub returns-clause-added : goal.returns-clause-added
returns-clause-added c =
    let number = eight_bytes c.args.number in
    let stack = text_bytes c.args.stack.now in
    let source = source_bytes c.args.source.now in
    let rows = list_bytes row_bytes c.args.rows.now in
    let last = truth_byte c.args.outputs ∷ [] in
    let r : AddsBytes c.put_source.new.to c.put_rows.new.to rows = rw (← c.as_slice.ensures) c.put_rows.ensures.added in
    adds_then c.args.to.now c.put_byte.new.to c.put_truth.new.to (8 ∷ []) (number ++ (stack ++ (source ++ (rows ++ last)))) c.put_byte.ensures
    (adds_then c.put_byte.new.to c.put_eight.new.to c.put_truth.new.to number (stack ++ (source ++ (rows ++ last))) c.put_eight.ensures
    (adds_then c.put_eight.new.to c.put_text.new.to c.put_truth.new.to stack (source ++ (rows ++ last)) c.put_text.ensures.added
    (adds_then c.put_text.new.to c.put_source.new.to c.put_truth.new.to source (rows ++ last) c.put_source.ensures.added
    (adds_then c.put_source.new.to c.put_rows.new.to c.put_truth.new.to rows last r c.put_truth.ensures))))
