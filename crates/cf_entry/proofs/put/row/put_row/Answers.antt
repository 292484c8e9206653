use Rattle.std.proofs.Common.{[], ◌∷◌, ◌++◌}
use Rattle.cf_entry.specs.Bytes.{truth_byte, text_bytes, list_bytes, AddsBytes}
use Rattle.cf_entry.specs.Entry.{detail_bytes}
use Rattle.cf_entry.specs.Numbers.{action_number, replacement_number}
use Rattle.cf_entry.proofs.Joined.{adds_then}
use Rattle.cf_entry.proofs.put.row.put_row.Goals as goal

pub returns-clause-added : goal.returns-clause-added
returns-clause-added c =
    let row = c.args.row.now in
    let action = action_number row.action ∷ [] in
    let path = text_bytes row.path in
    let kind = text_bytes row.kind in
    let replacement = replacement_number row.replacement ∷ [] in
    let unsure = truth_byte row.unsure ∷ [] in
    let details = list_bytes detail_bytes row.details in
    let a : AddsBytes c.args.to.now c.put_byte.new.to action = rw (← c.action_number.ensures) c.put_byte.ensures in
    let s : AddsBytes c.put_text-2.new.to c.put_byte-2.new.to replacement = rw (← c.replacement_number.ensures) c.put_byte-2.ensures in
    let d : AddsBytes c.put_truth.new.to c.put_details.new.to details = rw (← c.as_slice.ensures) c.put_details.ensures.added in
    adds_then c.args.to.now c.put_byte.new.to c.put_details.new.to action (path ++ (kind ++ (replacement ++ (unsure ++ details)))) a
    (adds_then c.put_byte.new.to c.put_text.new.to c.put_details.new.to path (kind ++ (replacement ++ (unsure ++ details))) c.put_text.ensures.added
    (adds_then c.put_text.new.to c.put_text-2.new.to c.put_details.new.to kind (replacement ++ (unsure ++ details)) c.put_text-2.ensures.added
    (adds_then c.put_text-2.new.to c.put_byte-2.new.to c.put_details.new.to replacement (unsure ++ details) s
    (adds_then c.put_byte-2.new.to c.put_truth.new.to c.put_details.new.to unsure details c.put_truth.ensures d))))
