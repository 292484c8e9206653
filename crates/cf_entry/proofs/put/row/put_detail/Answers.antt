use Rattle.std.proofs.Common.{[], ◌∷◌, ◌++◌}
use Rattle.cf_entry.specs.Bytes.{text_bytes, AddsBytes}
use Rattle.cf_entry.specs.Numbers.{attribute_number, recreation_number, evaluation_number}
use Rattle.cf_entry.proofs.Joined.{adds_then}
use Rattle.cf_entry.proofs.put.row.put_detail.Goals as goal

pub returns-clause-added : goal.returns-clause-added
returns-clause-added c =
    let detail = c.args.detail.now in
    let attribute = attribute_number detail.attribute ∷ [] in
    let name = text_bytes detail.name in
    let recreation = recreation_number detail.recreation ∷ [] in
    let evaluation = evaluation_number detail.evaluation ∷ [] in
    let a : AddsBytes c.args.to.now c.put_byte.new.to attribute = rw (← c.attribute_number.ensures) c.put_byte.ensures in
    let s : AddsBytes c.put_text.new.to c.put_byte-2.new.to recreation = rw (← c.recreation_number.ensures) c.put_byte-2.ensures in
    let u : AddsBytes c.put_byte-2.new.to c.put_byte-3.new.to evaluation = rw (← c.evaluation_number.ensures) c.put_byte-3.ensures in
    adds_then c.args.to.now c.put_byte.new.to c.put_byte-3.new.to attribute (name ++ (recreation ++ evaluation)) a
    (adds_then c.put_byte.new.to c.put_text.new.to c.put_byte-3.new.to name (recreation ++ evaluation) c.put_text.ensures.added
    (adds_then c.put_text.new.to c.put_byte-2.new.to c.put_byte-3.new.to recreation evaluation s u))
