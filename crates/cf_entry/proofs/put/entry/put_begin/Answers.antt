use Rattle.std.proofs.Common.{[], ◌∷◌, ◌++◌, arith}
use Rattle.cf_entry.specs.Bytes.{eight_bytes, text_bytes}
use Rattle.cf_entry.specs.Entry.{begun_bytes}
use Rattle.cf_entry.proofs.Joined.{adds_then}
use Rattle.cf_entry.proofs.put.entry.put_begin.Goals as goal

pub returns-clause-added : goal.returns-clause-added
returns-clause-added c =
    let number = eight_bytes c.args.number in
    let stack = text_bytes c.args.stack.now in
    let last = begun_bytes c.args.kind.now in
    let end = c.put_begun.new.to in
    adds_then c.args.to.now c.put_byte.new.to end (2 ∷ []) (number ++ (stack ++ last)) c.put_byte.ensures
    (adds_then c.put_byte.new.to c.put_eight.new.to end number (stack ++ last) c.put_eight.ensures
    (adds_then c.put_eight.new.to c.put_text.new.to end stack last c.put_text.ensures.added c.put_begun.ensures.added))

pub returns-clause-fits : goal.returns-clause-fits
returns-clause-fits c = λ tied. (omega arith, c.put_text.ensures.fits, c.put_begun.ensures.fits c.args.stack.now tied)
