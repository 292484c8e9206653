use Rattle.std.proofs.Common.{[], ◌∷◌, ◌++◌}
use Rattle.cf_entry.specs.Bytes.{eight_bytes}
use Rattle.cf_entry.specs.Entry.{reply_bytes}
use Rattle.cf_entry.proofs.Joined.{adds_then}
use Rattle.cf_entry.proofs.put.entry.put_outcome.Goals as goal

pub returns-clause-added : goal.returns-clause-added
returns-clause-added c =
    let end = c.put_eight-4.new.to in
    let number = eight_bytes c.args.numbers.0 in
    let token = eight_bytes c.args.numbers.1 in
    let answer = reply_bytes c.args.answer.now in
    let before = eight_bytes c.args.counts.0 in
    let after = eight_bytes c.args.counts.1 in
    adds_then c.args.to.now c.put_byte.new.to end (5 ∷ []) (number ++ (token ++ (answer ++ (before ++ after)))) c.put_byte.ensures
    (adds_then c.put_byte.new.to c.put_eight.new.to end number (token ++ (answer ++ (before ++ after))) c.put_eight.ensures
    (adds_then c.put_eight.new.to c.put_eight-2.new.to end token (answer ++ (before ++ after)) c.put_eight-2.ensures
    (adds_then c.put_eight-2.new.to c.put_reply.new.to end answer (before ++ after) c.put_reply.ensures.added
    (adds_then c.put_reply.new.to c.put_eight-3.new.to end before after c.put_eight-3.ensures c.put_eight-4.ensures))))
