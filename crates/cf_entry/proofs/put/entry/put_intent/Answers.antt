use Rattle.std.proofs.Common.{[], ◌∷◌, ◌++◌}
use Rattle.cf_entry.specs.Bytes.{eight_bytes, text_bytes}
use Rattle.cf_entry.specs.Entry.{request_bytes}
use Rattle.cf_entry.proofs.Joined.{adds_then}
use Rattle.cf_entry.proofs.put.entry.put_intent.Goals as goal

pub returns-clause-added : goal.returns-clause-added
returns-clause-added c =
    let end = c.put_request.new.to in
    let last = request_bytes c.args.request.now in
    let path = text_bytes c.args.path.now in
    let lane = text_bytes c.args.lane.now in
    let token = eight_bytes c.args.token in
    let number = eight_bytes c.args.number in
    adds_then c.args.to.now c.put_byte.new.to end (4 ∷ []) (number ++ (token ++ (lane ++ (path ++ last)))) c.put_byte.ensures
    (adds_then c.put_byte.new.to c.put_eight.new.to end number (token ++ (lane ++ (path ++ last))) c.put_eight.ensures
    (adds_then c.put_eight.new.to c.put_eight-2.new.to end token (lane ++ (path ++ last)) c.put_eight-2.ensures
    (adds_then c.put_eight-2.new.to c.put_text.new.to end lane (path ++ last) c.put_text.ensures.added
    (adds_then c.put_text.new.to c.put_text-2.new.to end path last c.put_text-2.ensures.added c.put_request.ensures.added))))
