use Rattle.std.proofs.Common.{rules}
use Rattle.cf_graph.proofs.Noting.{noted_behind, noted_first}
use Rattle.cf_graph.proofs.notes.note.Goals as goal

pub returns-in_ok-push-in-Some : goal.returns-in_ok-push-in-Some
returns-in_ok-push-in-Some c =
    noted_behind c.args.notes.now (c.get_mut.follows.lender c.push.new.self) c.args.name.now c.in-Some.places.now c.push.new.self c.args.at ((c.get_mut.follows.holds c.push.new.self).3 (search rules))
    c.in-Some.ensures.value c.in_ok-push-in-Some.ensures.items

pub returns-in_ok-insert-in-None : goal.returns-in_ok-insert-in-None
returns-in_ok-insert-in-None c =
    noted_first c.args.notes.now c.get_mut.follows.lender-at-none c.insert.new.self c.args.name.now c.in_ok-try_clone-in-None.field-0 c.new-places.result c.push-in-None.new.self c.args.at
    c.in_ok-insert-in-None.ensures.updates c.get_mut.follows.holds-at-none c.in_ok-try_clone-in-None.ensures c.in-None.ensures.value c.new-places.ensures.items c.in_ok-push-in-None.ensures.items
