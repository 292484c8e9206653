use Rattle.std.proofs.Common.{arith, ◌∙◌, IsTrue, Some, Ok, Err, refl, sym, ap, subst}
use Rattle.std.proofs.lemmas.List.{length-map}
use Rattle.cf_disk.specs.Disk.{LeavesOnly}
use Rattle.cf_entry.specs.declared.entry.Entry.TheVariants.{Done}
use Rattle.cf_book.specs.Inside.{IsRight, doubt_in, entries_in, place_now, places_now}
use Rattle.cf_book.specs.Record.{KeepsRoom, LeavesOneMore}
use Rattle.cf_book.specs.State.{BookNow}
use Rattle.cf_book.specs.declared.granting.Grant.TheVariants.{Over}
use Rattle.cf_book.proofs.Moved.{moves_in_err, moves_in_ok, moves_on_err, moves_on_ok, right_moved}
use Rattle.cf_plan.proofs.Proper.{granted_is_proper}
use Rattle.cf_book.proofs.book.Book.end.Goals as goal

pub write_end-requires-clause-opened : goal.write_end-requires-clause-opened
write_end-requires-clause-opened g c = (c.self.invariant.0.ready (ap (λ (b : BookNow g.row.D.Denot). b.stopped) c.self.view_is ∙ c.requires.running)).appends

pub write_end-requires-clause-world : goal.write_end-requires-clause-world
write_end-requires-clause-world g c = c.self.invariant.0.world

pub write_end-requires-clause-proper : goal.write_end-requires-clause-proper
write_end-requires-clause-proper g c = granted_is_proper _ _ _ (Done c.args.number c.args.status c.args.failed) tt c.requires.follows

pub write_end-requires-clause-ended : goal.write_end-requires-clause-ended
write_end-requires-clause-ended g c = c.self.invariant.2

pub invariant_of-self : goal.invariant_of-self
invariant_of-self g c =
    let r = c.self.inside.record in
    let lanes = places_now g.H.Handler c.self.inside.places.items in (
      subst (IsRight g.D.Disk c.write_end.new.record lanes c.self.inside.homes) (sym (ap (λ (b : BookNow g.row.D.Denot). b.stopped) c.self.view_is ∙ c.requires.running)) (right_moved g.D.Disk r c.write_end.new.record lanes c.self.inside.homes c.self.inside.has_granted c.self.inside.stopped _ c.self.view_is c.requires.running c.self.invariant.0
          {T = Unit {0}} (Done c.args.number c.args.status c.args.failed) (Ok tt) tt c.requires.follows c.in-Ok.ensures.writes c.in-Ok.ensures.opened c.in-Ok.ensures.steps
          (let p = c.in-Ok.ensures.places in omega (arith, p, length-map c.self.inside.places.items (place_now g.H.Handler))) c.in-Ok.ensures.spare c.in-Ok.ensures.world c.in-Ok.ensures.known),
      c.self.invariant.1,
      c.in-Ok.ensures.ended,
    )

pub returns-in-Ok-clause-stopped : goal.returns-in-Ok-clause-stopped
returns-in-Ok-clause-stopped g c = ap (λ (b : BookNow g.row.D.Denot). b.stopped) c.self.view_is ∙ c.requires.running

pub returns-in-Ok-clause-moves_on : goal.returns-in-Ok-clause-moves_on
returns-in-Ok-clause-moves_on g c =
    moves_on_ok g.D.Disk c.self.inside.record c.write_end.new.record (places_now g.H.Handler c.self.inside.places.items) c.self.inside.homes c.self.inside.has_granted
    c.self.inside.stopped _ c.self.view_is c.requires.running c.self.invariant.0 (Done c.args.number c.args.status c.args.failed) (Over c.args.status) c.self.inside.stopped c.in-Ok.ensures.writes

pub returns-in-Ok-clause-moments : goal.returns-in-Ok-clause-moments
returns-in-Ok-clause-moments g c =
    subst (λ (b : BookNow g.row.D.Denot). IsTrue g.D.Disk.tells → LeavesOnly g.D.Disk.moment g.D.Disk.left_since b.disk c.write_end.new.record.disk
    (LeavesOneMore b.entries (entries_in c.write_end.new.record) (doubt_in c.write_end.new.record))) c.self.view_is c.in-Ok.ensures.moments

pub returns-in-Ok-clause-moves : goal.returns-in-Ok-clause-moves
returns-in-Ok-clause-moves g c schemas life =
    moves_in_ok g.D.Disk c.self.inside.record c.write_end.new.record (places_now g.H.Handler c.self.inside.places.items) c.self.inside.homes c.self.inside.has_granted
    c.self.inside.stopped _ c.self.view_is c.requires.running c.self.invariant.0 schemas life (Done c.args.number c.args.status c.args.failed) (Over c.args.status) c.self.inside.stopped tt c.requires.follows
    refl (returns-in-Ok-clause-moves_on g c) (returns-in-Ok-clause-stopped g c)

pub invariant_of-self-in-Err : goal.invariant_of-self-in-Err
invariant_of-self-in-Err g c =
    let r = c.self.inside.record in
    let lanes = places_now g.H.Handler c.self.inside.places.items in (
      right_moved g.D.Disk r c.write_end.new.record lanes c.self.inside.homes c.self.inside.has_granted c.self.inside.stopped _ c.self.view_is c.requires.running c.self.invariant.0
          {T = Unit {0}} (Done c.args.number c.args.status c.args.failed) (Err c.in-Err.fault) tt c.requires.follows c.in-Err.ensures.writes c.in-Err.ensures.opened c.in-Err.ensures.steps
          tt c.in-Err.ensures.spare c.in-Err.ensures.world c.in-Err.ensures.known,
      c.self.invariant.1,
      c.in-Err.ensures.ended,
    )

pub returns-in-Err-clause-stopped : goal.returns-in-Err-clause-stopped
returns-in-Err-clause-stopped g c = refl

pub returns-in-Err-clause-moves_on : goal.returns-in-Err-clause-moves_on
returns-in-Err-clause-moves_on g c =
    moves_on_err g.D.Disk c.self.inside.record c.write_end.new.record (places_now g.H.Handler c.self.inside.places.items) c.self.inside.homes c.self.inside.has_granted
    c.self.inside.stopped _ c.self.view_is c.requires.running c.self.invariant.0 {H = g.row.H.Denot} (Done c.args.number c.args.status c.args.failed) (Over c.args.status) c.in-Err.fault (Some c.in-Err.fault) c.in-Err.ensures.writes

pub returns-in-Err-clause-moments : goal.returns-in-Err-clause-moments
returns-in-Err-clause-moments g c =
    subst (λ (b : BookNow g.row.D.Denot). IsTrue g.D.Disk.tells → LeavesOnly g.D.Disk.moment g.D.Disk.left_since b.disk c.write_end.new.record.disk
    (LeavesOneMore b.entries (entries_in c.write_end.new.record) (doubt_in c.write_end.new.record))) c.self.view_is c.in-Err.ensures.moments

pub returns-in-Err-clause-moves : goal.returns-in-Err-clause-moves
returns-in-Err-clause-moves g c schemas life =
    moves_in_err g.D.Disk c.self.inside.record c.write_end.new.record (places_now g.H.Handler c.self.inside.places.items) c.self.inside.homes c.self.inside.has_granted
    c.self.inside.stopped _ c.self.view_is c.requires.running c.self.invariant.0 {H = g.row.H.Denot} schemas life (Done c.args.number c.args.status c.args.failed) (Over c.args.status) c.in-Err.fault tt c.requires.follows
    (returns-in-Err-clause-moves_on g c)

pub returns-in-Ok-clause-disk : goal.returns-in-Ok-clause-disk
returns-in-Ok-clause-disk g c =
    subst (λ (b : BookNow g.row.D.Denot). KeepsRoom g.D.Disk b.disk c.write_end.new.record.disk) c.self.view_is c.write_end.ensures.keeps

pub returns-in-Err-clause-disk : goal.returns-in-Err-clause-disk
returns-in-Err-clause-disk g c =
    subst (λ (b : BookNow g.row.D.Denot). KeepsRoom g.D.Disk b.disk c.write_end.new.record.disk) c.self.view_is c.write_end.ensures.keeps
