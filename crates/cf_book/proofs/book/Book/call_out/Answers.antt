use Rattle.std.proofs.Common.{◌∙◌, IsTrue, Ok, Err, sym, ap, subst}
use Rattle.cf_disk.specs.Disk.{LeavesOnly}
use Rattle.cf_lane.specs.declared.lease.Lease.{Lease as Leased}
use Rattle.cf_book.specs.Inside.{HasWayBack, IsRight, doubt_in, entries_in, places_now}
use Rattle.cf_book.specs.Record.{KeepsRoom, LeavesOneMore}
use Rattle.cf_book.specs.State.{BookNow}
use Rattle.cf_book.proofs.Closing.{ends_entered}
use Rattle.cf_book.proofs.Lent.{way_lent}
use Rattle.cf_book.proofs.Moved.{has_called, uncalled_life, uncalled_right, uncalled_takes}
use Rattle.cf_book.proofs.book.Book.call_out.Goals as goal

pub issue-requires-clause-opened : goal.issue-requires-clause-opened
issue-requires-clause-opened g c = (c.self.invariant.0.ready (ap (λ (b : BookNow g.row.D.Denot). b.stopped) c.self.view_is ∙ c.requires.running)).appends

pub issue-requires-clause-world : goal.issue-requires-clause-world
issue-requires-clause-world g c = c.self.invariant.0.world

pub issue-requires-clause-homes : goal.issue-requires-clause-homes
issue-requires-clause-homes g c = c.self.invariant.0.homes_are

pub issue-requires-clause-differ : goal.issue-requires-clause-differ
issue-requires-clause-differ g c = c.self.invariant.0.names_differ

pub invariant_of-self-in-Err : goal.invariant_of-self-in-Err
invariant_of-self-in-Err g c = (
  uncalled_right g.D.Disk g.H.Handler c.self.inside.record c.issue.new.record (places_now g.H.Handler c.self.inside.places.items) (places_now g.H.Handler c.issue.new.places.items) c.self.inside.homes c.issue.new.homes c.self.inside.has_granted c.self.inside.stopped c.args.self.now c.self.view_is c.requires.running c.self.invariant.0 c.args.number c.args.asked.token c.args.asked.path c.args.asked.lane c.args.asked.request c.args.asked.repeated c.requires.next c.requires.follows c.in-Err.ensures.spare c.in-Err.ensures.world c.in-Err.ensures.known c.in-Err.ensures.homes (Leased g.row.H.Denot) c.in-Err.fault c.in-Err.ensures.lends c.in-Err.ensures.enters,
  subst (λ ls. HasWayBack ls c.self.inside.emptied) (sym c.in-Err.ensures.lends) c.self.invariant.1,
  c.self.invariant.2 ∙ sym (ends_entered (Leased g.row.H.Denot) g.D.Disk c.self.inside.record c.issue.new.record c.args.asked.repeated c.args.number c.args.asked.token c.args.asked.lane c.args.asked.path c.args.asked.request (Err c.in-Err.fault) c.in-Err.ensures.enters),
)

pub returns-in-Err-clause-takes : goal.returns-in-Err-clause-takes
returns-in-Err-clause-takes g c =
    uncalled_takes g.D.Disk g.H.Handler c.self.inside.record c.issue.new.record (places_now g.H.Handler c.self.inside.places.items) (places_now g.H.Handler c.issue.new.places.items) c.self.inside.homes c.issue.new.homes c.self.inside.has_granted c.self.inside.stopped c.args.self.now c.self.view_is c.requires.running c.self.invariant.0 c.args.number c.args.asked.token c.args.asked.path c.args.asked.lane c.args.asked.request c.args.asked.repeated c.requires.next c.requires.follows c.in-Err.ensures.spare c.in-Err.ensures.world c.in-Err.ensures.known c.in-Err.ensures.homes (Leased g.row.H.Denot) c.in-Err.fault c.in-Err.ensures.lends c.in-Err.ensures.enters

pub returns-in-Err-clause-moves : goal.returns-in-Err-clause-moves
returns-in-Err-clause-moves g c schemas life =
    uncalled_life g.D.Disk g.H.Handler c.self.inside.record c.issue.new.record (places_now g.H.Handler c.self.inside.places.items) (places_now g.H.Handler c.issue.new.places.items) c.self.inside.homes c.issue.new.homes c.self.inside.has_granted c.self.inside.stopped c.args.self.now c.self.view_is c.requires.running c.self.invariant.0 c.args.number c.args.asked.token c.args.asked.path c.args.asked.lane c.args.asked.request c.args.asked.repeated c.requires.next c.requires.follows c.in-Err.ensures.spare c.in-Err.ensures.world c.in-Err.ensures.known c.in-Err.ensures.homes (Leased g.row.H.Denot) schemas life c.in-Err.fault c.in-Err.ensures.lends c.in-Err.ensures.enters

pub invariant_of-self : goal.invariant_of-self
invariant_of-self g c = (
  subst (IsRight g.D.Disk c.issue.new.record (places_now g.H.Handler c.issue.new.places.items) c.issue.new.homes)
      (sym (ap (λ (b : BookNow g.row.D.Denot). b.stopped) c.self.view_is ∙ c.requires.running)) ((has_called g.D.Disk g.H.Handler c.self.inside.record c.issue.new.record (places_now g.H.Handler c.self.inside.places.items) (places_now g.H.Handler c.issue.new.places.items)
      c.self.inside.homes c.issue.new.homes c.self.inside.has_granted c.self.inside.stopped c.args.self.now c.self.view_is c.requires.running c.self.invariant.0 c.args.number
      c.args.asked.token c.args.asked.path c.args.asked.lane c.args.asked.request c.args.asked.repeated c.in-Ok.ensures.lends.0 c.in-Ok.lease c.in-Ok.ensures.lends.1
      c.requires.next c.requires.follows c.in-Ok.ensures.spare c.in-Ok.ensures.world c.in-Ok.ensures.known c.in-Ok.ensures.homes c.in-Ok.ensures.expected.expected
      c.in-Ok.ensures.expected.unused c.in-Ok.ensures.opened c.in-Ok.ensures.awaits c.in-Ok.ensures.places c.in-Ok.ensures.enters).right),
  subst (λ ls. HasWayBack ls c.self.inside.emptied) (sym c.in-Ok.ensures.lends.1.lent)
      (way_lent (record { epoch = c.self.inside.record.world.world.epoch; number = c.args.number; token = c.args.asked.token; request = c.args.asked.request })
      c.in-Ok.ensures.lends.0.lane (places_now g.H.Handler c.self.inside.places.items) c.self.inside.emptied c.self.invariant.1),
  c.self.invariant.2 ∙ sym (ends_entered (Leased g.row.H.Denot) g.D.Disk c.self.inside.record c.issue.new.record c.args.asked.repeated c.args.number c.args.asked.token
      c.args.asked.lane c.args.asked.path c.args.asked.request (Ok c.in-Ok.lease) c.in-Ok.ensures.enters),
)

pub returns-in-Ok-clause-takes : goal.returns-in-Ok-clause-takes
returns-in-Ok-clause-takes g c = (has_called g.D.Disk g.H.Handler c.self.inside.record c.issue.new.record (places_now g.H.Handler c.self.inside.places.items) (places_now g.H.Handler c.issue.new.places.items)
    c.self.inside.homes c.issue.new.homes c.self.inside.has_granted c.self.inside.stopped c.args.self.now c.self.view_is c.requires.running c.self.invariant.0 c.args.number
    c.args.asked.token c.args.asked.path c.args.asked.lane c.args.asked.request c.args.asked.repeated c.in-Ok.ensures.lends.0 c.in-Ok.lease c.in-Ok.ensures.lends.1
    c.requires.next c.requires.follows c.in-Ok.ensures.spare c.in-Ok.ensures.world c.in-Ok.ensures.known c.in-Ok.ensures.homes c.in-Ok.ensures.expected.expected
    c.in-Ok.ensures.expected.unused c.in-Ok.ensures.opened c.in-Ok.ensures.awaits c.in-Ok.ensures.places c.in-Ok.ensures.enters).takes

pub returns-in-Ok-clause-moves : goal.returns-in-Ok-clause-moves
returns-in-Ok-clause-moves g c schemas life = (has_called g.D.Disk g.H.Handler c.self.inside.record c.issue.new.record (places_now g.H.Handler c.self.inside.places.items) (places_now g.H.Handler c.issue.new.places.items)
    c.self.inside.homes c.issue.new.homes c.self.inside.has_granted c.self.inside.stopped c.args.self.now c.self.view_is c.requires.running c.self.invariant.0 c.args.number
    c.args.asked.token c.args.asked.path c.args.asked.lane c.args.asked.request c.args.asked.repeated c.in-Ok.ensures.lends.0 c.in-Ok.lease c.in-Ok.ensures.lends.1
    c.requires.next c.requires.follows c.in-Ok.ensures.spare c.in-Ok.ensures.world c.in-Ok.ensures.known c.in-Ok.ensures.homes c.in-Ok.ensures.expected.expected
    c.in-Ok.ensures.expected.unused c.in-Ok.ensures.opened c.in-Ok.ensures.awaits c.in-Ok.ensures.places c.in-Ok.ensures.enters).lives schemas life

pub returns-in-Ok-clause-moments : goal.returns-in-Ok-clause-moments
returns-in-Ok-clause-moments g c =
    subst (λ (b : BookNow g.row.D.Denot). IsTrue g.D.Disk.tells → LeavesOnly g.D.Disk.moment g.D.Disk.left_since b.disk c.issue.new.record.disk
    (LeavesOneMore b.entries (entries_in c.issue.new.record) (doubt_in c.issue.new.record))) c.self.view_is c.in-Ok.ensures.moments

pub returns-in-Err-clause-moments : goal.returns-in-Err-clause-moments
returns-in-Err-clause-moments g c =
    subst (λ (b : BookNow g.row.D.Denot). IsTrue g.D.Disk.tells → LeavesOnly g.D.Disk.moment g.D.Disk.left_since b.disk c.issue.new.record.disk
    (LeavesOneMore b.entries (entries_in c.issue.new.record) (doubt_in c.issue.new.record))) c.self.view_is c.in-Err.ensures.moments

pub returns-in-Ok-clause-stopped : goal.returns-in-Ok-clause-stopped
returns-in-Ok-clause-stopped g c = ap (λ (b : BookNow g.row.D.Denot). b.stopped) c.self.view_is ∙ c.requires.running

pub returns-in-Ok-clause-disk : goal.returns-in-Ok-clause-disk
returns-in-Ok-clause-disk g c =
    subst (λ (b : BookNow g.row.D.Denot). KeepsRoom g.D.Disk b.disk c.issue.new.record.disk) c.self.view_is c.issue.ensures.keeps

pub returns-in-Err-clause-disk : goal.returns-in-Err-clause-disk
returns-in-Err-clause-disk g c =
    subst (λ (b : BookNow g.row.D.Denot). KeepsRoom g.D.Disk b.disk c.issue.new.record.disk) c.self.view_is c.issue.ensures.keeps
