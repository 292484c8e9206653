use Rattle.std.proofs.Common.{arith, ◌∙◌, IsTrue, None, Some, ℕ, Ok, Err, map, refl, sym, ap, subst, []}
use Rattle.std.proofs.lemmas.List.{length-map}
use Rattle.cf_disk.specs.Disk.{LeavesOnly}
use Rattle.cf_next.specs.Chosen.{schemas_of}
use Rattle.cf_plan.specs.Follow.{MayFollow}
use Rattle.cf_book.specs.Beginning.{begun_by}
use Rattle.cf_book.specs.Granting.{HasBegun}
use Rattle.cf_book.specs.Inside.{IsRight, book_of, doubt_in, entries_in, place_now, places_now}
use Rattle.cf_book.specs.Record.{KeepsRoom, LeavesOneMore, Writes, world_left}
use Rattle.cf_book.specs.State.{BookNow, home_of}
use Rattle.cf_book.proofs.Begins.{begins_in, has_begun, number_fault, right_in, still_begun, unwritten_so}
use Rattle.cf_book.proofs.Closing.{begin_leaves, ends_written}
use Rattle.cf_book.proofs.GrantBegun.{written_begun}
use Rattle.cf_book.proofs.Moved.{stands_apart}
use Rattle.cf_book.proofs.book.Book.begin_by.Goals as goal

pub write-requires-clause-opened : goal.write-requires-clause-opened
write-requires-clause-opened g c = (c.self.invariant.0.ready (ap (λ (b : BookNow g.row.D.Denot). b.stopped) c.self.view_is ∙ c.requires.running)).appends

pub write-requires-clause-world : goal.write-requires-clause-world
write-requires-clause-world g c = c.self.invariant.0.world

pub write-requires-clause-proper : goal.write-requires-clause-proper
write-requires-clause-proper g c = c.requires.prepared.1

pub invariant_of-self : goal.invariant_of-self
invariant_of-self g c =
    let r = c.self.inside.record in
    let lanes = places_now g.H.Handler c.self.inside.places.items in
    let prepared = c.requires.prepared in (
      subst (IsRight g.D.Disk c.write.new.record lanes c.self.inside.homes) (sym (ap (λ (b : BookNow g.row.D.Denot). b.stopped) c.self.view_is ∙ c.requires.running)) (right_in g.D.Disk r c.write.new.record lanes c.self.inside.homes c.self.inside.has_granted c.self.inside.stopped None _ c.args.entry (Ok 0) c.self.view_is
          c.requires.running c.self.invariant.0 c.in-Ok.ensures.writes refl {T = Unit {0}} (Ok tt) c.in-Ok.ensures.writes prepared c.in-Ok.ensures.opened c.in-Ok.ensures.steps
          (let p = c.in-Ok.ensures.places in omega (arith, p, length-map c.self.inside.places.items (place_now g.H.Handler))) c.in-Ok.ensures.spare c.in-Ok.ensures.world c.in-Ok.ensures.known),
      c.self.invariant.1,
      c.self.invariant.2 ∙ sym (ends_written {T = Unit {0}} g.D.Disk r.disk c.write.new.record.disk (entries_in r) (entries_in c.write.new.record) (doubt_in r)
          (doubt_in c.write.new.record) c.args.entry (begin_leaves c.args.entry prepared.0) (Ok tt) c.in-Ok.ensures.writes),
    )

pub returns-in-Ok-clause-stopped : goal.returns-in-Ok-clause-stopped
returns-in-Ok-clause-stopped g c = ap (λ (b : BookNow g.row.D.Denot). b.stopped) c.self.view_is ∙ c.requires.running

pub returns-in-Ok-clause-begins : goal.returns-in-Ok-clause-begins
returns-in-Ok-clause-begins g c = (
  subst (λ (b : BookNow g.row.D.Denot). Writes {T = ℕ} g.D.Disk b (book_of c.write.new.record (places_now g.H.Handler c.self.inside.places.items) c.self.inside.has_granted c.self.inside.stopped) c.args.entry (Ok 0)) c.self.view_is c.in-Ok.ensures.writes,
  c.begun_by-number.ensures,
)

pub returns-in-Ok-clause-moments : goal.returns-in-Ok-clause-moments
returns-in-Ok-clause-moments g c =
    subst (λ (b : BookNow g.row.D.Denot). IsTrue g.D.Disk.tells → LeavesOnly g.D.Disk.moment g.D.Disk.left_since b.disk c.write.new.record.disk
    (LeavesOneMore b.entries (entries_in c.write.new.record) (doubt_in c.write.new.record))) c.self.view_is c.in-Ok.ensures.moments

pub returns-in-Ok-clause-moves : goal.returns-in-Ok-clause-moves
returns-in-Ok-clause-moves g c schemas life =
    begins_in g.D.Disk c.self.inside.record c.write.new.record (places_now g.H.Handler c.self.inside.places.items) c.self.inside.homes c.self.inside.has_granted
    c.self.inside.stopped _ _ c.args.entry (Ok c.begun_by-number.result) c.self.view_is c.requires.running c.self.invariant.0 c.in-Ok.ensures.writes (returns-in-Ok-clause-stopped g c) schemas life c.requires.prepared

pub invariant_of-self-in-Err : goal.invariant_of-self-in-Err
invariant_of-self-in-Err g c =
    let r = c.self.inside.record in
    let lanes = places_now g.H.Handler c.self.inside.places.items in
    let prepared = c.requires.prepared in (
      right_in g.D.Disk r c.write.new.record lanes c.self.inside.homes c.self.inside.has_granted c.self.inside.stopped (Some c.in-Err.fault) _ c.args.entry (Err c.in-Err.fault) c.self.view_is
          c.requires.running c.self.invariant.0 c.in-Err.ensures.writes refl {T = Unit {0}} (Err c.in-Err.fault) c.in-Err.ensures.writes prepared c.in-Err.ensures.opened c.in-Err.ensures.steps
          tt c.in-Err.ensures.spare c.in-Err.ensures.world c.in-Err.ensures.known,
      c.self.invariant.1,
      c.self.invariant.2 ∙ sym (ends_written {T = Unit {0}} g.D.Disk r.disk c.write.new.record.disk (entries_in r) (entries_in c.write.new.record) (doubt_in r)
          (doubt_in c.write.new.record) c.args.entry (begin_leaves c.args.entry prepared.0) (Err c.in-Err.fault) c.in-Err.ensures.writes),
    )

pub returns-in-Err-clause-stopped : goal.returns-in-Err-clause-stopped
returns-in-Err-clause-stopped g c = refl

pub returns-in-Err-clause-begins : goal.returns-in-Err-clause-begins
returns-in-Err-clause-begins g c = (
  unwritten_so g.D.Disk c.self.inside.record c.write.new.record (places_now g.H.Handler c.self.inside.places.items) c.self.inside.has_granted c.self.inside.stopped
      (Some c.in-Err.fault) c.args.self.now c.args.entry c.in-Err.fault c.self.view_is c.in-Err.ensures.writes,
  tt,
)

pub returns-in-Err-clause-moments : goal.returns-in-Err-clause-moments
returns-in-Err-clause-moments g c =
    subst (λ (b : BookNow g.row.D.Denot). IsTrue g.D.Disk.tells → LeavesOnly g.D.Disk.moment g.D.Disk.left_since b.disk c.write.new.record.disk
    (LeavesOneMore b.entries (entries_in c.write.new.record) (doubt_in c.write.new.record))) c.self.view_is c.in-Err.ensures.moments

pub returns-in-Err-clause-moves : goal.returns-in-Err-clause-moves
returns-in-Err-clause-moves g c schemas life =
    begins_in g.D.Disk c.self.inside.record c.write.new.record (places_now g.H.Handler c.self.inside.places.items) c.self.inside.homes c.self.inside.has_granted
    c.self.inside.stopped _ _ c.args.entry (Err c.in-Err.fault) c.self.view_is c.requires.running c.self.invariant.0 (number_fault g.D.Disk c.self.inside.record c.write.new.record c.args.entry c.in-Err.fault c.in-Err.ensures.writes) (returns-in-Err-clause-stopped g c) schemas life c.requires.prepared

pub returns-in-Ok-clause-begun : goal.returns-in-Ok-clause-begun
returns-in-Ok-clause-begun g c =
    subst (HasBegun (entries_in c.write.new.record)) (sym c.begun_by-number.ensures)
    (subst (λ es. HasBegun es (begun_by c.args.entry)) (sym c.in-Ok.ensures.writes.0)
    (has_begun (schemas_of (map home_of c.args.self.now.lanes)) (entries_in c.self.inside.record) c.args.entry c.requires.prepared.0
    (subst (λ es. MayFollow (schemas_of (map home_of c.args.self.now.lanes)) (world_left es) [] c.args.entry)
    (sym (ap (λ (b : BookNow g.row.D.Denot). b.entries) c.self.view_is)) c.requires.prepared.2)))

pub returns-in-Ok-clause-disk : goal.returns-in-Ok-clause-disk
returns-in-Ok-clause-disk g c = subst (λ (b : BookNow g.row.D.Denot). KeepsRoom g.D.Disk b.disk c.write.new.record.disk) c.self.view_is c.write.ensures.keeps

pub returns-in-Err-clause-disk : goal.returns-in-Err-clause-disk
returns-in-Err-clause-disk g c = subst (λ (b : BookNow g.row.D.Denot). KeepsRoom g.D.Disk b.disk c.write.new.record.disk) c.self.view_is c.write.ensures.keeps

pub returns-in-Ok-clause-still_begun : goal.returns-in-Ok-clause-still_begun
returns-in-Ok-clause-still_begun g c m begun =
    written_begun g.D.Disk c.args.self.now (book_of c.write.new.record (places_now g.H.Handler c.self.inside.places.items) c.self.inside.has_granted c.self.inside.stopped) m
    {T = ℕ} c.args.entry (Ok 0) begun (still_begun (schemas_of (map home_of c.args.self.now.lanes)) c.args.self.now.entries c.args.entry c.requires.prepared.0 c.requires.prepared.2
    (stands_apart g.D.Disk c.self.inside.record c.write.new.record (places_now g.H.Handler c.self.inside.places.items) c.self.inside.homes c.self.inside.has_granted c.self.inside.stopped
    c.args.self.now c.self.view_is c.requires.running c.self.invariant.0) m begun) (returns-in-Ok-clause-begins g c).0

pub returns-in-Err-clause-still_begun : goal.returns-in-Err-clause-still_begun
returns-in-Err-clause-still_begun g c m begun =
    written_begun g.D.Disk c.args.self.now (book_of c.write.new.record (places_now g.H.Handler c.self.inside.places.items) c.self.inside.has_granted (Some c.in-Err.fault)) m
    {T = ℕ} c.args.entry (Err c.in-Err.fault) begun (still_begun (schemas_of (map home_of c.args.self.now.lanes)) c.args.self.now.entries c.args.entry c.requires.prepared.0 c.requires.prepared.2
    (stands_apart g.D.Disk c.self.inside.record c.write.new.record (places_now g.H.Handler c.self.inside.places.items) c.self.inside.homes c.self.inside.has_granted c.self.inside.stopped
    c.args.self.now c.self.view_is c.requires.running c.self.invariant.0) m begun) (returns-in-Err-clause-begins g c).0
