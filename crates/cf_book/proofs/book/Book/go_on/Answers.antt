use Rattle.std.proofs.Common.{inl, inr, map, refl, sym, ◌∙◌, ap, subst}
use Rattle.cf_disk.specs.Disk.{LeavesOnly}
use Rattle.cf_next.specs.Chosen.{IsInProgress}
use Rattle.cf_book.specs.Granting.{GrantsIn, IsLacking, TakesNext}
use Rattle.cf_book.specs.Inside.{doubt_in, entries_in, places_now}
use Rattle.cf_book.specs.Record.{KeepsMoments, KeepsRoom, LeavesOneMore, world_left}
use Rattle.cf_book.specs.State.{BookNow, home_of}
use Rattle.cf_book.specs.declared.stop.StopFault.TheVariants.{NoMemory}
use Rattle.cf_book.proofs.Appended.{same_room, unmoved}
use Rattle.cf_book.proofs.Grants.{stands_still}
use Rattle.cf_book.proofs.Moved.{follows_as, lacks_as, next_as, right_looked, right_stopped, sure}
use Rattle.cf_book.proofs.book.Book.go_on.Goals as goal

pub next-requires : goal.next-requires
next-requires g c =
    subst (λ w. IsInProgress w c.args.number) (sym (c.self.invariant.0.world ∙ ap (λ (b : BookNow g.row.D.Denot). world_left b.entries) c.self.view_is)) c.requires.going

pub invariant_of-self : goal.invariant_of-self
invariant_of-self g c = (
  right_looked g.D.Disk c.self.inside.record c.next.new.world (places_now g.H.Handler c.self.inside.places.items) c.self.inside.homes c.self.inside.stopped c.next.ensures.stays
      c.self.invariant.0,
  c.self.invariant.1,
  c.self.invariant.2,
)

pub invariant_of-self-in-Err : goal.invariant_of-self-in-Err
invariant_of-self-in-Err g c = (
  right_stopped g.D.Disk c.self.inside.record c.next.new.world (places_now g.H.Handler c.self.inside.places.items) c.self.inside.homes c.self.inside.stopped NoMemory
      c.next.ensures.stays c.self.invariant.0,
  c.self.invariant.1,
  c.self.invariant.2,
)

pub take-requires-clause-running : goal.take-requires-clause-running
take-requires-clause-running g c = (ap (λ (b : BookNow g.row.D.Denot). b.stopped) c.self.view_is ∙ c.requires.running)

pub take-requires-clause-next : goal.take-requires-clause-next
take-requires-clause-next g c =
    next_as c.self.inside.homes (map home_of (places_now g.H.Handler c.self.inside.places.items)) c.self.inside.record.world.world (world_left (entries_in c.self.inside.record))
    c.args.number c.in-Ok.step c.self.invariant.0.homes_are c.self.invariant.0.world c.in-Ok.ensures.chosen

pub take-requires-clause-follows : goal.take-requires-clause-follows
take-requires-clause-follows g c =
    follows_as c.self.inside.homes (map home_of (places_now g.H.Handler c.self.inside.places.items)) c.self.inside.record.world.world (world_left (entries_in c.self.inside.record))
    c.args.number c.in-Ok.step c.self.invariant.0.homes_are c.self.invariant.0.world c.in-Ok.ensures.may_follow

pub take-requires-clause-known : goal.take-requires-clause-known
take-requires-clause-known g c = c.self.invariant.0.known

pub returns-in-Ok-clause-takes : goal.returns-in-Ok-clause-takes
returns-in-Ok-clause-takes g c =
    subst (λ (b : BookNow g.row.D.Denot). TakesNext g.D.Disk g.H.Handler b c.take.new.self c.args.number c.take.result) c.self.view_is (inl (
      c.in-Ok.step,
      next_as c.self.inside.homes (map home_of (places_now g.H.Handler c.self.inside.places.items)) c.self.inside.record.world.world
          (world_left (entries_in c.self.inside.record)) c.args.number c.in-Ok.step c.self.invariant.0.homes_are c.self.invariant.0.world c.in-Ok.ensures.chosen,
      c.take.ensures.takes,
    ))

pub returns-in-Ok-clause-moments : goal.returns-in-Ok-clause-moments
returns-in-Ok-clause-moments g c = subst (λ (b : BookNow g.row.D.Denot). KeepsMoments g.D.Disk b c.take.new.self) c.self.view_is c.take.ensures.moments

pub returns-in-Ok-clause-moves : goal.returns-in-Ok-clause-moves
returns-in-Ok-clause-moves g c schemas life =
    subst (λ (b : BookNow g.row.D.Denot). GrantsIn schemas life b c.take.new.self c.args.number c.take.result) c.self.view_is (λ tells stands holds. inr (
      c.in-Ok.step,
      next_as c.self.inside.homes (map home_of (places_now g.H.Handler c.self.inside.places.items)) c.self.inside.record.world.world
          (world_left (entries_in c.self.inside.record)) c.args.number c.in-Ok.step c.self.invariant.0.homes_are c.self.invariant.0.world c.in-Ok.ensures.chosen,
      c.take.ensures.moves schemas life tells stands holds,
    ))

pub returns-in-Err-clause-takes : goal.returns-in-Err-clause-takes
returns-in-Err-clause-takes g c =
    inr (
      refl,
      (
        record { disk = ap (λ (b : BookNow g.row.D.Denot). b.disk) c.self.view_is; entries = ap (λ (b : BookNow g.row.D.Denot). b.entries) c.self.view_is; doubt = ap (λ (b : BookNow g.row.D.Denot). b.doubt) c.self.view_is },
        record { lanes = ap (λ (b : BookNow g.row.D.Denot). b.lanes) c.self.view_is; granted = ap (λ (b : BookNow g.row.D.Denot). b.has_granted) c.self.view_is },
      ),
      subst (λ (b : BookNow g.row.D.Denot). IsLacking b.lanes b.entries c.args.number) c.self.view_is
          (lacks_as c.self.inside.homes (places_now g.H.Handler c.self.inside.places.items) c.self.inside.record.world.world (entries_in c.self.inside.record) c.args.number
          c.next.result c.in-Err.field-0 c.self.invariant.0.homes_are c.self.invariant.0.world c.next.ensures.no_step c.in-Err.is),
    )

pub returns-in-Err-clause-moments : goal.returns-in-Err-clause-moments
returns-in-Err-clause-moments g c told =
    subst (λ (b : BookNow g.row.D.Denot). LeavesOnly g.D.Disk.moment g.D.Disk.left_since b.disk c.self.inside.record.disk
    (LeavesOneMore b.entries (entries_in c.self.inside.record) (doubt_in c.self.inside.record))) c.self.view_is
    (unmoved g.D.Disk c.self.inside.record.disk (entries_in c.self.inside.record) (doubt_in c.self.inside.record) told
    (λ bytes left. g.met.D.Disk.only_now c.self.inside.record.disk bytes told left) c.self.invariant.0.known)

pub returns-in-Err-clause-known : goal.returns-in-Err-clause-known
returns-in-Err-clause-known g c = c.self.invariant.0.known

pub returns-in-Err-clause-moves : goal.returns-in-Err-clause-moves
returns-in-Err-clause-moves g c schemas life tells stands holds =
    inl (
      record { disk = ap (λ (b : BookNow g.row.D.Denot). b.disk) c.self.view_is; entries = ap (λ (b : BookNow g.row.D.Denot). b.entries) c.self.view_is; doubt = ap (λ (b : BookNow g.row.D.Denot). b.doubt) c.self.view_is },
      stands_still schemas life c.args.self.now _ stands c.requires.running
          (sure g.D.Disk c.self.inside.record c.self.inside.record (places_now g.H.Handler c.self.inside.places.items) c.self.inside.homes c.self.inside.has_granted
          c.self.inside.stopped c.args.self.now c.self.view_is c.requires.running c.self.invariant.0)
          (ap (λ (b : BookNow g.row.D.Denot). b.entries) c.self.view_is) (ap (λ (b : BookNow g.row.D.Denot). b.lanes) c.self.view_is) (ap (λ (b : BookNow g.row.D.Denot). b.has_granted) c.self.view_is),
    )

pub returns-in-Ok-clause-disk : goal.returns-in-Ok-clause-disk
returns-in-Ok-clause-disk g c = subst (λ (b : BookNow g.row.D.Denot). KeepsRoom g.D.Disk b.disk c.take.new.self.disk) c.self.view_is c.take.ensures.disk

pub returns-in-Err-clause-disk : goal.returns-in-Err-clause-disk
returns-in-Err-clause-disk g c =
    subst (λ (b : BookNow g.row.D.Denot). KeepsRoom g.D.Disk b.disk c.self.inside.record.disk) c.self.view_is (same_room g.D.Disk c.self.inside.record.disk)
