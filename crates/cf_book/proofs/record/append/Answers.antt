use Rattle.std.proofs.Common.{rules, arith, ℕ, IsTrue, ◌≡◌, inl, inr, List, [], ◌∷◌, ◌++◌, Option, Some, None, Ok, map, refl, sym, ◌∙◌, ap, subst}
use Rattle.std.specs.declared.snapshot.Snapshot.{Snapshot}
use Rattle.cf_journal.proofs.Moments.{started, weaker}
use Rattle.cf_journal.specs.Record.{IsBeforeOrAfter, one_more, record_of}
use Rattle.cf_book.specs.Inside.{IsOpen, doubt_in, entries_in, known_in}
use Rattle.cf_book.specs.Record.{HasKnown, IsKnown, LeavesOneMore}
use Rattle.cf_book.proofs.Appended.{entries_more, fault_since, full_since, full_unmoved, known_either, known_open, one_more_doubt, one_more_whole, world_more}
use Rattle.cf_book.proofs.record.append.Goals as goal

pub returns-in-Ok-clause-appends : goal.returns-in-Ok-clause-appends
returns-in-Ok-clause-appends g c = (
  ap (map (λ (x : Snapshot _). x.value)) c.push_reserved.ensures.items ∙ entries_more c.args.record.now.entries.items c.of-kept.result c.args.entry c.of-kept.ensures,
  refl,
  λ t. let long = c.requires.opened.stands.length_is t in let within = c.in-Ok.ensures.cause in omega (arith, long, within),
)

pub returns-in-Ok-clause-opened : goal.returns-in-Ok-clause-opened
returns-in-Ok-clause-opened g c = record {
  stands = search rules;
  holds = λ t. c.in-Ok.ensures.added t ∙ ap (λ r. one_more r c.args.entry) (c.requires.opened.holds t) ∙ ap Ok (sym (returns-in-Ok-clause-appends g c).0);
  certain = c.requires.opened.certain;
}

pub returns-in-Ok-clause-world : goal.returns-in-Ok-clause-world
returns-in-Ok-clause-world g c =
    world_more c.args.record.now.world c.step.new.self (entries_in c.args.record.now) _ c.args.entry c.requires.world c.step.ensures (returns-in-Ok-clause-appends g c).0

pub returns-in-Ok-clause-known : goal.returns-in-Ok-clause-known
returns-in-Ok-clause-known g c = known_open g.D.Disk _ (returns-in-Ok-clause-opened g c)

pub returns-in-Ok-clause-moments : goal.returns-in-Ok-clause-moments
returns-in-Ok-clause-moments g c told =
    weaker g.D.Disk.moment g.D.Disk.left_since c.args.record.now.disk c.append.new.disk (IsBeforeOrAfter (record_of (g.D.Disk.seen c.args.record.now.disk)) c.args.entry) _
    (c.append.ensures.any_moment told)
    (λ bytes h. one_more_whole (entries_in c.args.record.now) _ (doubt_in c.args.record.now) c.args.entry (record_of (g.D.Disk.seen c.args.record.now.disk)) bytes (c.requires.opened.holds told) (returns-in-Ok-clause-appends g c).0 h)

pub returns-in-Full-clause-appends : goal.returns-in-Full-clause-appends
returns-in-Full-clause-appends g c =
    let same = full_unmoved _ _ c.in-Err.fault c.in-Full.length c.in-Full.need c.in-Full.room c.in-Full.is c.in-Err.ensures.fault in
    let since = full_since (Unit {0}) _ _ _ _ _ c.in-Err.fault c.in-Full.length c.in-Full.need c.in-Full.room c.in-Full.is c.in-Err.ensures.cause in (
      refl,
      (
        same.1,
        refl,
        λ t. c.requires.opened.stands.length_is t ∙ sym since.1,
        since.2,
        since.3,
        (let a = since.0 in let b = since.1 in let d = since.2 in let e = since.3 in omega (arith, a, b, d, e)),
      ),
    )

pub returns-in-Full-clause-known : goal.returns-in-Full-clause-known
returns-in-Full-clause-known g c =
    let same = full_unmoved _ _ c.in-Err.fault c.in-Full.length c.in-Full.need c.in-Full.room c.in-Full.is c.in-Err.ensures.fault in
    subst (λ d. IsKnown g.D.Disk d (entries_in c.args.record.now) (doubt_in c.args.record.now)) (sym same.1) (known_open g.D.Disk c.args.record.now c.requires.opened)

pub returns-in-Full-clause-moments : goal.returns-in-Full-clause-moments
returns-in-Full-clause-moments g c told =
    let same = full_unmoved _ _ c.in-Err.fault c.in-Full.length c.in-Full.need c.in-Full.room c.in-Full.is c.in-Err.ensures.fault in
    subst (λ d. Rattle.cf_disk.specs.Disk.LeavesOnly g.D.Disk.moment g.D.Disk.left_since c.args.record.now.disk d (LeavesOneMore (entries_in c.args.record.now) (entries_in c.args.record.now) (doubt_in c.args.record.now))) (sym same.1)
    (started g.D.Disk.moment g.D.Disk.left_since c.args.record.now.disk _
    (λ bytes left. inl (ap record_of (c.requires.opened.stands.durable told bytes (g.met.D.Disk.only_now c.args.record.now.disk bytes told left)) ∙ c.requires.opened.holds told)))

pub returns-in-DiskFault-clause-appends : goal.returns-in-DiskFault-clause-appends
returns-in-DiskFault-clause-appends g c =
    let since = fault_since (Unit {0}) _ _ _ _ _ c.in-Err.fault c.in-DiskFault.is c.in-Err.ensures.cause in (
      refl,
      (
        (c.append.ensures.count, since.1),
        ap Some c.of-kept.ensures,
        λ t. let long = c.requires.opened.stands.length_is t in let within = since.0 in omega (arith, long, within),
      ),
    )

pub returns-in-DiskFault-clause-known : goal.returns-in-DiskFault-clause-known
returns-in-DiskFault-clause-known g c =
    let either : IsTrue g.D.Disk.tells → (bytes : List ℕ) → g.D.Disk.may_leave c.append.new.disk bytes → HasKnown (entries_in c.args.record.now) (Some c.args.entry) bytes =
    λ told bytes now. known_either (entries_in c.args.record.now) c.args.entry (record_of (g.D.Disk.seen c.args.record.now.disk)) bytes (c.requires.opened.holds told)
    ((c.append.ensures.any_moment told).each bytes (g.met.D.Disk.counts_now c.append.new.disk (g.D.Disk.moment c.args.record.now.disk) bytes told (c.append.ensures.any_moment told).later now)) in
    subst (λ o. IsKnown g.D.Disk c.append.new.disk (entries_in c.args.record.now) (Some o)) (sym c.of-kept.ensures) (record {
      now = λ told. either told (g.D.Disk.seen c.append.new.disk) (g.met.D.Disk.seen_may_stay c.append.new.disk told);
      each = λ told bytes now. either told bytes now;
    })

pub returns-in-DiskFault-clause-moments : goal.returns-in-DiskFault-clause-moments
returns-in-DiskFault-clause-moments g c told =
    weaker g.D.Disk.moment g.D.Disk.left_since c.args.record.now.disk c.append.new.disk (IsBeforeOrAfter (record_of (g.D.Disk.seen c.args.record.now.disk)) c.args.entry) _
    (c.append.ensures.any_moment told)
    (λ bytes h. subst (λ o. LeavesOneMore (entries_in c.args.record.now) (entries_in c.args.record.now) (Some o) bytes) (sym c.of-kept.ensures)
    (one_more_doubt (entries_in c.args.record.now) c.args.entry (record_of (g.D.Disk.seen c.args.record.now.disk)) bytes (c.requires.opened.holds told) h))

pub returns-in-Ok-clause-keeps : goal.returns-in-Ok-clause-keeps
returns-in-Ok-clause-keeps g c = record { room = c.append.ensures.room; count = c.append.ensures.count }

pub returns-in-Full-clause-keeps : goal.returns-in-Full-clause-keeps
returns-in-Full-clause-keeps g c = record { room = c.append.ensures.room; count = c.append.ensures.count }

pub returns-in-DiskFault-clause-keeps : goal.returns-in-DiskFault-clause-keeps
returns-in-DiskFault-clause-keeps g c = record { room = c.append.ensures.room; count = c.append.ensures.count }
