use Rattle.std.proofs.Common.{IsTrue, List, ℕ, ◌∷◌, ◌++◌, [], None, Some, Ok, arith, ap, inl, refl, subst, sym, ◌∙◌}
use Rattle.cf_disk.specs.Disk.{LeavesOnly}
use Rattle.cf_entry.specs.declared.entry.Entry.{Entry}
use Rattle.cf_journal.proofs.Moments.{started}
use Rattle.cf_journal.specs.Record.{IsBeforeOrAfter, one_more, record_of}
use Rattle.cf_book.specs.Record.{HasKnown, IsKnown}
use Rattle.cf_book.proofs.Appended.{fault_since, full_since, full_unmoved, known_either}
use Rattle.cf_top.proofs.reviewing.write_set.Goals as goal

-- the set is appended
pub returns-in-Ok-clause-writes : goal.returns-in-Ok-clause-writes
returns-in-Ok-clause-writes g c es held = (
  record {
    now = λ told. inl (c.in-Ok.ensures.added told ∙ ap (λ r. one_more r c.args.set.now) (held told));
    each = λ told file left.
        inl (ap record_of (c.in-Ok.ensures.acknowledged.durable told file left) ∙ c.in-Ok.ensures.added told ∙ ap (λ r. one_more r c.args.set.now) (held told));
  },
  λ told. let long = c.requires.stands.length_is told in let within = c.in-Ok.ensures.cause in let same = c.reserve.ensures.length in omega (arith, long, within, same),
)

pub returns-then-is_err-clause-writes : goal.returns-then-is_err-clause-writes
returns-then-is_err-clause-writes g c es held = refl

-- there is no room, and nothing is written
pub returns-in-Full-clause-writes : goal.returns-in-Full-clause-writes
returns-in-Full-clause-writes g c es held =
    let same = full_unmoved _ _ c.in-Err.fault c.in-Full.length c.in-Full.need c.in-Full.room c.in-Full.is c.in-Err.ensures.fault in
    let since = full_since (Unit {0}) _ _ _ _ _ c.in-Err.fault c.in-Full.length c.in-Full.need c.in-Full.room c.in-Full.is c.in-Err.ensures.cause in (
      same.1,
      (λ told. c.requires.stands.length_is told ∙ sym c.reserve.ensures.length ∙ sym since.1),
      since.2,
      since.3,
      (let a = since.0 in let b = since.1 in let d = since.2 in let e = since.3 in omega (arith, a, b, d, e)),
    )

pub returns-in-Full-clause-any_moment : goal.returns-in-Full-clause-any_moment
returns-in-Full-clause-any_moment g c told =
    let same = full_unmoved _ _ c.in-Err.fault c.in-Full.length c.in-Full.need c.in-Full.room c.in-Full.is c.in-Err.ensures.fault in
    subst (λ d. LeavesOnly g.D.Disk.moment g.D.Disk.left_since c.args.disk.now d (IsBeforeOrAfter (record_of (g.D.Disk.seen c.args.disk.now)) c.args.set.now)) (sym same.1)
    (started g.D.Disk.moment g.D.Disk.left_since c.args.disk.now (IsBeforeOrAfter (record_of (g.D.Disk.seen c.args.disk.now)) c.args.set.now)
    (λ file left. inl (ap record_of (c.requires.stands.durable told file (g.met.D.Disk.only_now c.args.disk.now file told left)))))

-- the disk failed, and may have it
pub returns-in-DiskFault-clause-writes : goal.returns-in-DiskFault-clause-writes
returns-in-DiskFault-clause-writes g c es held =
    let since = fault_since (Unit {0}) _ _ _ _ _ c.in-Err.fault c.in-DiskFault.is c.in-Err.ensures.cause in
    let either : IsTrue g.D.Disk.tells → (file : List ℕ) → g.D.Disk.may_leave c.append.new.disk file → HasKnown es (Some c.args.set.now) file =
    λ told file left. known_either es c.args.set.now (record_of (g.D.Disk.seen c.args.disk.now)) file (held told)
    ((c.append.ensures.any_moment told).each file (g.met.D.Disk.counts_now c.append.new.disk (g.D.Disk.moment c.args.disk.now) file told (c.append.ensures.any_moment told).later left)) in (
      record {
        now = λ told. either told (g.D.Disk.seen c.append.new.disk) (g.met.D.Disk.seen_may_stay c.append.new.disk told);
        each = either;
      },
      since.1,
      (λ told. let long = c.requires.stands.length_is told in let within = since.0 in let same = c.reserve.ensures.length in omega (arith, long, within, same)),
    )

-- no memory was there, and nothing is written
pub returns-then-is_err-clause-any_moment : goal.returns-then-is_err-clause-any_moment
returns-then-is_err-clause-any_moment g c told =
    started g.D.Disk.moment g.D.Disk.left_since c.args.disk.now (IsBeforeOrAfter (record_of (g.D.Disk.seen c.args.disk.now)) c.args.set.now)
    (λ file left. inl (ap record_of (c.requires.stands.durable told file (g.met.D.Disk.only_now c.args.disk.now file told left))))
