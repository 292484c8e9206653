use Rattle.std.proofs.Common.{◌≡◌, ◌<◌, ◌^◌, length, inl, None, Some, Result, Ok, Err, refl, sym, ◌∙◌, ap, subst}
use Rattle.cf_disk.specs.Disk.{LeavesOnly}
use Rattle.cf_book.specs.Calls.{stopped_by}
use Rattle.cf_book.specs.Granting.{GrantsAs}
use Rattle.cf_book.specs.Inside.{doubt_in, entries_in, places_now}
use Rattle.cf_book.specs.Record.{IsKnown, LeavesOneMore}
use Rattle.cf_book.specs.State.{BookNow}
use Rattle.cf_book.specs.declared.granting.Grant.{Grant}
use Rattle.cf_book.specs.declared.granting.Grant.TheVariants.{Lease}
use Rattle.cf_book.specs.declared.stop.StopFault.{StopFault}
use Rattle.cf_book.proofs.Appended.{same_room, unmoved}
use Rattle.cf_book.proofs.Durable.{durable_by}
use Rattle.cf_book.proofs.GrantBegun.{step_is_begun, step_still_begun}
use Rattle.cf_book.proofs.InTime.{few_entries}
use Rattle.cf_book.proofs.Moved.{stands_apart, sure}
use Rattle.cf_book.proofs.Placed.{finds_lane}
use Rattle.cf_book.proofs.Stuck.{never_stuck}
use Rattle.cf_book.proofs.book.Book.grant.Goals as goal

pub step-requires-clause-running : goal.step-requires-clause-running
step-requires-clause-running g c = (sym (ap (λ (b : BookNow g.row.D.Denot). b.stopped) c.self.view_is) ∙ c.in-None.is)

pub returns-in-Some-clause-grants : goal.returns-in-Some-clause-grants
returns-in-Some-clause-grants g c =
    subst (λ s. GrantsAs g.D.Disk g.H.Handler c.args.self.now c.args.self.now c.args.number s (Err c.in-Some.fault)) (sym (sym (ap (λ (b : BookNow g.row.D.Denot). b.stopped) c.self.view_is) ∙ c.in-Some.is)) (refl, (record { disk = refl; entries = refl; doubt = refl }, record { lanes = refl; granted = refl }))

pub returns-in-Some-clause-stopped : goal.returns-in-Some-clause-stopped
returns-in-Some-clause-stopped g c = (sym (ap (λ (b : BookNow g.row.D.Denot). b.stopped) c.self.view_is) ∙ c.in-Some.is) ∙ ap (λ s. stopped_by {T = Grant g.row.H.Denot} s (Err c.in-Some.fault)) (sym (sym (ap (λ (b : BookNow g.row.D.Denot). b.stopped) c.self.view_is) ∙ c.in-Some.is))

pub returns-in-Some-clause-durable : goal.returns-in-Some-clause-durable
returns-in-Some-clause-durable g c lease is = absurd (let no : ◌≡◌ {A = Result (Grant g.row.H.Denot) StopFault} (Err c.in-Some.fault) (Ok (Lease lease)) = is in cc)

pub returns-in-Some-clause-moments : goal.returns-in-Some-clause-moments
returns-in-Some-clause-moments g c told =
    subst (λ (b : BookNow g.row.D.Denot). LeavesOnly g.D.Disk.moment g.D.Disk.left_since b.disk b.disk (LeavesOneMore b.entries b.entries b.doubt)) c.self.view_is
    (unmoved g.D.Disk c.self.inside.record.disk (entries_in c.self.inside.record) (doubt_in c.self.inside.record) told
    (λ bytes left. g.met.D.Disk.only_now c.self.inside.record.disk bytes told left) c.self.invariant.0.known)

pub returns-in-Some-clause-known : goal.returns-in-Some-clause-known
returns-in-Some-clause-known g c = subst (λ (b : BookNow g.row.D.Denot). IsKnown g.D.Disk b.disk b.entries b.doubt) c.self.view_is c.self.invariant.0.known

pub returns-in-Some-clause-moves : goal.returns-in-Some-clause-moves
returns-in-Some-clause-moves g c schemas life described stands holds =
    inl (record { disk = refl; entries = refl; doubt = refl }, record { after = life; happen = refl; stands = stands })

pub returns-in-None-clause-grants : goal.returns-in-None-clause-grants
returns-in-None-clause-grants g c =
    subst (λ s. GrantsAs g.D.Disk g.H.Handler c.args.self.now c.step.new.self c.args.number s c.step.result) (sym (sym (ap (λ (b : BookNow g.row.D.Denot). b.stopped) c.self.view_is) ∙ c.in-None.is)) c.step.ensures.grants

pub returns-in-None-clause-stopped : goal.returns-in-None-clause-stopped
returns-in-None-clause-stopped g c = c.step.ensures.stopped ∙ ap (λ s. stopped_by s c.step.result) (sym (sym (ap (λ (b : BookNow g.row.D.Denot). b.stopped) c.self.view_is) ∙ c.in-None.is))

pub returns-in-None-clause-durable : goal.returns-in-None-clause-durable
returns-in-None-clause-durable g c lease is =
    durable_by g.D.Disk g.H.Handler c.args.self.now c.step.new.self c.args.number c.step.ensures.known lease c.args.self.now.stopped c.step.result
    (returns-in-None-clause-grants g c) is

pub returns-in-Some-clause-begun : goal.returns-in-Some-clause-begun
returns-in-Some-clause-begun g c = c.requires

pub returns-in-None-clause-begun : goal.returns-in-None-clause-begun
returns-in-None-clause-begun g c =
    step_is_begun g.D.Disk c.args.self.now c.step.new.self c.args.number g.H.Handler c.step.result c.requires c.step.ensures.grants

pub returns-in-Some-clause-still_begun : goal.returns-in-Some-clause-still_begun
returns-in-Some-clause-still_begun g c m begun = begun

pub returns-in-None-clause-still_begun : goal.returns-in-None-clause-still_begun
returns-in-None-clause-still_begun g c m begun =
    step_still_begun g.D.Disk g.H.Handler c.args.self.now c.step.new.self c.args.number
    (stands_apart g.D.Disk c.self.inside.record c.self.inside.record (places_now g.H.Handler c.self.inside.places.items) c.self.inside.homes c.self.inside.has_granted
    c.self.inside.stopped c.args.self.now c.self.view_is (sym (ap (λ (b : BookNow g.row.D.Denot). b.stopped) c.self.view_is) ∙ c.in-None.is) c.self.invariant.0)
    c.step.result c.requires m begun c.step.ensures.grants

pub returns-in-Some-clause-disk : goal.returns-in-Some-clause-disk
returns-in-Some-clause-disk g c = same_room g.D.Disk c.args.self.now.disk

pub returns-in-Some-clause-never_stuck : goal.returns-in-Some-clause-never_stuck
returns-in-Some-clause-never_stuck g c schemas life running =
    absurd (let no : None ≡ Some c.in-Some.fault = sym running ∙ sym (ap (λ (b : BookNow g.row.D.Denot). b.stopped) c.self.view_is) ∙ c.in-Some.is in cc)

pub returns-in-None-clause-never_stuck : goal.returns-in-None-clause-never_stuck
returns-in-None-clause-never_stuck g c schemas life running =
    never_stuck schemas life c.args.self.now c.args.number
    (sure g.D.Disk c.self.inside.record c.self.inside.record (places_now g.H.Handler c.self.inside.places.items) c.self.inside.homes c.self.inside.has_granted
    c.self.inside.stopped c.args.self.now c.self.view_is running c.self.invariant.0)

pub returns-in-Some-clause-bounded : goal.returns-in-Some-clause-bounded
returns-in-Some-clause-bounded g c = subst (λ (b : BookNow g.row.D.Denot). length b.entries < 2 ^ 64) c.self.view_is (few_entries c.self.inside.record)

pub returns-in-None-clause-bounded : goal.returns-in-None-clause-bounded
returns-in-None-clause-bounded g c = subst (λ (b : BookNow g.row.D.Denot). length b.entries < 2 ^ 64) c.self.view_is (few_entries c.self.inside.record)

pub returns-in-Some-clause-finds_lane : goal.returns-in-Some-clause-finds_lane
returns-in-Some-clause-finds_lane g c schemas life running =
    absurd (let no : None ≡ Some c.in-Some.fault = sym running ∙ sym (ap (λ (b : BookNow g.row.D.Denot). b.stopped) c.self.view_is) ∙ c.in-Some.is in cc)

pub returns-in-None-clause-finds_lane : goal.returns-in-None-clause-finds_lane
returns-in-None-clause-finds_lane g c schemas life running =
    finds_lane schemas life c.args.self.now c.args.number
    (sure g.D.Disk c.self.inside.record c.self.inside.record (places_now g.H.Handler c.self.inside.places.items) c.self.inside.homes c.self.inside.has_granted
    c.self.inside.stopped c.args.self.now c.self.view_is running c.self.invariant.0)
