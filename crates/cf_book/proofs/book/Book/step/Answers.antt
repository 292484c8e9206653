use Rattle.std.proofs.Common.{inl, Ok, refl, sym, ◌∙◌, ap, subst}
use Rattle.cf_disk.specs.Disk.{LeavesOnly}
use Rattle.cf_book.specs.Ended.{end_status, ended_in}
use Rattle.cf_book.specs.Granting.{GrantsStep}
use Rattle.cf_book.specs.Inside.{doubt_in, entries_in}
use Rattle.cf_book.specs.Record.{IsKnown, LeavesOneMore}
use Rattle.cf_book.specs.State.{BookNow}
use Rattle.cf_book.specs.declared.granting.Grant.TheVariants.{Over}
use Rattle.cf_book.proofs.Appended.{same_room, unmoved}
use Rattle.cf_book.proofs.Closing.{going_by}
use Rattle.cf_book.proofs.book.Book.step.Goals as goal

pub go_on-requires-clause-going : goal.go_on-requires-clause-going
go_on-requires-clause-going g c = going_by c.args.self.now.entries c.args.number c.requires.begun (ap (end_status c.args.number) (sym (c.as_slice.ensures.value ∙ c.self.invariant.2 ∙ ap (λ (b : BookNow g.row.D.Denot). ended_in b.entries) c.self.view_is)) ∙ sym c.end_status.ensures ∙ c.in-None.is)

pub returns-in-Some-clause-grants : goal.returns-in-Some-clause-grants
returns-in-Some-clause-grants g c =
    subst (λ o. GrantsStep g.D.Disk g.H.Handler c.args.self.now c.args.self.now c.args.number o (Ok (Over c.in-Some.status))) (sym (ap (end_status c.args.number) (sym (c.as_slice.ensures.value ∙ c.self.invariant.2 ∙ ap (λ (b : BookNow g.row.D.Denot). ended_in b.entries) c.self.view_is)) ∙ sym c.end_status.ensures ∙ c.in-Some.is))
    (refl, (record { disk = refl; entries = refl; doubt = refl }, record { lanes = refl; granted = refl }))

pub returns-in-Some-clause-stopped : goal.returns-in-Some-clause-stopped
returns-in-Some-clause-stopped g c = c.requires.running

pub returns-in-Some-clause-moments : goal.returns-in-Some-clause-moments
returns-in-Some-clause-moments g c told =
    subst (λ (b : BookNow g.row.D.Denot). LeavesOnly g.D.Disk.moment g.D.Disk.left_since b.disk b.disk (LeavesOneMore b.entries b.entries b.doubt)) c.self.view_is
    (unmoved g.D.Disk c.self.inside.record.disk (entries_in c.self.inside.record) (doubt_in c.self.inside.record) told
    (λ bytes left. g.met.D.Disk.only_now c.self.inside.record.disk bytes told left) c.self.invariant.0.known)

pub returns-in-Some-clause-known : goal.returns-in-Some-clause-known
returns-in-Some-clause-known g c = subst (λ (b : BookNow g.row.D.Denot). IsKnown g.D.Disk b.disk b.entries b.doubt) c.self.view_is c.self.invariant.0.known

pub returns-in-Some-clause-moves : goal.returns-in-Some-clause-moves
returns-in-Some-clause-moves g c schemas life described stands holds =
    inl (record { disk = refl; entries = refl; doubt = refl }, record { after = life; happen = refl; stands = stands })

pub returns-in-None-clause-grants : goal.returns-in-None-clause-grants
returns-in-None-clause-grants g c =
    subst (λ o. GrantsStep g.D.Disk g.H.Handler c.args.self.now c.go_on.new.self c.args.number o c.go_on.result) (sym (ap (end_status c.args.number) (sym (c.as_slice.ensures.value ∙ c.self.invariant.2 ∙ ap (λ (b : BookNow g.row.D.Denot). ended_in b.entries) c.self.view_is)) ∙ sym c.end_status.ensures ∙ c.in-None.is)) c.go_on.ensures.takes

pub returns-in-Some-clause-disk : goal.returns-in-Some-clause-disk
returns-in-Some-clause-disk g c = same_room g.D.Disk c.args.self.now.disk
