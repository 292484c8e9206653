use Rattle.std.proofs.Common.{◌≡◌, List, sym, ◌∙◌, ap, subst}
use Rattle.cf_disk.specs.Disk.{Only}
use Rattle.cf_book.specs.Calls.{AreHandlersOf}
use Rattle.cf_book.specs.Inside.{doubt_in, entries_in}
use Rattle.cf_book.specs.Record.{IsKnown}
use Rattle.cf_book.specs.State.{BookNow, NoneOut}
use Rattle.cf_book.proofs.Standing.{may_close}
use Rattle.cf_book.proofs.book.Book.close.Goals as goal

pub handlers_of-requires-clause-home : goal.handlers_of-requires-clause-home
handlers_of-requires-clause-home g c = subst (λ (b : BookNow g.row.D.Denot). NoneOut b.lanes) (sym c.self.view_is) c.requires

pub handlers_of-requires-clause-empty : goal.handlers_of-requires-clause-empty
handlers_of-requires-clause-empty g c = c.self.invariant.1.empty

pub handlers_of-requires-clause-room : goal.handlers_of-requires-clause-room
handlers_of-requires-clause-room g c = c.self.invariant.1.room

pub returns-clause-disk : goal.returns-clause-disk
returns-clause-disk g c = c.into_disk.ensures ∙ ap (λ (b : BookNow g.row.D.Denot). b.disk) c.self.view_is

pub returns-clause-handlers : goal.returns-clause-handlers
returns-clause-handlers g c =
    subst (λ (b : BookNow g.row.D.Denot). AreHandlersOf g.H.Handler b.lanes c.handlers_of.result.items) c.self.view_is c.handlers_of.ensures

pub returns-clause-known : goal.returns-clause-known
returns-clause-known g c =
    let r = c.self.inside.record in
    subst (λ (b : BookNow g.row.D.Denot). IsKnown g.D.Disk c.into_disk.result b.entries b.doubt) c.self.view_is
    (subst (λ (d : g.row.D.Denot). IsKnown g.D.Disk d (entries_in r) (doubt_in r)) (sym c.into_disk.ensures) c.self.invariant.0.known)

pub returns-clause-moves : goal.returns-clause-moves
returns-clause-moves g c schemas life stands = may_close c.args.self schemas life c.requires stands

pub returns-clause-lasts : goal.returns-clause-lasts
returns-clause-lasts g c runs told =
    let stopped = ap (λ (b : BookNow g.row.D.Denot). b.stopped) c.self.view_is ∙ runs in
    subst (λ (d : g.row.D.Denot). Only (g.D.Disk.seen d) (g.D.Disk.may_leave d)) (sym c.into_disk.ensures)
    ((c.self.invariant.0.ready stopped).appends.stands.durable told)
