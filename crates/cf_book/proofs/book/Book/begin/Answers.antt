use Rattle.std.proofs.Common.{inl, ℕ, Ok, Err, map, refl, sym, ◌∙◌, ap, subst}
use Rattle.cf_prepare.specs.declared.wish.Order.TheVariants.{Begin, Resume}
use Rattle.cf_disk.specs.Disk.{LeavesOnly}
use Rattle.cf_next.specs.Chosen.{schemas_of}
use Rattle.cf_book.specs.Beginning.{BeginsAs, BeginsLife, IsPrepared}
use Rattle.cf_book.specs.Calls.{stopped_by}
use Rattle.cf_book.specs.Inside.{doubt_in, entries_in}
use Rattle.cf_book.specs.Record.{IsKnown, LeavesOneMore, world_left}
use Rattle.cf_book.specs.State.{BookNow, home_of}
use Rattle.cf_book.proofs.Appended.{same_room, unmoved}
use Rattle.cf_book.proofs.Begins.{begins_as, begins_life_as, nothing_begins}
use Rattle.cf_book.proofs.book.Book.begin.Goals as goal

pub begin_by-requires-clause-running : goal.begin_by-requires-clause-running
begin_by-requires-clause-running g c = sym (ap (λ (b : BookNow g.row.D.Denot). b.stopped) c.self.view_is) ∙ c.in-None.is

pub begin_by-requires-clause-prepared : goal.begin_by-requires-clause-prepared
begin_by-requires-clause-prepared g c =
    subst (IsPrepared (schemas_of (map home_of c.args.self.now.lanes)) (world_left c.args.self.now.entries)) c.in-Begin.is c.requires

pub unreachable-requires : goal.unreachable-requires
unreachable-requires g c =
    subst (IsPrepared (schemas_of (map home_of c.args.self.now.lanes)) (world_left c.args.self.now.entries)) c.in-Review.is c.requires

pub returns-in-Some-clause-begins : goal.returns-in-Some-clause-begins
returns-in-Some-clause-begins g c =
    subst (λ s. BeginsAs g.D.Disk c.args.self.now c.args.self.now c.args.order s (Err c.in-Some.fault)) (sym (sym (ap (λ (b : BookNow g.row.D.Denot). b.stopped) c.self.view_is) ∙ c.in-Some.is))
    (refl, record { disk = refl; entries = refl; doubt = refl })

pub returns-in-Some-clause-moves : goal.returns-in-Some-clause-moves
returns-in-Some-clause-moves g c schemas life described stands holds =
    subst (λ s. BeginsLife schemas life c.args.self.now c.args.order s (Err c.in-Some.fault)) (sym (sym (ap (λ (b : BookNow g.row.D.Denot). b.stopped) c.self.view_is) ∙ c.in-Some.is))
    (nothing_begins schemas life c.args.self.now c.args.order c.in-Some.fault (Err c.in-Some.fault) stands)

pub returns-in-Some-clause-moments : goal.returns-in-Some-clause-moments
returns-in-Some-clause-moments g c told =
    subst (λ (b : BookNow g.row.D.Denot). LeavesOnly g.D.Disk.moment g.D.Disk.left_since b.disk b.disk (LeavesOneMore b.entries b.entries b.doubt)) c.self.view_is
    (unmoved g.D.Disk c.self.inside.record.disk (entries_in c.self.inside.record) (doubt_in c.self.inside.record) told
    (λ bytes left. g.met.D.Disk.only_now c.self.inside.record.disk bytes told left) c.self.invariant.0.known)

pub returns-in-Some-clause-known : goal.returns-in-Some-clause-known
returns-in-Some-clause-known g c = subst (λ (b : BookNow g.row.D.Denot). IsKnown g.D.Disk b.disk b.entries b.doubt) c.self.view_is c.self.invariant.0.known

pub returns-in-Begin-clause-begins : goal.returns-in-Begin-clause-begins
returns-in-Begin-clause-begins g c =
    begins_as g.D.Disk c.args.self.now c.begin_by.new.self c.args.order (Begin c.in-Begin.entry) c.args.self.now.stopped c.begin_by.result c.in-Begin.is (sym (ap (λ (b : BookNow g.row.D.Denot). b.stopped) c.self.view_is) ∙ c.in-None.is)
    c.begin_by.ensures.begins

pub returns-in-Begin-clause-stopped : goal.returns-in-Begin-clause-stopped
returns-in-Begin-clause-stopped g c =
    c.begin_by.ensures.stopped ∙ ap (λ s. stopped_by s c.begin_by.result) (sym (sym (ap (λ (b : BookNow g.row.D.Denot). b.stopped) c.self.view_is) ∙ c.in-None.is))

pub returns-in-Begin-clause-moves : goal.returns-in-Begin-clause-moves
returns-in-Begin-clause-moves g c schemas life described stands holds =
    begins_life_as schemas life c.begin_by.new.self c.args.order (Begin c.in-Begin.entry) c.args.self.now.stopped c.begin_by.result c.in-Begin.is (sym (ap (λ (b : BookNow g.row.D.Denot). b.stopped) c.self.view_is) ∙ c.in-None.is)
    (c.begin_by.ensures.moves schemas life described stands holds)

pub returns-in-Resume-clause-begins : goal.returns-in-Resume-clause-begins
returns-in-Resume-clause-begins g c =
    begins_as g.D.Disk c.args.self.now c.args.self.now c.args.order (Resume c.in-Resume.number) c.args.self.now.stopped (Ok c.in-Resume.number) c.in-Resume.is (sym (ap (λ (b : BookNow g.row.D.Denot). b.stopped) c.self.view_is) ∙ c.in-None.is)
    (refl, record { disk = refl; entries = refl; doubt = refl })

pub returns-in-Resume-clause-moves : goal.returns-in-Resume-clause-moves
returns-in-Resume-clause-moves g c schemas life described stands holds =
    begins_life_as schemas life c.args.self.now c.args.order (Resume c.in-Resume.number) c.args.self.now.stopped (Ok c.in-Resume.number) c.in-Resume.is (sym (ap (λ (b : BookNow g.row.D.Denot). b.stopped) c.self.view_is) ∙ c.in-None.is)
    (record { after = life; happen = refl; stands = stands })

pub returns-in-Resume-clause-moments : goal.returns-in-Resume-clause-moments
returns-in-Resume-clause-moments g c told =
    subst (λ (b : BookNow g.row.D.Denot). LeavesOnly g.D.Disk.moment g.D.Disk.left_since b.disk b.disk (LeavesOneMore b.entries b.entries b.doubt)) c.self.view_is
    (unmoved g.D.Disk c.self.inside.record.disk (entries_in c.self.inside.record) (doubt_in c.self.inside.record) told
    (λ bytes left. g.met.D.Disk.only_now c.self.inside.record.disk bytes told left) c.self.invariant.0.known)

pub returns-in-Resume-clause-known : goal.returns-in-Resume-clause-known
returns-in-Resume-clause-known g c = subst (λ (b : BookNow g.row.D.Denot). IsKnown g.D.Disk b.disk b.entries b.doubt) c.self.view_is c.self.invariant.0.known

pub returns-in-Resume-clause-stopped : goal.returns-in-Resume-clause-stopped
returns-in-Resume-clause-stopped g c = (sym (ap (λ (b : BookNow g.row.D.Denot). b.stopped) c.self.view_is) ∙ c.in-None.is) ∙ ap (λ s. stopped_by s (Ok c.in-Resume.number)) (sym (sym (ap (λ (b : BookNow g.row.D.Denot). b.stopped) c.self.view_is) ∙ c.in-None.is))

pub returns-in-Some-clause-stopped : goal.returns-in-Some-clause-stopped
returns-in-Some-clause-stopped g c = (sym (ap (λ (b : BookNow g.row.D.Denot). b.stopped) c.self.view_is) ∙ c.in-Some.is) ∙ ap (λ s. stopped_by {T = ℕ} s (Err c.in-Some.fault)) (sym (sym (ap (λ (b : BookNow g.row.D.Denot). b.stopped) c.self.view_is) ∙ c.in-Some.is))

pub returns-in-Resume-clause-begun : goal.returns-in-Resume-clause-begun
returns-in-Resume-clause-begun g c =
    inl (subst (IsPrepared (schemas_of (map home_of c.args.self.now.lanes)) (world_left c.args.self.now.entries)) c.in-Resume.is c.requires)

pub returns-in-Some-clause-disk : goal.returns-in-Some-clause-disk
returns-in-Some-clause-disk g c = same_room g.D.Disk c.args.self.now.disk

pub returns-in-Resume-clause-disk : goal.returns-in-Resume-clause-disk
returns-in-Resume-clause-disk g c = same_room g.D.Disk c.args.self.now.disk

pub returns-in-Some-clause-still_begun : goal.returns-in-Some-clause-still_begun
returns-in-Some-clause-still_begun g c m begun = begun

pub returns-in-Resume-clause-still_begun : goal.returns-in-Resume-clause-still_begun
returns-in-Resume-clause-still_begun g c m begun = begun
