use Rattle.std.proofs.Common.{refl, subst}
use Rattle.cf_disk.specs.Disk.{LeavesOnly}
use Rattle.cf_book.specs.Entering.{LeavesEither, disk_after}
use Rattle.cf_book.specs.Fences.{handed_in}
use Rattle.cf_book.specs.Finding.{RefusesHanded, entries_of}
use Rattle.cf_book.proofs.Appended.{same_room}
use Rattle.cf_book.proofs.Opens.{entered_over, entry_found, of_slice, ready_found, refused_over, unopened}
use Rattle.cf_book.proofs.entering.enter_over.Goals as goal

pub open-requires-clause-record : goal.open-requires-clause-record
open-requires-clause-record g c = ready_found g.D.Disk c.args.disk c.args.found c.requires

pub open-requires-clause-room : goal.open-requires-clause-room
open-requires-clause-room g c =
    (of_slice g.H.Handler c.args.found.world.world _ c.args.lanes.items c.in-Ok.room c.in-Ok.entry c.as_slice.ensures.value c.in-Ok.ensures).2

pub open-requires-clause-opening : goal.open-requires-clause-opening
open-requires-clause-opening g c =
    entry_found g.D.Disk c.args.disk c.args.found c.requires g.H.Handler c.args.lanes.items c.in-Ok.entry
    (of_slice g.H.Handler c.args.found.world.world _ c.args.lanes.items c.in-Ok.room c.in-Ok.entry c.as_slice.ensures.value c.in-Ok.ensures).1

pub returns-in-Ok-clause-enters : goal.returns-in-Ok-clause-enters
returns-in-Ok-clause-enters g c =
    let prepared = of_slice g.H.Handler c.args.found.world.world _ c.args.lanes.items c.in-Ok.room c.in-Ok.entry c.as_slice.ensures.value c.in-Ok.ensures in
    entered_over g.D.Disk c.args.disk c.args.found c.requires g.H.Handler c.args.lanes.items c.in-Ok.entry _ prepared.0 prepared.1
    c.open.ensures.opens

pub returns-in-Ok-clause-moments : goal.returns-in-Ok-clause-moments
returns-in-Ok-clause-moments g c told =
    let prepared = of_slice g.H.Handler c.args.found.world.world _ c.args.lanes.items c.in-Ok.room c.in-Ok.entry c.as_slice.ensures.value c.in-Ok.ensures in
    let es = entries_of c.args.found.entries.items in
    subst (λ e. LeavesOnly g.D.Disk.moment g.D.Disk.left_since c.args.disk (disk_after c.open.result) (LeavesEither es e))
    (entry_found g.D.Disk c.args.disk c.args.found c.requires g.H.Handler c.args.lanes.items c.in-Ok.entry prepared.1) (c.open.ensures.moments told)

pub returns-in-Err-clause-enters : goal.returns-in-Err-clause-enters
returns-in-Err-clause-enters g c =
    refused_over g.D.Disk c.args.disk c.args.found c.requires g.H.Handler c.args.lanes.items
    (record { fault = c.in-Err.fault; disk = c.args.disk; lanes = c.args.lanes }) refl refl
    (subst (λ ks. RefusesHanded (handed_in g.H.Handler ks) c.args.found.world.world c.in-Err.fault) c.as_slice.ensures.value c.in-Err.ensures)

pub returns-in-Err-clause-keeps : goal.returns-in-Err-clause-keeps
returns-in-Err-clause-keeps g c = same_room g.D.Disk c.args.disk

pub returns-in-Err-clause-moments : goal.returns-in-Err-clause-moments
returns-in-Err-clause-moments g c told =
    unopened g.D.Disk c.args.disk c.args.found c.requires _ told (λ bytes left. g.met.D.Disk.only_now c.args.disk bytes told left)
