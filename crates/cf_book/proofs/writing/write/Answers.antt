use Rattle.std.proofs.Common.{arith, subst}
use Rattle.cf_book.specs.Inside.{doubt_in, entries_in}
use Rattle.cf_book.specs.Record.{KeepsRoom}
use Rattle.cf_book.proofs.Appended.{known_open, same_room, unmoved}
use Rattle.cf_book.proofs.Roomed.{moments_so, open_kept, places_so, same_doubt, same_entries, steps_so, world_kept, writes_so}
use Rattle.cf_book.proofs.writing.write.Goals as goal

pub append-requires-clause-opened : goal.append-requires-clause-opened
append-requires-clause-opened g c =
    open_kept g.D.Disk c.args.record.now c.make_room.new.record c.make_room.ensures.disk c.make_room.ensures.entries c.make_room.ensures.doubt c.requires.opened c.make_room.ensures.length
    c.make_room.ensures.broken

pub append-requires-clause-world : goal.append-requires-clause-world
append-requires-clause-world g c =
    world_kept g.D.Disk c.args.record.now c.make_room.new.record c.make_room.ensures.disk c.make_room.ensures.entries c.make_room.ensures.doubt c.args.entry c.make_room.ensures.world
    c.requires.world

pub returns-in-Ok-clause-writes : goal.returns-in-Ok-clause-writes
returns-in-Ok-clause-writes g c =
    writes_so g.D.Disk c.args.record.now c.make_room.new.record c.make_room.ensures.disk c.make_room.ensures.entries c.make_room.ensures.doubt c.append.new.record c.args.entry _ c.append.ensures.appends

pub returns-in-Ok-clause-steps : goal.returns-in-Ok-clause-steps
returns-in-Ok-clause-steps g c =
    steps_so c.args.record.now.world c.make_room.new.record.world c.append.new.record.world c.args.entry _ c.make_room.ensures.world c.append.ensures.stepped

pub returns-in-Ok-clause-places : goal.returns-in-Ok-clause-places
returns-in-Ok-clause-places g c =
    places_so g.D.Disk c.make_room.new.record c.append.new.record c.args.entry c.args.calls _ c.in-Ok.ensures.places c.append.ensures.capacity c.append.ensures.appends

pub returns-in-Ok-clause-moments : goal.returns-in-Ok-clause-moments
returns-in-Ok-clause-moments g c =
    moments_so g.D.Disk c.args.record.now c.make_room.new.record c.make_room.ensures.disk c.make_room.ensures.entries c.make_room.ensures.doubt c.append.new.record.disk
    (entries_in c.append.new.record) (doubt_in c.append.new.record) c.append.ensures.moments

pub returns-in-Err-clause-writes : goal.returns-in-Err-clause-writes
returns-in-Err-clause-writes g c = (c.make_room.ensures.disk, same_entries g.D.Disk c.args.record.now c.make_room.new.record c.make_room.ensures.disk c.make_room.ensures.entries c.make_room.ensures.doubt, same_doubt g.D.Disk c.args.record.now c.make_room.new.record c.make_room.ensures.disk c.make_room.ensures.entries c.make_room.ensures.doubt)

pub returns-in-Err-clause-world : goal.returns-in-Err-clause-world
returns-in-Err-clause-world g c = world_kept g.D.Disk c.args.record.now c.make_room.new.record c.make_room.ensures.disk c.make_room.ensures.entries c.make_room.ensures.doubt c.args.entry c.make_room.ensures.world c.requires.world

pub returns-in-Err-clause-known : goal.returns-in-Err-clause-known
returns-in-Err-clause-known g c =
    known_open g.D.Disk c.make_room.new.record (open_kept g.D.Disk c.args.record.now c.make_room.new.record c.make_room.ensures.disk c.make_room.ensures.entries c.make_room.ensures.doubt c.requires.opened c.make_room.ensures.length c.make_room.ensures.broken)

pub returns-in-Err-clause-moments : goal.returns-in-Err-clause-moments
returns-in-Err-clause-moments g c =
    let mid = c.make_room.new.record in
    moments_so g.D.Disk c.args.record.now c.make_room.new.record c.make_room.ensures.disk c.make_room.ensures.entries c.make_room.ensures.doubt mid.disk (entries_in mid) (doubt_in mid)
    (λ told. unmoved g.D.Disk mid.disk (entries_in mid) (doubt_in mid) told (λ bytes left. g.met.D.Disk.only_now mid.disk bytes told left)
    (known_open g.D.Disk mid (open_kept g.D.Disk c.args.record.now c.make_room.new.record c.make_room.ensures.disk c.make_room.ensures.entries c.make_room.ensures.doubt c.requires.opened c.make_room.ensures.length c.make_room.ensures.broken)))

pub append-requires-clause-places : goal.append-requires-clause-places
append-requires-clause-places g c = let room = c.in-Ok.ensures.places in omega (arith, room)

pub returns-in-Ok-clause-spare : goal.returns-in-Ok-clause-spare
returns-in-Ok-clause-spare g c = let least = c.make_room.ensures.least in let same = c.append.ensures.spare in omega (arith, least, same)

pub returns-in-Ok-clause-keeps : goal.returns-in-Ok-clause-keeps
returns-in-Ok-clause-keeps g c = subst (λ (d : g.row.D.Denot). KeepsRoom g.D.Disk d c.append.new.record.disk) c.make_room.ensures.disk c.append.ensures.keeps

pub returns-in-Err-clause-keeps : goal.returns-in-Err-clause-keeps
returns-in-Err-clause-keeps g c =
    let mid = c.make_room.new.record.disk in
    subst (λ (d : g.row.D.Denot). KeepsRoom g.D.Disk d mid) c.make_room.ensures.disk (same_room g.D.Disk mid)
