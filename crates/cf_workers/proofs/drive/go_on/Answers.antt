use Rattle.std.proofs.Common.{Ok, ap}
use Rattle.cf_lane.specs.Calling.{answered_lane, told_of}
use Rattle.cf_lane.specs.Lanes.{lane_now}
use Rattle.cf_workers.proofs.Rounds.{goes_called, goes_moved, goes_nowhere, goes_over, goes_stopped, goes_unsettled, may_settle}
use Rattle.cf_workers.proofs.drive.go_on.Goals as goal

pub settle-requires : goal.settle-requires
settle-requires g c =
    may_settle g.D.Disk g.H.Handler c.args.number c.args.book.now c.grant.new.self c.requires.rest c.in-Ok-Lease.field-0 c.in-Ok-Lease.lease c.in-Ok-Lease.field-0-is
    (record {
      stopped = c.in-Ok-Lease.ensures.stopped;
      grants = c.in-Ok-Lease.ensures.grants;
      begun = c.in-Ok-Lease.ensures.begun;
      disk = c.in-Ok-Lease.ensures.disk;
      bounded = c.in-Ok-Lease.ensures.bounded;
      moments = c.in-Ok-Lease.ensures.moments;
      known = c.in-Ok-Lease.ensures.known;
      moves = c.in-Ok-Lease.ensures.moves;
      never = c.in-Ok-Lease.ensures.never_stuck;
    })
    (lane_now g.H.Handler (answered_lane c.call.result)) (told_of c.call.result) c.call.ensures

pub unreachable-requires : goal.unreachable-requires
unreachable-requires g c =
    goes_nowhere g.D.Disk g.H.Handler c.args.number c.args.book.now c.grant.new.self c.requires.rest c.in-Ok-Idle.field-0 c.in-Ok-Idle.field-0-is
    (record {
      stopped = c.in-Ok-Idle.ensures.stopped;
      grants = c.in-Ok-Idle.ensures.grants;
      begun = c.in-Ok-Idle.ensures.begun;
      disk = c.in-Ok-Idle.ensures.disk;
      bounded = c.in-Ok-Idle.ensures.bounded;
      moments = c.in-Ok-Idle.ensures.moments;
      known = c.in-Ok-Idle.ensures.known;
      moves = c.in-Ok-Idle.ensures.moves;
      never = c.in-Ok-Idle.ensures.never_stuck;
    })

pub unreachable-unreachable : goal.unreachable-unreachable
unreachable-unreachable g c = c.unreachable.result

pub returns-in-Ok : goal.returns-in-Ok
returns-in-Ok g c =
    goes_called g.D.Disk g.H.Handler c.args.number c.args.book.now c.grant.new.self c.requires.rest c.in-Ok-Lease.field-0 c.in-Ok-Lease.lease c.in-Ok-Lease.field-0-is
    (record {
      stopped = c.in-Ok-Lease.ensures.stopped;
      grants = c.in-Ok-Lease.ensures.grants;
      begun = c.in-Ok-Lease.ensures.begun;
      disk = c.in-Ok-Lease.ensures.disk;
      bounded = c.in-Ok-Lease.ensures.bounded;
      moments = c.in-Ok-Lease.ensures.moments;
      known = c.in-Ok-Lease.ensures.known;
      moves = c.in-Ok-Lease.ensures.moves;
      never = c.in-Ok-Lease.ensures.never_stuck;
    })
    (lane_now g.H.Handler (answered_lane c.call.result)) (told_of c.call.result) c.call.ensures c.settle.new.self (c.in-Ok-Lease.ensures.durable c.in-Ok-Lease.lease (ap Ok c.in-Ok-Lease.field-0-is)) _ c.in-Ok.field-0
    (record {
      home = c.in-Ok.ensures.home;
      stopped = c.in-Ok.ensures.stopped;
      settles = c.in-Ok.ensures.settles;
      begun = c.in-Ok.ensures.begun;
      disk = c.in-Ok.ensures.disk;
      moments = c.in-Ok.ensures.moments;
      known = c.in-Ok.ensures.known;
      moves = c.in-Ok.ensures.moves;
    })

pub returns-in-Err-settle : goal.returns-in-Err-settle
returns-in-Err-settle g c =
    goes_unsettled g.D.Disk g.H.Handler c.args.number c.args.book.now c.grant.new.self c.requires.rest c.in-Ok-Lease.field-0 c.in-Ok-Lease.lease c.in-Ok-Lease.field-0-is
    (record {
      stopped = c.in-Ok-Lease.ensures.stopped;
      grants = c.in-Ok-Lease.ensures.grants;
      begun = c.in-Ok-Lease.ensures.begun;
      disk = c.in-Ok-Lease.ensures.disk;
      bounded = c.in-Ok-Lease.ensures.bounded;
      moments = c.in-Ok-Lease.ensures.moments;
      known = c.in-Ok-Lease.ensures.known;
      moves = c.in-Ok-Lease.ensures.moves;
      never = c.in-Ok-Lease.ensures.never_stuck;
    })
    (lane_now g.H.Handler (answered_lane c.call.result)) (told_of c.call.result) c.call.ensures c.settle.new.self (c.in-Ok-Lease.ensures.durable c.in-Ok-Lease.lease (ap Ok c.in-Ok-Lease.field-0-is)) _ c.in-Err-settle.fault
    (record {
      home = c.in-Err-settle.ensures.home;
      stopped = c.in-Err-settle.ensures.stopped;
      settles = c.in-Err-settle.ensures.settles;
      begun = c.in-Err-settle.ensures.begun;
      disk = c.in-Err-settle.ensures.disk;
      moments = c.in-Err-settle.ensures.moments;
      known = c.in-Err-settle.ensures.known;
      moves = c.in-Err-settle.ensures.moves;
    })

pub returns-in-Ok-Moved : goal.returns-in-Ok-Moved
returns-in-Ok-Moved g c =
    goes_moved g.D.Disk g.H.Handler c.args.number c.args.book.now c.grant.new.self c.requires.rest c.in-Ok-Moved.field-0 c.in-Ok-Moved.field-0-is
    (record {
      stopped = c.in-Ok-Moved.ensures.stopped;
      grants = c.in-Ok-Moved.ensures.grants;
      begun = c.in-Ok-Moved.ensures.begun;
      disk = c.in-Ok-Moved.ensures.disk;
      bounded = c.in-Ok-Moved.ensures.bounded;
      moments = c.in-Ok-Moved.ensures.moments;
      known = c.in-Ok-Moved.ensures.known;
      moves = c.in-Ok-Moved.ensures.moves;
      never = c.in-Ok-Moved.ensures.never_stuck;
    })

pub returns-in-Ok-Over : goal.returns-in-Ok-Over
returns-in-Ok-Over g c =
    goes_over g.D.Disk g.H.Handler c.args.number c.args.book.now c.grant.new.self c.requires.rest c.in-Ok-Over.field-0 c.in-Ok-Over.status c.in-Ok-Over.field-0-is
    (record {
      stopped = c.in-Ok-Over.ensures.stopped;
      grants = c.in-Ok-Over.ensures.grants;
      begun = c.in-Ok-Over.ensures.begun;
      disk = c.in-Ok-Over.ensures.disk;
      bounded = c.in-Ok-Over.ensures.bounded;
      moments = c.in-Ok-Over.ensures.moments;
      known = c.in-Ok-Over.ensures.known;
      moves = c.in-Ok-Over.ensures.moves;
      never = c.in-Ok-Over.ensures.never_stuck;
    })

pub returns-in-Err : goal.returns-in-Err
returns-in-Err g c =
    goes_stopped g.D.Disk g.H.Handler c.args.number c.args.book.now c.grant.new.self c.requires.rest c.in-Err.fault
    (record {
      stopped = c.in-Err.ensures.stopped;
      grants = c.in-Err.ensures.grants;
      begun = c.in-Err.ensures.begun;
      disk = c.in-Err.ensures.disk;
      bounded = c.in-Err.ensures.bounded;
      moments = c.in-Err.ensures.moments;
      known = c.in-Err.ensures.known;
      moves = c.in-Err.ensures.moves;
      never = c.in-Err.ensures.never_stuck;
    })
