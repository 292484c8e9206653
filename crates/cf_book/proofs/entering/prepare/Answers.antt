use Rattle.std.proofs.Common.{◌∙◌, sym}
use Rattle.cf_book.proofs.Opens.{prepared, unprepared}
use Rattle.cf_book.proofs.entering.prepare.Goals as goal

pub returns-in-Ok : goal.returns-in-Ok
returns-in-Ok g c =
    prepared g.H.Handler c.args.lanes.now c.args.world.now.world c.as_slice.result.now (c.as_slice.ensures ∙ c.in_ok-room.ensures.homes)
    c.in_ok-room.ensures.named _ _ (sym c.as_slice.ensures) c.in_ok-room.ensures.empty c.in_ok-room.ensures.room c.in-Ok.ensures

pub returns-in-Err : goal.returns-in-Err
returns-in-Err g c =
    unprepared g.H.Handler c.args.lanes.now c.args.world.now.world c.as_slice.result.now (c.as_slice.ensures ∙ c.in_ok-room.ensures.homes)
    c.in_ok-room.ensures.named c.in-Err.fault c.in-Err.ensures
