use Rattle.cf_top.proofs.wishing.order_wish.Goals as goal

pub prepare-prepared-requires : goal.prepare-prepared-requires
prepare-prepared-requires c = record { templates = c.requires }

pub returns-in-Ok : goal.returns-in-Ok
returns-in-Ok c = (c.in-Ok.ensures.exact, c.in-Ok.ensures.follows)

pub returns-in-Err : goal.returns-in-Err
returns-in-Err c = (c.in-Err.fault, c.in-Err.ensures.exact, c.refused.ensures)
