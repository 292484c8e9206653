pub returns : Rattle.cf_core.proofs.events.held_is_live.Goals.returns
returns c = Rattle.cf_core.proofs.Settling.held_is_live
