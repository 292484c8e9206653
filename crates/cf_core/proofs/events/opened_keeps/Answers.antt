pub returns : Rattle.cf_core.proofs.events.opened_keeps.Goals.returns
returns c = Rattle.cf_core.proofs.Settling.opened_keeps
