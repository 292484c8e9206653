pub returns : Rattle.cf_core.proofs.events.settle_keeps.Goals.returns
returns c = Rattle.cf_core.proofs.Settling.settle_keeps
