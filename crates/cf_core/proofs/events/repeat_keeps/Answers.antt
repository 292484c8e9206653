pub returns : Rattle.cf_core.proofs.events.repeat_keeps.Goals.returns
returns c = Rattle.cf_core.proofs.Settling.repeat_keeps
