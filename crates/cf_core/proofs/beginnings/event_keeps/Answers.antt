pub returns : Rattle.cf_core.proofs.beginnings.event_keeps.Goals.returns
returns c = Rattle.cf_core.proofs.KeepSound.event_keeps
