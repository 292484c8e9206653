pub returns : Rattle.cf_core.proofs.events.lanes_keep.Goals.returns
returns c = Rattle.cf_core.proofs.Settling.lanes_keep
