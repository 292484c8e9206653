pub returns : Rattle.cf_core.proofs.hiding.intended_is_hidden.Goals.returns
returns c = Rattle.cf_core.proofs.HidCalls.intended_hidden
