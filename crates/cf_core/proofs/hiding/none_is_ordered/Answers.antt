pub returns : Rattle.cf_core.proofs.hiding.none_is_ordered.Goals.returns
returns c = Rattle.cf_core.proofs.HidCalls.none_is_ordered
