pub returns : Rattle.cf_core.proofs.hiding.order_stays.Goals.returns
returns c = Rattle.cf_core.proofs.HidCalls.order_stays
