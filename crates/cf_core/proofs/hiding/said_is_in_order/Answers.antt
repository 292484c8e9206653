pub returns : Rattle.cf_core.proofs.hiding.said_is_in_order.Goals.returns
returns c = Rattle.cf_core.proofs.HidProps.said_in_order
