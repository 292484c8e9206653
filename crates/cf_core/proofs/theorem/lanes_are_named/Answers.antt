pub returns : Rattle.cf_core.proofs.theorem.lanes_are_named.Goals.returns
returns c = Rattle.cf_core.proofs.NamedLanes.lanes_named
