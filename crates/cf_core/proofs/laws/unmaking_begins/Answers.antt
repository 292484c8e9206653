pub returns : Rattle.cf_core.proofs.laws.unmaking_begins.Goals.returns
returns c = Rattle.cf_core.proofs.Always.unmaking_begins
