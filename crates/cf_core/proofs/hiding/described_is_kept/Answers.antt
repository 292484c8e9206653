pub returns : Rattle.cf_core.proofs.hiding.described_is_kept.Goals.returns
returns c = Rattle.cf_core.proofs.Always.described_kept
