pub returns : Rattle.cf_core.proofs.tokens.few_changes.Goals.returns
returns c = Rattle.cf_core.proofs.Few.few_changes
