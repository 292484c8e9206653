pub returns : Rattle.cf_core.proofs.tokens.few_stay.Goals.returns
returns c = Rattle.cf_core.proofs.FewCalls.few_stay
