pub returns : Rattle.cf_core.proofs.more.completes_begun_stays.Goals.returns
returns c = Rattle.cf_core.proofs.MoreStacks.completes_begun_stays
