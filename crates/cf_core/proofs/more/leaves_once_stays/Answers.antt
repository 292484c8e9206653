pub returns : Rattle.cf_core.proofs.more.leaves_once_stays.Goals.returns
returns c = Rattle.cf_core.proofs.MoreStacks.leaves_once_stays
