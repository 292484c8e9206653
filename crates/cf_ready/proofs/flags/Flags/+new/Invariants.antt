use Rattle.cf_ready.proofs.flags.Flags.+new.Given as goal

abbrev pub decreases-new : goal.decreases-new
decreases-new l = l.count
