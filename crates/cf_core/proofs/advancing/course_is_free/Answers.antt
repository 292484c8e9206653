pub returns : Rattle.cf_core.proofs.advancing.course_is_free.Goals.returns
returns c = Rattle.cf_core.proofs.AdvSteps.course_is_free
