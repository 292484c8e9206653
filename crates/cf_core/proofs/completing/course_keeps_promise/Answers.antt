pub returns : Rattle.cf_core.proofs.completing.course_keeps_promise.Goals.returns
returns c = Rattle.cf_core.proofs.WholeKept.course_keeps_promise
