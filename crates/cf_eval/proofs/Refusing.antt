-- Why an evaluation stopped is the fault of its outcome.
use Rattle.std.proofs.Common.{◌≡◌, ℕ, List, ap}
use Rattle.std.proofs.lemmas.Option.{none-some, same_Some}
use Rattle.cf_eval.specs.Outcome.{Outcome, bad, fault, below, undeclared_at_fault}
use Rattle.cf_eval.specs.Env.{RefusesIn, IsStoppedBy}
use Rattle.cf_eval.specs.Gives.{Stops}
use Rattle.cf_eval.specs.declared.fault.EvalFault.{EvalFault}
use Rattle.cf_eval.specs.declared.fault.EvalFault.TheVariants as answer
use Rattle.cf_eval.specs.declared.fault.EvalWhy.{EvalWhy}
use Rattle.cf_eval.specs.declared.fault.EvalWhy.TheVariants.{UnknownName}
use Rattle.cf_eval.specs.declared.fault.Stop as stopped
use Rattle.cf_eval.specs.declared.fault.Stop.TheVariants as stop

pub is_refused : {A : Type 0} (stack : List ℕ) (o : Outcome A) (s : stopped.Stop) (e : EvalFault) → Stops o s → IsStoppedBy stack s e → RefusesIn stack (undeclared_at_fault o) e
is_refused stack o (stop.Bad why at) (answer.Bad w path place) h t = (fault why at, (ap undeclared_at_fault h, same_Some (why, (stack, at)) (w, (path, place)) t))
is_refused stack o (stop.Undecided name at) (answer.Bad w path place) h t =
    (fault UnknownName at, (ap undeclared_at_fault h, same_Some (UnknownName, (stack, at)) (w, (path, place)) t))
is_refused stack o (stop.Below why from at) (answer.Bad w path place) h t = (below why from at, (ap undeclared_at_fault h, same_Some (why, (from, at)) (w, (path, place)) t))
is_refused stack o stop.NoMemory (answer.Bad w path place) h t = absurd (none-some (w, (path, place)) t)
is_refused stack o s answer.NoMemory h t = tt
