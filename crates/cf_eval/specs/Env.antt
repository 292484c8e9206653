-- What the public calls are to answer (this project's own).
use Rattle.std.specs.Prelude.{◌≡◌, ℕ, List, Bool, Option, Some, None, Result, Ok, Err, map, option_map, ⊤}
use Rattle.cf_tree.specs.declared.bound.Verdict.{Verdict}
use Rattle.cf_eval.specs.declared.env.Env as given
use Rattle.cf_eval.specs.declared.fault.EvalFault.{EvalFault}
use Rattle.cf_eval.specs.declared.fault.EvalFault.TheVariants as answer
use Rattle.cf_eval.specs.declared.fault.Stop as stopped
use Rattle.cf_eval.specs.declared.fault.Stop.TheVariants as stop
use Rattle.cf_eval.specs.declared.got.Got.{Got}
use Rattle.cf_eval.specs.Gives.{got_found}
use Rattle.cf_eval.specs.Outcome.{Outcome, Stop, got, bad, fault, undecided, below, stopped_at}
use Rattle.cf_eval.specs.Scope.{Scope, resource_scope, verdict_of}
use Rattle.cf_eval.specs.Texts.{Found}

-- what a caller hands in, as the scope of a resource or an output
abbrev pub scope_in : given.Env → Scope
scope_in env = resource_scope env.mappings.now env.bound.now env.conds.now env.pseudo.now env.seen.now env.imports.now

-- the fault of the stack at this path, or of one nested in it
abbrev pub RefusesIn : {A : Type 0} → List ℕ → Outcome A → EvalFault → Type 0
RefusesIn stack o (answer.Bad why path at) = (s : Stop) × ((o ≡ bad s) × (stopped_at stack s ≡ (why, (path, at))))
RefusesIn stack o answer.NoMemory = ⊤

-- `eval` answers what the definition gives
abbrev pub Evaluates : List ℕ → Found → Result Got EvalFault → Type 0
Evaluates stack f (Ok g) = f ≡ got_found g
Evaluates stack f (Err e) = RefusesIn stack f e

-- why the code stopped, as the definitions say it; want of memory is no reason of theirs
abbrev pub stop_of : stopped.Stop → Option Stop
stop_of (stop.Bad why at) = Some (fault why at)
stop_of (stop.Undecided name at) = Some (undecided name at)
stop_of (stop.Below why from at) = Some (below why from at)
stop_of stop.NoMemory = None

-- why an evaluation stopped, as a fault of a nested stack
abbrev pub IsStoppedBy : List ℕ → stopped.Stop → EvalFault → Type 0
IsStoppedBy stack s (answer.Bad why path at) = option_map (stopped_at stack) (stop_of s) ≡ Some (why, (path, at))
IsStoppedBy stack s answer.NoMemory = ⊤

-- `conditions` does
abbrev pub Decides : List ℕ → Outcome (List (List ℕ × Option Bool)) → Result (List (List ℕ × Verdict)) EvalFault → Type 0
Decides stack o (Ok conds) = o ≡ got (map (λ c. (c.0, verdict_of c.1)) conds)
Decides stack o (Err e) = RefusesIn stack o e
