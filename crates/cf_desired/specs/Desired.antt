-- What a source wants as one answer: its plan where it has no flaw, and else the first one (the order of refusals is this project's own).
use Rattle.std.specs.Prelude.{◌≡◌, Option, Some, None, Result, Ok, Err, ⊤}
use Rattle.cf_tree.specs.Lists.{first_in}
use Rattle.cf_tree.specs.declared.source.Source.{Source}
use Rattle.cf_eval.specs.declared.fault.EvalFault.TheVariants.{Bad}
use Rattle.cf_desired.specs.declared.refusal.DesiredFault.{DesiredFault}
use Rattle.cf_desired.specs.declared.refusal.DesiredFault.TheVariants as fault
use Rattle.cf_desired.specs.declared.flaw.Flaw.{Flaw}
use Rattle.cf_desired.specs.declared.flaw.Flaw.TheVariants as flaw
use Rattle.cf_desired.specs.declared.wanted.Plan.{Plan}
use Rattle.cf_desired.specs.Plan.{plan_of}
use Rattle.cf_desired.specs.Seeing.{Seen}

-- a flaw as a refusal
abbrev pub fault_of : Flaw → DesiredFault
fault_of (flaw.Bind at f) = fault.Bind at f
fault_of (flaw.Eval why stack at) = fault.Eval (Bad why stack at)
fault_of (flaw.Graph at f) = fault.Graph at f
fault_of (flaw.Shape path) = fault.Shape path
fault_of (flaw.TemplateMissing name) = fault.TemplateMissing name
fault_of (flaw.TooDeep path) = fault.TooDeep path
fault_of (flaw.TooMany count) = fault.TooMany count
fault_of (flaw.DynamicCondition path name) = fault.DynamicCondition path name
fault_of (flaw.DynamicTemplate path) = fault.DynamicTemplate path

-- The plan of a source over what is seen, where it has no flaw; else its first flaw.
abbrev pub desired_by : Plan → Option Flaw → Result Plan DesiredFault
desired_by p None = Ok p
desired_by p (Some f) = Err (fault_of f)

abbrev pub desired_of : Source → Seen → Result Plan DesiredFault
desired_of source seen = desired_by (plan_of source seen) (first_in (plan_of source seen).flaws)

-- that is the answer; of want of memory nothing is said
abbrev pub Desires : Result Plan DesiredFault → Result Plan DesiredFault → Type 0
Desires wanted (Ok d) = wanted ≡ Ok d
Desires wanted (Err fault.NoMemory) = ⊤
Desires wanted (Err f) = wanted ≡ Err f
