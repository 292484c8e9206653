-- How a flaw of a template is told (this project's own): its name and its fields in order, texts and lists of texts as compact
-- JSON, numbers in decimal.
use Rattle.std.specs.Prelude.{ℕ, List, [], ◌∷◌, ◌++◌, codes, decimal}
use Rattle.std.specs.List.{join_by}
use Rattle.json.specs.Print.{quoted}
use Rattle.cf_funcs.specs.Pieces.{joined}
use Rattle.cf_eval.specs.declared.fault.EvalWhy.{EvalWhy}
use Rattle.cf_eval.specs.declared.fault.EvalWhy.TheVariants as why
use Rattle.cf_graph.specs.declared.fault.GraphFault.{GraphFault}
use Rattle.cf_graph.specs.declared.fault.GraphFault.TheVariants as graph
use Rattle.cf_param.specs.declared.fault.BindFault.{BindFault}
use Rattle.cf_param.specs.declared.fault.BindFault.TheVariants as fault
use Rattle.cf_desired.specs.declared.flaw.Flaw.{Flaw}
use Rattle.cf_desired.specs.declared.flaw.Flaw.TheVariants as flaw

abbrev pub why_name : EvalWhy → List ℕ
why_name why.UnknownName = codes "UnknownName"
why_name why.UnknownAttribute = codes "UnknownAttribute"
why_name why.UnknownMapKey = codes "UnknownMapKey"
why_name why.IndexOutside = codes "IndexOutside"
why_name why.WrongKind = codes "WrongKind"
why_name why.UnknownImport = codes "UnknownImport"
why_name why.CircularCondition = codes "CircularCondition"
why_name why.NotMade = codes "NotMade"
why_name why.TooBig = codes "TooBig"

-- words with a space between any two
abbrev pub words_text : List (List ℕ) → List ℕ
words_text words = joined (codes " ") words

abbrev pub names_text : List (List ℕ) → List ℕ
names_text names = codes "[" ++ join_by quoted (codes ",") names ++ codes "]"

abbrev pub graph_fault_text : GraphFault → List ℕ
graph_fault_text (graph.UnknownDependency from name) = words_text (codes "UnknownDependency" ∷ quoted from ∷ quoted name ∷ [])
graph_fault_text (graph.Circular cycle) = words_text (codes "Circular" ∷ names_text cycle ∷ [])
graph_fault_text graph.NoMemory = codes "NoMemory"

abbrev pub bind_text : BindFault → List ℕ
bind_text (fault.Undeclared name) = words_text (codes "Undeclared" ∷ quoted name ∷ [])
bind_text (fault.Missing name) = words_text (codes "Missing" ∷ quoted name ∷ [])
bind_text (fault.NotANumber name) = words_text (codes "NotANumber" ∷ quoted name ∷ [])
bind_text (fault.TooShort name) = words_text (codes "TooShort" ∷ quoted name ∷ [])
bind_text (fault.TooLong name) = words_text (codes "TooLong" ∷ quoted name ∷ [])
bind_text (fault.TooSmall name) = words_text (codes "TooSmall" ∷ quoted name ∷ [])
bind_text (fault.TooLarge name) = words_text (codes "TooLarge" ∷ quoted name ∷ [])
bind_text (fault.NotAllowed name) = words_text (codes "NotAllowed" ∷ quoted name ∷ [])
bind_text (fault.NoMatch name) = words_text (codes "NoMatch" ∷ quoted name ∷ [])
bind_text (fault.BadPattern name) = words_text (codes "BadPattern" ∷ quoted name ∷ [])
bind_text fault.NoMemory = codes "NoMemory"

abbrev pub flaw_text : Flaw → List ℕ
flaw_text (flaw.Bind at fault) = words_text (codes "Bind" ∷ quoted at ∷ bind_text fault ∷ [])
flaw_text (flaw.Eval w stack at) = words_text (codes "Eval" ∷ codes "Bad" ∷ why_name w ∷ quoted stack ∷ quoted at ∷ [])
flaw_text (flaw.Graph at fault) = words_text (codes "Graph" ∷ quoted at ∷ graph_fault_text fault ∷ [])
flaw_text (flaw.Shape path) = words_text (codes "Shape" ∷ quoted path ∷ [])
flaw_text (flaw.TemplateMissing name) = words_text (codes "TemplateMissing" ∷ quoted name ∷ [])
flaw_text (flaw.TooDeep path) = words_text (codes "TooDeep" ∷ quoted path ∷ [])
flaw_text (flaw.TooMany count) = words_text (codes "TooMany" ∷ decimal count ∷ [])
flaw_text (flaw.DynamicCondition path name) = words_text (codes "DynamicCondition" ∷ quoted path ∷ quoted name ∷ [])
flaw_text (flaw.DynamicTemplate path) = words_text (codes "DynamicTemplate" ∷ quoted path ∷ [])
