-- What the call for the order of work answers: the order, or the first refusal (this project's own).
use Rattle.std.specs.Prelude.{◌≡◌, ℕ, List, Result, Ok, Err, ⊤}
use Rattle.indexmap.specs.IndexMap.{IndexMap}
use Rattle.cf_graph.specs.Needs.{OrderFault, unknown, circular}
use Rattle.cf_graph.specs.declared.fault.GraphFault.{GraphFault}
use Rattle.cf_graph.specs.declared.fault.GraphFault.TheVariants.{Circular, UnknownDependency, NoMemory}

abbrev pub no_memory : GraphFault
no_memory = NoMemory

-- a refusal is the one that is meant; of memory that was not there nothing is said
abbrev pub RefusesOrder : Result (List (List ℕ × List (List ℕ))) OrderFault → GraphFault → Type 0
RefusesOrder meant (Circular cycle) = meant ≡ Err (circular cycle)
RefusesOrder meant (UnknownDependency from name) = meant ≡ Err (unknown from name)
RefusesOrder meant NoMemory = ⊤

abbrev pub Orders : {S : Type 0} → Result (List (List ℕ × List (List ℕ))) OrderFault
    → Result (IndexMap (List ℕ) (List (List ℕ)) S) GraphFault → Type 0
Orders meant (Ok needs) = meant ≡ Ok needs.entries
Orders meant (Err fault) = RefusesOrder meant fault
