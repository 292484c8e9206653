-- Why a template can't be what a stack is to be (which flaws there are is this project's own).
use Rattle.cf_graph.specs.Needs.{OrderFault, unknown, circular}
use Rattle.cf_graph.specs.declared.fault.GraphFault.{GraphFault}
use Rattle.cf_graph.specs.declared.fault.GraphFault.TheVariants as graph

-- why a template has no order of work, as the call tells it
abbrev pub graph_fault_as : OrderFault → GraphFault
graph_fault_as (unknown from name) = graph.UnknownDependency from name
graph_fault_as (circular cycle) = graph.Circular cycle
