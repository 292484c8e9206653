-- Want of memory (this project's own).
use Rattle.cf_eval.specs.declared.fault.Stop.{Stop}
use Rattle.cf_eval.specs.declared.fault.Stop.TheVariants as stop

abbrev pub out_of_memory : Stop
out_of_memory = stop.NoMemory
