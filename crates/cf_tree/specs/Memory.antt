-- Want of memory (this project's own): one error, with nothing to tell.
use Rattle.cf_tree.specs.declared.memory.NoMemory.{NoMemory}

abbrev pub no_memory : NoMemory
no_memory = record {}
