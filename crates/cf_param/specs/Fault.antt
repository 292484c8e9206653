-- The faults of binding, and what an answer with one says (this project's own).
use Rattle.std.specs.Prelude.{◌≡◌, Result, Ok, Err, ⊤}
use Rattle.cf_param.specs.declared.fault.BindFault.{BindFault}
use Rattle.cf_param.specs.declared.fault.BindFault.TheVariants.{NoMemory}

abbrev pub no_memory : BindFault
no_memory = NoMemory

-- the fault is the one that is told, or memory was not there
abbrev pub BindFaults : BindFault → BindFault → Type 0
BindFaults told NoMemory = ⊤
BindFaults told e = told ≡ e

-- the answer is the one that is told, value and fault alike, or memory was not there
abbrev pub Binds : {A : Type 0} → Result A BindFault → Result A BindFault → Type 0
Binds told (Ok a) = told ≡ Ok a
Binds told (Err NoMemory) = ⊤
Binds told (Err e) = told ≡ Err e
