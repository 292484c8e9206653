-- What a plan may say of a call (this project's own): a refusal is not NotFound, which would say that nothing is live, and the fault of a
-- fence stands with the number 0, which no call has.
use Rattle.std.specs.Prelude.{ℕ, Bool, true, false, ◌==◌}
use Rattle.cf_tree.specs.declared.code.Code.{Code}
use Rattle.cf_tree.specs.declared.code.Code.TheVariants.{NotFound}
use Rattle.cf_fake.specs.declared.planned.Break.{Break}
use Rattle.cf_fake.specs.declared.planned.Break.TheVariants.{Refuse, FenceFault}

abbrev pub may_refuse : Code → Bool
may_refuse NotFound = false
may_refuse _ = true

abbrev pub may_break : Break → Bool
may_break (Refuse code) = may_refuse code
may_break _ = true

abbrev pub is_numbered : ℕ → Break → Bool
is_numbered call FenceFault = call == 0
is_numbered call break_ = true
