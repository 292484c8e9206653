-- What stands above a row of flags has fewer flags (this project's own).
use Rattle.std.specs.Prelude.{◌≤◌, ◌+◌, Bool, List, [], ◌∷◌, length, max}
use Rattle.std.proofs.Common.{arith}
use Rattle.cf_ready.specs.declared.flags.Above.{Above}
use Rattle.cf_ready.specs.declared.flags.Above.TheVariants.{Top, Half}
use Rattle.cf_ready.specs.declared.flags.Flags.TheDeep.{deep-Above}
use Rattle.cf_ready.specs.Halved.{halved}
use Rattle.cf_ready.specs.Above.{IsAbove}

pub length-halved_le : (bits : List Bool) → length (halved bits) ≤ length bits
length-halved_le [] = omega arith
length-halved_le (a ∷ []) = omega arith
length-halved_le (a ∷ b ∷ bs) = omega (arith, length-halved_le bs)

pub length-halved_lt : (bits : List Bool) → 2 ≤ length bits → length (halved bits) + 1 ≤ length bits
length-halved_lt [] h = omega arith
length-halved_lt (a ∷ []) h = omega arith
length-halved_lt (a ∷ b ∷ bs) h = omega (arith, length-halved_le bs)

pub above_is_smaller : (bits : List Bool) (a : Above) → IsAbove bits a → max (deep-Above a) 0 ≤ length bits
above_is_smaller bits Top h = omega arith
above_is_smaller bits (Half above) h = rw h.0 (omega (arith, length-halved_lt bits h.1))
