-- An operation in its forward phase goes forward.
use Rattle.std.proofs.Common.{◌≡◌, true, Some, refl, sym, true≢false}
use Rattle.cf_entry.specs.declared.status.Status.{Status}
use Rattle.cf_entry.specs.declared.status.Status.TheVariants as status
use Rattle.cf_effect.specs.Status.{Forward, goes_forward, stage_of}

pub going_forward : (now : Status) → stage_of now ≡ Some Forward → goes_forward now ≡ true
going_forward status.CreateInProgress e = refl
going_forward status.UpdateInProgress e = refl
going_forward _ e = absurd cc

-- and one that goes forward is in that phase
pub in_forward : (now : Status) → goes_forward now ≡ true → stage_of now ≡ Some Forward
in_forward status.CreateInProgress e = refl
in_forward status.UpdateInProgress e = refl
in_forward _ e = absurd (true≢false (sym e))
