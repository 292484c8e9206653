-- What a test of a wish answers (this project's own).
use Rattle.std.specs.Prelude.{◌≡◌, ⊤, List, [], ◌∷◌, Option, Some, None, Result, Ok, Err}
use Rattle.cf_prepare.specs.declared.wish.PrepareFault.{PrepareFault}
use Rattle.cf_prepare.specs.declared.wish.PrepareFault.TheVariants as fault

-- the first of several that is there
abbrev pub first_of : {A : Type 0} → List (Option A) → Option A
first_of [] = None
first_of (None ∷ rest) = first_of rest
first_of (Some a ∷ rest) = Some a

-- nothing is refused, and P holds of what is given; or it is refused so; want of memory may come in place of either
abbrev pub TestsAs : {A : Type 0} → Option PrepareFault → (A → Type 0) → Result A PrepareFault → Type 0
TestsAs o P (Ok a) = (o ≡ None) × P a
TestsAs o P (Err fault.NoMemory) = ⊤
TestsAs o P (Err f) = o ≡ Some f

-- it is refused so, where there was memory to tell it
abbrev pub RefusesAs : PrepareFault → PrepareFault → Type 0
RefusesAs f fault.NoMemory = ⊤
RefusesAs f e = e ≡ f
