-- What a call answers where the definition gives an outcome; want of memory may come in its place (this project's own).
use Rattle.std.specs.Prelude.{◌≡◌, ℕ, Bool, true, false, ◌||◌, List, [], ◌∷◌, Option, Some, None, Result, Ok, Err, Vec, map, ⊤}
use Rattle.std.specs.declared.alloc.Global.{Global}
use Rattle.std.specs.Borrow.{Bor}
use Rattle.cf_tree.specs.Datum.{Data}
use Rattle.cf_tree.specs.Value.{datum_of}
use Rattle.cf_eval.specs.declared.got.Got.{Got}
use Rattle.cf_eval.specs.declared.got.Got.TheVariants as it
use Rattle.cf_eval.specs.declared.fault.Stop as broken
use Rattle.cf_eval.specs.declared.fault.Stop.TheVariants as stop
use Rattle.cf_eval.specs.Outcome.{Outcome, got, later, bad, fault, undecided, below, each}
use Rattle.cf_eval.specs.Texts.{Found, known}
use Rattle.cf_eval.specs.Functions.{outcomes}
use Rattle.cf_eval.specs.Scope.{verdict_of}
use Rattle.cf_tree.specs.declared.bound.Verdict.{Verdict}

-- what an answer says
abbrev pub got_found : Got → Found
got_found (it.Value v) = known (datum_of v)
got_found it.NoValue = got None
got_found it.Later = later

-- the evaluation stops so
abbrev pub Stops : {A : Type 0} → Outcome A → broken.Stop → Type 0
Stops o (stop.Bad why at) = o ≡ bad (fault why at)
Stops o (stop.Undecided name at) = o ≡ bad (undecided name at)
Stops o (stop.Below why stack at) = o ≡ bad (below why stack at)
Stops o stop.NoMemory = ⊤

abbrev pub Gives : Found → Result Got broken.Stop → Type 0
Gives f (Ok g) = f ≡ got_found g
Gives f (Err s) = Stops f s

-- the same of a part that is wanted as something else, None being Later
abbrev pub part_of : {A : Type 0} → Option A → Outcome A
part_of (Some a) = got a
part_of None = later

abbrev pub GivesPart : {A : Type 0} → Outcome A → Result (Option A) broken.Stop → Type 0
GivesPart o (Ok p) = o ≡ part_of p
GivesPart o (Err s) = Stops o s

-- and of a part that can't be Later
abbrev pub GivesNow : {A : Type 0} → Outcome A → Result A broken.Stop → Type 0
GivesNow o (Ok a) = o ≡ got a
GivesNow o (Err s) = Stops o s

-- the same of a list behind a reference
abbrev pub GivesList : Outcome (List Data) → Result (Option (Bor (List Data))) broken.Stop → Type 0
GivesList o (Ok (Some members)) = o ≡ got members.now
GivesList o (Ok None) = o ≡ later
GivesList o (Err s) = Stops o s

abbrev pub GivesMembers : Outcome (List Data) → Result (Bor (List Data)) broken.Stop → Type 0
GivesMembers o (Ok members) = o ≡ got members.now
GivesMembers o (Err s) = Stops o s

-- and of texts in a vector
abbrev pub GivesTexts : Outcome (List (List ℕ)) → Result (Vec (List ℕ) Global) broken.Stop → Type 0
GivesTexts o (Ok texts) = o ≡ got texts.items
GivesTexts o (Err s) = Stops o s

-- the outcomes of a list's members, up to the first fault
abbrev pub GivesAll : List Found → Result (Vec Got Global) broken.Stop → Type 0
GivesAll fs (Ok gots) = fs ≡ map got_found gots.items
GivesAll fs (Err s) = Stops (each fs) s

-- and of an object's members, under their names
abbrev pub member_found : List ℕ × Got → List ℕ × Found
member_found b = (b.0, got_found b.1)

abbrev pub GivesBindings : List (List ℕ × Found) → Result (Vec (List ℕ × Got) Global) broken.Stop → Type 0
GivesBindings fs (Ok bound) = fs ≡ map member_found bound.items
GivesBindings fs (Err s) = Stops (each (outcomes fs)) s

-- what is known of the outcomes that the code holds, and whether one is Later
abbrev pub got_value : Got → Option Data
got_value (it.Value v) = Some (datum_of v)
got_value it.NoValue = None
got_value it.Later = None

abbrev pub got_later : Got → Bool
got_later (it.Value v) = false
got_later it.NoValue = false
got_later it.Later = true

abbrev pub any_late : List Got → Bool
any_late [] = false
any_late (g ∷ gs) = got_later g || any_late gs

abbrev pub late_binding : List (List ℕ × Got) → Bool
late_binding [] = false
late_binding (b ∷ bs) = got_later b.1 || late_binding bs

abbrev pub named_value : List ℕ × Got → List ℕ × Option Data
named_value b = (b.0, got_value b.1)

-- what a condition comes to
abbrev pub GivesVerdict : Outcome Bool → Result Verdict broken.Stop → Type 0
GivesVerdict o (Ok v) = o ≡ part_of (verdict_of v)
GivesVerdict o (Err s) = Stops o s
