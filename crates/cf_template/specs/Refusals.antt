-- What a part of a template gives when it is read: what it is, or the first refusal (the order of refusals is this project's own).
use Rattle.std.specs.Prelude.{◌≡◌, ℕ, Bool, Option, Some, None, Result, Ok, Err, ⊤, if◌then◌else◌}
use Rattle.std.proofs.Common.{◌⊎◌}
use Rattle.std.specs.Global.{Box}
use Rattle.cf_tree.specs.Forms.{Form}
use Rattle.cf_template.specs.declared.refusal.TemplateFault.{TemplateFault}
use Rattle.cf_template.specs.declared.refusal.TemplateFault.TheVariants.{NotJson, TooLong, WrongShape, UnknownSection, BadVersion, NullValue, BadNumber, BadName, TooMany, UnknownFunction, Unsupported, NoMemory}

-- the numbers of the faults (this project's own)
abbrev pub fault_number : TemplateFault → ℕ
fault_number NotJson = 1
fault_number (TooLong n) = 2
fault_number (WrongShape p) = 3
fault_number (UnknownSection k) = 4
fault_number BadVersion = 5
fault_number (NullValue p) = 6
fault_number (BadNumber p) = 7
fault_number (BadName p) = 8
fault_number (TooMany k n) = 9
fault_number (UnknownFunction p) = 10
fault_number (Unsupported p k) = 11
fault_number NoMemory = 12

abbrev pub no_memory : TemplateFault
no_memory = NoMemory

-- what reading gives: a value, or why there is none
abbrev pub Reading : Type 0 → Type 0
Reading A = Result A TemplateFault

-- what follows on a value that was read, or the refusal that came before
abbrev pub after : {A B : Type 0} → Reading A → (A → Reading B) → Reading B
after (Ok a) f = f a
after (Err e) f = Err e

-- f of what was read, or the refusal that came before
abbrev pub mapped : {A B : Type 0} → (A → B) → Reading A → Reading B
mapped f (Ok a) = Ok (f a)
mapped f (Err e) = Err e

-- the first refusal, where one comes before another
abbrev pub first_refusal : Option TemplateFault → Option TemplateFault → Option TemplateFault
first_refusal (Some e) later = Some e
first_refusal None later = later

-- what is read where a test holds, else the refusal
abbrev pub provided : {A : Type 0} → Bool → TemplateFault → Reading A → Reading A
provided b e r = if b then r else Err e

-- what is read where nothing is refused
abbrev pub unless : {A : Type 0} → Option TemplateFault → Reading A → Reading A
unless None r = r
unless (Some e) r = Err e

-- what a reader answers: just what the rules give, or that memory was not there; f is what its value stands for
abbrev pub GivesBy : {A B : Type 0} → (A → B) → Reading B → Reading A → Type 0
GivesBy f r (Ok a) = r ≡ Ok (f a)
GivesBy f r (Err e) = (e ≡ NoMemory) ⊎ (r ≡ Err e)

-- what a box holds
abbrev pub inside : Box Form → Form
inside b = b.value

abbrev pub ReadsAs : {A : Type 0} → Reading A → Reading A → Type 0
ReadsAs r (Ok a) = r ≡ Ok a
ReadsAs r (Err e) = (e ≡ NoMemory) ⊎ (r ≡ Err e)

-- what a test answers: nothing exactly where nothing is refused, else the refusal, or that memory was not there
abbrev pub Finds : Option TemplateFault → Result ⊤ TemplateFault → Type 0
Finds fault (Ok _) = fault ≡ None
Finds fault (Err e) = (e ≡ NoMemory) ⊎ (fault ≡ Some e)
