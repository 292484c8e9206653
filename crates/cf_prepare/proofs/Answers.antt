-- How tests that come one after another answer together.
use Rattle.std.proofs.Common.{◌≡◌, List, [], ◌∷◌, Option, Some, None, refl, ap, sym, subst}
use Rattle.std.specs.Prelude.{Result, Ok, Err}
use Rattle.cf_prepare.specs.Answer.{TestsAs, first_of}
use Rattle.cf_prepare.specs.declared.wish.PrepareFault.{PrepareFault}
use Rattle.cf_prepare.specs.declared.wish.PrepareFault.TheVariants as fault

-- the first test that refuses answers for all
pub fails_first : {A B : Type 0} (P : A → Type 0) (Q : B → Type 0) (o : Option PrepareFault) (rest : List (Option PrepareFault)) (f : PrepareFault)
    → TestsAs o P (Err f) → TestsAs (first_of (o ∷ rest)) Q (Err f)
fails_first P Q o rest (fault.Stack g) h = ap (λ p. first_of (p ∷ rest)) h
fails_first P Q o rest (fault.Plan g) h = ap (λ p. first_of (p ∷ rest)) h
fails_first P Q o rest (fault.UnknownType path name) h = ap (λ p. first_of (p ∷ rest)) h
fails_first P Q o rest fault.NoMemory h = tt

-- one that passes leaves it to those behind it
pub passes_first : {B : Type 0} (Q : B → Type 0) (o : Option PrepareFault) (rest : List (Option PrepareFault)) (r : Result B PrepareFault)
    → o ≡ None → TestsAs (first_of rest) Q r → TestsAs (first_of (o ∷ rest)) Q r
passes_first Q o rest r e h = subst (λ (p : Option PrepareFault). TestsAs (first_of (p ∷ rest)) Q r) (sym e) h

-- one test alone
pub last_of : (o : Option PrepareFault) → first_of (o ∷ []) ≡ o
last_of None = refl
last_of (Some f) = refl

pub alone : {B : Type 0} (Q : B → Type 0) (o : Option PrepareFault) (r : Result B PrepareFault) → TestsAs o Q r → TestsAs (first_of (o ∷ [])) Q r
alone Q o r h = subst (λ (p : Option PrepareFault). TestsAs p Q r) (sym (last_of o)) h

-- what holds of an answer may be told in other words
pub reworded : {B : Type 0} (P Q : B → Type 0) (o : Option PrepareFault) (r : Result B PrepareFault) → ((b : B) → o ≡ None → P b → Q b) → TestsAs o P r → TestsAs o Q r
reworded P Q o (Ok b) f h = (h.0, f b h.0 h.1)
reworded P Q o (Err (fault.Stack g)) f h = h
reworded P Q o (Err (fault.Plan g)) f h = h
reworded P Q o (Err (fault.UnknownType path name)) f h = h
reworded P Q o (Err fault.NoMemory) f h = tt
