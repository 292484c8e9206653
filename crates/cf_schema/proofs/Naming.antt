-- The property that a text names, and those of a list of texts.
use Rattle.std.proofs.Common.{◌≡◌, ℕ, ◌+◌, ◌<◌, suc, List, [], ◌∷◌, ◌++◌, length, drop, get_or, Bool, true, false, Some, None, Result, Ok, Err, find, refl, ap, sym, append_assoc, add-one}
use Rattle.std.proofs.Math.Seq.{drop-cons}
use Rattle.std.specs.Str.{bytes_eq}
use Rattle.cf_schema.specs.declared.fault.SchemaFault.{SchemaFault}
use Rattle.cf_schema.specs.declared.fault.SchemaFault.TheVariants.{BadPointer}
use Rattle.cf_schema.specs.Reading.{and_then, properties_named}

front : (xs : List (List ℕ)) (i : ℕ) (x : List ℕ) → i < length xs → x ≡ get_or xs i x → drop i xs ≡ x ∷ drop (i + 1) xs
front xs i x h e = rw (add-one, drop-cons xs i x h) (ap (λ y. y ∷ drop (suc i) xs) (sym e))

pub found_here : (t : List ℕ → Bool) (xs : List (List ℕ)) (i : ℕ) (x : List ℕ) → i < length xs → x ≡ get_or xs i x → t x ≡ true → find t (drop i xs) ≡ Some x
found_here t xs i x h e k = rw (front xs i x h e, k) refl

pub passed : (t : List ℕ → Bool) (xs : List (List ℕ)) (i : ℕ) (x : List ℕ) → i < length xs → x ≡ get_or xs i x → t x ≡ false → find t (drop i xs) ≡ find t (drop (i + 1) xs)
passed t xs i x h e k = rw (front xs i x h e, k) refl

pub named_not : (spelled : List ℕ → List ℕ) (props : List (List ℕ)) (t : List ℕ) (ts found : List (List ℕ)) → find (λ p. bytes_eq t (spelled p)) props ≡ None
    → and_then (properties_named spelled props (t ∷ ts)) (λ ps. Ok (found ++ ps)) ≡ Err (BadPointer t)
named_not spelled props t ts found e = rw e refl

behind : (found : List (List ℕ)) (p : List ℕ) (r : Result (List (List ℕ)) SchemaFault)
    → and_then (and_then r (λ ps. Ok (p ∷ ps))) (λ ps. Ok (found ++ ps)) ≡ and_then r (λ ps. Ok ((found ++ p ∷ []) ++ ps))
behind found p (Ok ps) = ap Ok (sym (append_assoc found (p ∷ []) ps))
behind found p (Err e) = refl

pub named_more : (spelled : List ℕ → List ℕ) (props : List (List ℕ)) (t : List ℕ) (ts found : List (List ℕ)) (p : List ℕ) → find (λ p. bytes_eq t (spelled p)) props ≡ Some p
    → and_then (properties_named spelled props (t ∷ ts)) (λ ps. Ok (found ++ ps)) ≡ and_then (properties_named spelled props ts) (λ ps. Ok ((found ++ p ∷ []) ++ ps))
named_more spelled props t ts found p e = rw e (behind found p (properties_named spelled props ts))
