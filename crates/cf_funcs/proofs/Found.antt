-- What a search for a text finds is where the text is cut.
use Rattle.std.proofs.Common.{◌≡◌, ℕ, zero, suc, ◌<◌, ◌≤◌, List, [], ◌∷◌, ◌++◌, length, take, drop, Bool, true, false, Option, Some, None, MatchOption, option_map, refl, ap, sym, ◌∙◌, nat_eq, arith, length-append}
use Rattle.std.proofs.lemmas.List.{take-append-drop}
use Rattle.std.proofs.Math.Seq.{take-append_seam}
use Rattle.std.proofs.lemmas.Slice.Eq.{bytes_eq-Decides}
use Rattle.std.proofs.lemmas.List.Prefix.{front_rest}
use Rattle.std.specs.List.{starts_with}
use Rattle.std.specs.Str.Pattern.{LacksTextAt, FindsText, SplitsAroundMatch}
use Rattle.cf_funcs.specs.Pieces.{cut_at}
use denote.Ref.{Bor}

-- a test that can't be true is false
pub false_from : (b : Bool) → (b ≡ true → ⊥) → b ≡ false
false_from true n = absurd (n refl)
false_from false n = refl

starts_no : (d s : List ℕ) → LacksTextAt d s 0 → starts_with nat_eq s d ≡ false
starts_no d s l =
    false_from _ (λ e. l (drop (length d) s) (sym (take-append-drop (length d) s) ∙ ap (λ t. t ++ drop (length d) s) (sym ((bytes_eq-Decides d (take (length d) s)).0 e))))

pub starts_yes : (d s rest : List ℕ) → s ≡ d ++ rest → starts_with nat_eq s d ≡ true
starts_yes d s rest e = (bytes_eq-Decides d (take (length d) s)).1 (sym (ap (take (length d)) e ∙ take-append_seam d rest))

drops : (i : ℕ) → length (drop {A = ℕ} i []) ≡ 0
drops zero = refl
drops (suc i) = refl

found : (d s rest : List ℕ) (i : ℕ) → 0 < length d → ((k : ℕ) → k < i → LacksTextAt d s k) → drop i s ≡ d ++ rest → cut_at d s ≡ Some (take i s, rest)
found d [] rest i h l e = absurd (omega (arith, length-append d rest, ap length e, drops i))
found d (b ∷ bs) rest zero h l e = rw (starts_yes d (b ∷ bs) rest e) (ap (λ t. Some ([], t)) (front_rest (b ∷ bs) d rest e))
found d (b ∷ bs) rest (suc i) h l e =
    rw (starts_no d (b ∷ bs) (l 0 (omega arith)), found d bs rest i h (λ k m. l (suc k) (omega arith)) e) refl

missing : (d s : List ℕ) → ((i : ℕ) → i ≤ length s → LacksTextAt d s i) → cut_at d s ≡ None
missing d [] l = refl
missing d (b ∷ bs) l = rw (starts_no d (b ∷ bs) (l 0 (omega arith)), missing d bs (λ k m. l (suc k) (omega arith))) refl

-- what the clause of `split_once` says, as one value
pub cut_from_split : (d s : List ℕ) (r : Option (Bor (List ℕ) × Bor (List ℕ))) → 0 < length d
    → MatchOption r (FindsText d s None) (λ x. SplitsAroundMatch (FindsText d) s x.0.now x.1.now)
    → option_map (λ c. (c.0.now, c.1.now)) r ≡ cut_at d s
cut_from_split d s None h m = sym (missing d s m)
cut_from_split d s (Some x) h (i, j, f, front, back, within, fronts, backs) =
    simp (front, back) (sym (found d s (drop j s) i h f.0 f.1.split))
