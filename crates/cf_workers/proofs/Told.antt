-- What a stack's own entries tell, one after another.
use Rattle.std.proofs.Common.{◌≡◌, ◌||◌, ◌&&◌, ℕ, Bool, true, false, List, [], ◌∷◌, ◌++◌, filter, cond, if◌then◌else◌, Option, Some, None, refl}
use Rattle.std.specs.List.{filter_map, flat_map, list_any, cons_option}
use Rattle.cf_tree.specs.Lists.{first_in}
use Rattle.cf_entry.specs.declared.entry.Entry.{Entry}
use Rattle.cf_entry.specs.declared.turn.Cause.{Cause}
use Rattle.cf_effect.specs.Operation.{is_of}
use Rattle.cf_plan.specs.Follow.{failed_in}
use Rattle.cf_core.specs.Turned.{is_continuation}
use Rattle.cf_workers.specs.Turning.{cause_in}

-- the first cause among the entries of an operation
abbrev pub first_own : ℕ → List Entry → Option Cause
first_own n es = first_in (filter_map cause_in (filter (is_of n) es))

-- the paths that failed among them
abbrev pub failed_own : ℕ → List Entry → List (List ℕ)
failed_own n es = flat_map failed_in (filter (is_of n) es)

-- whether one of them begins a continued rollback
abbrev pub continued_own : ℕ → List Entry → Bool
continued_own n es = list_any is_continuation (filter (is_of n) es)

module _ (n : ℕ) (e : Entry) (es : List Entry) where
  abbrev rest : List Entry
  rest = filter (is_of n) es

  by_none : (o : Option Cause) → o ≡ None → first_in (cons_option o (filter_map cause_in rest)) ≡ first_own n es
  by_none None h = refl
  by_none (Some c) h = let no : ⊥ = cc in absurd no

  by_some : (o : Option Cause) (c : Cause) → o ≡ Some c → first_in (cons_option o (filter_map cause_in rest)) ≡ Some c
  by_some None c h = let no : ⊥ = cc in absurd no
  by_some (Some d) c h = h

  pub cause_passed : (if is_of n e then cause_in e else None) ≡ None → first_own n (e ∷ es) ≡ first_own n es
  cause_passed = by (is_of n e)
    where
      by : (b : Bool) → cond b (cause_in e) None ≡ None → first_in (filter_map cause_in (cond b (e ∷ rest) rest)) ≡ first_own n es
      by true h = by_none (cause_in e) h
      by false h = refl

  pub cause_found : (c : Cause) → (if is_of n e then cause_in e else None) ≡ Some c → first_own n (e ∷ es) ≡ Some c
  cause_found c = by (is_of n e)
    where
      by : (b : Bool) → cond b (cause_in e) None ≡ Some c → first_in (filter_map cause_in (cond b (e ∷ rest) rest)) ≡ Some c
      by true h = by_some (cause_in e) c h
      by false h = let no : ⊥ = cc in absurd no

  pub failed_next : failed_own n (e ∷ es) ≡ (if is_of n e then failed_in e else []) ++ failed_own n es
  failed_next = by (is_of n e)
    where
      by : (b : Bool) → flat_map failed_in (cond b (e ∷ rest) rest) ≡ cond b (failed_in e) [] ++ failed_own n es
      by true = refl
      by false = refl

  pub continued_next : continued_own n (e ∷ es) ≡ ((is_of n e && is_continuation e) || continued_own n es)
  continued_next = by (is_of n e)
    where
      by : (b : Bool) → list_any is_continuation (cond b (e ∷ rest) rest) ≡ ((b && is_continuation e) || continued_own n es)
      by true = refl
      by false = refl
