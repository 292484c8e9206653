-- When a source that imports nothing is accepted, where nothing is exported: what can be computed.
use Rattle.std.proofs.Common.{◌≡◌, ◌≢◌, ℕ, Bool, true, false, Some, None, List, [], ◌∷◌, refl, sym, ◌∙◌, ap, subst}
use Rattle.std.specs.Str.{bytes_eq}
use Rattle.std.specs.Prelude.{if◌then◌else◌, not}
use Rattle.cf_tree.specs.Keys.{value_at}
use Rattle.cf_tree.specs.declared.source.Source.{Source}
use Rattle.cf_effect.specs.World.{StackState, World, stack_at}
use Rattle.cf_plan.specs.Follow.{HasLanes}
use Rattle.cf_plan.specs.Accept.{ImportsWhatItUses, with_imports, exports_of_others, without_import}
use Rattle.cf_desired.specs.Seeing.{Seen}
use Rattle.cf_desired.specs.Plan.{plan_of}
use Rattle.cf_examples.proofs.Lists.{some_is}

nothing_at : (n v : List ℕ) (imports : List (List ℕ × List ℕ)) → imports ≡ [] → value_at n imports ≡ Some v → ⊥
nothing_at n v imports none e = let z = sym (ap (value_at n) none) ∙ e in cc

-- no imports, and no exports of others
pub no_imports : (name : List ℕ) (x : World) (source : Source) (seen : Seen) → source.imports ≡ [] → plan_of source seen ≡ plan_of (with_imports source (exports_of_others name x)) seen → ImportsWhatItUses name x source seen
no_imports name x source seen none same = record {
  are_exports = λ n v e. absurd (nothing_at n v source.imports none e);
  enough = same;
  all_used = λ n v e. absurd (nothing_at n v source.imports none e);
}

-- an opening over one stack
pub one_stack : (P : StackState → Type 0) (name other : List ℕ) (a b : StackState) → P a → value_at name ((other, a) ∷ []) ≡ Some b → P b
one_stack P name other a b p e = by_test (bytes_eq name other) e
  where
    by_test : (t : Bool) → (if t then Some a else None) ≡ Some b → P b
    by_test true k = subst P (let z : Some a ≡ Some b = k in cc) p
    by_test false k = let z : None ≡ Some b = k in absurd (cc)

pub opens_one : (lanes : List (List ℕ × List ℕ)) (x : World) (other : List ℕ) (a : StackState) → x.stacks ≡ (other, a) ∷ [] → HasLanes lanes a → (name : List ℕ) (s : StackState) → stack_at name x ≡ Some s → HasLanes lanes s
opens_one lanes x other a is has name s e = one_stack (HasLanes lanes) name other a s has (subst (λ ss. value_at name ss ≡ Some s) is e)

-- over two stacks
pub opens_two : (lanes : List (List ℕ × List ℕ)) (x : World) (one other : List ℕ) (a b : StackState) → x.stacks ≡ (one, a) ∷ (other, b) ∷ [] → HasLanes lanes a → HasLanes lanes b → (name : List ℕ) (s : StackState) → stack_at name x ≡ Some s → HasLanes lanes s
opens_two lanes x one other a b is has_a has_b name s e = by_test (bytes_eq name one) (subst (λ ss. value_at name ss ≡ Some s) is e)
  where
    by_test : (t : Bool) → (if t then Some a else value_at name ((other, b) ∷ [])) ≡ Some s → HasLanes lanes s
    by_test true k = subst (HasLanes lanes) (some_is k) has_a
    by_test false k = one_stack (HasLanes lanes) name other b s has_b k

-- one import, which the source uses, and no other export of another stack
pub one_import : (name : List ℕ) (x : World) (source : Source) (seen : Seen) (m v : List ℕ) → source.imports ≡ (m, v) ∷ [] → exports_of_others name x ≡ (m, v) ∷ [] → plan_of source seen ≡ plan_of (with_imports source (exports_of_others name x)) seen → plan_of (with_imports source []) seen ≢ plan_of source seen → ImportsWhatItUses name x source seen
one_import name x source seen m v imports exports same differs = record {
  are_exports = λ n w e. subst (λ q. value_at n q ≡ Some w) (imports ∙ sym exports) e;
  enough = same;
  all_used = λ n w e. subst (λ q. value_at n q ≡ Some w → plan_of (with_imports source (without_import n q)) seen ≢ plan_of source seen) (sym imports) (λ f. by_test n w (bytes_eq n m) refl f) e;
}
  where
    gone : (n : List ℕ) → bytes_eq n m ≡ true → without_import n ((m, v) ∷ []) ≡ []
    gone n k = ap (λ (b : Bool). if not b then (m, v) ∷ [] else []) k

    by_test : (n w : List ℕ) (t : Bool) → bytes_eq n m ≡ t → (if t then Some v else None) ≡ Some w → plan_of (with_imports source (without_import n ((m, v) ∷ []))) seen ≢ plan_of source seen
    by_test n w true k f = subst (λ q. plan_of (with_imports source q) seen ≢ plan_of source seen) (sym (gone n k)) differs
    by_test n w false k f = let z : None ≡ Some w = f in absurd (cc)
