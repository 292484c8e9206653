-- What two readings, one after the other, give.
use Rattle.std.specs.Prelude.{⊤}
use Rattle.std.proofs.Common.{◌≡◌, ℕ, suc, ◌+◌, ◌<◌, List, [], ◌∷◌, ◌++◌, length, get_or, drop, drop-cons, add-one, Ok, Err, IsErrAnd, ◌⊎◌, inl, inr, ap, ◌∙◌}
use Rattle.serde_json.specs.declared.value.Value.{Value}
use Rattle.serde_json.specs.View.{view, items_view}
use Rattle.cf_tree.specs.Tests.{Test}
use Rattle.cf_tree.specs.declared.template.Param.{Param}
use Rattle.cf_template.specs.declared.refusal.TemplateFault.{TemplateFault}
use Rattle.cf_template.specs.declared.refusal.TemplateFault.TheVariants.{NoMemory}
use Rattle.cf_template.specs.Refusals.{Reading, after, mapped, ReadsAs, GivesBy}
use Rattle.cf_template.specs.Places.{item_at}
use Rattle.cf_template.specs.Conds.{test_of, tests_in}

pub first_fails : {A C : Type 0} (r : Reading A) (k : A → Reading C) (e : TemplateFault) → (e ≡ NoMemory) ⊎ (r ≡ Err e) → (e ≡ NoMemory) ⊎ (after r k ≡ Err e)
first_fails r k e (inl m) = inl m
first_fails r k e (inr q) = inr (ap (λ x. after x k) q)

pub then_fails : {A C : Type 0} (r : Reading A) (k : A → Reading C) (a : A) (e : TemplateFault) → r ≡ Ok a → (e ≡ NoMemory) ⊎ (k a ≡ Err e) → (e ≡ NoMemory) ⊎ (after r k ≡ Err e)
then_fails r k a e o (inl m) = inl m
then_fails r k a e o (inr q) = inr (ap (λ x. after x k) o ∙ q)

pub mapped_fails : {A C : Type 0} (f : A → C) (r : Reading A) (e : TemplateFault) → (e ≡ NoMemory) ⊎ (r ≡ Err e) → (e ≡ NoMemory) ⊎ (mapped f r ≡ Err e)
mapped_fails f r e (inl m) = inl m
mapped_fails f r e (inr q) = inr (ap (mapped f) q)

pub then_gives : {A C : Type 0} (r : Reading A) (k : A → Reading C) (a : A) (c : C) → r ≡ Ok a → k a ≡ Ok c → after r k ≡ Ok c
then_gives r k a c o q = ap (λ x. after x k) o ∙ q

pub mapped_gives : {A C : Type 0} (f : A → C) (r : Reading A) (a : A) → r ≡ Ok a → mapped f r ≡ Ok (f a)
mapped_gives f r a o = ap (mapped f) o

-- a refusal that is passed on, by a reader that leaves what it read in a place
pub refused : {A : Type 0} (rules : Reading A) (left : A) (r : Reading ⊤) (e : TemplateFault) → IsErrAnd r (λ x. x ≡ e) → (e ≡ NoMemory) ⊎ (rules ≡ Err e) → ReadsAs rules (mapped (λ _. left) r)
refused rules left (Ok t) e h g = absurd h
refused rules left (Err x) e h (inl m) = inl (h ∙ m)
refused rules left (Err x) e h (inr q) = inr (cc)

-- the same, by a reader that answers with a value
pub refused_by : {A B : Type 0} (f : A → B) (rules : Reading B) (r : Reading A) (e : TemplateFault) → IsErrAnd r (λ x. x ≡ e) → (e ≡ NoMemory) ⊎ (rules ≡ Err e) → GivesBy f rules r
refused_by f rules (Ok a) e h g = absurd h
refused_by f rules (Err x) e h (inl m) = inl (h ∙ m)
refused_by f rules (Err x) e h (inr q) = inr (cc)

-- the conditions of a list from an item on, where that item is one
pub tested : (ps : List Param) (vs : List Value) (at : List ℕ) (i : ℕ) (found : List Test) (c : Test) (v : Value) → i < length vs → v ≡ get_or vs i v
    → test_of ps (view v) (item_at at i) ≡ Ok c
    → tests_in ps (items_view (drop i vs)) at i found ≡ tests_in ps (items_view (drop (i + 1) vs)) at (i + 1) (found ++ c ∷ [])
tested ps vs at i found c v l e h =
    rw (add-one, drop-cons vs i v l, ← e) (ap (λ r. after r (λ x. tests_in ps (items_view (drop (suc i) vs)) at (suc i) (found ++ x ∷ []))) h)
