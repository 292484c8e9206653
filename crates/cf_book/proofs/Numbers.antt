-- Stacks of which each operation is of one.
use Rattle.std.proofs.Common.{◌≡◌, ℕ, ◌<◌, ◌≤◌, ◌==◌, Bool, true, false, ◌&&◌, ◌||◌, not, List, [], ◌∷◌, Some, map, refl, sym, ap, ◌∙◌, subst, true≢false, arith}
use Rattle.std.specs.Prelude.{cond, nat_le}
use Rattle.std.specs.Bool.{IsTrue}
use Rattle.std.specs.List.{list_any}
use Rattle.std.specs.Str.{bytes_eq}
use Rattle.std.proofs.lemmas.Slice.Eq.{bytes_eq-Decides}
use Rattle.cf_tree.specs.Keys.{ascends, value_at}
use Rattle.cf_tree.proofs.Order.{ascends_map}
use Rattle.cf_stacks.specs.Apart.{AreApart}
use Rattle.cf_stacks.specs.Room.{StackStanding}
use Rattle.cf_stacks.specs.Standing.{NamedStanding, stack_in}
use Rattle.cf_effect.specs.World.{StackState, World}
use Rattle.cf_book.specs.Opening.{are_apart, stands_apart}

abbrev Stacks : Type 0
Stacks = List (List ℕ × StackState)

left_of : (b c : Bool) → (b && c) ≡ true → b ≡ true
left_of true c h = refl
left_of false c h = h

right_of : (b c : Bool) → (b && c) ≡ true → c ≡ true
right_of true c h = h
right_of false c h = absurd (true≢false (sym h))

same_number : (a b : ℕ) → (a == b) ≡ true → a ≡ b
same_number a b e = Prim.grind (arith)

no_more : (a b : ℕ) → nat_le a b ≡ true → a ≤ b
no_more a b e = Prim.grind (arith)

equal_so : (a b : ℕ) → a ≡ b → (a == b) ≡ true
equal_so a b e = Prim.grind (arith)

some_same : {A : Type 0} {x y : A} → Some x ≡ Some y → x ≡ y
some_same e = cc

abbrev has_it : ℕ → List ℕ × StackState → Bool
has_it n s = s.1.operation == n

-- a stack has the operation with what it has room for just where it has it without
pub any_operation : (n : ℕ) (ss : List NamedStanding) → list_any (λ s. s.1.operation == n) (map stack_in ss) ≡ list_any (λ s. s.1.stack.operation == n) ss
any_operation n [] = refl
any_operation n (s ∷ ss) = ap (λ b. s.1.stack.operation == n || b) (any_operation n ss)

-- the operation of a stack that stands in the list is among theirs
found_there : (n : ℕ) (ss : Stacks) (name : List ℕ) (s : StackState) → value_at name ss ≡ Some s → s.operation ≡ n → list_any (has_it n) ss ≡ true
found_there n [] name s e same = let no : ⊥ = cc in absurd no
found_there n (p ∷ ps) name s e same = by (bytes_eq name p.0) e (found_there n ps name s)
  where
    either : (b c : Bool) → c ≡ true → (b || c) ≡ true
    either true c h = refl
    either false c h = h

    first : (b c : Bool) → b ≡ true → (b || c) ≡ true
    first true c h = refl
    first false c h = absurd (true≢false (sym h))

    by : (b : Bool) → cond b (Some p.1) (value_at name ps) ≡ Some s → (value_at name ps ≡ Some s → s.operation ≡ n → list_any (has_it n) ps ≡ true) → list_any (has_it n) (p ∷ ps) ≡ true
    by true f ih = first (has_it n p) (list_any (has_it n) ps) (equal_so p.1.operation n (ap (λ (z : StackState). z.operation) (some_same f) ∙ same))
    by false f ih = either (has_it n p) (list_any (has_it n) ps) (ih f same)

-- no stack behind one that stands apart has its operation
clash : (last n : ℕ) (others : Stacks) (name : List ℕ) (t : StackState) → stands_apart last n others ≡ true → 0 < n → value_at name others ≡ Some t → t.operation ≡ n → ⊥
clash last n others name t h above e same = by (n == 0) refl (right_of (nat_le n last) ((n == 0) || not (list_any (has_it n) others)) h)
  where
    by : (b : Bool) → (n == 0) ≡ b → (b || not (list_any (has_it n) others)) ≡ true → ⊥
    by true z g = let none : n ≡ 0 = same_number n 0 z in omega (arith, none, above)
    by false z g = true≢false (sym g ∙ ap not (found_there n others name t e same))

most : (last : ℕ) (ss : Stacks) → are_apart last ss ≡ true → (name : List ℕ) (s : StackState) → value_at name ss ≡ Some s → s.operation ≤ last
most last [] h name s e = let no : ⊥ = cc in absurd no
most last (p ∷ ps) h name s e = by (bytes_eq name p.0) e (most last ps (right_of (stands_apart last p.1.operation ps) (are_apart last ps) h) name s)
  where
    here : p.1.operation ≤ last
    here = no_more p.1.operation last (left_of (nat_le p.1.operation last) ((p.1.operation == 0) || not (list_any (has_it p.1.operation) ps)) (left_of (stands_apart last p.1.operation ps) (are_apart last ps) h))

    by : (b : Bool) → cond b (Some p.1) (value_at name ps) ≡ Some s → (value_at name ps ≡ Some s → s.operation ≤ last) → s.operation ≤ last
    by true f ih = subst (λ (z : StackState). z.operation ≤ last) (some_same f) here
    by false f ih = ih f

one_name : (last : ℕ) (ss : Stacks) → are_apart last ss ≡ true → (a b : List ℕ) (s t : StackState) → value_at a ss ≡ Some s → value_at b ss ≡ Some t → s.operation ≡ t.operation → 0 < s.operation → a ≡ b
one_name last [] h a b s t e f same above = let no : ⊥ = cc in absurd no
one_name last (p ∷ ps) h a b s t e f same above =
    by (bytes_eq a p.0) (bytes_eq b p.0) refl refl e f (one_name last ps (right_of (stands_apart last p.1.operation ps) (are_apart last ps) h) a b s t)
  where
    first : stands_apart last p.1.operation ps ≡ true
    first = left_of (stands_apart last p.1.operation ps) (are_apart last ps) h

    is_first : (z : StackState) → Some p.1 ≡ Some z → p.1.operation ≡ z.operation
    is_first z g = ap (λ (y : StackState). y.operation) (some_same g)

    by : (c d : Bool) → bytes_eq a p.0 ≡ c → bytes_eq b p.0 ≡ d → cond c (Some p.1) (value_at a ps) ≡ Some s → cond d (Some p.1) (value_at b ps) ≡ Some t
        → (value_at a ps ≡ Some s → value_at b ps ≡ Some t → s.operation ≡ t.operation → 0 < s.operation → a ≡ b) → a ≡ b
    by true true q r g k ih = (bytes_eq-Decides a p.0).0 q ∙ sym ((bytes_eq-Decides b p.0).0 r)
    by true false q r g k ih = absurd (clash last p.1.operation ps b t first (subst (λ (n : ℕ). 0 < n) (sym (is_first s g)) above) k (sym same ∙ sym (is_first s g)))
    by false true q r g k ih = absurd (clash last p.1.operation ps a s first (subst (λ (n : ℕ). 0 < n) (same ∙ sym (is_first t k)) above) g (same ∙ sym (is_first t k)))
    by false false q r g k ih = ih g k same above

pub apart_of :
    (x : World) (stacks : List (List ℕ × StackStanding)) (b : Bool) (last : ℕ) → map stack_in stacks ≡ x.stacks → IsTrue (ascends stacks) → last ≡ x.operation
    → b ≡ are_apart last (map stack_in stacks) → IsTrue b → AreApart x
apart_of x stacks b last same order n q t =
    let so : are_apart x.operation x.stacks ≡ true =
    ap (λ (m : ℕ). are_apart m x.stacks) (sym n) ∙ ap (are_apart last) (sym same) ∙ sym q ∙ t in
    record {
      names = ap ascends (sym same) ∙ (ascends_map {X = StackStanding} {Y = StackState} stack_in (λ p. refl) stacks ∙ order);
      last = most x.operation x.stacks so;
      apart = one_name x.operation x.stacks so;
    }
