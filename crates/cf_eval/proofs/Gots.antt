-- Outcomes that the code holds.
use Rattle.std.proofs.Common.{◌≡◌, ℕ, suc, ◌<◌, length, get_or, drop, drop-cons, List, [], ◌∷◌, ◌++◌, Some, None, Option, Bool, true, false, cond, map, refl, ap, sym, ◌∙◌}
use Rattle.cf_tree.specs.Datum.{Data}
use Rattle.cf_tree.specs.Value.{datum_of}
use Rattle.cf_eval.specs.Outcome.{Outcome, Stop, got, later, bad, on_got, after_later, both, each}
use Rattle.cf_eval.specs.Texts.{Found}
use Rattle.cf_eval.specs.Gives.{got_found, member_found, Stops, got_value, any_late, named_value, late_binding}
use Rattle.cf_eval.specs.Scope.{Scope}
use Rattle.cf_eval.specs.Functions.{outcomes, paired, sub_found, select_found, find_found}
use Rattle.cf_tree.specs.declared.parts.Part.{Part}
use Rattle.cf_eval.specs.Value.{named, dict_found}
use Rattle.cf_eval.specs.declared.fault.Stop as broken
use Rattle.cf_eval.specs.declared.fault.Stop.TheVariants as stop
use Rattle.cf_eval.specs.declared.got.Got.{Got}
use Rattle.cf_eval.specs.declared.got.Got.TheVariants as it

-- a fault after outcomes that are none is the first one
pub each_stops : (gs : List Got) (w : Stop) (rest : List Found) → each (map got_found gs ++ (bad w ∷ rest)) ≡ bad w
each_stops [] w rest = refl
each_stops (it.Value v ∷ gs) w rest = rw (each_stops gs w rest) refl
each_stops (it.NoValue ∷ gs) w rest = rw (each_stops gs w rest) refl
each_stops (it.Later ∷ gs) w rest = rw (each_stops gs w rest) refl

pub bindings_stop : (bs : List (List ℕ × Got)) (w : Stop) (name : List ℕ) (rest : List (List ℕ × Found)) → each (outcomes (map member_found bs ++ ((name, bad w) ∷ rest))) ≡ bad w
bindings_stop [] w name rest = refl
bindings_stop ((n, it.Value v) ∷ bs) w name rest = rw (bindings_stop bs w name rest) refl
bindings_stop ((n, it.NoValue) ∷ bs) w name rest = rw (bindings_stop bs w name rest) refl
bindings_stop ((n, it.Later) ∷ bs) w name rest = rw (bindings_stop bs w name rest) refl

first_known : (late : Bool) (o : Option Data) (xs : List (Option Data)) → both (got o) (cond late later (got xs)) (λ a rest. got (a ∷ rest)) ≡ cond late later (got (o ∷ xs))
first_known true o xs = refl
first_known false o xs = refl

first_late : (late : Bool) (xs : List (Option Data)) → both {A = Option Data} later (cond late later (got xs)) (λ a rest. got (a ∷ rest)) ≡ later
first_late true xs = refl
first_late false xs = refl

pub each_of_gots : (gs : List Got) → each (map got_found gs) ≡ cond (any_late gs) later (got (map got_value gs))
each_of_gots [] = refl
each_of_gots (it.Value v ∷ gs) = rw (each_of_gots gs) (first_known (any_late gs) _ _)
each_of_gots (it.NoValue ∷ gs) = rw (each_of_gots gs) (first_known (any_late gs) _ _)
each_of_gots (it.Later ∷ gs) = rw (each_of_gots gs) (first_late (any_late gs) _)

first_named : (late : Bool) (p : List ℕ × Option Data) (xs : List (List ℕ × Option Data)) → both (got p) (cond late later (got xs)) (λ a rest. got (a ∷ rest)) ≡ cond late later (got (p ∷ xs))
first_named true p xs = refl
first_named false p xs = refl

first_named_late : (late : Bool) (xs : List (List ℕ × Option Data)) → both {A = List ℕ × Option Data} later (cond late later (got xs)) (λ a rest. got (a ∷ rest)) ≡ later
first_named_late true xs = refl
first_named_late false xs = refl

pub each_of_bindings : (bs : List (List ℕ × Got)) → each (map named (map member_found bs)) ≡ cond (late_binding bs) later (got (map named_value bs))
each_of_bindings [] = refl
each_of_bindings ((n, it.Value v) ∷ bs) = rw (each_of_bindings bs) (first_named (late_binding bs) _ _)
each_of_bindings ((n, it.NoValue) ∷ bs) = rw (each_of_bindings bs) (first_named (late_binding bs) _ _)
each_of_bindings ((n, it.Later) ∷ bs) = rw (each_of_bindings bs) (first_named_late (late_binding bs) _)

pub each_of_outcomes : (bs : List (List ℕ × Got)) → each (outcomes (map member_found bs)) ≡ cond (late_binding bs) later (got (map (λ b. got_value b.1) bs))
each_of_outcomes [] = refl
each_of_outcomes ((n, it.Value v) ∷ bs) = rw (each_of_outcomes bs) (first_known (late_binding bs) _ _)
each_of_outcomes ((n, it.NoValue) ∷ bs) = rw (each_of_outcomes bs) (first_known (late_binding bs) _ _)
each_of_outcomes ((n, it.Later) ∷ bs) = rw (each_of_outcomes bs) (first_late (late_binding bs) _)

-- a fault among the pieces, after a map without one
pub pieces_stop : (bs : List (List ℕ × Got)) (w : Stop) (f : List (Option Data) → List (Option Data) → Found) → both (each (outcomes (map member_found bs))) (bad w) f ≡ bad w
pieces_stop bs w f = rw (each_of_outcomes bs) (by_late (late_binding bs)) where
  by_late : (late : Bool) → both (cond late later (got (map (λ b. got_value b.1) bs))) (bad w) f ≡ bad w
  by_late true = refl
  by_late false = refl

-- the same, where the code holds the outcomes before the fault and the answer that tells it
pub all_stop : (fs : List Found) (gs : List Got) (x : Found) (rest : List Found) (s : broken.Stop) → fs ≡ map got_found gs ++ (x ∷ rest) → Stops x s → Stops (each fs) s
all_stop fs gs x rest (stop.Bad why at) e h = ap each (e ∙ ap (λ y. map got_found gs ++ (y ∷ rest)) h) ∙ each_stops gs _ rest
all_stop fs gs x rest (stop.Below why stack at) e h = ap each (e ∙ ap (λ y. map got_found gs ++ (y ∷ rest)) h) ∙ each_stops gs _ rest
all_stop fs gs x rest (stop.Undecided name at) e h = ap each (e ∙ ap (λ y. map got_found gs ++ (y ∷ rest)) h) ∙ each_stops gs _ rest
all_stop fs gs x rest stop.NoMemory e h = tt

pub bindings_all_stop : (fs : List (List ℕ × Found)) (bs : List (List ℕ × Got)) (name : List ℕ) (x : Found) (rest : List (List ℕ × Found)) (s : broken.Stop)
    → fs ≡ map member_found bs ++ ((name, x) ∷ rest) → Stops x s → Stops (each (outcomes fs)) s
bindings_all_stop fs bs name x rest (stop.Bad why at) e h =
    ap (λ gs. each (outcomes gs)) (e ∙ ap (λ y. map member_found bs ++ ((name, y) ∷ rest)) h) ∙ bindings_stop bs _ name rest
bindings_all_stop fs bs name x rest (stop.Below why stack at) e h =
    ap (λ gs. each (outcomes gs)) (e ∙ ap (λ y. map member_found bs ++ ((name, y) ∷ rest)) h) ∙ bindings_stop bs _ name rest
bindings_all_stop fs bs name x rest (stop.Undecided other at) e h =
    ap (λ gs. each (outcomes gs)) (e ∙ ap (λ y. map member_found bs ++ ((name, y) ∷ rest)) h) ∙ bindings_stop bs _ name rest
bindings_all_stop fs bs name x rest stop.NoMemory e h = tt

-- what is left of a list begins with the item that the loop looks at
pub drop_item : {A : Type 0} (xs : List A) (i : ℕ) (x : A) → i < length xs → x ≡ get_or xs i x → drop i xs ≡ x ∷ drop (suc i) xs
drop_item xs i x h e = drop-cons xs i x h ∙ ap (λ y. y ∷ drop (suc i) xs) (sym e)

-- a fault of a later part, after parts without one
pub both_stops : {B C : Type 0} (g : Got) (w : Stop) (f : Option Data → B → Outcome C) → both (got_found g) (bad w) f ≡ bad w
both_stops (it.Value v) w f = refl
both_stops it.NoValue w f = refl
both_stops it.Later w f = refl

pub pair_stops : {B C : Type 0} (g h : Got) (w : Stop) (f : Option Data × Option Data → B → Outcome C) → both (both (got_found g) (got_found h) paired) (bad w) f ≡ bad w
pair_stops (it.Value v) (it.Value u) w f = refl
pair_stops (it.Value v) it.NoValue w f = refl
pair_stops (it.Value v) it.Later w f = refl
pair_stops it.NoValue (it.Value u) w f = refl
pair_stops it.NoValue it.NoValue w f = refl
pair_stops it.NoValue it.Later w f = refl
pair_stops it.Later (it.Value u) w f = refl
pair_stops it.Later it.NoValue w f = refl
pair_stops it.Later it.Later w f = refl

second_stops : {B C : Type 0} (g : Got) (w : Stop) (y : Outcome B) (f : Option Data × Option Data → B → Outcome C) → both (both (got_found g) (bad w) paired) y f ≡ bad w
second_stops (it.Value v) w y f = refl
second_stops it.NoValue w y f = refl
second_stops it.Later w y f = refl

-- the answers that tell such a fault
pub select_stops : (at : List ℕ) (g : Got) (y : Found) (s : broken.Stop) → Stops y s → Stops (select_found at (got_found g) y) s
select_stops at g y (stop.Bad why place) h = rw h (both_stops g _ _)
select_stops at g y (stop.Below why stack place) h = rw h (both_stops g _ _)
select_stops at g y (stop.Undecided name place) h = rw h (both_stops g _ _)
select_stops at g y stop.NoMemory h = tt

pub find_stops_second : (sc : Scope) (at : List ℕ) (g : Got) (y z : Found) (s : broken.Stop) → Stops y s → Stops (find_found sc at (got_found g) y z) s
find_stops_second sc at g y z (stop.Bad why place) h = rw h (second_stops g _ z _)
find_stops_second sc at g y z (stop.Below why stack place) h = rw h (second_stops g _ z _)
find_stops_second sc at g y z (stop.Undecided name place) h = rw h (second_stops g _ z _)
find_stops_second sc at g y z stop.NoMemory h = tt

pub find_stops_third : (sc : Scope) (at : List ℕ) (g k : Got) (z : Found) (s : broken.Stop) → Stops z s → Stops (find_found sc at (got_found g) (got_found k) z) s
find_stops_third sc at g k z (stop.Bad why place) h = rw h (pair_stops g k _ _)
find_stops_third sc at g k z (stop.Below why stack place) h = rw h (pair_stops g k _ _)
find_stops_third sc at g k z (stop.Undecided name place) h = rw h (pair_stops g k _ _)
find_stops_third sc at g k z stop.NoMemory h = tt

-- the members of an object stop as their outcomes do
named_first : (p : List ℕ × Found) (y : Outcome (List (List ℕ × Option Data))) (z : Outcome (List (Option Data))) (w : Stop) → (z ≡ bad w → y ≡ bad w)
    → both p.1 z (λ a rest. got (a ∷ rest)) ≡ bad w → both (named p) y (λ a rest. got (a ∷ rest)) ≡ bad w
named_first (name, bad v) y z w f h = let e : v ≡ w = cc in ap bad e
named_first (name, got o) y (bad v) w f h = let e : v ≡ w = cc in rw (f (ap bad e)) refl
named_first (name, got o) y (got os) w f h = let no : ⊥ = cc in absurd no
named_first (name, got o) y later w f h = let no : ⊥ = cc in absurd no
named_first (name, later) y (bad v) w f h = let e : v ≡ w = cc in rw (f (ap bad e)) refl
named_first (name, later) y (got os) w f h = let no : ⊥ = cc in absurd no
named_first (name, later) y later w f h = let no : ⊥ = cc in absurd no

pub named_stop : (fs : List (List ℕ × Found)) (w : Stop) → each (outcomes fs) ≡ bad w → each (map named fs) ≡ bad w
named_stop [] w h = let no : ⊥ = cc in absurd no
named_stop (p ∷ fs) w h = named_first p (each (map named fs)) (each (outcomes fs)) w (named_stop fs w) h

pub dict_stops : (fs : List (List ℕ × Found)) (s : broken.Stop) → Stops (each (outcomes fs)) s → Stops (dict_found fs) s
dict_stops fs (stop.Bad why at) h = rw (named_stop fs _ h) refl
dict_stops fs (stop.Below why stack at) h = rw (named_stop fs _ h) refl
dict_stops fs (stop.Undecided name at) h = rw (named_stop fs _ h) refl
dict_stops fs stop.NoMemory h = tt

pub sub_stops : (sc : Scope) (at : List ℕ) (fs : List (List ℕ × Found)) (parts : List Part) (s : broken.Stop) → Stops (each (outcomes fs)) s → Stops (sub_found sc at fs parts) s
sub_stops sc at fs parts (stop.Bad why place) h = rw h refl
sub_stops sc at fs parts (stop.Below why stack place) h = rw h refl
sub_stops sc at fs parts (stop.Undecided name place) h = rw h refl
sub_stops sc at fs parts stop.NoMemory h = tt
