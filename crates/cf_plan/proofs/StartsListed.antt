-- What may begin, path by path, is listed as what may begin.
use Rattle.std.proofs.Common.{◌≡◌, ◌⊎◌, inl, inr, ℕ, Bool, true, false, List, [], ◌∷◌, Option, Some, None, cond, ap, sym, refl, subst}
use Rattle.std.specs.Cmp.{second_so}
use Rattle.std.specs.Str.{bytes_eq}
use Rattle.std.proofs.lemmas.Slice.Eq.{bytes_eq-Decides}
use Rattle.cf_tree.specs.Keys.{ascends, ascends_from, bytes_lt, value_at}
use Rattle.cf_tree.proofs.Lookups.{value_below}
use Rattle.cf_tree.specs.declared.request.Request.{Request}
use Rattle.cf_schema.specs.declared.described.Schema.{Schema}
use Rattle.cf_effect.specs.World.{StackState}
use Rattle.cf_plan.specs.declared.forward.Wants.{Wants}
use Rattle.cf_plan.specs.Start.{Start}
use Rattle.cf_tree.specs.Lists.{here}
use Rattle.cf_tree.specs.Lists.{In}
use Rattle.cf_plan.specs.Starts.{AreOpen, AreRequests, IsWanted, start_of, starts_at, starts_in}
use Rattle.cf_plan.proofs.Members.{not_both, in_none}
use Rattle.cf_plan.proofs.Listed.{in_cons}
use Rattle.cf_plan.proofs.Causing.{in_left, in_right, in_either}

abbrev pub start : List ℕ → Request → Start
start path r = record { path = path; request = r }

in_start : (path : List ℕ) (r : Request) (o : Option Request) → o ≡ Some r → In (start path r) (start_of path o)
in_start path r o e = subst (λ (p : Option Request). In (start path r) (start_of path p)) (sym e) here

of_start : (path key : List ℕ) (r : Request) (o : Option Request) → In (start path r) (start_of key o) → (path ≡ key) × (o ≡ Some r)
of_start path key r None i = absurd (in_none i)
of_start path key r (Some q) i = elim (in_cons i) [
  | inl e ↦ (ap (λ (a : Start). a.path) (sym e), ap (λ (a : Start). Some a.request) e)
  | inr j ↦ absurd (in_none j)
]

pub at_path : (path : List ℕ) (r : Request) (w : Wants) → (w.create ≡ Some r) ⊎ (w.update ≡ Some r) → In (start path r) (starts_at (path, w))
at_path path r w (inl e) = in_left (start path r) (start_of path w.create) (start_of path w.update) (in_start path r w.create e)
at_path path r w (inr e) = in_right (start path r) (start_of path w.create) (start_of path w.update) (in_start path r w.update e)

pub of_path : (path : List ℕ) (r : Request) (e : List ℕ × Wants) → In (start path r) (starts_at e) → (path ≡ e.0) × ((e.1.create ≡ Some r) ⊎ (e.1.update ≡ Some r))
of_path path r e i = elim (in_either (start path r) (start_of e.0 e.1.create) (start_of e.0 e.1.update) i) [
  | inl j ↦ (let w = of_start path e.0 r e.1.create j in (w.0, inl w.1))
  | inr j ↦ (let w = of_start path e.0 r e.1.update j in (w.0, inr w.1))
]

listed_of : (ps : List (List ℕ × Wants)) (path : List ℕ) (r : Request) → IsWanted (value_at path ps) r → In (start path r) (starts_in ps)
listed_of [] path r w = absurd w
listed_of (p ∷ ps) path r w = by (listed_of ps path r) (bytes_eq path p.0) refl w
  where
    by : (IsWanted (value_at path ps) r → In (start path r) (starts_in ps)) → (b : Bool) → bytes_eq path p.0 ≡ b
        → IsWanted (cond b (Some p.1) (value_at path ps)) r → In (start path r) (starts_in (p ∷ ps))
    by rest true e v =
        in_left (start path r) (starts_at p) (starts_in ps)
        (subst (λ (k : List ℕ). In (start path r) (starts_at (k, p.1))) ((bytes_eq-Decides path p.0).0 e) (at_path path r p.1 v))
    by rest false e v = in_right (start path r) (starts_at p) (starts_in ps) (rest v)

one_of_none : (o : Option Wants) (r : Request) → o ≡ None → IsWanted o r → ⊥
one_of_none o r e w = subst (λ (p : Option Wants). IsWanted p r) e w

ascends_on : (p : List ℕ × Wants) (ps : List (List ℕ × Wants)) → ascends_from p.0 ps ≡ true → ascends ps ≡ true
ascends_on p [] e = refl
ascends_on p (q ∷ qs) e = second_so (bytes_lt p.0 q.0) (ascends_from q.0 qs) e

of_listed : (ps : List (List ℕ × Wants)) → ascends ps ≡ true → (path : List ℕ) (r : Request) → In (start path r) (starts_in ps) → IsWanted (value_at path ps) r
of_listed [] up path r i = absurd (in_none i)
of_listed (p ∷ ps) up path r i =
    by (of_listed ps (ascends_on p ps up) path r) (bytes_eq path p.0) refl (in_either (start path r) (starts_at p) (starts_in ps) i)
  where
    by : (In (start path r) (starts_in ps) → IsWanted (value_at path ps) r) → (b : Bool) → bytes_eq path p.0 ≡ b
        → In (start path r) (starts_at p) ⊎ In (start path r) (starts_in ps) → IsWanted (cond b (Some p.1) (value_at path ps)) r
    by rest true e (inl j) = (of_path path r p j).1
    by rest true e (inr j) =
        absurd (one_of_none (value_at path ps) r
        (subst (λ (k : List ℕ). value_at k ps ≡ None) (sym ((bytes_eq-Decides path p.0).0 e)) (value_below p.0 ps up))
        (rest j))
    by rest false e (inl j) = absurd (not_both (bytes_eq path p.0) ((bytes_eq-Decides path p.0).1 (of_path path r p j).0) e)
    by rest false e (inr j) = rest j

pub are_open : (schemas : List Schema) (s : StackState) (ps : List (List ℕ × Wants)) → ascends ps ≡ true → AreRequests schemas s ps → AreOpen schemas s (starts_in ps)
are_open schemas s ps up are path r = (λ w. listed_of ps path r ((are path r).0 w), λ i. (are path r).1 (of_listed ps up path r i))
