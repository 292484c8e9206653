-- The policies and needs of each path, put in their places one after another, are those that the source gives.
use Rattle.std.proofs.Common.{◌≡◌, ℕ, List, [], ◌∷◌, Bool, true, false, Option, Some, None, Result, Ok, Err, IfOk, refl, sym, ap, ◌∙◌, true≢false, find, fold, map, option_map}
use Rattle.std.specs.Prelude.{cond, is_some}
use Rattle.std.specs.Str.{bytes_eq}
use Rattle.std.proofs.lemmas.Slice.Eq.{bytes_eq-Decides}
use Rattle.cf_tree.specs.Keys.{put, value_at}
use Rattle.cf_tree.specs.declared.source.Source.{Source}
use Rattle.cf_desired.specs.declared.shape.Shape as laid
use Rattle.cf_desired.specs.declared.shape.Terms as desired
use Rattle.cf_desired.specs.declared.wanted.Wanted.{Wanted}
use Rattle.cf_desired.specs.Kept.{IsShape}
use Rattle.cf_desired.specs.Plan.{plan_of}
use Rattle.cf_desired.specs.Seeing.{Seen}
use Rattle.cf_desired.specs.Shape.{shape_of}
use Rattle.cf_desired.specs.Turns.{pathed}
use Rattle.cf_desired.specs.Turns as turned
use Rattle.cf_desired.specs.Valued.{resources_in}
use Rattle.cf_desired.specs.Whole.{wanted_at}
use Rattle.cf_desired.specs.Work.{Body, Member}
use Rattle.cf_desired.proofs.Puts.{value_put}
use Rattle.cf_desired.proofs.Termed.{terms_by, wanted_terms}
use Rattle.cf_effect.specs.declared.terms.Terms.{Terms}
use Rattle.cf_effect.specs.Outset.{HaveTerms, given_terms, put_terms, without_kind}
use Rattle.cf_effect.specs.Reply.{terms_of}

-- of two under one name the first counts
abbrev first : Option Terms → Option Terms → Option Terms
first o p = cond (is_some o) o p

absent : (o : Option Terms) → is_some o ≡ false → o ≡ None
absent None h = refl
absent (Some s) h = absurd (true≢false h)

there : (o p : Option Terms) (e : Bool) (t : Terms) → (e ≡ true → is_some o ≡ true) → first o p ≡ first o (cond e (Some t) p)
there (Some x) p e t h = refl
there None p true t h = absurd (true≢false (sym (h refl)))
there None p false t h = refl

put_there : (o p : Option Terms) (e : Bool) (t : Terms) → (e ≡ true → o ≡ None) → first (cond e (Some t) o) p ≡ first o (cond e (Some t) p)
put_there o p true t h = sym (ap (λ (x : Option Terms). first x (Some t)) (h refl))
put_there o p false t h = refl

one_put : (q : List ℕ) (p : List ℕ × desired.Terms) (all : List (List ℕ × Terms)) (o : Option Terms) (b : Bool) → is_some (value_at p.0 all) ≡ b
    → first (value_at q (cond b all (put p.0 (without_kind p.1) all))) o ≡ first (value_at q all) (cond (bytes_eq q p.0) (Some (without_kind p.1)) o)
one_put q p all o true h =
    there (value_at q all) o (bytes_eq q p.0) (without_kind p.1) (λ e. ap (λ (n : List ℕ). is_some (value_at n all)) ((bytes_eq-Decides q p.0).0 e) ∙ h)
one_put q p all o false h =
    ap (λ (x : Option Terms). first x o) (value_put q p.0 (without_kind p.1) all)
    ∙ put_there (value_at q all) o (bytes_eq q p.0) (without_kind p.1)
    (λ e. ap (λ (n : List ℕ). value_at n all) ((bytes_eq-Decides q p.0).0 e) ∙ absent (value_at p.0 all) h)

abbrev terms_in : Option desired.Terms → Option Terms
terms_in o = option_map without_kind o

none_more : (o : Option Terms) → o ≡ first o None
none_more None = refl
none_more (Some s) = refl

of_member : (q : List ℕ) (m : Member) (ms : List Member) (b : Bool) → bytes_eq q m.path ≡ b
    → cond b (Some (without_kind (turned.member_terms m))) (terms_in (option_map turned.member_terms (find (λ n. bytes_eq q n.path) ms)))
    ≡ terms_in (option_map turned.member_terms (cond b (Some m) (find (λ n. bytes_eq q n.path) ms)))
of_member q m ms true e = refl
of_member q m ms false e = refl

put_behind : (q : List ℕ) (ms : List Member) (all : List (List ℕ × Terms))
    → value_at q (fold put_terms all (map pathed ms)) ≡ first (value_at q all) (terms_in (option_map turned.member_terms (find (λ m. bytes_eq q m.path) ms)))
put_behind q [] all = none_more (value_at q all)
put_behind q (m ∷ ms) all =
    put_behind q ms (put_terms all (pathed m))
    ∙ one_put q (pathed m) all (terms_in (option_map turned.member_terms (find (λ n. bytes_eq q n.path) ms))) (is_some (value_at m.path all)) refl
    ∙ ap (first (value_at q all)) (of_member q m ms (bytes_eq q m.path) refl)

given_so : (o : Option Wanted) → given_terms (terms_in (option_map terms_by o)) ≡ terms_of o
given_so None = refl
given_so (Some w) = refl

terms_given : (source : Source) (seen : Seen) (shape : laid.Shape) (ts : List (List ℕ × desired.Terms)) → IsShape shape (shape_of source seen)
    → ((b : Body) → IsShape shape b → ts ≡ map pathed (resources_in b))
    → (path : List ℕ) → given_terms (value_at path (fold put_terms [] ts)) ≡ terms_of (wanted_at path (plan_of source seen))
terms_given source seen shape ts is all path =
    ap (λ (qs : List (List ℕ × desired.Terms)). given_terms (value_at path (fold put_terms [] qs))) (all (shape_of source seen) is)
    ∙ ap given_terms (put_behind path (resources_in (shape_of source seen)) [] ∙ ap terms_in (sym (wanted_terms source seen (shape_of source seen) path)))
    ∙ given_so (wanted_at path (plan_of source seen))

pub all_given : {E : Type 0} (shape : laid.Shape) (ts : List (List ℕ × desired.Terms)) (r : Result (List (List ℕ × Terms)) E)
    → IfOk r (λ terms. terms ≡ fold put_terms [] ts) → ((b : Body) → IsShape shape b → ts ≡ map pathed (resources_in b)) → IfOk r (HaveTerms shape)
all_given shape ts (Err x) put all = tt
all_given shape ts (Ok terms) put all =
    λ source seen is path. ap (λ (qs : List (List ℕ × Terms)). given_terms (value_at path qs)) put ∙ terms_given source seen shape ts is all path

pub terms_known : {E : Type 0} (r : Result Terms E) {v w : Terms} → IfOk r (λ t. t ≡ v) → v ≡ w → IfOk r (λ t. t ≡ w)
terms_known (Err e) h is = tt
terms_known (Ok t) h is = h ∙ is
