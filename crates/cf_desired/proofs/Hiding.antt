-- What is hidden at the beginning of an update is less than what was seen before it and than what is seen in it.
use Rattle.std.proofs.Common.{◌≡◌, ℕ, List, [], ◌∷◌, Bool, true, false, Option, Some, None, refl, ap, ◌∙◌}
use Rattle.std.specs.Prelude.{cond}
use Rattle.std.specs.Option.{option_and_then}
use Rattle.std.specs.Str.{bytes_eq}
use Rattle.std.proofs.lemmas.Slice.Eq.{bytes_eq-Decides}
use Rattle.cf_tree.specs.Datum.{Data}
use Rattle.cf_tree.specs.Keys.{value_at}
use Rattle.cf_eval.specs.Knows.{StaysKnown}
use Rattle.cf_desired.specs.Seeing.{Seen}
use Rattle.cf_desired.specs.Stays.{id_seen, attrs_seen}
use Rattle.cf_desired.proofs.Puts.{kept_self}
use Rattle.cf_desired.specs.ShapeStays.{HidingServes, hidden_of}
use Rattle.cf_desired.proofs.ShapeStays.{update_stays}

module _ (ids attrs : List ℕ → Bool) where
  hide : {A : Type 0} (b : Bool) (x o : Option A) → (b ≡ false → StaysKnown x o) → StaysKnown (cond b None x) o
  hide true x o h = tt
  hide false x o h = h refl

  id_kept : (seen : Seen) (path : List ℕ) (o : Option (List ℕ)) → (ids path ≡ false → StaysKnown (id_seen path seen) o) → StaysKnown (id_seen path (hidden_of ids attrs seen)) o
  id_kept [] path o h = tt
  id_kept (s ∷ seen) path o h = either (bytes_eq path s.0) refl h (id_kept seen path o) where
    either : (b : Bool) → bytes_eq path s.0 ≡ b → (ids path ≡ false → StaysKnown (option_and_then (λ x. x.physical) (cond b (Some s.1) (value_at path seen))) o)
        → ((ids path ≡ false → StaysKnown (id_seen path seen) o) → StaysKnown (id_seen path (hidden_of ids attrs seen)) o)
        → StaysKnown (option_and_then (λ x. x.physical) (cond b (Some (record { physical = cond (ids s.0) None s.1.physical; attrs = cond (attrs s.0) None s.1.attrs })) (value_at path (hidden_of ids attrs seen)))) o
    either true e k ih = hide (ids s.0) s.1.physical o (λ n. k (ap ids ((bytes_eq-Decides path s.0).0 e) ∙ n))
    either false e k ih = ih k

  attrs_kept : (seen : Seen) (path : List ℕ) (o : Option (List (List ℕ × Data))) → (attrs path ≡ false → StaysKnown (attrs_seen path seen) o) → StaysKnown (attrs_seen path (hidden_of ids attrs seen)) o
  attrs_kept [] path o h = tt
  attrs_kept (s ∷ seen) path o h = either (bytes_eq path s.0) refl h (attrs_kept seen path o) where
    either : (b : Bool) → bytes_eq path s.0 ≡ b → (attrs path ≡ false → StaysKnown (option_and_then (λ x. x.attrs) (cond b (Some s.1) (value_at path seen))) o)
        → ((attrs path ≡ false → StaysKnown (attrs_seen path seen) o) → StaysKnown (attrs_seen path (hidden_of ids attrs seen)) o)
        → StaysKnown (option_and_then (λ x. x.attrs) (cond b (Some (record { physical = cond (ids s.0) None s.1.physical; attrs = cond (attrs s.0) None s.1.attrs })) (value_at path (hidden_of ids attrs seen)))) o
    either true e k ih = hide (attrs s.0) s.1.attrs o (λ n. k (ap attrs ((bytes_eq-Decides path s.0).0 e) ∙ n))
    either false e k ih = ih k

pub hiding_serves : HidingServes
hiding_serves source before now ids attrs clear same_ids same_attrs =
    update_stays source (hidden_of ids attrs before) before now clear
    (λ path. (id_kept ids attrs before path (id_seen path before) (λ n. kept_self (id_seen path before)), attrs_kept ids attrs before path (attrs_seen path before) (λ n. kept_self (attrs_seen path before))))
    (λ path. (id_kept ids attrs before path (id_seen path now) (same_ids path), attrs_kept ids attrs before path (attrs_seen path now) (same_attrs path)))
