-- What is seen of a resource under its logical id.
use Rattle.std.proofs.Common.{◌≡◌, ℕ, List, [], ◌∷◌, ◌++◌, Bool, true, false, Option, Some, None, refl, sym, ap, ◌∙◌, length, option_map, true≢false}
use Rattle.std.specs.Prelude.{◌==◌, codes, cond}
use Rattle.std.specs.Option.{option_or}
use Rattle.std.specs.Str.{bytes_eq}
use Rattle.std.proofs.lemmas.Slice.Eq.{bytes_eq-Decides}
use Rattle.cf_tree.specs.Keys.{value_at, put}
use Rattle.cf_tree.proofs.Lookups.{put_here, put_else}
use Rattle.cf_eval.specs.declared.env.Sight.{Sight}
use Rattle.cf_eval.specs.declared.env.Sight.TheVariants as sight
use Rattle.cf_eval.specs.declared.sights.SeenAt.{SeenAt}
use Rattle.cf_eval.specs.Sights.{path_in, seen_as, seen_through, with_come}

-- a path in a nested stack
pub nested_path : (path id : List ℕ) → (length path == 0) ≡ false → (path ++ codes "/") ++ id ≡ path_in path id
nested_path [] id h = absurd (true≢false h)
nested_path (b ∷ bs) id h = refl

-- what stands under a name once a pair is put among others
module _ {X : Type 0} (q k : List ℕ) (v : X) (ps : List (List ℕ × X)) where
  put_by : (b : Bool) → bytes_eq q k ≡ b → value_at q (put k v ps) ≡ cond b (Some v) (value_at q ps)
  put_by true e = ap (λ (n : List ℕ). value_at n (put k v ps)) ((bytes_eq-Decides q k).0 e) ∙ put_here k v ps
  put_by false e = put_else q k v ps e

  pub value_put : value_at q (put k v ps) ≡ cond (bytes_eq q k) (Some v) (value_at q ps)
  value_put = put_by (bytes_eq q k) refl

-- what has come counts first
come_at : (q : List ℕ) (come sights : List (List ℕ × Sight)) → value_at q (with_come come sights) ≡ option_or (value_at q come) (value_at q sights)
come_at q [] sights = refl
come_at q (p ∷ ps) sights = value_put q p.0 p.1 (with_come ps sights) ∙ by_name (bytes_eq q p.0) (come_at q ps sights) where
  by_name : (b : Bool) → value_at q (with_come ps sights) ≡ option_or (value_at q ps) (value_at q sights)
      → cond b (Some p.1) (value_at q (with_come ps sights)) ≡ option_or (cond b (Some p.1) (value_at q ps)) (value_at q sights)
  by_name true h = refl
  by_name false h = h

pub come_first : (q : List ℕ) (come sights : List (List ℕ × Sight)) (s : Sight) → value_at q come ≡ Some s → value_at q (with_come come sights) ≡ Some s
come_first q come sights s h = come_at q come sights ∙ ap (λ (o : Option Sight). option_or o (value_at q sights)) h

pub come_else : (q : List ℕ) (come sights : List (List ℕ × Sight)) → value_at q come ≡ None → value_at q (with_come come sights) ≡ value_at q sights
come_else q come sights h = come_at q come sights ∙ ap (λ (o : Option Sight). option_or o (value_at q sights)) h

-- a resource by whether it is made
module _ (stack : List ℕ) (seen : List (List ℕ × SeenAt)) (q : List ℕ) where
  abbrev pub sight_by : Bool → Sight
  sight_by made = cond made (seen_as (value_at (path_in stack q) seen)) sight.NotMade

  pub seen_under : (made : List (List ℕ × Bool)) → value_at q (seen_through stack seen made) ≡ option_map sight_by (value_at q made)
  seen_under [] = refl
  seen_under (r ∷ rs) = by_name (bytes_eq q r.0) refl (seen_under rs) where
    by_name : (b : Bool) → bytes_eq q r.0 ≡ b → value_at q (seen_through stack seen rs) ≡ option_map sight_by (value_at q rs)
        → cond b (Some (cond r.1 (seen_as (value_at (path_in stack r.0) seen)) sight.NotMade)) (value_at q (seen_through stack seen rs))
        ≡ option_map sight_by (cond b (Some r.1) (value_at q rs))
    by_name true e h = ap (λ (n : List ℕ). Some (cond r.1 (seen_as (value_at (path_in stack n) seen)) sight.NotMade)) (sym ((bytes_eq-Decides q r.0).0 e))
    by_name false e h = h
