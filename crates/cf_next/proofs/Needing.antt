-- The ids that are worked out tell of each resource whether others need it.
use Rattle.std.proofs.Common.{◌≡◌, ℕ, Bool, true, false, ◌&&◌, ◌||◌, not, List, [], ◌++◌, Option, Some, None, Result, Ok, Err, cond, flat_map, fold, option_map, refl, ap, sym, ◌∙◌}
use Rattle.std.specs.Prelude.{IfOk}
use Rattle.std.specs.List.{list_any}
use Rattle.std.specs.Option.{option_map_or, option_or, option_to_list}
use Rattle.std.specs.Str.{bytes_eq}
use Rattle.std.proofs.lemmas.List.Folds.{list_any-append}
use Rattle.cf_tree.specs.Keys.{value_at}
use Rattle.cf_tree.specs.Lists.{is_among}
use Rattle.cf_effect.specs.declared.held.Held.{Held}
use Rattle.cf_effect.specs.declared.held.Pending.{Pending}
use Rattle.cf_effect.specs.End.{is_physical_of}
use Rattle.cf_effect.specs.Words.{current_at, is_create, is_current_at, resource_at}
use Rattle.cf_effect.specs.World.{StackState}
use Rattle.cf_plan.specs.Between.{is_at_one, is_held_at_one, is_needed_by_create, is_needed_by_held, is_needed_by_made, needs_at}
use Rattle.cf_plan.proofs.Members.{any_flat, same_in}
use Rattle.cf_plan.proofs.Told.{any_filtered}
use Rattle.cf_next.specs.Needed.{current_path, for_create, for_held, for_made, held_ids, held_needs, ids_at, needed_ids, resource_ids, with_id}
use Rattle.cf_next.proofs.LookingUp.{found_same, is_named, looked_up}
use Rattle.cf_next.proofs.Repeating.{and_true}

-- A path's resource among those of a list.
pub and_false : (b : Bool) → false ≡ (b && false)
and_false true = refl
and_false false = refl

pub named_as : (path at : List ℕ) (b : Bool) → option_map_or (bytes_eq path) (cond b None (Some at)) false ≡ (bytes_eq path at && not b)
named_as path at true = and_false (bytes_eq path at)
named_as path at false = and_true (bytes_eq path at)

abbrev id_of : Option Held → Option (List ℕ)
id_of o = option_map (λ h. h.physical) o

with_list : (path : List ℕ) (hs : List Held) (ids : List (List ℕ × List ℕ))
    → value_at path (fold with_id ids hs) ≡ option_or (value_at path ids) (id_of (current_at path hs))
with_list path hs ids =
    looked_up current_path (λ (h : Held). h.physical) path hs ids
    ∙ ap (λ (o : Option Held). option_or (value_at path ids) (id_of o)) (found_same (is_named current_path (λ (h : Held). h.physical) path) (is_current_at path) hs (λ h. named_as path h.path h.superseded))

module _ (s : StackState) where
  held_id : (path : List ℕ) → value_at path (held_ids s) ≡ id_of (current_at path s.held)
  held_id path = with_list path s.held []

  or_id : (a b : Option Held) → option_or (id_of a) (id_of b) ≡ id_of (option_or a b)
  or_id None b = refl
  or_id (Some h) b = refl

  resource_id : (path : List ℕ) → value_at path (resource_ids s) ≡ id_of (resource_at path s)
  resource_id path =
      with_list path s.held (fold with_id [] s.made)
      ∙ (ap (λ (o : Option (List ℕ)). option_or o (id_of (current_at path s.held))) (with_list path s.made []) ∙ or_id (current_at path s.made) (current_at path s.held))

  module _ (id : List ℕ) where
    or_false : (b : Bool) → (b || false) ≡ b
    or_false true = refl
    or_false false = refl

    one_id : (o : Option Held) → list_any (bytes_eq id) (option_to_list (id_of o)) ≡ is_physical_of id o
    one_id None = refl
    one_id (Some h) = or_false (bytes_eq id h.physical)

    -- an id among those at some paths is that of the resource at one of them
    at_paths : (ids : List (List ℕ × List ℕ)) (at : List ℕ → Option Held) → ((path : List ℕ) → value_at path ids ≡ id_of (at path))
        → (paths : List (List ℕ))
        → is_among id (ids_at ids paths) ≡ list_any (λ p. is_physical_of id (at p)) paths
    at_paths ids at are paths =
        any_flat (bytes_eq id) (λ p. option_to_list (value_at p ids)) paths
        ∙ same_in (λ p. list_any (bytes_eq id) (option_to_list (value_at p ids))) (λ p. is_physical_of id (at p)) paths
        (λ p i. ap (λ (o : Option (List ℕ)). list_any (bytes_eq id) (option_to_list o)) (are p) ∙ one_id (at p))

    needed_at : (paths : List (List ℕ))
        → is_among id (ids_at (resource_ids s) paths) ≡ list_any (λ p. is_physical_of id (resource_at p s)) paths
    needed_at paths = at_paths (resource_ids s) (λ p. resource_at p s) resource_id paths

    of_create : (p : Pending) (b : Bool) → is_among id (cond b (ids_at (resource_ids s) (needs_at p.path s)) [])
        ≡ (b && list_any (λ q. is_physical_of id (resource_at q s)) (needs_at p.path s))
    of_create p true = needed_at (needs_at p.path s)
    of_create p false = refl

    of_held : (h : Held) (b : Bool)
        → is_among id (cond b [] (ids_at (held_ids s) h.needs)) ≡ (not b && list_any (λ q. is_physical_of id (current_at q s.held)) h.needs)
    of_held h true = refl
    of_held h false = at_paths (held_ids s) (λ p. current_at p s.held) held_id h.needs

  needed_told : (r : Held) → is_among r.physical (needed_ids s) ≡ (is_needed_by_made s r || is_needed_by_create s r)
  needed_told r =
      let made = flat_map (for_made (resource_ids s) s) s.made in
      let created = flat_map (for_create (resource_ids s) s) s.tokens in
      let by_made =
      any_flat (bytes_eq r.physical) (for_made (resource_ids s) s) s.made
      ∙ same_in (λ m. is_among r.physical (for_made (resource_ids s) s m)) (λ m. is_at_one (needs_at m.path s) s r) s.made
      (λ m i. needed_at r.physical (needs_at m.path s)) in
      let by_create =
      any_flat (bytes_eq r.physical) (for_create (resource_ids s) s) s.tokens
      ∙ same_in (λ p. is_among r.physical (for_create (resource_ids s) s p)) (λ p. is_create p.request && is_at_one (needs_at p.path s) s r) s.tokens
      (λ p i. of_create r.physical p (is_create p.request)) in
      list_any-append (bytes_eq r.physical) made created
      ∙ (ap (λ (b : Bool). b || is_among r.physical created) by_made ∙ ap (λ (b : Bool). is_needed_by_made s r || b) by_create)

  held_told : (r : Held) → is_among r.physical (held_needs s) ≡ is_needed_by_held s r
  held_told r =
      any_flat (bytes_eq r.physical) (for_held (held_ids s)) s.held
      ∙ (same_in (λ h. is_among r.physical (for_held (held_ids s) h)) (λ h. not h.superseded && is_held_at_one h.needs s r) s.held
      (λ h i. of_held r.physical h h.superseded)
      ∙ sym (any_filtered (λ (h : Held). not h.superseded) (λ h. is_held_at_one h.needs s r) s.held))

  pub told_rollback : {E : Type 0} (made : Result (List (List ℕ)) E) → IfOk made (λ needed. needed ≡ needed_ids s)
      → IfOk made (λ needed. (r : Held) → is_among r.physical needed ≡ (is_needed_by_made s r || is_needed_by_create s r))
  told_rollback (Ok needed) e = λ r. ap (is_among r.physical) e ∙ needed_told r
  told_rollback (Err fault) e = e

  pub in_deletion : (needed : List (List ℕ)) → needed ≡ needed_ids s ++ held_needs s → (r : Held)
      → is_among r.physical needed ≡ ((is_needed_by_made s r || is_needed_by_create s r) || is_needed_by_held s r)
  in_deletion needed e r =
      ap (is_among r.physical) e
      ∙ (list_any-append (bytes_eq r.physical) (needed_ids s) (held_needs s)
      ∙ (ap (λ (b : Bool). b || is_among r.physical (held_needs s)) (needed_told r)
      ∙ ap (λ (b : Bool). (is_needed_by_made s r || is_needed_by_create s r) || b) (held_told r)))
