-- The sets that walks over the open calls and the held resources make.
use Rattle.std.proofs.Common.{◌≡◌, ℕ, Bool, true, false, ◌&&◌, not, nat_lt, List, [], Some, None, Result, Ok, Err, cond, fold, option_map, refl, ap, sym, ◌∙◌}
use Rattle.std.specs.Prelude.{IfOk}
use Rattle.std.specs.List.{list_any}
use Rattle.std.specs.Option.{option_map_or}
use Rattle.std.specs.Str.{bytes_eq}
use Rattle.cf_tree.specs.declared.request.Request.{Request}
use Rattle.cf_tree.specs.declared.request.Request.TheVariants as request
use Rattle.cf_tree.specs.declared.template.Replace.{Replace}
use Rattle.cf_tree.specs.Keys.{value_at}
use Rattle.cf_tree.specs.Lists.{is_among}
use Rattle.cf_effect.specs.declared.held.Held.{Held}
use Rattle.cf_effect.specs.declared.held.Pending.{Pending}
use Rattle.cf_effect.specs.Calls.{doubts_of}
use Rattle.cf_effect.specs.Words.{current_at, deletes, is_current_at}
use Rattle.cf_effect.specs.World.{StackState}
use Rattle.cf_plan.specs.Follow.{is_free}
use Rattle.cf_next.specs.declared.unmaking.Unmaking.{Unmaking}
use Rattle.cf_next.specs.declared.unmaking.Unmaking.TheVariants as unmaking
use Rattle.cf_next.specs.Facts.{doubted_id, with_doubted, with_open, with_policy}
use Rattle.cf_next.specs.Lookups.{has_key}
use Rattle.cf_next.specs.Needed.{current_path}
use Rattle.cf_next.specs.Tallies.{deleted_id}
use Rattle.cf_next.specs.Unmaking.{is_doubted, is_doubted_by, is_needed, policy_at}
use Rattle.cf_next.proofs.LookingUp.{found_same, is_named, looked_up, named_there}
use Rattle.cf_next.proofs.Needing.{and_false, named_as}
use Rattle.cf_next.proofs.Repeating.{and_true}
use Rattle.cf_plan.proofs.Members.{same_in}

not_not : (b : Bool) → b ≡ not (not b)
not_not true = refl
not_not false = refl

open_is : (path : List ℕ) (s : StackState) → has_key path (fold with_open [] s.tokens) ≡ not (is_free path s)
open_is path s = named_there (λ (p : Pending). Some p.path) (λ (p : Pending). tt) path s.tokens ∙ not_not (list_any (λ p. bytes_eq path p.path) s.tokens)

pub told_open : {E : Type 0} (s : StackState) (tokens : List Pending) (made : Result (List (List ℕ × Unit {0})) E) → tokens ≡ s.tokens
    → IfOk made (λ paths. paths ≡ fold with_open [] tokens) → IfOk made (λ paths. (path : List ℕ) → has_key path paths ≡ not (is_free path s))
told_open s tokens (Ok paths) l e = λ path. ap (has_key path) (e ∙ ap (fold with_open []) l) ∙ open_is path s
told_open s tokens (Err fault) l e = e

-- an id that an open deletion names, where that was three times in doubt
deleted_as : (id : List ℕ) (r : Request) → option_map_or (bytes_eq id) (deleted_id r) false ≡ deletes id r
deleted_as id (request.Delete other) = refl
deleted_as id (request.Create kind props) = refl
deleted_as id (request.Update other props) = refl

doubted_as : (id : List ℕ) (r : Request) (b : Bool)
    → option_map_or (bytes_eq id) (cond b None (deleted_id r)) false ≡ (deletes id r && not b)
doubted_as id r true = and_false (deletes id r)
doubted_as id r false = deleted_as id r ∙ and_true (deletes id r)

abbrev nothing : Pending → Unit {0}
nothing p = tt

doubted_is : (id : List ℕ) (s : StackState) → has_key id (fold (with_doubted s) [] s.tokens) ≡ is_doubted id s
doubted_is id s =
    named_there (doubted_id s) nothing id s.tokens
    ∙ same_in (is_named (doubted_id s) nothing id) (is_doubted_by id s) s.tokens (λ p i. doubted_as id p.request (nat_lt (doubts_of p.token s) 3))

pub told_doubted : {E : Type 0} (s : StackState) (tokens : List Pending) (made : Result (List (List ℕ × Unit {0})) E) (b : Bool)
    → tokens ≡ s.tokens → b ≡ true
    → IfOk made (λ ids. ids ≡ fold (with_doubted s) [] tokens) → IfOk made (λ ids. (id : List ℕ) → has_key id ids ≡ (b && is_doubted id s))
told_doubted s tokens (Ok ids) b l t e = λ id. ap (has_key id) (e ∙ ap (fold (with_doubted s) []) l) ∙ (doubted_is id s ∙ ap (λ (c : Bool). c && is_doubted id s) (sym t))
told_doubted s tokens (Err fault) b l t e = e

policy_is : (path : List ℕ) (hs : List Held) → value_at path (fold with_policy [] hs) ≡ option_map (λ h. h.replace) (current_at path hs)
policy_is path hs =
    looked_up current_path (λ (h : Held). h.replace) path hs []
    ∙ ap (option_map (λ (h : Held). h.replace)) (found_same (is_named current_path (λ (h : Held). h.replace) path) (is_current_at path) hs (λ h. named_as path h.path h.superseded))

pub told_policies : {E : Type 0} (u : Unmaking) (s : StackState) (helds : List Held) (made : Result (List (List ℕ × Replace)) E)
    → u ≡ unmaking.Clean → helds ≡ s.held
    → IfOk made (λ policies. policies ≡ fold with_policy [] helds)
    → IfOk made (λ policies. (path : List ℕ) → value_at path policies ≡ policy_at u s path)
told_policies u s helds (Ok policies) same l e = λ path.
    ap (value_at path) (e ∙ ap (fold with_policy []) l) ∙ (policy_is path s.held ∙ ap (λ (v : Unmaking). policy_at v s path) (sym same))
told_policies u s helds (Err fault) same l e = e

pub told_needed : {E : Type 0} (u : Unmaking) (s : StackState) (ids : List (List ℕ)) (made : Result (List (List ℕ × Unit {0})) E)
    → ((r : Held) → is_among r.physical ids ≡ is_needed u s r) → IfOk made (λ set. (name : List ℕ) → has_key name set ≡ is_among name ids)
    → IfOk made (λ set. (r : Held) → has_key r.physical set ≡ is_needed u s r)
told_needed u s ids (Ok set) are e = λ r. e r.physical ∙ are r
told_needed u s ids (Err fault) are e = e
