-- An entry of an operation in progress: what may follow is said of the stack on which it is in progress.
use Rattle.std.proofs.Common.{◌≡◌, ℕ, Bool, true, false, Option, Some, None, List, [], ◌∷◌, refl, sym, ◌∙◌, ap, subst, true≢false}
use Rattle.std.specs.Prelude.{IsTrue, ◌↔◌, ◌++◌, ◌&&◌, ◌||◌, not, nat_lt, map, flat_map, reverse}
use Rattle.std.specs.List.{list_all, list_any}
use Rattle.std.specs.Option.{option_map_or}
use Rattle.std.specs.Str.{bytes_eq}
use Rattle.std.proofs.lemmas.Slice.Eq.{bytes_eq-Decides}
use Rattle.cf_tree.specs.Lists.{is_among}
use Rattle.cf_effect.specs.declared.held.Held.{Held}
use Rattle.cf_effect.specs.declared.call.Call.{Call}
use Rattle.cf_effect.specs.Operation.{Response, replies_in, own_of}
use Rattle.cf_effect.specs.Calls.{call_under, refusals_of}
use Rattle.cf_tree.specs.Lists.{here}
use Rattle.cf_tree.specs.Lists.{In}
use Rattle.cf_effect.specs.World.{empty_world, StackState, World, stack_of_operation}
use Rattle.cf_effect.specs.Fold.{world_after, fold_of}
use Rattle.cf_effect.specs.Status.{Stage, stage_of}
use Rattle.cf_effect.specs.Words.{resources_of}
use Rattle.cf_plan.specs.Follow.{MayFollow, IsLegal, MayFollowIn, MayFollowOn, is_failed_path, is_bad_last, last_at, has_path}
use Rattle.cf_examples.specs.Given.{schemas, IsRefusedAfter}
use Rattle.cf_examples.proofs.Lists.{some_is, each_passes, found_passes, some_passes, in_more, in_behind, in_parts, in_mapped, and_true}
use Rattle.cf_schema.specs.declared.described.Schema.{Schema}
use Rattle.cf_entry.specs.declared.entry.Entry.{Entry}

abbrev FollowsAs : List Schema → World → List ℕ → Entry → List ℕ × StackState → Type 0
FollowsAs schemas x out e named = (stage : Stage) → stage_of named.1.status ≡ Some stage → MayFollowIn schemas named.0 x out named.1 stage e

-- the stack and the stage of an entry's operation
pub follows_on : (schemas : List Schema) (number : ℕ) (x : World) (out : List ℕ) (e : Entry) (named : List ℕ × StackState) (stage : Stage) → stack_of_operation number x ≡ Some named → stage_of named.1.status ≡ Some stage → MayFollowOn schemas number x out e → MayFollowIn schemas named.0 x out named.1 stage e
follows_on schemas number x out e named stage is at (name, s, t, found, there_is, may) =
    let same : (name, s) ≡ named = some_is (sym found ∙ is) in
    subst (FollowsAs schemas x out e) same (λ q k. subst (λ g. MayFollowIn schemas name x out s g e) (some_is (sym there_is ∙ k)) may) stage at

-- no operation of the number is in progress
pub follows_none : (schemas : List Schema) (number : ℕ) (x : World) (out : List ℕ) (e : Entry) → stack_of_operation number x ≡ None → MayFollowOn schemas number x out e → ⊥
follows_none schemas number x out e is (name, s, t, found, there_is, may) = let z = found in cc

-- The failed paths: each of them is the path of a call that was answered, or of a resource.
abbrev pub path_of_reply : StackState → Response → List (List ℕ)
path_of_reply s r = option_map_or (λ (c : Call). c.path ∷ []) (call_under r.token s) []

abbrev pub candidates : StackState → List (List ℕ)
candidates s = flat_map (path_of_reply s) (reverse (replies_in (own_of s))) ++ map (λ (r : Held). r.path) (resources_of s)

abbrev pub is_told_right : StackState → List (List ℕ) → List ℕ → Bool
is_told_right s failed p = not (is_failed_path s p) || is_among p failed

same_text : (a b : List ℕ) → bytes_eq a b ≡ true → b ≡ a
same_text a b e = sym ((bytes_eq-Decides a b).0 e)

-- a call at a path is a candidate
at_call : (s : StackState) (p : List ℕ) (r : Response) (c : Option Call) → call_under r.token s ≡ c → has_path p c ≡ true → In p (path_of_reply s r)
at_call s p r None is e = absurd (true≢false (sym e))
at_call s p r (Some c) is e = subst (λ (o : Option Call). In p (option_map_or (λ (d : Call). d.path ∷ []) o [])) (sym is) (subst (λ q. In p (q ∷ [])) (sym (same_text p c.path e)) here)

last_is_candidate : (s : StackState) (p : List ℕ) (o : Option Response) → last_at p s ≡ o → is_bad_last s o ≡ true → In p (candidates s)
last_is_candidate s p None is e = absurd (true≢false (sym e))
last_is_candidate s p (Some r) is e =
    let found = found_passes (λ (q : Response). has_path p (call_under q.token s)) (reverse (replies_in (own_of s))) r is in
    in_more (flat_map (path_of_reply s) (reverse (replies_in (own_of s)))) (map (λ (h : Held). h.path) (resources_of s)) p (in_parts (path_of_reply s) (reverse (replies_in (own_of s))) r p found.1 (at_call s p r (call_under r.token s) refl found.0))

held_is_candidate : (s : StackState) (p : List ℕ) → list_any (λ r. bytes_eq p r.path && nat_lt 0 (refusals_of r.physical s)) (resources_of s) ≡ true → In p (candidates s)
held_is_candidate s p e =
    let found = some_passes (λ (r : Held). bytes_eq p r.path && nat_lt 0 (refusals_of r.physical s)) (resources_of s) e in
    let same = same_text p found.0.path (and_true (bytes_eq p found.0.path) (nat_lt 0 (refusals_of found.0.physical s)) found.2).0 in
    in_behind (flat_map (path_of_reply s) (reverse (replies_in (own_of s)))) (map (λ (h : Held). h.path) (resources_of s)) p (subst (λ q. In q (map (λ (h : Held). h.path) (resources_of s))) same (in_mapped (λ (h : Held). h.path) (resources_of s) found.0 found.1))

failed_is_candidate : (s : StackState) (p : List ℕ) → is_failed_path s p ≡ true → In p (candidates s)
failed_is_candidate s p e = by_test (is_bad_last s (last_at p s)) refl e
  where
    by_test : (t : Bool) → is_bad_last s (last_at p s) ≡ t → (t || list_any (λ r. bytes_eq p r.path && nat_lt 0 (refusals_of r.physical s)) (resources_of s)) ≡ true → In p (candidates s)
    by_test true k f = last_is_candidate s p (last_at p s) refl k
    by_test false k f = held_is_candidate s p f

among_in : (p : List ℕ) (ps : List (List ℕ)) → is_among p ps ≡ true → In p ps
among_in p ps e = let found = some_passes (λ q. bytes_eq p q) ps e in subst (λ q. In q ps) (same_text p found.0 found.2) found.1

-- just these paths have failed
pub are_failed : (s : StackState) (failed : List (List ℕ)) → list_all (is_told_right s failed) (candidates s) ≡ true → list_all (is_failed_path s) failed ≡ true → (p : List ℕ) → In p failed ↔ IsTrue (is_failed_path s p)
are_failed s failed only_these all_these p = (each_passes (is_failed_path s) failed p all_these, λ e. told e)
  where
    right : (a b : Bool) → a ≡ true → (not a || b) ≡ true → b ≡ true
    right true b e f = f
    right false b e f = absurd (true≢false (sym e))

    told : is_failed_path s p ≡ true → In p failed
    told e = among_in p failed (right (is_failed_path s p) (is_among p failed) e (each_passes (is_told_right s failed) (candidates s) p only_these (failed_is_candidate s p e)))

-- A list of entries is legal in one world and leads to another. It is made step by step: each entry may follow its world and
-- leads to the next one.
pub record IsRun (x : World) (es : List Entry) (y : World) : Type 0 where
  pub legal : IsLegal schemas x es
  pub arrives : fold_of x es ≡ y

pub ended : {x : World} → IsRun x [] x
ended = record { legal = tt; arrives = refl }

pub step : {x z : World} {e : Entry} {es : List Entry} (y : World) (out : List ℕ) → MayFollow schemas x out e → world_after x e ≡ y → IsRun y es z → IsRun x (e ∷ es) z
step {es = es} y out may leads rest = record { legal = ((out, may), subst (λ w. IsLegal schemas w es) (sym leads) rest.legal); arrives = ap (λ w. fold_of w es) leads ∙ rest.arrives }

-- entries behind others, and one entry more
pub fold_joined : (x : World) (es rest : List Entry) {y z : World} → fold_of x es ≡ y → fold_of y rest ≡ z → fold_of x (es ++ rest) ≡ z
fold_joined x [] rest arrives leads = ap (λ w. fold_of w rest) arrives ∙ leads
fold_joined x (e ∷ es) rest arrives leads = fold_joined (world_after x e) es rest arrives leads

pub fold_more : (x : World) (es : List Entry) (e : Entry) {y z : World} → fold_of x es ≡ y → world_after y e ≡ z → fold_of x (es ++ e ∷ []) ≡ z
fold_more x es e arrives leads = fold_joined x es (e ∷ []) arrives leads

pub legal_joined : (x : World) (es rest : List Entry) → IsLegal schemas x es → IsLegal schemas (fold_of x es) rest → IsLegal schemas x (es ++ rest)
legal_joined x [] rest before behind = behind
legal_joined x (e ∷ es) rest before behind = (before.0, legal_joined (world_after x e) es rest before.1 behind)

-- one run behind another, and an entry that may follow behind a run
pub joined : {x y z : World} {es : List Entry} (rest : List Entry) → IsRun x es y → IsRun y rest z → IsRun x (es ++ rest) z
joined {x = x} {es = es} rest before behind = record {
  legal = legal_joined x es rest before.legal (subst (λ w. IsLegal schemas w rest) (sym before.arrives) behind.legal);
  arrives = fold_joined x es rest before.arrives behind.arrives;
}

pub followed : {x y : World} {es : List Entry} (e : Entry) → IsRun x es y → (out : List ℕ) → MayFollow schemas y out e → IsLegal schemas x (es ++ e ∷ [])
followed {x = x} {es = es} e before out may = legal_joined x es (e ∷ []) before.legal (subst (λ w. IsLegal schemas w (e ∷ [])) (sym before.arrives) ((out, may), tt))

-- what stands at the front of a legal list is legal
pub legal_front : (x : World) (es rest : List Entry) → IsLegal schemas x (es ++ rest) → IsLegal schemas x es
legal_front x [] rest legal = tt
legal_front x (e ∷ es) rest legal = (legal.0, legal_front (world_after x e) es rest legal.1)

-- an entry of a legal list may follow where it stands
legal_at : (x : World) (before : List Entry) (e : Entry) (rest : List Entry) → IsLegal schemas x (before ++ e ∷ rest) → (out : List ℕ) × MayFollow schemas (fold_of x before) out e
legal_at x [] e rest legal = legal.0
legal_at x (b ∷ before) e rest legal = legal_at (world_after x b) before e rest legal.1

pub refused_at : (x : World) (before : List Entry) (e : Entry) → fold_of empty_world before ≡ x → ((out : List ℕ) → MayFollow schemas x out e → ⊥) → IsRefusedAfter before e
refused_at x before e arrives may_not = λ rest legal. let m = legal_at empty_world before e rest legal in may_not m.0 (subst (λ w. MayFollow schemas w m.0 e) arrives m.1)
