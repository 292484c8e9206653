-- A name is marked where it was, or is one of those that are marked.
use Rattle.std.proofs.Common.{◌≡◌, ℕ, ◌==◌, Bool, true, false, ◌&&◌, ◌||◌, not, List, [], ◌∷◌, Some, fold, flat_map, cond, refl, ap, sym, ◌∙◌}
use Rattle.std.specs.Prelude.{is_some}
use Rattle.std.specs.List.{list_any}
use Rattle.std.specs.Str.{bytes_eq}
use Rattle.std.proofs.lemmas.List.Folds.{list_any-append}
use Rattle.cf_tree.specs.Keys.{value_at}
use Rattle.cf_tree.specs.Lists.{is_among}
use Rattle.cf_tree.specs.declared.request.Request.{Request}
use Rattle.cf_tree.specs.declared.request.Request.TheVariants as request
use Rattle.cf_entry.specs.declared.entry.Entry.{Entry}
use Rattle.cf_effect.specs.declared.call.Call.{Call}
use Rattle.cf_effect.specs.Calls.{own_calls, succeeded}
use Rattle.cf_effect.specs.Operation.{named_in, was_skipped}
use Rattle.cf_effect.specs.Status.{goes_back, goes_forward}
use Rattle.cf_effect.specs.Words.{is_update, updates}
use Rattle.cf_effect.specs.World.{StackState}
use Rattle.cf_plan.specs.Follow.{is_free}
use Rattle.cf_plan.proofs.FailedPaths.{put_is}
use Rattle.cf_plan.proofs.Told.{any_filtered}
use Rattle.cf_next.specs.Restoring.{AreMarksOf, is_marked, noting_call, noting_update, mark_if, with_marks}
use Rattle.cf_next.specs.declared.past.Past.{Past}

or_none : (b : Bool) → b ≡ (b || false)
or_none true = refl
or_none false = refl

or_more : (a b c : Bool) → ((a || b) || c) ≡ (a || (b || c))
or_more true b c = refl
or_more false b c = refl

and_none : (a b : Bool) → b ≡ (b || (a && false))
and_none true b = or_none b
and_none false b = or_none b

marked_more : (name k : List ℕ) (b : Bool) (marks : List (List ℕ × Bool)) → is_marked name (mark_if b k marks) ≡ (is_marked name marks || (b && bytes_eq name k))
marked_more name k false marks = or_none (is_marked name marks)
marked_more name k true marks = ap is_some (put_is name k true marks) ∙ by (bytes_eq name k) where
  by : (b : Bool) → is_some (cond b (Some true) (value_at name marks)) ≡ (is_marked name marks || b)
  by false = or_none (is_marked name marks)
  by true = or_true (is_marked name marks) where
    or_true : (c : Bool) → true ≡ (c || true)
    or_true true = refl
    or_true false = refl

-- the keys of a list
pub marked_keys : {A : Type 0} (key : A → List ℕ) (name : List ℕ) (xs : List A) (marks : List (List ℕ × Bool))
    → is_marked name (fold (λ ms x. mark_if true (key x) ms) marks xs) ≡ (is_marked name marks || list_any (λ x. bytes_eq name (key x)) xs)
marked_keys key name [] marks = or_none (is_marked name marks)
marked_keys key name (x ∷ xs) marks =
    marked_keys key name xs (mark_if true (key x) marks)
    ∙ ap (λ b. b || list_any (λ y. bytes_eq name (key y)) xs) (marked_more name (key x) true marks)
    ∙ or_more (is_marked name marks) (bytes_eq name (key x)) (list_any (λ y. bytes_eq name (key y)) xs)

-- the names of entries
pub marked_named : (name : List ℕ) (es : List Entry) (marks : List (List ℕ × Bool))
    → is_marked name (fold (λ ms e. with_marks (named_in e) ms) marks es) ≡ (is_marked name marks || is_among name (flat_map named_in es))
marked_named name [] marks = or_none (is_marked name marks)
marked_named name (e ∷ es) marks =
    marked_named name es (with_marks (named_in e) marks)
    ∙ ap (λ b. b || is_among name (flat_map named_in es)) (marked_keys (λ n. n) name (named_in e) marks)
    ∙ or_more (is_marked name marks) (is_among name (named_in e)) (is_among name (flat_map named_in es))
    ∙ ap (λ b. is_marked name marks || b) (sym (list_any-append (λ n. bytes_eq name n) (named_in e) (flat_map named_in es)))

-- what is marked of a call, and of many
module _ (n : ℕ) (k : List ℕ) where
  updated_one : (past : Past) (c : Call) (r : Request)
      → is_marked k (noting_update n past c r).updated ≡ (is_marked k past.updated || (goes_forward c.status && (updates k r && succeeded c)))
  updated_one past c (request.Update physical props) =
      marked_more k physical (goes_forward c.status && succeeded c) past.updated
      ∙ ap (λ b. is_marked k past.updated || b) (by (goes_forward c.status) (succeeded c) (bytes_eq k physical)) where
        by : (a b d : Bool) → ((a && b) && d) ≡ (a && (d && b))
        by false b d = refl
        by true false true = refl
        by true false false = refl
        by true true true = refl
        by true true false = refl
  updated_one past c (request.Create kind props) = and_none (goes_forward c.status) (is_marked k past.updated)
  updated_one past c (request.Delete physical) = and_none (goes_forward c.status) (is_marked k past.updated)

  restored_one : (past : Past) (c : Call) (r : Request)
      → is_marked k (noting_update n past c r).restored ≡ (is_marked k past.restored || (goes_back c.status && (updates k r && succeeded c)))
  restored_one past c (request.Update physical props) =
      marked_more k physical (goes_back c.status && succeeded c) past.restored
      ∙ ap (λ b. is_marked k past.restored || b) (by (goes_back c.status) (succeeded c) (bytes_eq k physical)) where
        by : (a b d : Bool) → ((a && b) && d) ≡ (a && (d && b))
        by false b d = refl
        by true false true = refl
        by true false false = refl
        by true true true = refl
        by true true false = refl
  restored_one past c (request.Create kind props) = and_none (goes_back c.status) (is_marked k past.restored)
  restored_one past c (request.Delete physical) = and_none (goes_back c.status) (is_marked k past.restored)

  abbrev goes_out : Call → Request → Bool
  goes_out c r = c.number == n && ((goes_back c.status && is_update r) && updates k r)

  tried_one : (past : Past) (c : Call) (r : Request) → is_marked k (noting_update n past c r).tried ≡ (is_marked k past.tried || goes_out c r)
  tried_one past c (request.Update physical props) =
      marked_more k physical (c.number == n && goes_back c.status) past.tried
      ∙ ap (λ b. is_marked k past.tried || b) (by (c.number == n) (goes_back c.status) (bytes_eq k physical)) where
        by : (a b d : Bool) → ((a && b) && d) ≡ (a && ((b && true) && d))
        by false b d = refl
        by true false d = refl
        by true true d = refl
  tried_one past c (request.Create kind props) = by (c.number == n) (goes_back c.status) where
    by : (a b : Bool) → is_marked k past.tried ≡ (is_marked k past.tried || (a && ((b && false) && false)))
    by false b = or_none (is_marked k past.tried)
    by true false = or_none (is_marked k past.tried)
    by true true = or_none (is_marked k past.tried)
  tried_one past c (request.Delete physical) = by (c.number == n) (goes_back c.status) where
    by : (a b : Bool) → is_marked k past.tried ≡ (is_marked k past.tried || (a && ((b && false) && false)))
    by false b = or_none (is_marked k past.tried)
    by true false = or_none (is_marked k past.tried)
    by true true = or_none (is_marked k past.tried)

-- a mark that one call more sets where it passes is set where one of all passes
folded : (n : ℕ) (mark : Past → Bool) (test : Call → Bool) → ((past : Past) (c : Call) → mark (noting_call n past c) ≡ (mark past || test c))
    → (cs : List Call) (past : Past) → mark (fold (noting_call n) past cs) ≡ (mark past || list_any test cs)
folded n mark test one [] past = or_none (mark past)
folded n mark test one (c ∷ cs) past =
    folded n mark test one cs (noting_call n past c) ∙ ap (λ b. b || list_any test cs) (one past c) ∙ or_more (mark past) (test c) (list_any test cs)

-- what no call tells stays
other : {A : Type 0} (n : ℕ) (part : Past → A) → ((past : Past) (c : Call) (r : Request) → part (noting_update n past c r) ≡ part past)
    → (cs : List Call) (past : Past) → part (fold (noting_call n) past cs) ≡ part past
other n part one [] past = refl
other n part one (c ∷ cs) past = other n part one cs (noting_call n past c) ∙ one past c c.request

abbrev blank : List (List ℕ × Bool) → List (List ℕ × Bool) → Past
blank skipped called = record { updated = []; restored = []; tried = []; skipped = skipped; called = called }

pub past_is : (s : StackState) (skipped called : List (List ℕ × Bool)) (past : Past)
    → past ≡ fold (noting_call s.operation) (blank skipped called) s.ledger
    → ((path : List ℕ) → is_marked path skipped ≡ was_skipped path s) → ((path : List ℕ) → not (is_marked path called) ≡ is_free path s) → AreMarksOf s past
past_is s skipped called past e skips opens = record {
  updated = λ k. ap (λ (p : Past). is_marked k p.updated) e
      ∙ folded s.operation (λ p. is_marked k p.updated) (λ c. goes_forward c.status && (updates k c.request && succeeded c)) (λ p c. updated_one s.operation k p c c.request) s.ledger (blank skipped called);
  restored = λ k. ap (λ (p : Past). is_marked k p.restored) e
      ∙ folded s.operation (λ p. is_marked k p.restored) (λ c. goes_back c.status && (updates k c.request && succeeded c)) (λ p c. restored_one s.operation k p c c.request) s.ledger (blank skipped called);
  tried = λ k. ap (λ (p : Past). is_marked k p.tried) e
      ∙ folded s.operation (λ p. is_marked k p.tried) (λ c. goes_out s.operation k c c.request) (λ p c. tried_one s.operation k p c c.request) s.ledger (blank skipped called)
      ∙ sym (any_filtered (λ c. goes_back c.status && is_update c.request) (λ c. updates k c.request) (own_calls s)
      ∙ any_filtered (λ c. c.number == s.operation) (λ c. (goes_back c.status && is_update c.request) && updates k c.request) s.ledger);
  skipped = λ path. ap (is_marked path) (ap (λ (p : Past). p.skipped) e ∙ other s.operation (λ p. p.skipped) kept s.ledger (blank skipped called)) ∙ skips path;
  called = λ path. ap (λ ms. not (is_marked path ms)) (ap (λ (p : Past). p.called) e ∙ other s.operation (λ p. p.called) left s.ledger (blank skipped called)) ∙ opens path;
} where
  kept : (p : Past) (c : Call) (r : Request) → (noting_update s.operation p c r).skipped ≡ p.skipped
  kept p c (request.Create kind props) = refl
  kept p c (request.Update physical props) = refl
  kept p c (request.Delete physical) = refl

  left : (p : Past) (c : Call) (r : Request) → (noting_update s.operation p c r).called ≡ p.called
  left p c (request.Create kind props) = refl
  left p c (request.Update physical props) = refl
  left p c (request.Delete physical) = refl
