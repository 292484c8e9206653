-- What each entry leaves of the status of its stack.
use Rattle.std.proofs.Common.{◌≡◌, ℕ, true, List, [], ◌∷◌, ◌++◌, Option, refl, arith}
use Rattle.cf_core.proofs.Words.{Begun, Cause, Entry, Pending, Phase, Reply, StackState, Status, Why, begun, effect_at, has_token, intending, is_in_progress, keeping, keeping_known, keeping_unknown, list_any, new_call, replying, turned}
use Rattle.cf_core.proofs.Lemmas.{answered_left, either_way}

-- what is so where nothing changes and where it does is so behind a call that goes out, and behind a thing that is kept
module _ (P : StackState → Type 0) (s : StackState) (same : P s) where
  pub intended_way : (number : ℕ) (p : Pending) → P (record s { tokens = s.tokens ++ p ∷ []; ledger = s.ledger ++ new_call number s.status p ∷ [] }) → P (intending number p s)
  intended_way number p h =
      either_way P (list_any (has_token p.token) s.tokens) s (record s { tokens = s.tokens ++ p ∷ []; ledger = s.ledger ++ new_call number s.status p ∷ [] }) same h

  pub kept_way : (path physical : List ℕ) (w : Why) → P (keeping_unknown path w s) → P (keeping_known path physical w s) → P (keeping path physical w s)
  kept_way path physical w u k = grind (arith, either_way)

pub intended_status : (number : ℕ) (p : Pending) (s : StackState) → (intending number p s).status ≡ s.status
intended_status number p s = intended_way (λ (t : StackState). t.status ≡ s.status) s refl number p refl

pub replied_status : (token : ℕ) (answer : Reply) (s : StackState) → (replying token answer s).status ≡ s.status
replied_status token answer s = grind (arith, answered_left)

pub kept_status : (path physical : List ℕ) (w : Why) (s : StackState) → (keeping path physical w s).status ≡ s.status
kept_status path physical w s = kept_way (λ (t : StackState). t.status ≡ s.status) s refl path physical w refl refl

pub turned_status : (place number : ℕ) (p : Phase) (s : StackState) (cause : Option Cause) → (effect_at place (Entry.Phase number p cause) s).stack.status ≡ turned s.status p
turned_status place number p s cause = grind arith

pub ended_status : (place number : ℕ) (state : Status) (failed : List (List ℕ)) (s : StackState) → (effect_at place (Entry.Done number state failed) s).stack.status ≡ state
ended_status place number state failed s = grind arith

pub begun_status : (place : ℕ) (name : List ℕ) (number : ℕ) (k : Begun) (s : StackState) → (effect_at place (Entry.Begin number name k) s).stack.status ≡ begun k
begun_status place name number k s = grind arith

-- an operation that begins, or enters a later phase, is in progress
pub begun_goes : (k : Begun) → is_in_progress (begun k) ≡ true
begun_goes k = grind arith

pub turned_goes : (a : Status) (p : Phase) → is_in_progress (turned a p) ≡ true
turned_goes a p = grind arith
