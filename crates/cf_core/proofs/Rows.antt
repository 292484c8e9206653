-- A row of a ledger is that of the same call as it is answered, and as calls count anew.
use Rattle.std.proofs.Common.{◌≡◌, ℕ, ◌==◌, List, [], ◌∷◌, Some, refl, ap, ◌∙◌, map, option_map, arith}
use Rattle.cf_core.proofs.Words.{Call, Reply, anew, answered_call, cond, is_call}
use Rattle.cf_core.proofs.Lemmas.{either_way}
use Rattle.cf_core.specs.Books.{row_in}

-- a row that is changed is still of the same call
pub record IsSameCall (c d : Call) : Type 0 where
  pub number : d.number ≡ c.number
  pub token : d.token ≡ c.token
  pub lane : d.lane ≡ c.lane
  pub path : d.path ≡ c.path
  pub request : d.request ≡ c.request
  pub status : d.status ≡ c.status

pub itself_same : (c : Call) → IsSameCall c c
itself_same c = record { number = refl; token = refl; lane = refl; path = refl; request = refl; status = refl }

pub anew_same : (c : Call) → IsSameCall c (anew c)
anew_same c = record { number = refl; token = refl; lane = refl; path = refl; request = refl; status = refl }

pub answered_same : (a : Reply) (c : Call) → IsSameCall c (answered_call a c)
answered_same a c = grind arith

-- the rows by an answer to the call of a token
abbrev pub answered_row : ℕ → Reply → Call → Call
answered_row token a c = cond (is_call token c) (answered_call a c) c

pub answered_row_same : (token : ℕ) (a : Reply) (c : Call) → IsSameCall c (answered_row token a c)
answered_row_same token a c = either_way (IsSameCall c) (is_call token c) (answered_call a c) c (answered_same a c) (itself_same c)

module _ (f : Call → Call) (same : (c : Call) → IsSameCall c (f c)) where
  pub call_mapped : (token : ℕ) (rows : List Call) → row_in token (map f rows) ≡ option_map f (row_in token rows)
  call_mapped token [] = refl
  call_mapped token (c ∷ rows) = let ih = call_mapped token rows in let e = ap (λ t. token == t) (same c).token in grind arith

  pub row_found : (token : ℕ) (rows : List Call) (c : Call) → row_in token rows ≡ Some c → row_in token (map f rows) ≡ Some (f c)
  row_found token rows c e = call_mapped token rows ∙ ap (option_map f) e
