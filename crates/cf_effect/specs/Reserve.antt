-- How much memory is laid by in the lists of a stack (this project's own).
use Rattle.std.specs.Prelude.{◌≡◌, ℕ, ◌+◌, ◌≤◌, true, Some, vec_len, vec_capacity}
use Rattle.cf_effect.specs.declared.held.Pending.{Pending}
use Rattle.cf_effect.specs.declared.terms.Terms.{Terms}
use Rattle.cf_effect.specs.declared.state.State.{State}
use Rattle.cf_effect.specs.World.{StackState}
use Rattle.cf_effect.specs.Words.{is_created, pending_of}
use Rattle.cf_effect.specs.Reply.{terms_at}

-- so many may join each of the lists that an intent or an outcome adds to
pub record HasSpare (n : ℕ) (s : State) : Type 0 where
  pub made : vec_len s.made + n ≤ vec_capacity s.made
  pub tokens : vec_len s.tokens + n ≤ vec_capacity s.tokens
  pub events : vec_len s.events + n ≤ vec_capacity s.events
  pub entries : vec_len s.entries + n ≤ vec_capacity s.entries
  pub ledger : vec_len s.ledger + n ≤ vec_capacity s.ledger

-- these are the policies and needs of what the call of a token makes
abbrev pub TermsFit : ℕ → Terms → StackState → Type 0
TermsFit token t s = (p : Pending) → pending_of token s ≡ Some p → is_created p ≡ true → t ≡ terms_at p.path s
