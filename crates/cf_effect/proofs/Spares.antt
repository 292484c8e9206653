-- What is laid by for some is laid by for fewer.
use Rattle.std.proofs.Common.{◌≡◌, ℕ, ◌+◌, ◌≤◌, vec_len, vec_capacity, arith, subst}
use Rattle.cf_effect.specs.declared.state.State.{State}
use Rattle.cf_effect.specs.Reserve.{HasSpare}

pub spare_fewer : (m n : ℕ) (s : State) → m ≤ n → HasSpare n s → HasSpare m s
spare_fewer m n s l h = record {
  made = omega (arith, l, h.made);
  tokens = omega (arith, l, h.tokens);
  events = omega (arith, l, h.events);
  entries = omega (arith, l, h.entries);
  ledger = omega (arith, l, h.ledger);
}

pub spare_less : (n : ℕ) (s : State) → HasSpare (n + 1) s → HasSpare n s
spare_less n s h = spare_fewer n (n + 1) s (omega arith) h

pub spare_so : (m n : ℕ) (s : State) → m ≡ n → HasSpare n s → HasSpare m s
spare_so m n s e h = spare_fewer m n s (omega (arith, e)) h
