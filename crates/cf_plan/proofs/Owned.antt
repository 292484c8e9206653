-- Which calls of a stack are its last operation's, by what code compares.
use Rattle.std.proofs.Common.{◌≡◌, ℕ, ◌==◌, ◌&&◌, Bool, List, filter, ap, sym, ◌∙◌}
use Rattle.std.specs.List.{list_any}
use Rattle.cf_effect.specs.declared.call.Call.{Call}
use Rattle.cf_effect.specs.World.{StackState}
use Rattle.cf_effect.specs.Calls.{own_calls}
use Rattle.cf_plan.proofs.Told.{any_filtered, filter_filtered}

-- among all calls those with the operation's number
pub numbered_any : (test : Call → Bool) (number : ℕ) (cs : List Call) (s : StackState) → number ≡ s.operation → cs ≡ s.ledger
    → list_any (λ c. c.number == number && test c) cs ≡ list_any (λ c. c.number == s.operation && test c) s.ledger
numbered_any test number cs s n l =
    ap (λ (m : ℕ). list_any (λ c. c.number == m && test c) cs) n ∙ ap (λ (ks : List Call). list_any (λ c. c.number == s.operation && test c) ks) l

pub own_any : (test : Call → Bool) (number : ℕ) (cs : List Call) (s : StackState) → number ≡ s.operation → cs ≡ s.ledger
    → list_any (λ c. c.number == number && test c) cs ≡ list_any test (own_calls s)
own_any test number cs s n l = numbered_any test number cs s n l ∙ sym (any_filtered (λ c. c.number == s.operation) test s.ledger)

pub own_filtered : (test : Call → Bool) (number : ℕ) (cs : List Call) (s : StackState) → number ≡ s.operation → cs ≡ s.ledger
    → filter (λ c. c.number == number && test c) cs ≡ filter test (own_calls s)
own_filtered test number cs s n l =
    ap (λ (m : ℕ). filter (λ c. c.number == m && test c) cs) n ∙ ap (λ (ks : List Call). filter (λ c. c.number == s.operation && test c) ks) l
    ∙ sym (filter_filtered (λ c. c.number == s.operation) test s.ledger)
