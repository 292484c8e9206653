-- Which calls stay open where one is answered.
use Rattle.std.proofs.Common.{◌≡◌, ℕ, ◌==◌, List, true, not, sym, ap}
use Rattle.std.proofs.lemmas.Bool.{eqb-true}
use Rattle.cf_entry.specs.declared.entry.Reply.{Reply}
use Rattle.cf_entry.specs.declared.entry.Reply.TheVariants as reply
use Rattle.cf_effect.specs.declared.held.Pending.{Pending}
use Rattle.cf_effect.specs.Words.{has_token}
use Rattle.cf_effect.specs.Operation.{is_doubt}
use Rattle.cf_effect.specs.Reply.{still_open}
use Rattle.cf_tree.specs.Lists.{In}
use Rattle.cf_plan.proofs.CreatedRight.{in_filter}
use Rattle.cf_plan.proofs.RunLists.{none_false, in_kept}

module _ (token : ℕ) (tokens : List Pending) where
  pub in_still : (a : Reply) (q : Pending) → In q (still_open token a tokens) → In q tokens
  in_still (reply.Success physical attrs) q i = (in_filter (λ x. not (has_token token x)) tokens q i).0
  in_still (reply.Failed c) q i = (in_filter (λ x. not (has_token token x)) tokens q i).0
  in_still reply.Doubt q i = i

  pub stays_open : (a : Reply) (q : Pending) → In q tokens → (q.token ≡ token → ⊥) → In q (still_open token a tokens)
  stays_open (reply.Success physical attrs) q i d = in_kept (λ x. not (has_token token x)) tokens q i (ap not (none_false (token == q.token) (λ e. d (sym (eqb-true token q.token e)))))
  stays_open (reply.Failed c) q i d = in_kept (λ x. not (has_token token x)) tokens q i (ap not (none_false (token == q.token) (λ e. d (sym (eqb-true token q.token e)))))
  stays_open reply.Doubt q i d = i

  pub doubt_open : (a : Reply) (q : Pending) → In q tokens → is_doubt a ≡ true → In q (still_open token a tokens)
  doubt_open (reply.Success physical attrs) q i d = let no : ⊥ = cc in absurd no
  doubt_open (reply.Failed c) q i d = let no : ⊥ = cc in absurd no
  doubt_open reply.Doubt q i d = i
