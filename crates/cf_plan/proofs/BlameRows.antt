-- Members of a list that is mapped; what is refused is no success.
use Rattle.std.proofs.Common.{◌≡◌, ◌<◌, List, [], ◌∷◌, true, false, Some, refl, sym, ◌∙◌, true≢false, map, arith}
use Rattle.cf_tree.specs.declared.request.Request.{Request}
use Rattle.cf_tree.specs.declared.request.Request.TheVariants as request
use Rattle.cf_entry.specs.declared.entry.Reply.{Reply}
use Rattle.cf_entry.specs.declared.entry.Reply.TheVariants as reply
use Rattle.cf_effect.specs.declared.call.Settled.TheVariants as settled
use Rattle.cf_effect.specs.Calls.{is_success, is_refusal}
use Rattle.cf_tree.specs.Lists.{there}
use Rattle.cf_tree.specs.Lists.{here}
use Rattle.cf_tree.specs.Lists.{In}
use Rattle.cf_plan.specs.Follow.{settled_by}

pub into_mapped : {A B : Type 0} (f : A → B) (xs : List A) (x : A) → In x xs → In (f x) (map f xs)
into_mapped f (y ∷ xs) x here = here
into_mapped f (y ∷ xs) x (there i) = there (into_mapped f xs x i)
into_mapped f [] x i = elim i [ ]

success_refuses : (q : Request) → is_refusal q (Some settled.Success) ≡ false
success_refuses (request.Create k props) = refl
success_refuses (request.Update id props) = refl
success_refuses (request.Delete id) = refl

pub refusal_fails : (q : Request) (a : Reply) → is_refusal q (settled_by a) ≡ true → is_success (settled_by a) ≡ false
refusal_fails q (reply.Success physical attrs) e = absurd (true≢false (sym e ∙ success_refuses q))
refusal_fails q (reply.Failed c) e = refl
refusal_fails q reply.Doubt e = refl

pub none_below : 0 < 0 → ⊥
none_below l = omega (arith, l)
