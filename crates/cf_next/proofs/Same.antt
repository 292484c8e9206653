-- Steps that pass the test of being the same are equal, and a call and a resource to keep is the same as itself.
use Rattle.std.proofs.Common.{◌≡◌, ℕ, ◌==◌, Bool, true, false, ◌&&◌, List, refl, ap, sym, ◌∙◌, true≢false}
use Rattle.std.specs.Cmp.{first_so, second_so}
use Rattle.std.specs.Str.{bytes_eq}
use Rattle.std.proofs.lemmas.Bool.{and_from, eqb-true, eq-eqb}
use Rattle.cf_tree.specs.Datum.{members_of}
use Rattle.cf_tree.specs.Same.{same_members}
use Rattle.cf_tree.specs.declared.request.Request.{Request}
use Rattle.cf_tree.specs.declared.request.Request.TheVariants as request
use Rattle.cf_schema.proofs.Equal.{same_equal, equal_same}
use Rattle.cf_entry.specs.declared.turn.Why.{Why}
use Rattle.cf_entry.specs.declared.turn.Why.TheVariants as why
use Rattle.cf_plan.proofs.Listed.{bytes_same, same_bytes}
use Rattle.cf_next.specs.declared.step.Next.{Next}
use Rattle.cf_next.specs.declared.step.Next.TheVariants as next
use Rattle.cf_next.specs.Joining.{is_same_step, is_same_call, is_same_request, is_same_why}

same_request : (a b : Request) → is_same_request a b ≡ true → a ≡ b
same_request (request.Create k p) (request.Create k' p') e =
    ap (λ (l : List ℕ). request.Create l p) (bytes_same k k' (first_so (bytes_eq k k') (same_members (members_of p) (members_of p')) e))
    ∙ ap (request.Create k') (same_equal p p' (second_so (bytes_eq k k') (same_members (members_of p) (members_of p')) e))
same_request (request.Update i p) (request.Update i' p') e =
    ap (λ (j : List ℕ). request.Update j p) (bytes_same i i' (first_so (bytes_eq i i') (same_members (members_of p) (members_of p')) e))
    ∙ ap (request.Update i') (same_equal p p' (second_so (bytes_eq i i') (same_members (members_of p) (members_of p')) e))
same_request (request.Delete i) (request.Delete i') e = ap request.Delete (bytes_same i i' e)
same_request _ _ e = absurd (true≢false (sym e))

itself_request : (a : Request) → is_same_request a a ≡ true
itself_request (request.Create k p) = and_from (bytes_eq k k) (same_members (members_of p) (members_of p)) (same_bytes k) (equal_same p p refl)
itself_request (request.Update i p) = and_from (bytes_eq i i) (same_members (members_of p) (members_of p)) (same_bytes i) (equal_same p p refl)
itself_request (request.Delete i) = same_bytes i

same_why : (a b : Why) → is_same_why a b ≡ true → a ≡ b
same_why why.Retained why.Retained e = refl
same_why why.Failed why.Failed e = refl
same_why why.Doubt why.Doubt e = refl
same_why _ _ e = absurd (true≢false (sym e))

itself_why : (a : Why) → is_same_why a a ≡ true
itself_why why.Retained = refl
itself_why why.Failed = refl
itself_why why.Doubt = refl

same_call : (p l : List ℕ) (t : ℕ) (r : Request) (p' l' : List ℕ) (t' : ℕ) (r' : Request) (again : Bool)
    → is_same_call p l t r p' l' t' r' ≡ true → next.Step p l t r again ≡ next.Step p' l' t' r' again
same_call p l t r p' l' t' r' again e =
    let rest = second_so (bytes_eq p p') (bytes_eq l l' && (t == t' && is_same_request r r')) e in
    let last = second_so (bytes_eq l l') (t == t' && is_same_request r r') rest in
    ap (λ (k : List ℕ). next.Step k l t r again) (bytes_same p p' (first_so (bytes_eq p p') (bytes_eq l l' && (t == t' && is_same_request r r')) e))
    ∙ (ap (λ (k : List ℕ). next.Step p' k t r again) (bytes_same l l' (first_so (bytes_eq l l') (t == t' && is_same_request r r') rest))
    ∙ (ap (λ (n : ℕ). next.Step p' l' n r again) (eqb-true t t' (first_so (t == t') (is_same_request r r') last))
    ∙ ap (λ (q : Request). next.Step p' l' t' q again) (same_request r r' (second_so (t == t') (is_same_request r r') last))))

pub itself_call : (p l : List ℕ) (t : ℕ) (r : Request) → is_same_call p l t r p l t r ≡ true
itself_call p l t r =
    and_from (bytes_eq p p) (bytes_eq l l && (t == t && is_same_request r r)) (same_bytes p)
    (and_from (bytes_eq l l) (t == t && is_same_request r r) (same_bytes l)
    (and_from (t == t) (is_same_request r r) (eq-eqb t t refl) (itself_request r)))

same_keep : (p i : List ℕ) (w : Why) (p' i' : List ℕ) (w' : Why) → (bytes_eq p p' && (bytes_eq i i' && is_same_why w w')) ≡ true
    → next.Keep p i w ≡ next.Keep p' i' w'
same_keep p i w p' i' w' e =
    let rest = second_so (bytes_eq p p') (bytes_eq i i' && is_same_why w w') e in
    ap (λ (k : List ℕ). next.Keep k i w) (bytes_same p p' (first_so (bytes_eq p p') (bytes_eq i i' && is_same_why w w') e))
    ∙ (ap (λ (k : List ℕ). next.Keep p' k w) (bytes_same i i' (first_so (bytes_eq i i') (is_same_why w w') rest))
    ∙ ap (next.Keep p' i') (same_why w w' (second_so (bytes_eq i i') (is_same_why w w') rest)))

pub itself_keep : (p i : List ℕ) (w : Why) → is_same_step (next.Keep p i w) (next.Keep p i w) ≡ true
itself_keep p i w =
    and_from (bytes_eq p p) (bytes_eq i i && is_same_why w w) (same_bytes p) (and_from (bytes_eq i i) (is_same_why w w) (same_bytes i) (itself_why w))

pub same_is : (a b : Next) → is_same_step a b ≡ true → a ≡ b
same_is (next.Step p l t r true) (next.Step p' l' t' r' true) e = same_call p l t r p' l' t' r' true e
same_is (next.Step p l t r false) (next.Step p' l' t' r' false) e = same_call p l t r p' l' t' r' false e
same_is (next.Keep p i w) (next.Keep p' i' w') e = same_keep p i w p' i' w' e
same_is _ _ e = absurd (true≢false (sym e))
