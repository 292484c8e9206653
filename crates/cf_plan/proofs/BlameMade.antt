-- What an answer changes of a stack: its resources alone, and nothing is held by then where nothing was.
use Rattle.std.proofs.Common.{◌≡◌, ℕ, List, [], Bool, true, false, refl, sym, ap, subst}
use Rattle.std.specs.Prelude.{cond}
use Rattle.std.specs.List.{list_any}
use Rattle.cf_tree.specs.declared.request.Request.{Request}
use Rattle.cf_tree.specs.declared.request.Request.TheVariants as request
use Rattle.cf_tree.specs.declared.code.Code.{Code}
use Rattle.cf_tree.specs.declared.code.Code.TheVariants as code
use Rattle.cf_entry.specs.declared.entry.Reply.{Reply}
use Rattle.cf_entry.specs.declared.entry.Reply.TheVariants as reply
use Rattle.cf_effect.specs.declared.held.Held.{Held}
use Rattle.cf_effect.specs.declared.held.HeldStatus.TheVariants as held
use Rattle.cf_effect.specs.World.{StackState}
use Rattle.cf_effect.specs.Words.{has_physical, where_physical, without}
use Rattle.cf_effect.specs.Calls.{is_refusal}
use Rattle.cf_effect.specs.Reply.{with_status, updating, changing, deleting, answered}
use Rattle.cf_plan.specs.Follow.{settled_by}

-- a deletion that fails finds nothing, or is refused
data Failing (b : Bool) (path id : List ℕ) (c : Code) (s : StackState) : Type 0 where
  nothing_found : answered b path (request.Delete id) (reply.Failed c) s ≡ deleting id s → Failing b path id c s
  refused :
      answered b path (request.Delete id) (reply.Failed c) s ≡ with_status id held.DeleteFailed s
      → is_refusal (request.Delete id) (settled_by (reply.Failed c)) ≡ true → Failing b path id c s

deletion_failed : (b : Bool) (path id : List ℕ) (c : Code) (s : StackState) → Failing b path id c s
deletion_failed b path id code.NotFound s = nothing_found refl
deletion_failed b path id c s = refused refl refl

-- what a stack that creates is left with: as it was, but for what it has made
pub record IsLeft (s t : StackState) : Type 0 where
  pub as_was : t ≡ record s { held = t.held; made = t.made }
  pub none_held : s.held ≡ [] → t.held ≡ []

itself : (s : StackState) → IsLeft s s
itself s = record { as_was = refl; none_held = λ e. e }

changing_left : (id : List ℕ) (f : Held → Held) (s : StackState) → IsLeft s (changing id f s)
changing_left id f s = by_test (list_any (has_physical id) s.held) where
  by_test : (b : Bool) → IsLeft s (cond b (record s { held = where_physical id f s.held }) (record s { made = where_physical id f s.made }))
  by_test true = record { as_was = refl; none_held = λ e. ap (where_physical id f) e }
  by_test false = record { as_was = refl; none_held = λ e. e }

deleting_left : (id : List ℕ) (s : StackState) → IsLeft s (deleting id s)
deleting_left id s = record { as_was = refl; none_held = λ e. ap (without id) e }

-- an answer changes nothing but resources, and nothing is held by then where nothing was
pub answered_left : (b : Bool) (path : List ℕ) (r : Request) (a : Reply) (s : StackState) → IsLeft s (answered b path r a s)
answered_left b path (request.Create k props) (reply.Success physical attrs) s = record { as_was = refl; none_held = λ e. e }
answered_left b path (request.Create k props) (reply.Failed c) s = itself s
answered_left b path (request.Create k props) reply.Doubt s = itself s
answered_left b path (request.Update id props) (reply.Success physical attrs) s = changing_left id (updating props attrs) s
answered_left b path (request.Update id props) (reply.Failed c) s = by_restore b where
  by_restore : (b : Bool) → IsLeft s (answered b path (request.Update id props) (reply.Failed c) s)
  by_restore true = changing_left id (λ h. record h { status = held.UpdateFailed }) s
  by_restore false = itself s
answered_left b path (request.Update id props) reply.Doubt s = itself s
answered_left b path (request.Delete id) (reply.Success physical attrs) s = deleting_left id s
answered_left b path (request.Delete id) (reply.Failed c) s = by_failing (deletion_failed b path id c s) where
  by_failing : Failing b path id c s → IsLeft s (answered b path (request.Delete id) (reply.Failed c) s)
  by_failing (nothing_found e) = subst (IsLeft s) (sym e) (deleting_left id s)
  by_failing (refused e k) = subst (IsLeft s) (sym e) (changing_left id (λ h. record h { status = held.DeleteFailed }) s)
answered_left b path (request.Delete id) reply.Doubt s = itself s
