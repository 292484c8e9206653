-- An entry of an operation leaves each other call awaited.
use Rattle.std.proofs.Common.{◌≡◌, ℕ, ◌+◌, ◌==◌, Bool, true, false, not, List, [], ◌∷◌, ◌++◌, Option, Some, None, find, filter, is_some, option_map, map, refl, sym, ap, ◌∙◌, subst, cond, true≢false, arith}
use Rattle.std.proofs.lemmas.Bool.{eq-eqb, eqb-true}
use Rattle.cf_tree.specs.Lists.{In}
use Rattle.cf_tree.specs.declared.request.Request.{Request}
use Rattle.cf_entry.proofs.Codec.{some_is}
use Rattle.cf_entry.specs.declared.entry.Entry.{Entry}
use Rattle.cf_entry.specs.declared.entry.Entry.TheVariants as entry
use Rattle.cf_entry.specs.declared.entry.Reply.{Reply}
use Rattle.cf_entry.specs.declared.status.Status.{Status}
use Rattle.cf_entry.specs.declared.turn.Cause.{Cause}
use Rattle.cf_entry.specs.declared.turn.Phase.{Phase}
use Rattle.cf_entry.specs.declared.turn.Phase.TheVariants as phase
use Rattle.cf_entry.specs.declared.turn.Why.{Why}
use Rattle.cf_change.specs.Changes.{is_empty}
use Rattle.cf_effect.specs.Calls.{answered_call, call_under, is_call, is_restore, new_call}
use Rattle.cf_effect.specs.declared.call.Call.{Call}
use Rattle.cf_effect.specs.declared.held.Pending.{Pending}
use Rattle.cf_effect.specs.End.{turned_effect}
use Rattle.cf_effect.specs.Fold.{effect_at, world_after}
use Rattle.cf_effect.specs.Reply.{intending, keeping, replied, replying}
use Rattle.cf_effect.specs.Words.{pending_of}
use Rattle.cf_effect.specs.World.{StackState, World, stack_of_operation}
use Rattle.cf_schema.specs.declared.described.Schema.{Schema}
use Rattle.cf_stacks.specs.Apart.{AreApart}
use Rattle.cf_stacks.specs.Room.{Standing, awaited_at, has_call, stepped}
use Rattle.cf_stacks.specs.RoomStays.{Steps, spares}
use Rattle.cf_stacks.proofs.Awaited.{awaited_stays}
use Rattle.cf_core.proofs.Statuses.{intended_way, kept_way}
use Rattle.cf_plan.proofs.BlameMade.{answered_left}
use Rattle.cf_plan.proofs.ChangedLists.{find_mapped}
use Rattle.cf_plan.proofs.CreatedStays.{found_one, found_still}
use Rattle.cf_plan.proofs.Going.{IsLike, end_operation, like_intended, like_kept, like_replied}
use Rattle.cf_plan.proofs.Members.{false_from}
use Rattle.cf_plan.proofs.RunLists.{in_kept}
use Rattle.cf_plan.specs.Follow.{MayFollow, calls_in_flight, is_in_flight, none_in_flight}
use Rattle.cf_plan.specs.Life.{IsGranted}
use Rattle.cf_plan.specs.Run.{IsOwn}
use Rattle.cf_lane.specs.Calling.{Granted}
use Rattle.cf_book.specs.Inside.{IsAwaited}
use Rattle.cf_core.proofs.Operations.{at_it, at_other, left, like_goes}

-- An entry of an operation that goes on, whose stack keeps the row of the call.
module _ (x : Standing) (n : ℕ) (name : List ℕ) (s : StackState) (at : stack_of_operation n x.world ≡ Some (name, s)) (e : Entry) (own : IsOwn n e)
    (apart : AreApart x.world) (call : Granted) (h : IsAwaited x call) (spared : spares h.name call.token e ≡ true) where
  room : has_call call.token (awaited_at h.name (stepped x e)) ≡ true
  room = awaited_stays x h.name call.token (Steps e ∷ []) (spared, tt) h.room

  -- a call of another operation
  pub awaited_elsewhere : (left x.world n name s at e own).operation ≡ s.operation → (call.number == n) ≡ false → IsAwaited (stepped x e) call
  awaited_elsewhere same other = record {
    name = h.name;
    stack = h.stack;
    at = at_other x.world n name s at e own apart same call.number other ∙ h.at;
    row = h.row;
    room = room;
  }

  pub is_its : call.number ≡ n → ◌≡◌ {A = List ℕ × StackState} (h.name, h.stack) (name, s)
  is_its same = some_is _ _ (sym h.at ∙ ap (λ m. stack_of_operation m x.world) same ∙ at)

  pub awaited_on : IsLike s (left x.world n name s at e own)
      → (is_some (call_under call.token s) ≡ true → is_some (call_under call.token (left x.world n name s at e own)) ≡ true) → IsAwaited (stepped x e) call
  awaited_on like row = by (call.number == n) refl
    where
      by : (b : Bool) → (call.number == n) ≡ b → IsAwaited (stepped x e) call
      by true k =
          let same : call.number ≡ n = eqb-true call.number n k in
          record {
            name = name;
            stack = left x.world n name s at e own;
            at = ap (λ m. stack_of_operation m (world_after x.world e)) same ∙ at_it x.world n name s at e own (like_goes x.world n name s at e own like);
            row = row (ap (λ (q : List ℕ × StackState). is_some (call_under call.token q.1)) (sym (is_its same)) ∙ h.row);
            room = ap (λ (q : List ℕ × StackState). has_call call.token (awaited_at q.0 (stepped x e))) (sym (is_its same)) ∙ room;
          }
      by false k = awaited_elsewhere like.operation k

-- each call keeps its row where another one is answered
module _ (token : ℕ) (a : Reply) (s : StackState) where
  still_row : (t : ℕ) → is_some (call_under t (replying token a s)) ≡ is_some (call_under t s)
  still_row t = by (pending_of token s) where
    change : Call → Call
    change c = cond (is_call token c) (answered_call a c) c

    same_token : (c : Call) → is_call t (change c) ≡ is_call t c
    same_token c = on (is_call token c) a where
      on : (b : Bool) (r : Reply) → is_call t (cond b (answered_call r c) c) ≡ is_call t c
      on b r = grind arith

    as_some : (o : Option Call) → is_some (option_map change o) ≡ is_some o
    as_some None = refl
    as_some (Some c) = refl

    by : (o : Option Pending) → is_some (call_under t (replied token a o s)) ≡ is_some (call_under t s)
    by None = refl
    by (Some p) =
        ap (λ (u : StackState). is_some (find (is_call t) (map change u.ledger))) (answered_left (is_restore token s) p.path p.request a s).as_was
        ∙ ap is_some (find_mapped (is_call t) change s.ledger same_token) ∙ as_some (find (is_call t) s.ledger)

-- An outcome leaves each other call awaited.
pub awaited_after : (x : Standing) (told : Granted) (mine : IsAwaited x told) (a : Reply) (before after : ℕ) → AreApart x.world → (call : Granted)
    → (call.token ≡ told.token → ⊥) → IsAwaited x call → IsAwaited (stepped x (entry.Outcome told.number told.token a before after)) call
awaited_after x told mine a before after apart call apart_token h =
    let e : Entry = entry.Outcome told.number told.token a before after in
    let spared : not (told.token == call.token) ≡ true = ap not (false_from (told.token == call.token) (λ t. apart_token (sym (eqb-true told.token call.token t)))) in
    let like = like_replied told.token a (pending_of told.token mine.stack) mine.stack in
    awaited_on x told.number mine.name mine.stack mine.at e refl apart call h spared (record { operation = like.operation; status = like.status })
    (λ r. still_row told.token a mine.stack call.token ∙ r)

-- What is granted leaves each call that is out awaited.
module _ (schemas : List Schema) (x : Standing) (out : List ℕ) (apart : AreApart x.world) (call : Granted) (flies : is_in_flight out call.token ≡ true) (h : IsAwaited x call) where
  -- no phase begins and no operation ends while a call of it is out
  never_flies : (name : List ℕ) (s : StackState) → ◌≡◌ {A = List ℕ × StackState} (h.name, h.stack) (name, s) → none_in_flight out s ≡ true → ⊥
  never_flies name s its none = by (call_under call.token s) refl
    where
      row : is_some (call_under call.token s) ≡ true
      row = ap (λ (q : List ℕ × StackState). is_some (call_under call.token q.1)) (sym its) ∙ h.row

      some_out : (cs : List Call) (c : Call) → In c cs → is_empty cs ≡ true → ⊥
      some_out [] c i k = elim i [ ]
      some_out (d ∷ cs) c i k = true≢false (sym k)

      by : (o : Option Call) → call_under call.token s ≡ o → ⊥
      by None k = true≢false (sym row ∙ ap is_some k)
      by (Some c) k =
          let (i, t) = found_one (is_call call.token) s.ledger c k in
          some_out (calls_in_flight out s) c
          (in_kept (λ (d : Call). is_in_flight out d.token) s.ledger c i (ap (is_in_flight out) (sym (eqb-true call.token c.token t)) ∙ flies)) none

  elsewhere : (n : ℕ) (name : List ℕ) (s : StackState) → stack_of_operation n x.world ≡ Some (name, s) → none_in_flight out s ≡ true → (call.number == n) ≡ false
  elsewhere n name s at none = false_from (call.number == n) (λ t.
      never_flies name s (some_is _ _ (sym h.at ∙ ap (λ m. stack_of_operation m x.world) (eqb-true call.number n t) ∙ at)) none)

  pub awaited_granted : (e : Entry) → IsGranted e → MayFollow schemas x.world out e → IsAwaited (stepped x e) call
  awaited_granted (entry.Kept n path physical w) i (name, s, stage, at, is, may) =
      let like = like_kept path physical w s in
      awaited_on x n name s at (entry.Kept n path physical w) refl apart call h refl (record { operation = like.operation; status = like.status })
      (λ r. kept_way (λ (u : StackState). is_some (call_under call.token u) ≡ true) s r path physical w r r)
  awaited_granted (entry.Intent n token lane path r) i (name, s, stage, at, is, may) =
      let p : Pending = record { token = token; path = path; lane = lane; request = r } in
      let like = like_intended n p s in
      awaited_on x n name s at (entry.Intent n token lane path r) refl apart call h refl (record { operation = like.operation; status = like.status })
      (λ k. intended_way (λ (u : StackState). is_some (call_under call.token u) ≡ true) s k n p (longer s n p k))
    where
      longer : (s : StackState) (n : ℕ) (p : Pending) → is_some (call_under call.token s) ≡ true
          → is_some (find (is_call call.token) (s.ledger ++ new_call n s.status p ∷ [])) ≡ true
      longer s n p k = by (find (is_call call.token) s.ledger) refl k where
        by : (o : Option Call) → find (is_call call.token) s.ledger ≡ o → is_some o ≡ true
            → is_some (find (is_call call.token) (s.ledger ++ new_call n s.status p ∷ [])) ≡ true
        by None e k = absurd (true≢false (sym k))
        by (Some c) e k = ap is_some (found_still (is_call call.token) s.ledger (new_call n s.status p ∷ []) c e)
  awaited_granted (entry.Phase n p cause) i (name, s, stage, at, is, may) =
      awaited_elsewhere x n name s at (entry.Phase n p cause) refl apart call h refl (turned_operation p s) (elsewhere n name s at may.0)
    where
      turned_operation : (p : Phase) (s : StackState) → (turned_effect p s).stack.operation ≡ s.operation
      turned_operation phase.Clean s = refl
      turned_operation phase.Back s = refl
      turned_operation phase.BackClean s = refl
  awaited_granted (entry.Done n state failed) i (name, s, stage, at, is, may) =
      awaited_elsewhere x n name s at (entry.Done n state failed) refl apart call h refl (end_operation state s) (elsewhere n name s at may.0)
  awaited_granted (entry.Opened epoch lanes) i may = absurd i
  awaited_granted (entry.Begin number name k) i may = absurd i
  awaited_granted (entry.ChangeSet number name source rows outputs) i may = absurd i
  awaited_granted (entry.Outcome number token a before after) i may = absurd i
