-- One operation is of one stack, and stays so.
use Rattle.std.proofs.Common.{◌≡◌, ℕ, ◌+◌, ◌<◌, ◌≤◌, ◌⊎◌, inl, inr, Bool, true, false, List, [], ◌∷◌, ◌++◌, Option, Some, None, map, option_map, refl, sym, ap, ◌∙◌, subst, cond, arith}
use Rattle.std.specs.Bool.{IsTrue}
use Rattle.std.specs.List.{list_any}
use Rattle.std.specs.Option.{option_map_or, unwrap_or}
use Rattle.std.specs.Str.{bytes_eq}
use Rattle.std.proofs.lemmas.Slice.Eq.{bytes_eq-Decides}
use Rattle.cf_tree.specs.Keys.{ascends, put, value_at}
use Rattle.cf_tree.proofs.Lookups.{put_here, put_else}
use Rattle.cf_tree.proofs.Order.{ascends_map, ascends_put}
use Rattle.cf_tree.specs.Datum.{Data}
use Rattle.cf_tree.specs.declared.request.Request.{Request}
use Rattle.cf_tree.specs.declared.request.Request.TheVariants as request
use Rattle.cf_tree.specs.declared.code.Code.{Code}
use Rattle.cf_tree.specs.declared.code.Code.TheVariants as code
use Rattle.cf_entry.specs.declared.entry.Begun.{Begun}
use Rattle.cf_entry.specs.declared.entry.Begun.TheVariants as begin
use Rattle.cf_entry.specs.declared.entry.Entry.{Entry}
use Rattle.cf_entry.specs.declared.entry.Entry.TheVariants as entry
use Rattle.cf_entry.specs.declared.entry.Reply.{Reply}
use Rattle.cf_entry.specs.declared.entry.Reply.TheVariants as reply
use Rattle.cf_entry.specs.declared.status.Status.{Status}
use Rattle.cf_entry.specs.declared.status.Status.TheVariants as status
use Rattle.cf_entry.specs.declared.turn.Phase.{Phase}
use Rattle.cf_entry.specs.declared.turn.Phase.TheVariants as phase
use Rattle.cf_entry.specs.declared.turn.Why.{Why}
use Rattle.cf_effect.specs.declared.held.Held.{Held}
use Rattle.cf_effect.specs.declared.held.HeldStatus.TheVariants as held
use Rattle.cf_effect.specs.declared.held.Pending.{Pending}
use Rattle.cf_effect.specs.World.{StackState, World, is_going, known_stack, no_stack, stack_at, stack_of_operation}
use Rattle.cf_effect.specs.Words.{has_physical, has_token, is_create_at, pending_of, resources_of, where_physical}
use Rattle.cf_effect.specs.Calls.{is_restore, new_call}
use Rattle.cf_effect.specs.End.{ended_effect, turned_effect}
use Rattle.cf_effect.specs.Reply.{answered, changing, intending, keeping, keeping_known, keeping_unknown, replied, updating}
use Rattle.cf_stacks.specs.Apart.{AreApart, HasNextNumber, StayApart}
use Rattle.cf_effect.specs.Effect.{leaving}
use Rattle.cf_effect.specs.Fold.{effect_at, numbered, world_after}
use Rattle.cf_stacks.proofs.Worlds.{found_stands, value_under}

at_put : (name a : List ℕ) (v t : StackState) (ps : List (List ℕ × StackState)) → value_at a (put name v ps) ≡ Some t → ((a ≡ name) × (t ≡ v)) ⊎ (value_at a ps ≡ Some t)
at_put name a v t ps h = by (bytes_eq a name) refl
  where
    by : (b : Bool) → bytes_eq a name ≡ b → ((a ≡ name) × (t ≡ v)) ⊎ (value_at a ps ≡ Some t)
    by true e =
        let same : a ≡ name = (bytes_eq-Decides a name).0 e in
        let here : value_at a (put name v ps) ≡ Some v = subst (λ (k : List ℕ). value_at k (put name v ps) ≡ Some v) (sym same) (put_here name v ps) in
        inl (same, cc)
    by false e = inr (sym (put_else a name v ps e) ∙ h)

module _ (x : World) (h : AreApart x) where
  -- a stack that is left with its operation
  module _ (y : World) (name : List ℕ) (v : StackState) (stacks : y.stacks ≡ put name v x.stacks) where
    found_in : (a : List ℕ) (t : StackState) → stack_at a y ≡ Some t → ((a ≡ name) × (t ≡ v)) ⊎ (stack_at a x ≡ Some t)
    found_in a t e = at_put name a v t x.stacks (ap (value_at a) (sym stacks) ∙ e)

    in_order : IsTrue (ascends y.stacks)
    in_order = ap ascends stacks ∙ ascends_put name v x.stacks h.names

    module _ (same : (s : StackState) → value_at name x.stacks ≡ Some s → v.operation ≡ s.operation) (new : value_at name x.stacks ≡ None → v.operation ≡ 0) (last : y.operation ≡ x.operation) where
      kept_last : v.operation ≤ x.operation
      kept_last = by (value_at name x.stacks) refl
        where
          by : (o : Option StackState) → value_at name x.stacks ≡ o → v.operation ≤ x.operation
          by None e = let zero = new e in omega (arith, zero)
          by (Some s) e = let so = same s e in let most = h.last name s e in omega (arith, so, most)

      own_apart : (b : List ℕ) (t : StackState) → stack_at b x ≡ Some t → v.operation ≡ t.operation → 0 < v.operation → name ≡ b
      own_apart b t e so above = by (value_at name x.stacks) refl
        where
          by : (o : Option StackState) → value_at name x.stacks ≡ o → name ≡ b
          by None f = let zero = new f in absurd (omega (arith, zero, above))
          by (Some s) f = h.apart name b s t f e (sym (same s f) ∙ so) (subst (λ n. 0 < n) (same s f) above)

      put_last : (a : List ℕ) (s : StackState) → stack_at a y ≡ Some s → s.operation ≤ y.operation
      put_last a s e = by (found_in a s e)
        where
          by : ((a ≡ name) × (s ≡ v)) ⊎ (stack_at a x ≡ Some s) → s.operation ≤ y.operation
          by (inl k) = let so = ap (λ (t : StackState). t.operation) k.1 in omega (arith, so, last, kept_last)
          by (inr k) = let most = h.last a s k in omega (arith, last, most)

      put_distinct : (a b : List ℕ) (s t : StackState) → stack_at a y ≡ Some s → stack_at b y ≡ Some t → s.operation ≡ t.operation → 0 < s.operation → a ≡ b
      put_distinct a b s t e f so above = by (found_in a s e) (found_in b t f)
        where
          by : ((a ≡ name) × (s ≡ v)) ⊎ (stack_at a x ≡ Some s) → ((b ≡ name) × (t ≡ v)) ⊎ (stack_at b x ≡ Some t) → a ≡ b
          by (inl k) (inl l) = k.0 ∙ sym l.0
          by (inl k) (inr l) =
              let is = ap (λ (u : StackState). u.operation) k.1 in
              k.0 ∙ own_apart b t l (sym is ∙ so) (subst (λ n. 0 < n) is above)
          by (inr k) (inl l) =
              let is = ap (λ (u : StackState). u.operation) l.1 in
              sym (l.0 ∙ own_apart a s k (sym is ∙ sym so) (subst (λ n. 0 < n) (so ∙ is) above))
          by (inr k) (inr l) = h.apart a b s t k l so above

      pub put_apart : AreApart y
      put_apart = record { names = in_order; last = put_last; apart = put_distinct }

    module _ (number : ℕ) (of_v : v.operation ≡ number) (last : y.operation ≡ number) (next : x.operation < number) where
      begun_last : (a : List ℕ) (s : StackState) → stack_at a y ≡ Some s → s.operation ≤ y.operation
      begun_last a s e = by (found_in a s e)
        where
          by : ((a ≡ name) × (s ≡ v)) ⊎ (stack_at a x ≡ Some s) → s.operation ≤ y.operation
          by (inl k) = let so = ap (λ (t : StackState). t.operation) k.1 in omega (arith, so, last, of_v)
          by (inr k) = let most = h.last a s k in omega (arith, last, next, most)

      begun_distinct : (a b : List ℕ) (s t : StackState) → stack_at a y ≡ Some s → stack_at b y ≡ Some t → s.operation ≡ t.operation → 0 < s.operation → a ≡ b
      begun_distinct a b s t e f so above = by (found_in a s e) (found_in b t f)
        where
          by : ((a ≡ name) × (s ≡ v)) ⊎ (stack_at a x ≡ Some s) → ((b ≡ name) × (t ≡ v)) ⊎ (stack_at b x ≡ Some t) → a ≡ b
          by (inl k) (inl l) = k.0 ∙ sym l.0
          by (inl k) (inr l) = let is = ap (λ (u : StackState). u.operation) k.1 in let most = h.last b t l in absurd (omega (arith, is, of_v, so, most, next))
          by (inr k) (inl l) = let is = ap (λ (u : StackState). u.operation) l.1 in let most = h.last a s k in absurd (omega (arith, is, of_v, so, most, next))
          by (inr k) (inr l) = h.apart a b s t k l so above

      pub begun_apart : AreApart y
      begun_apart = record { names = in_order; last = begun_last; apart = begun_distinct }

  -- no stack changes, and the last number does not fall
  pub same_apart : (y : World) → y.stacks ≡ x.stacks → x.operation ≤ y.operation → AreApart y
  same_apart y stacks last = record {
    names = ap ascends stacks ∙ h.names;
    last = λ a s e. let most = h.last a s (ap (value_at a) (sym stacks) ∙ e) in omega (arith, most, last);
    apart = λ a b s t e f so above. h.apart a b s t (ap (value_at a) (sym stacks) ∙ e) (ap (value_at b) (sym stacks) ∙ f) so above;
  }

  -- each stack is left with its operation
  module _ (y : World) (f : StackState → StackState) (keeps : (s : StackState) → (f s).operation ≡ s.operation) (stacks : y.stacks ≡ map (λ (s : List ℕ × StackState). (s.0, f s.1)) x.stacks) (last : y.operation ≡ x.operation) where
    record Was (a : List ℕ) (s : StackState) : Type 0 where
      pub stack : StackState
      pub there : stack_at a x ≡ Some stack
      pub operation : s.operation ≡ stack.operation

    was_by : (a : List ℕ) (s : StackState) (o : Option StackState) → stack_at a x ≡ o → option_map f o ≡ Some s → Was a s
    was_by a s None there e = absurd cc
    was_by a s (Some t) there e = record { stack = t; there = there; operation = let same : f t ≡ s = cc in sym (ap (λ (u : StackState). u.operation) same) ∙ keeps t }

    was : (a : List ℕ) (s : StackState) → stack_at a y ≡ Some s → Was a s
    was a s e = was_by a s (stack_at a x) refl (sym (value_under f a x.stacks) ∙ ap (value_at a) (sym stacks) ∙ e)

    pub map_apart : AreApart y
    map_apart = record {
      names = ap ascends stacks ∙ ascends_map {X = StackState} {Y = StackState} (λ (s : List ℕ × StackState). (s.0, f s.1)) (λ p. refl) x.stacks ∙ h.names;
      last = λ a s e. let w = was a s e in let most = h.last a w.stack w.there in let is = w.operation in omega (arith, most, is, last);
      apart = λ a b s t e k so above. let w = was a s e in let v = was b t k in
          h.apart a b w.stack v.stack w.there v.there (sym w.operation ∙ so ∙ v.operation) (subst (λ n. 0 < n) w.operation above);
    }

-- but for a beginning, an entry leaves the number of the last operation
changing_stays : (id : List ℕ) (change : Held → Held) (s : StackState) → (changing id change s).operation ≡ s.operation
changing_stays id change s = by (list_any (has_physical id) s.held)
  where
    by : (b : Bool) → (cond b (record s { held = where_physical id change s.held }) (record s { made = where_physical id change s.made })).operation ≡ s.operation
    by true = refl
    by false = refl

failed_stays : (b : Bool) (path id : List ℕ) (props : List (List ℕ × Data)) (c : Code) (s : StackState) → (answered b path (request.Update id props) (reply.Failed c) s).operation ≡ s.operation
failed_stays true path id props c s = changing_stays id (λ h. record h { status = held.UpdateFailed }) s
failed_stays false path id props c s = refl

refused_stays : (b : Bool) (path id : List ℕ) (c : Code) (s : StackState) → (answered b path (request.Delete id) (reply.Failed c) s).operation ≡ s.operation
refused_stays b path id code.NotFound s = refl
refused_stays b path id c s = changing_stays id (λ h. record h { status = held.DeleteFailed }) s

answered_stays : (b : Bool) (path : List ℕ) (r : Request) (a : Reply) (s : StackState) → (answered b path r a s).operation ≡ s.operation
answered_stays b path (request.Create k props) (reply.Success physical attrs) s = refl
answered_stays b path (request.Create k props) (reply.Failed c) s = refl
answered_stays b path (request.Create k props) reply.Doubt s = refl
answered_stays b path (request.Update id props) (reply.Success physical attrs) s = changing_stays id (updating props attrs) s
answered_stays b path (request.Update id props) (reply.Failed c) s = failed_stays b path id props c s
answered_stays b path (request.Update id props) reply.Doubt s = refl
answered_stays b path (request.Delete id) (reply.Success physical attrs) s = refl
answered_stays b path (request.Delete id) (reply.Failed c) s = refused_stays b path id c s
answered_stays b path (request.Delete id) reply.Doubt s = refl

replied_stays : (token : ℕ) (a : Reply) (o : Option Pending) (s : StackState) → (replied token a o s).operation ≡ s.operation
replied_stays token a None s = refl
replied_stays token a (Some p) s = answered_stays (is_restore token s) p.path p.request a s

kept_stays : (path physical : List ℕ) (w : Why) (s : StackState) → (keeping path physical w s).operation ≡ s.operation
kept_stays path physical w s = by (bytes_eq physical []) (list_any (is_create_at path) s.tokens) (list_any (has_physical physical) (resources_of s))
  where
    by : (b c d : Bool) → (cond b (cond c (keeping_unknown path w s) s) (cond d (keeping_known path physical w s) s)).operation ≡ s.operation
    by true true d = refl
    by true false d = refl
    by false c true = refl
    by false c false = refl

intended_stays : (n : ℕ) (p : Pending) (s : StackState) → (intending n p s).operation ≡ s.operation
intended_stays n p s = by (list_any (has_token p.token) s.tokens)
  where
    by : (b : Bool) → (cond b s (record s { tokens = s.tokens ++ p ∷ []; ledger = s.ledger ++ new_call n s.status p ∷ [] })).operation ≡ s.operation
    by true = refl
    by false = refl

turned_stays : (p : Phase) (s : StackState) → (turned_effect p s).stack.operation ≡ s.operation
turned_stays phase.Clean s = refl
turned_stays phase.Back s = refl
turned_stays phase.BackClean s = refl

ended_stays : (state : Status) (s : StackState) → (ended_effect state s).stack.operation ≡ s.operation
ended_stays status.CreateComplete s = refl
ended_stays status.RollbackFailed s = refl
ended_stays status.UpdateRollbackComplete s = refl
ended_stays status.RollbackComplete s = refl
ended_stays status.DeleteComplete s = refl
ended_stays state s = refl

-- the world that is left where the entry is of this stack, or of none
abbrev left_on : Entry → World → Option (List ℕ × StackState) → World
left_on e x o = record (numbered e (option_map_or (λ (s : List ℕ × StackState). leaving s.0 (effect_at (x.place + 1) e s.1) x) o x)) { place = x.place + 1 }

module _ (x : World) (h : AreApart x) where
  begun_on : (number : ℕ) (name : List ℕ) (k : Begun) (o : Option StackState) → x.operation < number → AreApart (left_on (entry.Begin number name k) x (option_map (λ (s : StackState). (name, s)) o))
  begun_on number name k None n = same_apart x h (left_on (entry.Begin number name k) x None) refl (omega (arith, n))
  begun_on number name k (Some s) n = by k
    where
      by : (k : Begun) → AreApart (left_on (entry.Begin number name k) x (Some (name, s)))
      by (begin.Create source) = begun_apart x h (left_on (entry.Begin number name (begin.Create source)) x (Some (name, s))) name (effect_at (x.place + 1) (entry.Begin number name (begin.Create source)) s).stack refl number refl refl n
      by (begin.Update source) = begun_apart x h (left_on (entry.Begin number name (begin.Update source)) x (Some (name, s))) name (effect_at (x.place + 1) (entry.Begin number name (begin.Update source)) s).stack refl number refl refl n
      by (begin.Delete paths) = begun_apart x h (left_on (entry.Begin number name (begin.Delete paths)) x (Some (name, s))) name (effect_at (x.place + 1) (entry.Begin number name (begin.Delete paths)) s).stack refl number refl refl n
      by (begin.Continue paths) = begun_apart x h (left_on (entry.Begin number name (begin.Continue paths)) x (Some (name, s))) name (effect_at (x.place + 1) (entry.Begin number name (begin.Continue paths)) s).stack refl number refl refl n

  -- an entry of the operation of this number
  going_on : (number : ℕ) (e : Entry) (o : Option (List ℕ × StackState)) → stack_of_operation number x ≡ o → ((s : StackState) → (effect_at (x.place + 1) e s).stack.operation ≡ s.operation)
      → ((y : World) → (numbered e y).stacks ≡ y.stacks) → ((y : World) → (numbered e y).operation ≡ y.operation) → AreApart (left_on e x o)
  going_on number e None is_o keeps ss os = same_apart x h (left_on e x None) (ss x) (let same = os x in omega (arith, same))
  going_on number e (Some s) is_o keeps ss os =
      put_apart x h (left_on e x (Some s)) s.0 (effect_at (x.place + 1) e s.1).stack (ss (leaving s.0 (effect_at (x.place + 1) e s.1) x))
      (λ t f. keeps s.1 ∙ ap (λ (u : StackState). u.operation) (let there = found_stands (λ (p : List ℕ × StackState). is_going number p.1) x.stacks s h.names is_o in let same : s.1 ≡ t = cc in same))
      (λ f. let there = found_stands (λ (p : List ℕ × StackState). is_going number p.1) x.stacks s h.names is_o in absurd (cc))
      (os (leaving s.0 (effect_at (x.place + 1) e s.1) x))

pub stay_apart : StayApart
stay_apart x (entry.Opened epoch lanes) h n = map_apart x h (world_after x (entry.Opened epoch lanes)) (λ s. (effect_at (x.place + 1) (entry.Opened epoch lanes) s).stack) (λ s. refl) refl refl
stay_apart x (entry.Begin number name (begin.Create source)) h n = begun_on x h number name (begin.Create source) (Some (known_stack name x)) n
stay_apart x (entry.Begin number name (begin.Update source)) h n = begun_on x h number name (begin.Update source) (stack_at name x) n
stay_apart x (entry.Begin number name (begin.Delete paths)) h n = begun_on x h number name (begin.Delete paths) (stack_at name x) n
stay_apart x (entry.Begin number name (begin.Continue paths)) h n = begun_on x h number name (begin.Continue paths) (stack_at name x) n
stay_apart x (entry.Kept number path physical w) h n = going_on x h number (entry.Kept number path physical w) (stack_of_operation number x) refl (λ s. kept_stays path physical w s) (λ y. refl) (λ y. refl)
stay_apart x (entry.Intent number token lane path r) h n =
    going_on x h number (entry.Intent number token lane path r) (stack_of_operation number x) refl (λ s. intended_stays number (record { token = token; path = path; lane = lane; request = r }) s) (λ y. refl) (λ y. refl)
stay_apart x (entry.Outcome number token answer before after) h n =
    going_on x h number (entry.Outcome number token answer before after) (stack_of_operation number x) refl (λ s. replied_stays token answer (pending_of token s) s) (λ y. refl) (λ y. refl)
stay_apart x (entry.Phase number p cause) h n = going_on x h number (entry.Phase number p cause) (stack_of_operation number x) refl (λ s. turned_stays p s) (λ y. refl) (λ y. refl)
stay_apart x (entry.Done number state failed) h n = going_on x h number (entry.Done number state failed) (stack_of_operation number x) refl (λ s. ended_stays state s) (λ y. refl) (λ y. refl)
stay_apart x (entry.ChangeSet number name source rows outputs) h n =
    put_apart x h (world_after x (entry.ChangeSet number name source rows outputs)) name (effect_at (x.place + 1) (entry.ChangeSet number name source rows outputs) (known_stack name x)).stack refl
    (λ s e. ap (λ (o : Option StackState). (unwrap_or o no_stack).operation) e) (λ e. ap (λ (o : Option StackState). (unwrap_or o no_stack).operation) e) refl
