-- No call is made more than three times in a phase.
use Rattle.std.proofs.Common.{◌≡◌, inl, inr, ℕ, ◌+◌, ◌≤◌, ◌<◌, ◌==◌, Bool, true, false, cond, List, [], ◌∷◌, ◌++◌, Option, Some, None, map, find, option_map, refl, sym, ◌∙◌, ap, subst, true≢false, arith}
use Rattle.std.specs.Prelude.{filter, is_some, not}
use Rattle.std.specs.Option.{option_map_or, option_or}
use Rattle.std.proofs.lemmas.Bool.{eq-eqb, eqb-true}
use Rattle.std.proofs.lemmas.List.Folds.{find-append}
use Rattle.cf_tree.specs.Lists.{In}
use Rattle.cf_tree.specs.declared.request.Request.{Request}
use Rattle.cf_disk.specs.declared.disk.Disk.{Ghosts}
use Rattle.cf_schema.specs.declared.described.Schema.{Schema}
use Rattle.cf_entry.proofs.Codec.{some_is}
use Rattle.cf_entry.specs.declared.entry.Entry.{Entry}
use Rattle.cf_entry.specs.declared.entry.Entry.TheVariants as entry
use Rattle.cf_entry.specs.declared.entry.Reply.{Reply}
use Rattle.cf_entry.specs.declared.entry.Reply.TheVariants as reply
use Rattle.cf_entry.specs.declared.turn.Why.{Why}
use Rattle.cf_effect.specs.Calls.{answered_call, call_under, doubts_of, is_call, is_restore, new_call, one_more}
use Rattle.cf_effect.specs.Fold.{is_intent}
use Rattle.cf_effect.specs.Reply.{answered, intending, keeping, replied, replying, still_open}
use Rattle.cf_effect.specs.Status.{Stage, Forward, Clean, Back, BackClean, Gone}
use Rattle.cf_effect.specs.Words.{has_token, pending_of}
use Rattle.cf_effect.specs.World.{StackState, World, empty_world, is_going, stack_of_operation}
use Rattle.cf_effect.specs.declared.call.Call.{Call}
use Rattle.cf_effect.specs.declared.held.Pending.{Pending}
use Rattle.cf_stacks.proofs.Folded.{folded_more}
use Rattle.cf_plan.proofs.BlameMade.{answered_left}
use Rattle.cf_plan.proofs.ChangedLists.{find_mapped}
use Rattle.cf_plan.proofs.CreatedRight.{in_filter}
use Rattle.cf_plan.proofs.CreatedStays.{found_one}
use Rattle.cf_plan.proofs.Going.{IsLike, like_intended, like_kept, like_replied}
use Rattle.cf_plan.proofs.Listed.{in_last}
use Rattle.cf_plan.specs.Follow.{MayRepeat}
use Rattle.cf_plan.specs.Run.{IsOwn}
use Rattle.cf_core.proofs.Operations.{at_it, left, like_goes}
use Rattle.cf_core.proofs.Statuses.{intended_way, kept_way}
use Rattle.cf_lane.specs.Calling.{Granted}
use Rattle.cf_next.specs.Chosen.{entry_for}
use Rattle.cf_next.specs.declared.step.Next.{Next}
use Rattle.cf_next.specs.declared.step.Next.TheVariants as next
use Rattle.cf_book.specs.Events.{outcome_by}
use Rattle.cf_book.specs.Granting.{ComesNext}
use Rattle.cf_book.specs.Record.{with_doubt, world_left}
use Rattle.cf_book.specs.State.{BookNow}
use Rattle.cf_workers.specs.Driving.{CallMade, Course, IsIntended, IsOutcome, Round, ends_phase, intended, tries_of, tries_with}
use Rattle.cf_core.proofs.Rowed.{EachHasRow, rows_left}

-- while a call is open it was in doubt as often at least as it was tried
abbrev IsDoubted : ℕ → ℕ → StackState → Type 0
IsDoubted token tries s = (p : Pending) → In p s.tokens → p.token ≡ token → tries ≤ doubts_of token s

-- the operation is on this stack
abbrev pub IsAt : ℕ → List Entry → List ℕ → StackState → Type 0
IsAt number es name s = ◌≡◌ {A = Option (List ℕ × StackState)} (stack_of_operation number (world_left es)) (Some (name, s))

abbrev AreDoubted : ℕ → List Entry → ℕ → ℕ → Type 0
AreDoubted number es token tries = (name : List ℕ) (s : StackState) → IsAt number es name s → IsDoubted token tries s

-- what an entry leaves of the stack, where its operation goes on
module _ (number : ℕ) (es : List Entry) (name : List ℕ) (s : StackState) (at : IsAt number es name s) (e : Entry) (own : IsOwn number e) where
  abbrev now : StackState
  now = left (world_left es) number name s at e own

  pub stands : IsLike s now → IsAt number (es ++ e ∷ []) name now
  stands like =
      ap (stack_of_operation number) (sym (folded_more empty_world es e))
      ∙ at_it (world_left es) number name s at e own (like_goes (world_left es) number name s at e own like)

  pub carries : IsLike s now → (token tries : ℕ) → IsDoubted token tries now → AreDoubted number (es ++ e ∷ []) token tries
  carries like token tries d other t its = subst (λ (q : List ℕ × StackState). IsDoubted token tries q.1) (some_is _ _ (sym (stands like) ∙ its)) d

-- a resource is kept: some calls may be given up
kept_doubted : (s : StackState) (token tries : ℕ) → IsDoubted token tries s → (path physical : List ℕ) (w : Why) → IsDoubted token tries (keeping path physical w s)
kept_doubted s token tries d path physical w =
    kept_way (IsDoubted token tries) s d path physical w (λ p i. d p (in_filter _ s.tokens p i).0) (λ p i. d p (in_filter _ s.tokens p i).0)

-- an Intent: the row that it adds comes behind the others
found_first : (token : ℕ) (cs : List Call) (c : Call) → is_some (find (is_call token) cs) ≡ true
    → option_map_or (λ (z : Call). z.doubts) (find (is_call token) (cs ++ c ∷ [])) 0 ≡ option_map_or (λ (z : Call). z.doubts) (find (is_call token) cs) 0
found_first token cs c k = ap (λ o. option_map_or (λ (z : Call). z.doubts) o 0) (find-append (is_call token) cs (c ∷ [])) ∙ by (find (is_call token) cs) k where
  by : (o : Option Call) → is_some o ≡ true
      → option_map_or (λ (z : Call). z.doubts) (option_or o (find (is_call token) (c ∷ []))) 0 ≡ option_map_or (λ (z : Call). z.doubts) o 0
  by None e = absurd (true≢false (sym e))
  by (Some d) e = refl

none_tried : (s : StackState) (token : ℕ) → IsDoubted token 0 s
none_tried s token p i q = omega arith

intended_doubted : (s : StackState) → EachHasRow s → (token tries number : ℕ) (q : Pending) → IsDoubted token tries s → (q.token ≡ token → tries ≡ 0)
    → IsDoubted token tries (intending number q s)
intended_doubted s rows token tries number q d new = intended_way (IsDoubted token tries) s d number q with_it where
  with_it : IsDoubted token tries (record s { tokens = s.tokens ++ q ∷ []; ledger = s.ledger ++ new_call number s.status q ∷ [] })
  with_it p i same = elim (in_last s.tokens q p i) [
    | inl j ↦
        let row : is_some (call_under token s) ≡ true = ap (λ k. is_some (call_under k s)) (sym same) ∙ rows p j in
        let old : tries ≤ doubts_of token s = d p j same in
        let kept = found_first token s.ledger (new_call number s.status q) row in
        omega (arith, old, kept)
    | inr e ↦ let none : tries ≡ 0 = new (ap (λ (z : Pending). z.token) (sym e) ∙ same) in omega (arith, none)
  ]

-- the doubts of a call behind an answer
more_doubts : (token : ℕ) (cs : List Call) → is_some (find (is_call token) cs) ≡ true
    → option_map_or (λ (z : Call). z.doubts) (find (is_call token) (map (λ c. cond (is_call token c) (answered_call reply.Doubt c) c) cs)) 0
    ≡ one_more (option_map_or (λ (z : Call). z.doubts) (find (is_call token) cs) 0)
more_doubts token cs k =
    ap (λ o. option_map_or (λ (z : Call). z.doubts) o 0) (find_mapped (is_call token) (λ c. cond (is_call token c) (answered_call reply.Doubt c) c) cs same)
    ∙ by (find (is_call token) cs) refl k
  where
    same : (c : Call) → is_call token (cond (is_call token c) (answered_call reply.Doubt c) c) ≡ is_call token c
    same c = on (is_call token c) where
      on : (b : Bool) → is_call token (cond b (answered_call reply.Doubt c) c) ≡ is_call token c
      on true = refl
      on false = refl

    by : (o : Option Call) → find (is_call token) cs ≡ o → is_some o ≡ true
        → option_map_or (λ (z : Call). z.doubts) (option_map (λ c. cond (is_call token c) (answered_call reply.Doubt c) c) o) 0
        ≡ one_more (option_map_or (λ (z : Call). z.doubts) o 0)
    by None f e = absurd (true≢false (sym e))
    by (Some c) f e = ap (λ b. (cond b (answered_call reply.Doubt c) c).doubts) (found_one (is_call token) cs c f).1

other_doubts : (token told : ℕ) (a : Reply) (cs : List Call) → (told == token) ≡ false
    → option_map_or (λ (z : Call). z.doubts) (find (is_call token) (map (λ c. cond (is_call told c) (answered_call a c) c) cs)) 0
    ≡ option_map_or (λ (z : Call). z.doubts) (find (is_call token) cs) 0
other_doubts token told a cs apart =
    ap (λ o. option_map_or (λ (z : Call). z.doubts) o 0) (find_mapped (is_call token) (λ c. cond (is_call told c) (answered_call a c) c) cs same)
    ∙ by (find (is_call token) cs) refl
  where
    same : (c : Call) → is_call token (cond (is_call told c) (answered_call a c) c) ≡ is_call token c
    same c = on (is_call told c) a where
      on : (b : Bool) (r : Reply) → is_call token (cond b (answered_call r c) c) ≡ is_call token c
      on true (reply.Success physical attrs) = refl
      on true (reply.Failed code) = refl
      on true reply.Doubt = refl
      on false r = refl

    by : (o : Option Call) → find (is_call token) cs ≡ o
        → option_map_or (λ (z : Call). z.doubts) (option_map (λ c. cond (is_call told c) (answered_call a c) c) o) 0 ≡ option_map_or (λ (z : Call). z.doubts) o 0
    by None f = refl
    by (Some c) f =
        let its : token ≡ c.token = eqb-true token c.token (found_one (is_call token) cs c f).1 in
        ap (λ b. (cond b (answered_call a c) c).doubts) (ap (λ k. told == k) (sym its) ∙ apart)

-- one more of fewer than three is more, and of any number it is one at least
more_of : (n d : ℕ) → n ≤ d → d < 3 → n + 1 ≤ one_more d
more_of n d le less = grind (arith, le, less)

one_of : (d : ℕ) → 1 ≤ one_more d
one_of d = grind arith

-- the other calls behind an answer
module _ (s : StackState) (told : ℕ) (a : Reply) where
  still : (p : Pending) (ps : List Pending) → (b : Reply) → In p (still_open told b ps) → In p ps
  still p ps reply.Doubt i = i
  still p ps (reply.Success physical attrs) i = (in_filter _ ps p i).0
  still p ps (reply.Failed code) i = (in_filter _ ps p i).0

  other_doubted : (token tries : ℕ) → (told == token) ≡ false → IsDoubted token tries s → IsDoubted token tries (replying told a s)
  other_doubted token tries apart d = by (pending_of told s) where
    by : (o : Option Pending) → IsDoubted token tries (replied told a o s)
    by None p i same = d p i same
    by (Some q) p i same =
        let was = (answered_left (is_restore told s) q.path q.request a s).as_was in
        let j : In p s.tokens = subst (In p) (ap (λ (z : StackState). z.tokens) was) (still p (answered (is_restore told s) q.path q.request a s).tokens a i) in
        let kept = other_doubts token told a s.ledger apart in
        let ledger = ap (λ (z : StackState). option_map_or (λ (c : Call). c.doubts)
        (find (is_call token) (map (λ c. cond (is_call told c) (answered_call a c) c) z.ledger)) 0) was in
        omega (arith, d p j same, kept, ledger)

-- the call itself: it is closed, or in doubt once more
closed_none : {P : Type 0} (told : ℕ) (ps : List Pending) (p : Pending) → In p (filter (λ (q : Pending). not (has_token told q)) ps) → p.token ≡ told → P
closed_none told ps p i same =
    absurd (true≢false (sym (in_filter (λ (q : Pending). not (has_token told q)) ps p i).1 ∙ ap not (eq-eqb told p.token (sym same))))

own_doubted : (s : StackState) → EachHasRow s → (told tries : ℕ) (a : Reply) → is_some (pending_of told s) ≡ true → ((d : ℕ) → d ≡ doubts_of told s → tries ≤ one_more d)
    → IsDoubted told tries (replying told a s)
own_doubted s rows told tries a opened bound = by (pending_of told s) refl opened a where
  by : (o : Option Pending) → pending_of told s ≡ o → is_some o ≡ true → (b : Reply) → IsDoubted told tries (replied told b o s)
  by None k e b p i same = absurd (true≢false (sym e))
  by (Some q) k e (reply.Success physical attrs) p i same = closed_none told _ p i same
  by (Some q) k e (reply.Failed code) p i same = closed_none told _ p i same
  by (Some q) k e reply.Doubt p i same =
      let was = (answered_left (is_restore told s) q.path q.request reply.Doubt s).as_was in
      let j : In p s.tokens = subst (In p) (ap (λ (z : StackState). z.tokens) was) i in
      let row : is_some (call_under told s) ≡ true = ap (λ n. is_some (call_under n s)) (sym same) ∙ rows p j in
      let more = more_doubts told s.ledger row in
      let ledger = ap (λ (z : StackState). option_map_or (λ (c : Call). c.doubts)
      (find (is_call told) (map (λ c. cond (is_call told c) (answered_call reply.Doubt c) c) z.ledger)) 0) was in
      let enough : tries ≤ one_more (doubts_of told s) = bound (doubts_of told s) refl in
      omega (arith, enough, more, ledger)

-- the stack as the call is out: as it was, or with its Intent
pub record IsLentAt (number : ℕ) (es : List Entry) (name : List ℕ) (s : StackState) (called : ℕ) (repeated : Bool) : Type 0 where
  pub stack : StackState
  pub stands : IsAt number es name stack
  same : repeated ≡ true → stack ≡ s
  keeps : (token tries : ℕ) → IsDoubted token tries s → (called ≡ token → tries ≡ 0) → IsDoubted token tries stack

rows_at : (number : ℕ) (es : List Entry) (name : List ℕ) (s : StackState) → IsAt number es name s → EachHasRow s
rows_at number es name s at = rows_left es (name, s) (found_one (λ (p : List ℕ × StackState). is_going number p.1) (world_left es).stacks (name, s) at).0

pub lent_at : (number : ℕ) (es : List Entry) (name : List ℕ) (s : StackState) → IsAt number es name s → (path lane : List ℕ) (token : ℕ) (r : Request) (b : Bool)
    → IsLentAt number (with_doubt es (entry_for number (next.Step path lane token r b))) name s token b
lent_at number es name s at path lane token r true = record { stack = s; stands = at; same = λ q. refl; keeps = λ t tries d n. d }
lent_at number es name s at path lane token r false =
    let q : Pending = record { token = token; path = path; lane = lane; request = r } in
    let like = like_intended number q s in
    record {
      stack = now number es name s at (entry.Intent number token lane path r) refl;
      stands = stands number es name s at (entry.Intent number token lane path r) refl (record { operation = like.operation; status = like.status });
      same = λ k. absurd (true≢false (sym k));
      keeps = λ t tries d n. intended_doubted s (rows_at number es name s at) t tries number q d n;
    }

module _ {D : Type 0} (g : Ghosts D) (number token : ℕ) where
  abbrev Tried : List Entry → ℕ → Type 0
  Tried es tries = (tries ≤ 3) × AreDoubted number es token tries

  abbrev after_move : Entry → ℕ → ℕ
  after_move e tries = cond (ends_phase e) 0 tries

  none_now : (es : List Entry) → Tried es 0
  none_now es = (omega arith, λ name s at. none_tried s token)

  moves_tried : (old : BookNow D) (n : Next) (e : Entry) (tries : ℕ) → ComesNext old.lanes old.entries number n → entry_for number n ≡ Some e → is_intent e ≡ false
      → Tried old.entries tries → Tried (old.entries ++ e ∷ []) (after_move e tries)
  moves_tried old (next.Step path lane t r true) e tries chosen writes other tried = let never : ⊥ = cc in absurd never
  moves_tried old (next.Step path lane t r false) e tries chosen writes other tried =
      absurd (true≢false (ap is_intent (some_is _ _ writes) ∙ other))
  moves_tried old (next.Keep path physical w) e tries (name, s, stage, at, is, c) writes other (le, d) =
      let f : Entry = entry.Kept number path physical w in
      let like = like_kept path physical w s in
      subst (λ z. Tried (old.entries ++ z ∷ []) (after_move z tries)) (some_is _ _ writes)
      (le, carries number old.entries name s at f refl (record { operation = like.operation; status = like.status }) token tries (kept_doubted s token tries (d name s at) path physical w))
  moves_tried old (next.Turn p c) e tries chosen writes other tried =
      subst (λ z. Tried (old.entries ++ z ∷ []) (after_move z tries)) (some_is _ _ writes) (none_now (old.entries ++ entry.Phase number p c ∷ []))
  moves_tried old (next.End state failed) e tries chosen writes other tried =
      subst (λ z. Tried (old.entries ++ z ∷ []) (after_move z tries)) (some_is _ _ writes) (none_now (old.entries ++ entry.Done number state failed ∷ []))
  moves_tried old next.Wait e tries chosen writes other tried = let never : ⊥ = cc in absurd never

  -- the call that is made again is open, and was in doubt fewer than three times
  tried_less : (schemas : List Schema) (name : List ℕ) (x : World) (out : List ℕ) (s : StackState) (stage : Stage) (p : Pending)
      → MayRepeat schemas name x out s stage p → In p s.tokens × (doubts_of p.token s < 3)
  tried_less schemas name x out s Forward p may = (may.1, grind (arith, may))
  tried_less schemas name x out s Clean p may = (may.0, grind (arith, may))
  tried_less schemas name x out s Back p may = (may.0, grind (arith, may))
  tried_less schemas name x out s BackClean p may = (may.0, grind (arith, may))
  tried_less schemas name x out s Gone p may = (may.0, grind (arith, may))

  abbrev after_call : (called : ℕ) (repeated : Bool) → ℕ → ℕ
  after_call called repeated tries = cond (called == token) (cond repeated (tries + 1) 1) tries

  -- the answer of the call, on the stack as it is out
  module _ (es : List Entry) (name : List ℕ) (t : StackState) (at : IsAt number es name t) (n told : ℕ) (r : Reply) (before after : ℕ) (own : n ≡ number) where
    abbrev answer : Entry
    answer = entry.Outcome n told r before after

    answers : (tries : ℕ) → IsDoubted token tries (replying told r t) → AreDoubted number (es ++ answer ∷ []) token tries
    answers tries d =
        let like = like_replied told r (pending_of told t) t in
        carries number es name t at answer own (record { operation = like.operation; status = like.status }) token tries d

    answers_own : (tries : ℕ) → told ≡ token → is_some (pending_of told t) ≡ true → ((d : ℕ) → d ≡ doubts_of told t → tries ≤ one_more d)
        → AreDoubted number (es ++ answer ∷ []) token tries
    answers_own tries same opened bound =
        answers tries (subst (λ k. IsDoubted k tries (replying told r t)) same (own_doubted t (rows_at number es name t at) told tries r opened bound))

    answers_other : (tries : ℕ) → (told == token) ≡ false → IsDoubted token tries t → AreDoubted number (es ++ answer ∷ []) token tries
    answers_other tries apart d = answers tries (other_doubted t told r token tries apart d)

  calls_tried : (old new : BookNow D) (made : CallMade number old.entries old.lanes) (r : Reply) (intends : IsIntended g number old new made) → IsOutcome g number old made intends.lent r
      → (tries : ℕ) → Tried old.entries tries → Tried (intended made ++ outcome_by made.told r ∷ []) (after_call made.token made.repeated tries)
  calls_tried old new made r intends outcome tries (le, d) =
      by (made.token == token) refl made.repeated refl
    where
      name : List ℕ
      name = made.chosen.0

      s : StackState
      s = made.chosen.1

      at : IsAt number old.entries made.chosen.0 made.chosen.1
      at = made.chosen.3

      own : made.told.number ≡ number
      own = ap (λ (c : Granted). c.number) made.called.granted_is

      told_is : made.told.token ≡ made.token
      told_is = ap (λ (c : Granted). c.token) made.called.granted_is

      lent : IsLentAt number (intended made) made.chosen.0 made.chosen.1 made.token made.repeated
      lent = lent_at number old.entries made.chosen.0 made.chosen.1 made.chosen.3 made.path made.lane.name made.token made.request made.repeated

      opened : (l : IsLentAt number (intended made) made.chosen.0 made.chosen.1 made.token made.repeated) → is_some (pending_of made.told.token l.stack) ≡ true
      opened l =
          let (other, u, stage, going, is, (flies, pending, counted)) = outcome.follows in
          let one : ◌≡◌ {A = List ℕ × StackState} (other, u) (made.chosen.0, l.stack) =
          some_is _ _ (sym going ∙ ap (λ k. stack_of_operation k (world_left (intended made))) (ap (λ (c : Granted). c.number) made.called.granted_is) ∙ l.stands) in
          ap (λ (q : List ℕ × StackState). is_some (pending_of made.told.token q.1)) (sym one) ∙ pending

      less : (b : Bool) → made.repeated ≡ b → b ≡ true → In (record { token = made.token; path = made.path; lane = made.lane.name; request = made.request }) (made.chosen.1).tokens
          × (doubts_of made.token made.chosen.1 < 3)
      less false q k = absurd (true≢false (sym k))
      less true q k =
          let (nm, z, stage, on, is, c) = subst (λ b. ComesNext old.lanes old.entries number (next.Step made.path made.lane.name made.token made.request b)) q made.chosen in
          let one : ◌≡◌ {A = List ℕ × StackState} (nm, z) (made.chosen.0, made.chosen.1) = some_is _ _ (sym on ∙ made.chosen.3) in
          subst (λ (p : List ℕ × StackState). In (record { token = made.token; path = made.path; lane = made.lane.name; request = made.request }) p.1.tokens × (doubts_of made.token p.1 < 3)) one
          (tried_less _ nm (world_left old.entries) _ z stage _ c.may.repeats)

      by : (t : Bool) → (made.token == token) ≡ t → (b : Bool) → made.repeated ≡ b
          → Tried (intended made ++ outcome_by made.told r ∷ []) (cond t (cond b (tries + 1) 1) tries)
      by false q b k = (
        le,
        answers_other (intended made) made.chosen.0 lent.stack lent.stands made.told.number made.told.token r made.told.before made.told.after own tries
            (ap (λ z. z == token) told_is ∙ q)
            (lent.keeps token tries (d made.chosen.0 made.chosen.1 made.chosen.3) (λ e. absurd (true≢false (sym (eq-eqb made.token token e) ∙ q)))),
      )
      by true q true k =
          let same : made.token ≡ token = eqb-true made.token token q in
          let (open_there, few) = less true k refl in
          let old_doubts : tries ≤ doubts_of token made.chosen.1 = d made.chosen.0 made.chosen.1 made.chosen.3 _ open_there same in
          let here : doubts_of made.token made.chosen.1 ≡ doubts_of token made.chosen.1 = ap (λ z. doubts_of z made.chosen.1) same in
          let still_it : lent.stack ≡ made.chosen.1 = lent.same k in
          let there_ : doubts_of made.told.token lent.stack ≡ doubts_of token made.chosen.1 =
          ap (λ z. doubts_of z lent.stack) (told_is ∙ same) ∙ ap (doubts_of token) still_it in (
            omega (arith, old_doubts, few, here),
            answers_own (intended made) made.chosen.0 lent.stack lent.stands made.told.number made.told.token r made.told.before made.told.after own (tries + 1) (told_is ∙ same) (opened lent)
                (λ e is. more_of tries e (omega (arith, is, there_, old_doubts)) (omega (arith, is, there_, few, here))),
          )
      by true q false k =
          let same : made.token ≡ token = eqb-true made.token token q in (
            omega arith,
            answers_own (intended made) made.chosen.0 lent.stack lent.stands made.told.number made.told.token r made.told.before made.told.after own 1 (told_is ∙ same) (opened lent)
                (λ e is. one_of e),
          )

  tried : {first last : BookNow D} (course : Course g number first last) → Tried last.entries (tries_of token course)
  tried {first} Course.begins = none_now first.entries
  tried {first} {last} (Course.goes {old} course (Round.moves n e chosen writes other fits wrote lanes) grows rest) =
      subst (λ es. Tried es (after_move e (tries_of token course))) (sym wrote) (moves_tried old n e (tries_of token course) chosen writes other (tried course))
  tried {first} {last} (Course.goes {old} course (Round.calls made r intends outcome wrote lanes) grows rest) =
      subst (λ es. Tried es (after_call made.token made.repeated (tries_of token course))) (sym wrote)
      (calls_tried old last made r intends outcome (tries_of token course) (tried course))

  pub thrice : {first last : BookNow D} (course : Course g number first last) → tries_of token course ≤ 3
  thrice course = (tried course).0

-- so it is with the call that comes next
module _ {D : Type 0} (g : Ghosts D) (number : ℕ) {first last : BookNow D} (course : Course g number first last) (made : CallMade number last.entries last.lanes) where
  pub at_most : tries_with made made.token (tries_of made.token course) ≤ 3
  at_most = by made.repeated refl where
    by : (b : Bool) → made.repeated ≡ b → cond (made.token == made.token) (cond b (tries_of made.token course + 1) 1) (tries_of made.token course) ≤ 3
    by false k = ap_le (eq-eqb made.token made.token refl) where
      ap_le : (made.token == made.token) ≡ true → cond (made.token == made.token) 1 (tries_of made.token course) ≤ 3
      ap_le q = subst (λ t. cond t 1 (tries_of made.token course) ≤ 3) (sym q) (omega arith)
    by true k =
        let (nm, z, stage, on, is, c) = subst (λ b. ComesNext last.lanes last.entries number (next.Step made.path made.lane.name made.token made.request b)) k made.chosen in
        let (open_there, few) = tried_less g number made.token _ nm (world_left last.entries) _ z stage _ c.may.repeats in
        let doubted : tries_of made.token course ≤ doubts_of made.token z = (tried g number made.token course).1 nm z on _ open_there refl in
        subst (λ t. cond t (tries_of made.token course + 1) (tries_of made.token course) ≤ 3) (sym (eq-eqb made.token made.token refl)) (omega (arith, doubted, few))
