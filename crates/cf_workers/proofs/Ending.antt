-- The stack on which an operation begins keeps it until the end, which leaves its status there.
use Rattle.std.proofs.Common.{◌≡◌, ◌⊎◌, inl, inr, ℕ, ◌+◌, ◌==◌, ◌&&◌, Bool, true, false, List, [], ◌∷◌, ◌++◌, Option, Some, None, find, refl, sym, ◌∙◌, ap, subst, arith}
use Rattle.std.specs.Cmp.{first_so}
use Rattle.std.specs.Option.{option_map_or}
use Rattle.std.proofs.lemmas.Bool.{eq-eqb, eqb-true}
use Rattle.cf_tree.specs.Keys.{put, value_at}
use Rattle.cf_tree.specs.declared.request.Request.{Request}
use Rattle.cf_tree.proofs.Lookups.{put_here}
use Rattle.cf_disk.specs.declared.disk.Disk.{Ghosts}
use Rattle.cf_schema.specs.declared.described.Schema.{Schema}
use Rattle.cf_entry.proofs.Codec.{some_is}
use Rattle.cf_entry.specs.declared.entry.Begun.{Begun}
use Rattle.cf_entry.specs.declared.entry.Entry.{Entry}
use Rattle.cf_entry.specs.declared.entry.Entry.TheVariants as entry
use Rattle.cf_entry.specs.declared.entry.Reply.{Reply}
use Rattle.cf_entry.specs.declared.status.Status.{Status}
use Rattle.cf_entry.specs.declared.turn.Cause.{Cause}
use Rattle.cf_entry.specs.declared.turn.Phase.{Phase}
use Rattle.cf_entry.specs.declared.turn.Why.{Why}
use Rattle.cf_effect.specs.Effect.{leaving}
use Rattle.cf_effect.specs.Fold.{effect_at, world_after}
use Rattle.cf_effect.specs.Status.{begun, is_in_progress}
use Rattle.cf_effect.specs.Words.{pending_of}
use Rattle.cf_effect.specs.World.{StackState, World, empty_world, is_going, known_stack, stack_at, stack_of_operation}
use Rattle.cf_stacks.specs.Apart.{AreApart}
use Rattle.cf_stacks.proofs.Apart.{stay_apart}
use Rattle.cf_stacks.proofs.Folded.{folded_more}
use Rattle.cf_stacks.proofs.Worlds.{found_stands}
use Rattle.cf_plan.proofs.Frame.{IsOn, found_passes, here_after, none_after, number_is, on_after}
use Rattle.cf_plan.proofs.Going.{IsLike, like_intended, like_kept, like_replied}
use Rattle.cf_plan.proofs.RunLists.{is_found_in}
use Rattle.cf_plan.specs.Follow.{EndsAs, begins_from}
use Rattle.cf_plan.specs.Run.{IsOwn}
use Rattle.cf_core.proofs.Alike.{begins_on as stands_for}
use Rattle.cf_core.proofs.KeepSound.{stands_in}
use Rattle.cf_core.proofs.Operations.{begun_operation, left, like_goes, own_operation}
use Rattle.cf_core.proofs.Statuses.{begun_goes, begun_status, ended_status, turned_goes, turned_status}
use Rattle.cf_lane.specs.Calling.{Granted}
use Rattle.cf_next.specs.Chosen.{entry_for}
use Rattle.cf_next.specs.declared.step.Next.{Next}
use Rattle.cf_next.specs.declared.step.Next.TheVariants as next
use Rattle.std.proofs.lemmas.List.Sums.{fold-append}
use Rattle.cf_book.specs.Ended.{end_status, ended_in, with_end}
use Rattle.cf_book.specs.Events.{outcome_by}
use Rattle.cf_book.specs.Granting.{ComesNext}
use Rattle.cf_book.specs.Record.{with_doubt, world_left}
use Rattle.cf_book.specs.State.{BookNow}
use Rattle.cf_workers.specs.Driving.{Course, EndsWith, HasEnd, Round, intended}
use Rattle.cf_workers.proofs.Driven.{now_ended}

-- one entry more
ended_more : (es : List Entry) (e : Entry) → ended_in (es ++ e ∷ []) ≡ with_end (ended_in es) e
ended_more es e = fold-append with_end [] es (e ∷ [])

-- A beginning: its stack has the operation, and no other one.
module _ (x : World) (apart : AreApart x) (name : List ℕ) (kind : Begun) (from : begins_from kind (known_stack name x).status ≡ true) where
  abbrev number : ℕ
  number = x.operation + 1

  abbrev begins : Entry
  begins = entry.Begin number name kind

  abbrev y : World
  y = world_after x begins

  abbrev made : StackState
  made = (effect_at (x.place + 1) begins (known_stack name x)).stack

  abbrev going : List ℕ × StackState → Bool
  going p = is_going number p.1

  apart_after : AreApart y
  apart_after = stay_apart x begins apart (omega arith)

  stacks_are : y.stacks ≡ put name made x.stacks
  stacks_are =
      ap (λ (o : Option (List ℕ × StackState)). (option_map_or (λ (s : List ℕ × StackState). leaving s.0 (effect_at (x.place + 1) begins s.1) x) o x).stacks)
      (stands_for x number name kind from)

  here : stack_at name y ≡ Some made
  here = ap (value_at name) stacks_are ∙ put_here name made x.stacks

  its_number : made.operation ≡ number
  its_number = begun_operation (x.place + 1) number name kind (known_stack name x)

  goes : is_going number made ≡ true
  goes =
      ap (λ m. m == number && is_in_progress made.status) its_number
      ∙ ap (λ st. number == number && is_in_progress st) (begun_status (x.place + 1) name number kind (known_stack name x))
      ∙ ap (λ b. b && is_in_progress (begun kind)) (eq-eqb number number refl) ∙ begun_goes kind

  found : stack_of_operation number y ≡ Some (name, made)
  found = by (is_found_in going y.stacks (name, made) (stands_in name made y.stacks here) goes) where
    by : ((p : List ℕ × StackState) × (find going y.stacks ≡ Some p)) → find going y.stacks ≡ Some (name, made)
    by (p, q) = q ∙ ap Some same where
      stands : stack_at p.0 y ≡ Some p.1
      stands = found_stands going y.stacks p apart_after.names q

      of_it : p.1.operation ≡ number
      of_it = eqb-true p.1.operation number (first_so (p.1.operation == number) (is_in_progress p.1.status) (found_passes going y.stacks p q))

      named : p.0 ≡ name
      named = apart_after.apart p.0 name p.1 made stands here (of_it ∙ sym its_number) (omega (arith, of_it))

      is_it : p.1 ≡ made
      is_it = some_is _ _ (sym stands ∙ ap (λ k. stack_at k y) named ∙ here)

      same : p ≡ (name, made)
      same = ap (λ k. (k, p.1)) named ∙ ap (λ s. (name, s)) is_it

  pub begins_on : IsOn number name y made
  begins_on = record { apart = apart_after; numbered = omega arith; going = found }

-- the operation is in progress on the stack; or it has ended there, and is no longer
abbrev pub IsGoing : List ℕ → ℕ → List Entry → Type 0
IsGoing name number es = (s : StackState) × IsOn number name (world_left es) s

pub record IsOverOn (name : List ℕ) (number : ℕ) (es : List Entry) : Type 0 where
  pub stack : StackState
  pub here : stack_at name (world_left es) ≡ Some stack
  pub its_number : stack.operation ≡ number
  pub last : EndsWith es number stack.status
  pub ends : HasEnd es number stack.status
  pub none : stack_of_operation number (world_left es) ≡ None

-- the end of an operation leaves no status in which one is in progress
terminal : (schemas : List Schema) (name : List ℕ) (x : World) (s : StackState) (was state : Status) → EndsAs schemas name x s was state → is_in_progress state ≡ false
terminal schemas name x s was state ends = grind arith

and_false : (b : Bool) → (b && false) ≡ false
and_false true = refl
and_false false = refl

module _ (name : List ℕ) (number : ℕ) (es : List Entry) (s : StackState) (h : IsOn number name (world_left es) s) where
  abbrev x : World
  x = world_left es

  goes_more : (e : Entry) (own : IsOwn number e) → is_going number (left x number name s h.going e own) ≡ true → IsGoing name number (es ++ e ∷ [])
  goes_more e own goes = (left x number name s h.going e own, subst (λ z. IsOn number name z (left x number name s h.going e own)) (folded_more empty_world es e) (on_after number name x s h e own goes))

  like_more : (e : Entry) (own : IsOwn number e) → IsLike s (left x number name s h.going e own) → IsGoing name number (es ++ e ∷ [])
  like_more e own like = goes_more e own (like_goes x number name s h.going e own like)

  pub intent_goes : (token : ℕ) (lane path : List ℕ) (r : Request) → IsGoing name number (es ++ entry.Intent number token lane path r ∷ [])
  intent_goes token lane path r =
      let like = like_intended number (record { token = token; path = path; lane = lane; request = r }) s in
      like_more (entry.Intent number token lane path r) refl (record { operation = like.operation; status = like.status })

  pub kept_goes : (path physical : List ℕ) (w : Why) → IsGoing name number (es ++ entry.Kept number path physical w ∷ [])
  kept_goes path physical w =
      let like = like_kept path physical w s in
      like_more (entry.Kept number path physical w) refl (record { operation = like.operation; status = like.status })

  pub outcome_goes : (n token : ℕ) (r : Reply) (before after : ℕ) → n ≡ number → IsGoing name number (es ++ entry.Outcome n token r before after ∷ [])
  outcome_goes n token r before after own =
      let like = like_replied token r (pending_of token s) s in
      like_more (entry.Outcome n token r before after) own (record { operation = like.operation; status = like.status })

  pub phase_goes : (p : Phase) (c : Option Cause) → IsGoing name number (es ++ entry.Phase number p c ∷ [])
  phase_goes p c = goes_more (entry.Phase number p c) refl goes where
    goes : is_going number (left x number name s h.going (entry.Phase number p c) refl) ≡ true
    goes =
        ap (λ m. m == number && is_in_progress (left x number name s h.going (entry.Phase number p c) refl).status)
        (own_operation (x.place + 1) number (entry.Phase number p c) refl s ∙ number_is number name x s h)
        ∙ ap (λ b. b && is_in_progress (left x number name s h.going (entry.Phase number p c) refl).status) (eq-eqb number number refl)
        ∙ ap is_in_progress (turned_status (x.place + 1) number p s c) ∙ turned_goes s.status p

  abbrev ending : Status → List (List ℕ) → Entry
  ending state failed = entry.Done number state failed

  abbrev stopped : Status → List (List ℕ) → StackState
  stopped state failed = left x number name s h.going (ending state failed) refl

  pub done_over : (state : Status) (failed : List (List ℕ)) → end_status number (ended_in es) ≡ None → is_in_progress state ≡ false
      → IsOverOn name number (es ++ entry.Done number state failed ∷ [])
  done_over state failed none rests = record {
    stack = stopped state failed;
    here = subst (λ z. stack_at name z ≡ Some (stopped state failed)) (folded_more empty_world es (ending state failed)) (here_after number name x s h (ending state failed) refl);
    its_number = own_operation (x.place + 1) number (ending state failed) refl s ∙ number_is number name x s h;
    last = record { front = es; failed = failed; last = ap (λ st. es ++ entry.Done number st failed ∷ []) (sym left_so) };
    ends = subst (HasEnd (es ++ ending state failed ∷ []) number) (sym left_so) (now_ended number es state failed none);
    none = subst (λ z. stack_of_operation number z ≡ None) (folded_more empty_world es (ending state failed)) (none_after number name x s h (ending state failed) refl
        (ap (λ b. (stopped state failed).operation == number && b) (ap is_in_progress left_so ∙ rests) ∙ and_false ((stopped state failed).operation == number)));
  } where
    left_so : (left x number name s h.going (ending state failed) refl).status ≡ state
    left_so = ended_status (x.place + 1) number state failed s

-- a course of the operation: it goes on, and no operation has ended; or it has
abbrev pub StaysOn : {D : Type 0} → List ℕ → ℕ → BookNow D → Type 0
StaysOn name number b = (IsGoing name number b.entries × (ended_in b.entries ≡ [])) ⊎ IsOverOn name number b.entries

module _ {D : Type 0} (g : Ghosts D) (name : List ℕ) (number : ℕ) where
  quiet : (old new : BookNow D) (e : Entry) → new.entries ≡ old.entries ++ e ∷ [] → IsGoing name number (old.entries ++ e ∷ [])
      → ended_in (old.entries ++ e ∷ []) ≡ [] → StaysOn name number new
  quiet old new e wrote goes ends = inl (subst (IsGoing name number) (sym wrote) goes, ap ended_in wrote ∙ ends)

  moves_on : (old new : BookNow D) (n : Next) (e : Entry) → ComesNext old.lanes old.entries number n → entry_for number n ≡ Some e
      → new.entries ≡ old.entries ++ e ∷ [] → IsGoing name number old.entries → ended_in old.entries ≡ [] → StaysOn name number new
  moves_on old new (next.Step path lane token r true) e chosen writes wrote goes none = let never : ⊥ = cc in absurd never
  moves_on old new (next.Step path lane token r false) e chosen writes wrote (s, h) none =
      let f : Entry = entry.Intent number token lane path r in
      quiet old new f (wrote ∙ ap (λ z. old.entries ++ z ∷ []) (sym (some_is _ _ writes))) (intent_goes name number old.entries s h token lane path r) (ended_more old.entries f ∙ none)
  moves_on old new (next.Keep path physical w) e chosen writes wrote (s, h) none =
      let f : Entry = entry.Kept number path physical w in
      quiet old new f (wrote ∙ ap (λ z. old.entries ++ z ∷ []) (sym (some_is _ _ writes))) (kept_goes name number old.entries s h path physical w) (ended_more old.entries f ∙ none)
  moves_on old new (next.Turn p c) e chosen writes wrote (s, h) none =
      let f : Entry = entry.Phase number p c in
      quiet old new f (wrote ∙ ap (λ z. old.entries ++ z ∷ []) (sym (some_is _ _ writes))) (phase_goes name number old.entries s h p c) (ended_more old.entries f ∙ none)
  moves_on old new (next.End state failed) e (other, t, stage, at, is, chosen) writes wrote (s, h) none =
      inr (subst (IsOverOn name number) (sym (wrote ∙ ap (λ z. old.entries ++ z ∷ []) (sym (some_is _ _ writes))))
      (done_over name number old.entries s h state failed (ap (end_status number) none) (terminal _ other (world_left old.entries) t t.status state chosen.may.2)))
  moves_on old new next.Wait e chosen writes wrote goes none = let never : ⊥ = cc in absurd never

  -- the call's Intent
  lent_on : (es : List Entry) (path lane : List ℕ) (token : ℕ) (r : Request) (repeated : Bool) → IsGoing name number es → ended_in es ≡ []
      → IsGoing name number (with_doubt es (entry_for number (next.Step path lane token r repeated)))
      × (ended_in (with_doubt es (entry_for number (next.Step path lane token r repeated))) ≡ [])
  lent_on es path lane token r true goes none = (goes, none)
  lent_on es path lane token r false (s, h) none =
      (intent_goes name number es s h token lane path r, ended_more es (entry.Intent number token lane path r) ∙ none)

  round_on : (old new : BookNow D) → Round g number old new → StaysOn name number old → StaysOn name number new
  round_on old new (Round.moves n e chosen writes other fits wrote lanes) (inl (goes, none)) = moves_on old new n e chosen writes wrote goes none
  round_on old new (Round.moves n e (nm, s, stage, at, is, c) writes other fits wrote lanes) (inr over) =
      let never : ◌≡◌ {A = Option (List ℕ × StackState)} None (Some (nm, s)) = sym over.none ∙ at in absurd (cc)
  round_on old new (Round.calls made r intends outcome wrote lanes) (inl (goes, none)) =
      let (lent, ends) = lent_on old.entries made.path made.lane.name made.token made.request made.repeated goes none in
      let own : made.told.number ≡ number = ap (λ (c : Granted). c.number) made.called.granted_is in
      inl (
        subst (IsGoing name number) (sym wrote) (outcome_goes name number (intended made) lent.0 lent.1 made.told.number made.told.token r made.told.before made.told.after own),
        ap ended_in wrote ∙ ended_more (intended made) (outcome_by made.told r) ∙ ends,
      )
  round_on old new (Round.calls made r intends outcome wrote lanes) (inr over) =
      let (nm, s, stage, at, is, c) = made.chosen in
      let never : ◌≡◌ {A = Option (List ℕ × StackState)} None (Some (nm, s)) = sym over.none ∙ at in absurd (cc)

  pub course_on : {first last : BookNow D} → Course g number first last → StaysOn name number first → StaysOn name number last
  course_on Course.begins on = on
  course_on {first} {last} (Course.goes {old} course round grows rest) on = round_on old last round (course_on course on)

-- where the operation begins
pub starts_on : {D : Type 0} (g : Ghosts D) (old begun_ : BookNow D) (name : List ℕ) (kind : Begun) → AreApart (world_left old.entries)
    → begins_from kind (known_stack name (world_left old.entries)).status ≡ true
    → begun_.entries ≡ old.entries ++ entry.Begin ((world_left old.entries).operation + 1) name kind ∷ [] → ended_in old.entries ≡ []
    → StaysOn name ((world_left old.entries).operation + 1) begun_
starts_on g old begun_ name kind apart from wrote fresh =
    let n : ℕ = (world_left old.entries).operation + 1 in
    let e : Entry = entry.Begin n name kind in
    let s : StackState = made (world_left old.entries) apart name kind from in
    quiet g name n old begun_ e wrote (s, subst (λ z. IsOn n name z s) (folded_more empty_world old.entries e) (begins_on (world_left old.entries) apart name kind from))
    (ended_more old.entries e ∙ fresh)
