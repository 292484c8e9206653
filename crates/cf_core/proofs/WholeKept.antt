-- What a completed stack holds is whole: it becomes so, stays so, and keeps what its status promises.
use Rattle.std.proofs.Common.{arith, ◌≡◌, ◌⊎◌, inl, inr, ◌↔◌, ℕ, List, ◌∷◌, Bool, true, false, not, Some, refl, sym, ap, subst, ◌∙◌, true≢false, map, filter, find, ◌++◌, ◌&&◌, Option, None, ◌+◌, []}
use Rattle.cf_core.proofs.Words.{AllDone, AreSameThings, AreSingle, BackIsRestored, BecomesBy, Cause, Clean, CleanupKeepsWhole, ClearedIsRestored, CourseKeepsPromise, CreationIsWhole, DeletesSuperseded, EndsAs, Entry, Export, ExportsSame, Fits, HasFailed, Held, HeldIsFound, HeldStatus, HoldsWhole, In, IsAdvancing, IsAsItWas, IsAsSaid, IsHeldAtRest, IsDone, IsNoBegin, IsOnCourse, Known, MayFollow, MayFollowIn, MayFollowOn, MayKeep, MayTurn, Pending, Phase, Promised, Reply, Request, RestKeepsWhole, Right, Schema, ShapeIsKept, Source, StackState, Status, StaysAtRest, UpdateEndsAtRest, UpdateIsWhole, WholeIsComplete, Why, World, all_differ, answered, at_opening, bytes_eq, change_first, current_at, deleting, effect_at, effect_of, evaluated_at, first_so, has_physical, has_token, here, is_current_at, is_made, is_on, is_opening, is_restore, is_right, is_updated, keeping, known_stack, left_in_doubt, marked, option_or, other as of_another, own as is_own, pending_of, plan_now, replied, replying, resources_of, right_at, second_so, seen_as_held, seen_now, settled_in, stack_for, stack_of_operation, stopping, turning, whole_now, with_status, without, world_after}
use Rattle.cf_core.proofs.Lemmas.{bytes_same, either_way, find-append, found_one, in_changed, in_filter, in_front, in_kept, in_map, none_false, none_first, not_so, one_id, own_framed, same_bytes, some_is}
use Rattle.cf_core.proofs.{BackSteps.is_of, BackSteps.own_front, BackSteps.was_of, Cleanups.from_changed, Cleanups.to_changed}
use Rattle.cf_core.proofs.{FitKept.after_exports, Moving.beginning_name, Moving.in_stage, Statuses.intended_way, Statuses.kept_way}
use Rattle.cf_core.proofs.Stacks.{exports_by}
use Rattle.cf_effect.specs.Listed.{reexported, exports_after}
use Rattle.cf_export.specs.declared.Output.{Output}
use Rattle.cf_plan.proofs.WholeFound.{IsFinished, IsWholeIn, current_is, evaluated, found_only, none_marked, other_exports, own_exports, stays_current, whole_left}
use Rattle.cf_plan.specs.Created.{IsHeldAs}
use Rattle.std.specs.Prelude.{◌≢◌}

module _ (schemas : List Schema) (s : StackState) (source : Source) (a : IsAdvancing schemas s source) where
  done_at :
      (p : List ℕ) (o : Option Held) → current_at p s.made ≡ o → IsDone s p → (r : Held)
      × (option_or o (current_at p s.held) ≡ Some r) × (r.unsure ≡ false) × (evaluated_at p s ≡ Known r.kind r.props)
  done_at p (Some r) e d =
      let c = current_is p s.made r e in
      let m : IsAsSaid s r = a.made r c.0 in
      (r, refl, m.sure, subst (λ (q : List ℕ). evaluated_at q s ≡ Known r.kind r.props) (sym c.1) m.said)
  done_at p None e (is_made r g) = let no : None ≡ Some r = sym e ∙ g in let never : ⊥ = cc in absurd never
  done_at p None e (is_updated u) =
      let h = a.updated p u in
      let c = current_is p s.held h.0 h.1 in
      (h.0, h.1, h.2.sure, subst (λ (q : List ℕ). evaluated_at q s ≡ Known h.0.kind h.0.props) (sym c.1) h.2.said)
  done_at p None e (is_right h i needs at sure known) = (h, at, sure, known)

  pub finished : (name : List ℕ) (x : World) → ShapeIsKept s source → Fits x s → ¬ HasFailed schemas name x s → AllDone s → IsFinished s source
  finished name x shape fits well done = record {
    going = a.going;
    shape = shape;
    no_flaw = none_first (plan_now s).flaws (λ f e. well (inr (inr (inl (f, (done, e))))));
    each = λ p i. done_at p (current_at p s.made) refl (done p i);
    ids = fits.ids;
  }

  -- no call is open: its path is not done
  pub none_open : AllDone s → s.tokens ≡ []
  none_open done = none_in s.tokens (λ p i. a.not_done p i (done p.path (a.ready p i).0)) where
    none_in : (ps : List Pending) → ((p : Pending) → In p ps → ⊥) → ps ≡ []
    none_in [] h = refl
    none_in (p ∷ ps) h = absurd (h p here)

-- Where a forward phase is completed, the stack after it holds what its template wants.

-- an entry that changes a stack's status, and is no opening, is of the stack, and leaves it as the fold has it
pub becomes_own :
    (x : World) (e : Entry) (name : List ℕ) (s t : StackState) → s.status ≢ t.status → is_opening e ≡ false → BecomesBy x e name s t
    → (stack_for e x ≡ Some (name, s)) × ((effect_at (x.place + 1) e s).stack ≡ t)
becomes_own x e name s t differs n (is_own p) = (p, refl)
becomes_own x e name s t differs n (at_opening o) = absurd (true≢false (sym o ∙ n))
becomes_own x e name s t differs n (of_another o never) = absurd (differs refl)

-- the stack that is completed, from which t is
holds :
    (u : StackState) (source : Source) → IsFinished u source → (name : List ℕ) (x y : World) (t : StackState) → t.source ≡ u.going → t.outputs ≡ (whole_now u).outputs
    → t.made ≡ [] → t.held ≡ map (settled_in (whole_now u) u) (resources_of u) → y.exports ≡ reexported name (whole_now u).exports x.exports → HoldsWhole name y t
holds u source f name x y t of_source outputs made held exports =
    let l : IsWholeIn (seen_now u) (whole_now u) t.held = subst (IsWholeIn (seen_now u) (whole_now u)) (sym held) (whole_left u source f) in
    record {
      source = source;
      seen = seen_now u;
      whole = whole_now u;
      of_source = of_source ∙ f.going;
      sees = l.sees;
      evaluated = evaluated u source f;
      wanted = l.wanted;
      held = l.held;
      single = l.single;
      sure = l.sure;
      outputs = outputs;
      exports = grind (arith, own_exports);
      none_made = made;
    }

pub cleans_done : (schemas : List Schema) (name : List ℕ) (x : World) (s : StackState) (c : Option Cause) → MayTurn schemas name x s Phase.Clean c
    → ¬ HasFailed schemas name x s × AllDone s
cleans_done schemas name x s c may = grind arith

pub update_is_whole : UpdateIsWhole
update_is_whole schemas x out number why name s t source w differs a shape =
    let e : Entry = Entry.Phase number Phase.Clean why in
    let u : StackState = turning Phase.Clean s in
    let to_it = becomes_own x e name s t differs refl w.becomes in
    let (well, done) = cleans_done schemas name x s why (in_stage schemas x out name s e number to_it.0 w.may).2.1 in
    let quiet = none_open schemas s source a done in
    let f = finished schemas s source a name x shape w.fits well done in
    let g : IsFinished u source = record { going = f.going; shape = f.shape; no_flaw = f.no_flaw; each = f.each; ids = f.ids } in
    let whole = holds u source g name x (world_after x e) (effect_at (x.place + 1) e s).stack refl refl refl refl (own_framed number name x s to_it.0 e refl).exports in
    subst (λ (v : StackState). HoldsWhole name (world_after x e) v × (s.tokens ≡ []) × (v.tokens ≡ [])) to_it.1 (whole, quiet, quiet)

pub nothing_held : (bs hs : List Held) → AreSameThings bs hs → bs ≡ [] → hs ≡ []
nothing_held bs hs v2 e = grind arith

pub completes :
    (schemas : List Schema) (name : List ℕ) (x : World) (s : StackState) (state : Status) → EndsAs schemas name x s state Status.CreateComplete
    → ¬ HasFailed schemas name x s × AllDone s
completes schemas name x s state e = grind arith

pub creation_is_whole : CreationIsWhole
creation_is_whole schemas x out number failed name s t source w differs a shape none_before =
    let e : Entry = Entry.Done number Status.CreateComplete failed in
    let y : World = world_after x e in
    let to_it : (stack_for e x ≡ Some (name, s)) × ((effect_at (x.place + 1) e s).stack ≡ t) = becomes_own x e name s t differs refl w.becomes in
    let u : StackState = stopping Status.CreateComplete s in
    let ends = completes schemas name x s s.status (in_stage schemas x out name s e number to_it.0 w.may).2.2 in
    let quiet : s.tokens ≡ [] = none_open schemas s source a ends.1 in
    let made_same : s.made ≡ u.made = none_marked s.tokens s.made quiet in
    let f : IsFinished u source = let g = finished schemas s source a name x shape w.fits ends.0 ends.1 in
    subst (λ ms. IsFinished (record s { status = Status.CreateComplete; held = map (marked s.tokens) s.held; made = ms }) source) made_same
    (subst (λ hs. IsFinished (record s { status = Status.CreateComplete; held = hs }) source) (none_marked s.tokens s.held quiet)
    (record { going = g.going; shape = g.shape; no_flaw = g.no_flaw; each = g.each; ids = g.ids })) in
    let left : StackState = (effect_at (x.place + 1) e s).stack in
    let whole_so = holds u source f name x y left refl refl refl refl (own_framed number name x s to_it.0 e refl).exports in
    -- all that it held was made
    let of_made : (h : Held) → In h (resources_of u) → In h s.made = λ h i.
    subst (In h) (ap (λ hs. hs ++ u.made) (sym (none_marked s.tokens s.held quiet) ∙ nothing_held s.before s.held a.held none_before) ∙ sym made_same) i in
    let single : (r : Held) → In r left.held → current_at r.path left.held ≡ Some r = λ r i.
    let m = in_changed (settled_in (whole_now u) u) (resources_of u) r i in
    let j = of_made m.one m.of_list in
    let at = ap (λ ms. option_or (current_at m.one.path ms) (current_at m.one.path u.held)) (sym made_same) ∙ ap (λ o. option_or o (current_at m.one.path u.held)) (a.single_made m.one j) in
    (whole_left u source f).single r i
    (ap (λ (z : Held). z.superseded) (sym m.same) ∙ stays_current u source f m.one at (a.made m.one j).ready.0) in
    subst (λ (v : StackState). HoldsWhole name y v × IsHeldAtRest v) to_it.1 (whole_so, record { none_open = quiet; none_made = refl; single = single })

-- What a stack that is whole may lose or change of what it holds, and what an entry leaves of a stack's exports.

-- the same resource, but for its status
abbrev pub IsAlike : Held → Held → Type 0
IsAlike h k = record h { status = k.status } ≡ k

-- what is not superseded stays, but for its status, and nothing else comes
pub record StayHeld (hs ks : List Held) : Type 0 where
  pub kept : (h : Held) → In h hs → h.superseded ≡ false → (k : Held) × In k ks × IsAlike h k
  pub only : (k : Held) → In k ks → k.superseded ≡ false → (h : Held) × In h hs × IsAlike h k

-- so all that is whole of a stack stays, where no other of its parts is looked at
record StaysOf (s : StackState) (hs ms : List Held) (source : Option Source) (outputs : List Output) : Type 0 where
  held : StayHeld s.held hs
  none_made : ms ≡ []
  source_same : source ≡ s.source
  outputs_same : outputs ≡ s.outputs

abbrev StaysWhole : StackState → StackState → Type 0
StaysWhole s t = StaysOf s t.held t.made t.source t.outputs

same_held : (hs ks : List Held) → ks ≡ hs → StayHeld hs ks
same_held hs ks e = record { kept = λ h i l. (h, subst (In h) (sym e) i, refl); only = λ k i l. (k, subst (In k) e i, refl) }

pub marked_held : (ps : List Pending) (hs : List Held) → StayHeld hs (map (marked ps) hs)
marked_held ps hs = record {
  kept = λ h i l. (marked ps h, in_map (marked ps) h hs i, alike h (find (is_on h.physical) ps));
  only = λ k i l. let m = in_changed (marked ps) hs k i in (m.one, m.of_list, subst (IsAlike m.one) m.same (alike m.one (find (is_on m.one.physical) ps)));
} where
  alike : (h : Held) (o : Option Pending) → IsAlike h (left_in_doubt o h)
  alike h v1 = grind arith

-- the first that passes gets another status
module _ (test : Held → Bool) (state : HeldStatus) where
  abbrev stated : Held → Held
  stated h = record h { status = state }

  -- whichever it is
  alike_changed : (h k : Held) → (k ≡ h) ⊎ (k ≡ stated h) → IsAlike h k
  alike_changed h k e = grind (arith, k.status)

  pub changed_held : (hs : List Held) → StayHeld hs (change_first test stated hs)
  changed_held hs = record {
    kept = λ h i l. let c = to_changed test stated hs h i in (c.0, c.1, alike_changed h c.0 c.2);
    only = λ k i l. let c = from_changed test stated hs k i in (c.0, c.1, alike_changed c.0 k c.2);
  }

-- what is superseded goes
pub without_held :
    (id : List ℕ) (hs : List Held) → all_differ bytes_eq (map (λ (r : Held). r.physical) hs) ≡ true → (r : Held) → In r hs → r.superseded ≡ true → r.physical ≡ id
    → StayHeld hs (without id hs)
without_held id hs differ r i gone is = record {
  kept = λ h j l. (
    h,
    in_kept (λ z. not (has_physical id z)) hs h j (ap not (none_false (has_physical id h) (λ e.
        true≢false (sym gone ∙ ap (λ (z : Held). z.superseded) (one_id (λ (z : Held). z.physical) hs differ r h i j (is ∙ bytes_same id h.physical e)) ∙ l)))),
    refl,
  );
  only = λ k j l. (k, (in_filter (λ z. not (has_physical id z)) hs k j).0, refl);
}

module _ (x : World) (s : StackState) (fits : Fits x s) (none_made : s.made ≡ []) where
  abbrev IsGone : List ℕ → Type 0
  IsGone id = (r : Held) × In r s.held × (r.superseded ≡ true) × (id ≡ r.physical)

  unchanged : StaysWhole s s
  unchanged = record { held = same_held s.held s.held refl; none_made = none_made; source_same = refl; outputs_same = refl }

  -- a superseded resource is deleted
  deleted : (id : List ℕ) → IsGone id → StaysWhole s (deleting id s)
  deleted id g = grind (arith, without_held, own_front, fits.ids)

  restated : (id : List ℕ) (state : HeldStatus) → StaysWhole s (with_status id state s)
  restated id state = grind (arith, either_way, changed_held, same_held)

  -- its deletion is answered
  answered_so : (restores : Bool) (path id : List ℕ) → IsGone id → (answer : Reply) → StaysWhole s (answered restores path (Request.Delete id) answer s)
  answered_so restores path id g v4 = grind (arith, deleted, restated, unchanged)

  replied_so : ((p : Pending) → In p s.tokens → DeletesSuperseded s p) → (token : ℕ) (answer : Reply) → StaysWhole s (replying token answer s)
  replied_so deletes token answer = by (pending_of token s) refl
    where
      by : (o : Option Pending) → pending_of token s ≡ o → StaysWhole s (replied token answer o s)
      by None e = unchanged
      by (Some p) e =
          let d = deletes p (found_one (has_token token) s.tokens p e).0 in
          subst (λ r. StaysWhole s (answered (is_restore token s) p.path r answer s)) (sym d.3)
          (answered_so (is_restore token s) p.path d.0.physical (d.0, d.1, d.2, refl) answer)

  -- a superseded resource is kept
  kept_so : (path id : List ℕ) (w : Why) → IsGone id → StaysWhole s (keeping path id w s)
  kept_so path id w g = grind (arith, deleted, kept_way, unchanged, same_held)

-- what is whole stays so, as it was
module _ (name : List ℕ) (x y : World) (s t : StackState) (fits : Fits y t) (h : HoldsWhole name x s) (k : StaysWhole s t) (exports : ExportsSame name x y) where
  one_at : (a b : Held) → In a s.held → In b s.held → a.superseded ≡ false → b.superseded ≡ false → a.path ≡ b.path → a ≡ b
  one_at a b i j l m e = some_is a b (sym (h.single a i l) ∙ ap (λ p. current_at p s.held) e ∙ h.single b j m)

  live : (a b : Held) → IsAlike a b → b.superseded ≡ false → a.superseded ≡ false
  live a b e l = ap (λ (z : Held). z.superseded) e ∙ l

  single_still : (r : Held) → In r t.held → r.superseded ≡ false → current_at r.path t.held ≡ Some r
  single_still r i l = found_only (is_current_at r.path) t.held r i (ap (λ b. b && not r.superseded) (same_bytes r.path) ∙ ap not l) only where
    only : (q : Held) → In q t.held → is_current_at r.path q ≡ true → q ≡ r
    only q j e =
        let m = not_so q.superseded (second_so (bytes_eq r.path q.path) _ e) in
        let a = k.held.only r i l in
        let b = k.held.only q j m in
        let path : b.0.path ≡ a.0.path = ap (λ (z : Held). z.path) b.2 ∙ sym (bytes_same r.path q.path (first_so (bytes_eq r.path q.path) _ e)) ∙ sym (ap (λ (z : Held). z.path) a.2) in
        let same = one_at b.0 a.0 b.1 a.1 (live b.0 q b.2 m) (live a.0 r a.2 l) path in
        one_id (λ (z : Held). z.physical) (resources_of t) fits.ids q r (in_front q t.held t.made j) (in_front r t.held t.made i)
        (sym (ap (λ (z : Held). z.physical) b.2) ∙ ap (λ (z : Held). z.physical) same ∙ ap (λ (z : Held). z.physical) a.2)

  as_held : (w : Right) (a b : Held) → IsAlike a b → IsHeldAs w a → IsHeldAs w b
  as_held w a b e g = subst (IsHeldAs w) e (record { kind = g.kind; props = g.props; needs = g.needs; deletion = g.deletion; replace = g.replace })

  whole_still : (v : HoldsWhole name y t) × (v.source ≡ h.source) × (v.whole ≡ h.whole)
  whole_still = (
    record {
      source = h.source;
      seen = h.seen;
      whole = h.whole;
      of_source = k.source_same ∙ h.of_source;
      sees = λ path r e.
          let c = current_is path t.held r e in
          let a = k.held.only r c.0 c.2 in
          h.sees path a.0 (ap (λ p. current_at p s.held) (c.1 ∙ sym (ap (λ (z : Held). z.path) a.2)) ∙ h.single a.0 a.1 (live a.0 r a.2 c.2)) ∙ ap (λ (z : Held). Some (seen_as_held z)) a.2;
      evaluated = h.evaluated;
      wanted = λ path w e.
          let g = h.wanted path w e in
          let c = current_is path s.held g.0 g.1 in
          let b = k.held.kept g.0 c.0 c.2 in
          let stands : b.0.superseded ≡ false = sym (ap (λ (z : Held). z.superseded) b.2) ∙ c.2 in
          (b.0, ap (λ p. current_at p t.held) (c.1 ∙ ap (λ (z : Held). z.path) b.2) ∙ single_still b.0 b.1 stands, as_held w g.0 b.0 b.2 g.2);
      held = grind (arith, live, as_held, k.held.only, h.held, h.whole);
      single = single_still;
      sure = λ r i l. let a = k.held.only r i l in sym (ap (λ (z : Held). z.unsure) a.2) ∙ h.sure a.0 a.1 (live a.0 r a.2 l);
      outputs = k.outputs_same ∙ h.outputs;
      exports = λ e. (λ i. (h.exports e).0 ((exports e).0 i), λ i. (exports e).1 ((h.exports e).1 i));
      none_made = k.none_made;
    },
    refl,
    refl,
  )

-- what an entry that is no opening leaves of all exports: its stack's alone may change
module _ (x : World) (e : Entry) (name : List ℕ) (n : is_opening e ≡ false) where
  abbrev ofs : List Export → Export → Type 0
  ofs es f = In f (filter (λ (z : Export). bytes_eq name z.stack) es)

  same_from : (es : List Export) → (world_after x e).exports ≡ es → ((f : Export) → ofs es f ↔ ofs x.exports f) → ExportsSame name x (world_after x e)
  same_from es q h f = subst (λ gs. ofs gs f ↔ ofs x.exports f) (sym q) (h f)

  pub exports_other : ((t : StackState) → stack_for e x ≡ Some (name, t) → ⊥) → ExportsSame name x (world_after x e)
  exports_other never = by (stack_for e x) refl (after_exports x e n) where
    changed : (other : List ℕ) → (other ≡ name → ⊥) → (o : Option (List (List ℕ × List ℕ))) (f : Export) → ofs (exports_after other o x.exports) f ↔ ofs x.exports f
    changed other differs None f = (λ i. i, λ i. i)
    changed other differs (Some es) f = other_exports other es x.exports f name differs

    by : (o : Option (List ℕ × StackState)) → stack_for e x ≡ o → (world_after x e).exports ≡ exports_by x e (stack_for e x) → ExportsSame name x (world_after x e)
    by None q k = same_from x.exports (k ∙ ap (exports_by x e) q) (λ f. (λ i. i, λ i. i))
    by (Some (other, u)) q k = grind (arith, same_from, exports_by, changed)

  pub exports_own : (s : StackState) → stack_for e x ≡ Some (name, s) → (effect_of e s).exports ≡ None → ExportsSame name x (world_after x e)
  exports_own s q v2 = grind (arith, same_from, after_exports, exports_by)

-- What is whole stays so while its stack cleans up, as that ends, and at rest.

module _ (schemas : List Schema) (x : World) (out : List ℕ) (name : List ℕ) (s : StackState) (was : known_stack name x ≡ s) where
  abbrev after : Entry → StackState
  after e = (effect_at (x.place + 1) e s).stack

  -- the stack goes on being whole, and exports what it did
  abbrev Goes : Entry → Type 0
  Goes e = StaysWhole s (after e) × ((effect_of e s).exports ≡ None)

  module _ (fits : Fits x s) (none_made : s.made ≡ []) (cleans : s.status ≡ Status.UpdateCompleteCleanupInProgress)
      (deletes : (p : Pending) → In p s.tokens → DeletesSuperseded s p) where
    stays : (t : StackState) → t.held ≡ s.held → t.made ≡ s.made → t.source ≡ s.source → t.outputs ≡ s.outputs → StaysWhole s t
    stays t held made source outputs = record { held = same_held s.held t.held held; none_made = made ∙ none_made; source_same = source; outputs_same = outputs }

    -- the stage is that of the cleanup
    cleaning : (e : Entry) (number : ℕ) → stack_of_operation number x ≡ Some (name, s) → MayFollowOn schemas number x out e → MayFollowIn schemas name x out s Clean e
    cleaning e number going may = grind (arith, in_stage, some_is)

    kept : (path physical : List ℕ) (w : Why) → MayKeep Clean out s path physical w → (r : Held) × In r s.held × (r.superseded ≡ true) × (physical ≡ r.physical)
    kept path physical w may = grind (arith, in_filter)

    goes : (e : Entry) → stack_for e x ≡ Some (name, s) → MayFollow schemas x out e → Goes e
    goes (Entry.Opened epoch lanes) q may = let no : ⊥ = cc in absurd no
    goes (Entry.Begin number n k) q may =
        absurd (grind (arith, true≢false))
    goes (Entry.Kept number path physical w) q may =
        (kept_so x s fits none_made path physical w (kept path physical w (cleaning (Entry.Kept number path physical w) number q may)), refl)
    goes (Entry.Intent number token lane path r) q may =
        (grind (arith, intended_way, stays), refl)
    goes (Entry.Outcome number token answer low high) q may =
        (replied_so x s fits none_made deletes token answer, refl)
    goes (Entry.Phase number p c) q may = absurd (grind (arith, (cleaning (Entry.Phase number p c) number q may).1))
    goes (Entry.Done number state failed) q may =
        (grind (arith, marked_held))
    goes (Entry.ChangeSet number n source rows outputs) q may = (stays (after (Entry.ChangeSet number n source rows outputs)) refl refl refl refl, refl)

-- an opening leaves what a stack holds
at_all : (x : World) (e : Entry) (name : List ℕ) (s : StackState) → is_opening e ≡ true → IsAsItWas s (effect_at (x.place + 1) e s).stack × ExportsSame name x (world_after x e)
at_all x e name s o = grind (arith, true≢false)

as_was : (s : StackState) → IsAsItWas s s
as_was s = record { status = inl refl; held = refl; before = refl; made = refl; tokens = refl; source = refl; outputs = refl }

was_whole : (s t : StackState) → s.made ≡ [] → IsAsItWas s t → StaysWhole s t
was_whole s t none a = record { held = same_held s.held t.held a.held; none_made = a.made ∙ none; source_same = a.source; outputs_same = a.outputs }

pub cleanup_keeps_whole : CleanupKeepsWhole
cleanup_keeps_whole schemas x out e name s t w cleans deletes h = by t w.becomes w.fits_after where
  by : (u : StackState) → BecomesBy x e name s u → Fits (world_after x e) u → (k : HoldsWhole name (world_after x e) u) × (k.source ≡ h.source) × (k.whole ≡ h.whole)
  by u (is_own q) f =
      let g = goes schemas x out name s w.was w.fits h.none_made cleans deletes e q w.may in
      whole_still name x (world_after x e) s u f h g.0 (exports_own x e name (grind arith) s q g.1)
  by u (at_opening o) f = let a = at_all x e name s o in whole_still name x (world_after x e) s u f h (was_whole s u h.none_made a.0) a.1
  by u (of_another n never) f = whole_still name x (world_after x e) s s f h (was_whole s s h.none_made (as_was s)) (exports_other x e name n never)

ends_from : (schemas : List Schema) (name : List ℕ) (x : World) (s : StackState) (state : Status) → EndsAs schemas name x s state Status.UpdateComplete
    → state ≡ Status.UpdateCompleteCleanupInProgress
ends_from schemas name x s state e = grind arith

pub update_ends_at_rest : UpdateEndsAtRest
update_ends_at_rest schemas x out number failed name s t w differs h none quiet =
    let e : Entry = Entry.Done number Status.UpdateComplete failed in
    let to_it = becomes_own x e name s t differs refl w.becomes in
    let from = ends_from schemas name x s s.status (in_stage schemas x out name s e number to_it.0 w.may).2.2 in
    let whole = (cleanup_keeps_whole schemas x out e name s t w from (λ p i. elim (subst (In p) quiet i) [ ]) h).0 in
    let held : t.held ≡ s.held = ap (λ (u : StackState). u.held) (sym to_it.1) ∙ sym (none_marked s.tokens s.held quiet) in (
      whole,
      record {
        none_open = ap (λ (u : StackState). u.tokens) (sym to_it.1) ∙ quiet;
        none_made = whole.none_made;
        single = λ r i. whole.single r i (none r (subst (In r) held i));
      },
    )

pub stays_at_rest : StaysAtRest
stays_at_rest schemas x out e name s t w rests begins = by t w.becomes
  where
    rest : (d : Entry) → stack_for d x ≡ Some (name, s) → MayFollow schemas x out d → IsNoBegin name d → IsAsItWas s (effect_at (x.place + 1) d s).stack × ((effect_of d s).exports ≡ None)
    rest (Entry.Opened epoch lanes) q may n = let never : ⊥ = cc in absurd never
    rest (Entry.Begin number m k) q may n = absurd (n (beginning_name schemas x out name s number m k q))
    rest (Entry.ChangeSet number m source rows outputs) q may n = grind arith
    rest d q may n = absurd (let o = in_stage schemas x out name s d _ q may in let never : None ≡ Some o.0 = sym rests ∙ o.1 in cc)

    by : (u : StackState) → BecomesBy x e name s u → IsAsItWas s u × ExportsSame name x (world_after x e)
    by u (is_own q) = let r = rest e q w.may begins in (r.0, exports_own x e name (grind arith) s q r.1)
    by u (at_opening o) = at_all x e name s o
    by u (of_another n never) = (as_was s, exports_other x e name n never)

pub rest_keeps_whole : RestKeepsWhole
rest_keeps_whole schemas x out e name s t w rests begins h r =
    let a = stays_at_rest schemas x out e name s t w rests begins in (
      whole_still name x (world_after x e) s t w.fits_after h (was_whole s t h.none_made a.0) a.1,
      record { none_open = a.0.tokens ∙ r.none_open; none_made = a.0.made ∙ r.none_made; single = subst AreSingle (sym a.0.held) r.single },
    )

-- What a stack at rest has kept, with what is live of it.

pub held_is_found : HeldIsFound
held_is_found x s r fits i =
    sym (find-append (has_physical r.physical) s.held s.made)
    ∙ found_only (has_physical r.physical) (resources_of s) r (in_front r s.held s.made i) (same_bytes r.physical)
    (λ h j e. one_id (λ (z : Held). z.physical) (resources_of s) fits.ids h r j (in_front r s.held s.made i) (sym (bytes_same r.physical h.physical e)))

pub whole_is_complete : WholeIsComplete
whole_is_complete name x s lanes h rest live = record {
  settled = record { none_open = rest.none_open; none_made = rest.none_made };
  evaluated = (
    h.source,
    h.seen,
    h.whole,
    h.of_source,
    λ path r e.
        let c = current_is path s.held r e in
        let l = live r c.0 in
        (l.0, l.1, h.sees path r e ∙ ap (λ (a : _). Some (record { physical = Some r.physical; attrs = Some a })) (sym (l.3 (h.sure r c.0 c.2)).1)),
    h.evaluated,
    record {
      paths = λ path. (
        λ p. (let f = h.wanted path p.0 p.1 in (f.0, f.1)),
        λ p. (let c = current_is path s.held p.0 p.1 in let f = h.held p.0 c.0 c.2 in (f.0, ap (λ q. right_at q h.whole) c.1 ∙ f.1)),
      );
      live = λ path w r e f.
          let c = current_is path s.held r f in
          let g = h.held r c.0 c.2 in
          let same = some_is g.0 w (sym g.1 ∙ ap (λ q. right_at q h.whole) (sym c.1) ∙ e) in
          let l = live r c.0 in
          (l.0, l.1, l.2 ∙ g.2.kind ∙ ap (λ v. v.kind) same, (l.3 (h.sure r c.0 c.2)).0 ∙ g.2.props ∙ ap (λ v. v.props) same);
      nothing_else = rest.single;
      outputs = h.outputs;
    },
    h.exports,
  );
}

pub back_is_restored : BackIsRestored
back_is_restored x s lanes fits back rest live = record {
  settled = record { none_open = rest.none_open; none_made = rest.none_made };
  held = λ b i. let k = is_of back.held i in (k.0, k.1, k.2.path, k.2.physical, k.2.kind);
  nothing_else = λ r i. let k = was_of back.held i in (k.0, k.1, sym k.2.path, sym k.2.physical);
  live = λ b r i j e.
      let k = is_of back.held i in
      let one = one_id (λ (z : Held). z.physical) (resources_of s) fits.ids k.0 r (in_front k.0 s.held s.made k.1) (in_front r s.held s.made j) (k.2.physical ∙ sym e) in
      let l = live r j in
      (l.0, l.1, l.2 ∙ ap (λ (z : Held). z.kind) (sym one) ∙ k.2.kind, λ u. (l.3 u).0 ∙ back.as_before b r i j e u);
}

pub cleared_is_restored : ClearedIsRestored
cleared_is_restored s lanes c e = grind arith

pub course_keeps_promise : CourseKeepsPromise
course_keeps_promise schemas name x s lanes fits course live = by s.status course
  where
    by : (state : Status) → IsOnCourse schemas name x s state → Promised state name x s lanes
    by Status.CreateComplete c = whole_is_complete name x s lanes c.0 c.1 (live c.1.none_open)
    by Status.UpdateComplete c = whole_is_complete name x s lanes c.0 c.1 (live c.1.none_open)
    by Status.UpdateRollbackComplete c = back_is_restored x s lanes fits c.0 c.1 (live c.1.none_open)
    by Status.RollbackComplete c = (cleared_is_restored s lanes c.0 c.1, c.1)
    by Status.UpdateRollbackFailed c = c.1
    by Status.RollbackFailed c = c
    by Status.DeleteFailed c = c
    by Status.DeleteComplete c = c
    by Status.ReviewInProgress c = c
    by _ c = tt
