-- A path has two resources at most, and the deletion of a stack deletes each under one token at most.
use Rattle.std.proofs.Common.{◌≡◌, ◌⊎◌, inl, inr, ℕ, ◌+◌, ◌≤◌, ◌&&◌, ◌||◌, not, Bool, true, false, List, [], ◌∷◌, ◌++◌, Option, Some, None, refl, sym, ap, subst, ◌∙◌, true≢false, find, length, arith}
use Rattle.cf_core.proofs.Words.{AreSingle, Begun, Call, Entry, Fits, Forward, Gone, HasNoDeletion, Held, In, IntendsIn, IsCleared, IsGoingBack, IsHeldAtRest, IsOnCourse, IsOpenInBack, IsOwn, IsTo, IsTrue, IsUnmaking, IsWritten, Pending, Phase, Reply, Request, Schema, Stage, StackState, Status, World, answered, begins, bytes_eq, current_at, deletes, deletes_from, deletions_of, effect_at, ended_effect, first_so, has_token, is_at, is_create, is_create_at, is_restore, keeping, list_any, made_of, opened, own_calls, pending_of, replied, resources_of, reviewed as review, second_so, stage_of, status_made, step, terms_at, turned_effect}
use Rattle.cf_core.proofs.Lemmas.{and_from, any_of, bytes_eq-Decides, eqb-true, found_one, in_back, in_either, in_front, into_mapped, is_found_in, not_so, some_is, some_of}
use Rattle.cf_core.proofs.{BackSteps.own_front, BackSteps.single_along, Cleanups.none_begun, MovesStatus.status_moves, Moving.written_is_to, Statuses.intended_way}
use Rattle.cf_core.proofs.Counted.{Counts, IsKind, as_before, counts, none_yet, numbers_low, one_more}
use Rattle.cf_core.proofs.Few.{at_most, covered, none_deletes, none_pass_none}
use Rattle.cf_core.proofs.FewUnmade.{IsNewMade, id_in, new_of, open_before}
use Rattle.cf_core.proofs.FitKept.{IsLeftBy, Key, Keyed, gone, in_keyed, key_of, keys_of, left_by, less_ended, less_kept, less_turned, made, one_less, same, stay, with_key}
use Rattle.cf_core.specs.FewCalls.{LeavesSo}
use Rattle.cf_core.specs.OnCourse.{IsOnWay}
use Rattle.cf_core.specs.StatusMoves.{StatusMoves}
use Rattle.cf_core.specs.StatusMoves as moves
use Rattle.cf_core.specs.Tokens.{AreTwoAt, DeletesTwo, HasFewUnmade, HasTwoAPath, deletes_or_failed, deletes_third, is_deletion, number_of}
use Rattle.cf_core.specs.Written.{other, reviewed}
use Rattle.cf_plan.proofs.Listed.{in_last}

-- Each resource was there before, with its id and path, or an open create has made it and is open no more.
abbrev WasThere : StackState → Held → Type 0
WasThere s r = (q : Held) × In q (resources_of s) × (q.physical ≡ r.physical) × (q.path ≡ r.path)

abbrev AreFrom : Entry → StackState → StackState → Type 0
AreFrom e s t = (r : Held) → In r (resources_of t) → WasThere s r ⊎ IsNewMade e s.tokens t.tokens r

module _ (s : StackState) where
  itself : (r : Held) → In r (resources_of s) → WasThere s r
  itself r i = (r, i, refl, refl)

  by_keys : (t : StackState) → Keyed (keys_of s) (keys_of t) → (r : Held) → In r (resources_of t) → WasThere s r
  by_keys t k r i =
      let q = with_key s (key_of r) (in_keyed k (key_of r) (into_mapped key_of (resources_of t) r i)) in
      (q.0, q.1, ap (λ (z : Key). z.physical) q.2, ap (λ (z : Key). z.path) q.2)

  -- an answer to a call that is no create leaves them
  keyed_by : (path : List ℕ) (r : Request) (a : Reply) (u : StackState) → is_create r ≡ false → IsLeftBy s path r a u → Keyed (keys_of s) (keys_of u)
  keyed_by path r a u none (same k keys) = stay keys
  keyed_by path r a u none (gone id k named n keys) = one_less id keys
  keyed_by path _ _ u none (made k id props attrs h b made_is id_is kind_is) = absurd (true≢false none)

  module _ (x : World) (fits : Fits x s) (number token before after : ℕ) (p : Pending) (open_ : pending_of token s ≡ Some p) where
    of_tokens : In p s.tokens
    of_tokens = (found_one (has_token token) s.tokens p open_).0

    by_request : (a : Reply) (q : Request) → p.request ≡ q → (r : Held) → In r (resources_of (answered (is_restore token s) p.path q a s))
        → WasThere s r ⊎ IsNewMade (Entry.Outcome number token a before after) s.tokens (replied token a (Some p) s).tokens r
    by_request (Reply.Success physical attrs) (Request.Create k props) e r i = elim (in_either r s.held (s.made ++ m ∷ []) i) [
      | inl j ↦ inl (itself r (in_front r s.held s.made j))
      | inr j ↦ elim (in_last s.made m r j) [
        | inl l ↦ inl (itself r (in_back r s.held s.made l))
        | inr is ↦ inr (new_made is)
      ]
    ] where
      m : Held
      m = made_of (terms_at p.path s) (status_made (current_at p.path s.held)) p.path k props physical attrs

      new_made : r ≡ m → IsNewMade (Entry.Outcome number token (Reply.Success physical attrs) before after) s.tokens (replied token (Reply.Success physical attrs) (Some p) s).tokens r
      new_made is = new_of x s fits number token before after p open_ physical attrs k props e r (ap (λ (h : Held). h.path) is) (ap (λ (h : Held). h.physical) is)
    by_request (Reply.Failed c) (Request.Create k props) e r i = inl (itself r i)
    by_request Reply.Doubt (Request.Create k props) e r i = inl (itself r i)
    by_request a (Request.Update id props) e r i =
        inl (by_keys (answered (is_restore token s) p.path (Request.Update id props) a s)
        (keyed_by p.path (Request.Update id props) a (answered (is_restore token s) p.path (Request.Update id props) a s) refl (left_by (is_restore token s) p.path (Request.Update id props) a s)) r i)
    by_request a (Request.Delete id) e r i =
        inl (by_keys (answered (is_restore token s) p.path (Request.Delete id) a s)
        (keyed_by p.path (Request.Delete id) a (answered (is_restore token s) p.path (Request.Delete id) a s) refl (left_by (is_restore token s) p.path (Request.Delete id) a s)) r i)

  answered_from : (x : World) → Fits x s → (number token before after : ℕ) (a : Reply) (o : Option Pending) → pending_of token s ≡ o
      → (r : Held) → In r (resources_of (replied token a o s))
      → WasThere s r ⊎ IsNewMade (Entry.Outcome number token a before after) s.tokens (replied token a o s).tokens r
  answered_from x fits number token before after a None e r i = inl (itself r i)
  answered_from x fits number token before after a (Some p) e r i = by_request x fits number token before after p e a p.request refl r i

module _ (schemas : List Schema) (x : World) (out name : List ℕ) (s : StackState) (fits : Fits x s) where
  stepped : (place : ℕ) (e : Entry) → IsOwn s.operation e → AreFrom e s (effect_at place e s).stack
  stepped place (Entry.Kept number path physical w) own r i = inl (by_keys s (keeping path physical w s) (less_kept path physical w s).keyed r i)
  stepped place (Entry.Intent number token lane path q) own r i =
      inl (intended_way (λ (u : StackState). (h : Held) → In h (resources_of u) → WasThere s h) s (itself s) number (record { token = token; path = path; lane = lane; request = q }) (itself s) r i)
  stepped place (Entry.Outcome number token a before after) own r i = answered_from s x fits number token before after a (pending_of token s) refl r i
  stepped place (Entry.Phase number p c) own r i = inl (by_keys s (turned_effect p s).stack (less_turned p s).keyed r i)
  stepped place (Entry.Done number state failed) own r i = inl (by_keys s (ended_effect state s).stack (less_ended state s).keyed r i)
  stepped place e own r i = absurd own

  -- but for a creation or an update that begins
  are_from : {e : Entry} {t : StackState} → deletes_or_failed t.status ≡ true → IsTo schemas x out name s e t → AreFrom e s t
  are_from now (step {e = e} stage at own may) r i = stepped (x.place + 1) e own r i
  are_from now (begins (Begun.Delete paths) from by) r i = inl (itself s r i)
  are_from now (begins (Begun.Create source) from by) r i = absurd (true≢false (sym now))
  are_from now (begins (Begun.Update source) from by) r i = absurd (true≢false (sym now))
  are_from now (begins (Begun.Continue paths) from by) r i = absurd (true≢false (sym now))
  are_from now (reviewed number source rows outputs from) r i = inl (itself s r i)
  are_from now (opened epoch lanes) r i = inl (itself s r i)
  are_from now other r i = inl (itself s r i)

-- Where a deletion of the stack begins, two are of a path at most.
abbrev AreTwo : StackState → Type 0
AreTwo s = (path : List ℕ) → (a b : List ℕ) × AreTwoAt s path a b

abbrev id_of : Option Held → List ℕ
id_of None = []
id_of (Some h) = h.physical

module _ (s : StackState) (not_yet : s.status ≡ Status.DeleteInProgress → ⊥) where
  -- at most one, where no other is made
  one_at : (path id : List ℕ) → ((r : Held) → In r (resources_of s) → r.path ≡ path → r.physical ≡ id) → AreTwoAt s path id id
  one_at path id all = record { resources = λ r i at. inl (all r i at); creating = λ p i c at. refl; deleted = λ d. absurd (not_yet d) }

  none_there : s.held ≡ [] → s.made ≡ [] → (r : Held) → In r (resources_of s) → ⊥
  none_there h m r i = elim (in_either r s.held s.made i) [ inl j ↦ elim (subst (In r) h j) [ ] | inr j ↦ elim (subst (In r) m j) [ ] ]

  cleared_two : IsCleared s → AreTwo s
  cleared_two c path = ([], [], one_at path [] (λ r i at. absurd (none_there c.none_held c.settled.none_made r i)))

  rested_two : IsHeldAtRest s → AreTwo s
  rested_two rest path = let id = id_of (current_at path s.held) in (
    id,
    id,
    one_at path id (λ r i at. elim (in_either r s.held s.made i) [
      | inl j ↦ sym (ap id_of (ap (λ p. current_at p s.held) (sym at) ∙ rest.single r j))
      | inr j ↦ elim (subst (In r) rest.none_made j) [ ]
    ]),
  )

  unmaking_two : IsUnmaking s → HasFewUnmade s → AreTwo s
  unmaking_two u few path = let id = id_of (find (is_at path) s.made) in (
    id,
    id,
    one_at path id (λ r i at. elim (in_either r s.held s.made i) [
      | inl j ↦ elim (subst (In r) u.none_held j) [ ]
      | inr j ↦
          let f = is_found_in (is_at path) s.made r j ((bytes_eq-Decides path r.path).1 (sym at)) in
          let one = found_one (is_at path) s.made f.0 f.1 in
          few.alone.single r f.0 j one.0 (at ∙ (bytes_eq-Decides path f.0.path).0 one.1) ∙ sym (ap id_of f.1)
    ]),
  )

  -- the rollback of an update has failed: one is held, and one is made beside it, or its create is open
  abbrev beside : Option Held → List ℕ → List ℕ
  beside None id = id
  beside (Some h) id = h.physical

  back_two : {x : World} → Fits x s → IsGoingBack s → AreTwo s
  back_two fits g path = (
    a,
    b,
    record {
      resources = λ r i at. elim (in_either r s.held s.made i) [
        | inl j ↦ inl (sym (ap id_of (ap (λ p. current_at p s.held) (sym at) ∙ held r j)))
        | inr j ↦ inr (sym (ap (λ o. beside o a) (ap (λ p. current_at p s.made) (sym at) ∙ g.single_made r j)))
      ];
      creating = λ p i c at. sym (ap (λ o. beside o a) (ap (λ q. current_at q s.made) (sym at) ∙ none_made p i c));
      deleted = λ d. absurd (not_yet d);
    },
  ) where
    a : List ℕ
    a = id_of (current_at path s.held)

    b : List ℕ
    b = beside (current_at path s.made) a

    held : AreSingle s.held
    held = single_along g.held (own_front s.held s.made fits.ids) g.single_before

    none_made : (p : Pending) → In p s.tokens → is_create p.request ≡ true → current_at p.path s.made ≡ None
    none_made p i c = by p.request c (g.calls p i) where
      by : (q : Request) → is_create q ≡ true → IsOpenInBack s p q → current_at p.path s.made ≡ None
      by (Request.Create kind props) c o = o.1
      by (Request.Update id props) c o = absurd (true≢false (sym c))
      by (Request.Delete id) c o = absurd (true≢false (sym c))

module _ (schemas : List Schema) (name : List ℕ) (x : World) (s : StackState) (fits : Fits x s) (few : DeletesTwo s) (unmakes : s.status ≡ Status.RollbackInProgress → HasFewUnmade s) where
  -- another status
  differs : (a : Status) → s.status ≡ a → (a ≡ Status.DeleteInProgress → ⊥) → s.status ≡ Status.DeleteInProgress → ⊥
  differs a is n d = n (sym is ∙ d)

  from_deletable : (a : Status) → IsTrue (deletes_from a) → s.status ≡ a → IsOnCourse schemas name x s a → AreTwo s
  from_deletable Status.RollbackFailed f is c = (few (ap deletes_or_failed is)).two
  from_deletable Status.DeleteFailed f is c = (few (ap deletes_or_failed is)).two
  from_deletable Status.ReviewInProgress f is c = cleared_two s (differs Status.ReviewInProgress is (λ d. let no : ⊥ = cc in no)) c
  from_deletable Status.RollbackComplete f is c = cleared_two s (differs Status.RollbackComplete is (λ d. let no : ⊥ = cc in no)) c.0
  from_deletable Status.UpdateRollbackFailed f is c = back_two s (differs Status.UpdateRollbackFailed is (λ d. let no : ⊥ = cc in no)) fits c.0
  from_deletable Status.CreateComplete f is c = rested_two s (differs Status.CreateComplete is (λ d. let no : ⊥ = cc in no)) c.1
  from_deletable Status.UpdateComplete f is c = rested_two s (differs Status.UpdateComplete is (λ d. let no : ⊥ = cc in no)) c.1
  from_deletable Status.UpdateRollbackComplete f is c = rested_two s (differs Status.UpdateRollbackComplete is (λ d. let no : ⊥ = cc in no)) c.1
  from_deletable a f is c = let no : ⊥ = cc in absurd no

  two_before : (a b : Status) → StatusMoves a b → deletes_or_failed b ≡ true → s.status ≡ a → IsOnCourse schemas name x s a → AreTwo s
  two_before a b moves.stays now is c = (few (ap deletes_or_failed is ∙ now)).two
  two_before a b (moves.deletes f) now is c = from_deletable a f is c
  two_before a b moves.unmaking_failed now is c = unmaking_two s (differs Status.RollbackInProgress is (λ d. let no : ⊥ = cc in no)) c (unmakes is)
  two_before a b moves.deletion_failed now is c = (few (ap deletes_or_failed is)).two
  two_before a b moves.reviewed now is c = absurd (true≢false (sym now))
  two_before a b (moves.creates f) now is c = absurd (true≢false (sym now))
  two_before a b (moves.updates f) now is c = absurd (true≢false (sym now))
  two_before a b moves.continues now is c = absurd (true≢false (sym now))
  two_before a b moves.creation_back now is c = absurd (true≢false (sym now))
  two_before a b moves.created now is c = absurd (true≢false (sym now))
  two_before a b moves.unmade now is c = absurd (true≢false (sym now))
  two_before a b moves.cleans now is c = absurd (true≢false (sym now))
  two_before a b moves.updated now is c = absurd (true≢false (sym now))
  two_before a b moves.update_back now is c = absurd (true≢false (sym now))
  two_before a b moves.back_cleans now is c = absurd (true≢false (sym now))
  two_before a b moves.rolled_back now is c = absurd (true≢false (sym now))
  two_before a b moves.back_failed now is c = absurd (true≢false (sym now))
  two_before a b moves.deleted now is c = absurd (true≢false (sym now))

-- what does not go forward before
never_forward : (a b : Status) → StatusMoves a b → deletes_or_failed b ≡ true → stage_of a ≡ Some Forward → ⊥
never_forward a b m now at = grind arith

came_from : (a b : Status) → StatusMoves a b → b ≡ Status.DeleteInProgress → (a ≡ Status.DeleteInProgress) ⊎ IsTrue (deletes_from a)
came_from _ _ moves.stays e = inl e
came_from _ _ (moves.deletes f) e = inr f
came_from _ _ moves.reviewed e = let no : ⊥ = cc in absurd no
came_from _ _ (moves.creates f) e = let no : ⊥ = cc in absurd no
came_from _ _ (moves.updates f) e = let no : ⊥ = cc in absurd no
came_from _ _ moves.continues e = let no : ⊥ = cc in absurd no
came_from _ _ moves.creation_back e = let no : ⊥ = cc in absurd no
came_from _ _ moves.created e = let no : ⊥ = cc in absurd no
came_from _ _ moves.unmade e = let no : ⊥ = cc in absurd no
came_from _ _ moves.unmaking_failed e = let no : ⊥ = cc in absurd no
came_from _ _ moves.cleans e = let no : ⊥ = cc in absurd no
came_from _ _ moves.updated e = let no : ⊥ = cc in absurd no
came_from _ _ moves.update_back e = let no : ⊥ = cc in absurd no
came_from _ _ moves.back_cleans e = let no : ⊥ = cc in absurd no
came_from _ _ moves.rolled_back e = let no : ⊥ = cc in absurd no
came_from _ _ moves.back_failed e = let no : ⊥ = cc in absurd no
came_from _ _ moves.deleted e = let no : ⊥ = cc in absurd no
came_from _ _ moves.deletion_failed e = let no : ⊥ = cc in absurd no

-- a deletion of the stack begins from no stage, and by its Begin alone
at_rest : (a : Status) → IsTrue (deletes_from a) → (stage : Stage) → stage_of a ≡ Some stage → ⊥
at_rest a f stage e = grind arith

never_reviews : (a : Status) → IsTrue (deletes_from a) → review a ≡ Status.DeleteInProgress → ⊥
never_reviews a f e = grind arith

never_deletes : (a : Status) → IsTrue (deletes_from a) → a ≡ Status.DeleteInProgress → ⊥
never_deletes a f e = grind arith

-- what it asks for
pub deletes_one : (schemas : List Schema) (name : List ℕ) (x : World) (s : StackState) (path : List ℕ) (r : Request) → IntendsIn Gone schemas name x s path r
    → (m : Held) × In m (resources_of s) × (r ≡ Request.Delete m.physical) × (path ≡ m.path) × (length (deletions_of m.physical s) ≡ 0)
deletes_one schemas name x s path (Request.Delete id) (m, may, kept, p, is) =
    (m, may.0, ap (λ i. Request.Delete i) is, p, eqb-true (length (deletions_of m.physical s)) 0 may.3)
deletes_one schemas name x s path (Request.Create kind props) may = absurd may
deletes_one schemas name x s path (Request.Update id props) may = absurd may

is_third_kind : (path a b : List ℕ) → IsKind (deletes_third path a b)
is_third_kind path a b c d same_call =
    ap (λ p. bytes_eq path p && (is_deletion d.request && not (deletes a d.request || deletes b d.request))) same_call.path
    ∙ ap (λ r. bytes_eq path c.path && (is_deletion r && not (deletes a r || deletes b r))) same_call.request

module _ (schemas : List Schema) (x : World) (out : List ℕ) (e : Entry) (name : List ℕ) (s t : StackState) (w : IsWritten schemas x out e name s t)
    (way : IsOnWay schemas name x s) where
  counts_of : (test : Call → Bool) → IsKind test → Counts schemas x out name s test (number_of test t)
  counts_of test kind = counts test kind schemas x out e name s t w

  moved : StatusMoves s.status t.status
  moved = status_moves schemas x out e name s t w

  to_it : IsTo schemas x out name s e t
  to_it = written_is_to schemas x out e name s t w

  -- as it begins nothing was deleted
  begun_clear : IsTrue (deletes_from s.status) → {d : Entry} {u : StackState} → IsTo schemas x out name s d u → u.status ≡ Status.DeleteInProgress → HasNoDeletion u
  begun_clear f (step stage at own may) now = absurd (at_rest s.status f stage at)
  begun_clear f (begins k from by) now = none_begun name (x.operation + 1) (x.place + 1) k s (numbers_low x name s w.fits w.apart w.was)
  begun_clear f (reviewed number source rows outputs from) now = absurd (never_reviews s.status f now)
  begun_clear f (opened epoch lanes) now = absurd (never_deletes s.status f now)
  begun_clear f other now = absurd (never_deletes s.status f now)

  -- each of its deletions is of one of the two at its path, and is the first of its resource
  gone_asks : s.status ≡ Status.DeleteInProgress → (stage : Stage) (path : List ℕ) (r : Request) → stage_of s.status ≡ Some stage → IntendsIn stage schemas name x s path r
      → (m : Held) × In m (resources_of s) × (r ≡ Request.Delete m.physical) × (path ≡ m.path) × (length (deletions_of m.physical s) ≡ 0)
  gone_asks was stage path r at may =
      deletes_one schemas name x s path r (subst (λ (g : Stage). IntendsIn g schemas name x s path r) (some_is stage Gone (sym at ∙ ap stage_of was)) may)

  module _ (path a b : List ℕ) (before : s.status ≡ Status.DeleteInProgress → number_of (deletes_third path a b) s ≡ 0)
      (all : (m : Held) → In m (resources_of s) → m.path ≡ path → (m.physical ≡ a) ⊎ (m.physical ≡ b)) where
    third_goes : s.status ≡ Status.DeleteInProgress → number_of (deletes_third path a b) t ≡ 0
    third_goes was = by (counts_of (deletes_third path a b) (is_third_kind path a b)) where
      one_of : (id : List ℕ) → (id ≡ a) ⊎ (id ≡ b) → (deletes a (Request.Delete id) || deletes b (Request.Delete id)) ≡ true
      one_of id (inl is) = ap (λ z. z || bytes_eq b id) ((bytes_eq-Decides a id).1 (sym is))
      one_of id (inr is) = ap (λ z. bytes_eq a id || z) ((bytes_eq-Decides b id).1 (sym is)) ∙ or_so (bytes_eq a id) where
        or_so : (z : Bool) → (z || true) ≡ true
        or_so true = refl
        or_so false = refl

      by : Counts schemas x out name s (deletes_third path a b) (number_of (deletes_third path a b) t) → number_of (deletes_third path a b) t ≡ 0
      by (as_before q) = q ∙ before was
      by (none_yet q) = q
      by (one_more stage token lane p r at may is q) =
          let m = gone_asks was stage p r at may.chosen in
          let here : m.0.path ≡ path = sym m.3 ∙ sym ((bytes_eq-Decides path p).0 (first_so (bytes_eq path p) _ is)) in
          absurd (true≢false (sym (ap (λ z. deletes a z || deletes b z) m.2 ∙ one_of m.0.physical (all m.0 m.1 here))
          ∙ not_so _ (second_so (is_deletion r) _ (second_so (bytes_eq path p) _ is))))

    third_now : t.status ≡ Status.DeleteInProgress → number_of (deletes_third path a b) t ≡ 0
    third_now now = elim (came_from s.status t.status moved now) [
      | inl was ↦ third_goes was
      | inr f ↦ none_deletes t (begun_clear f to_it now) (deletes_third path a b) (λ c d. first_so (is_deletion c.request) _ (second_so (bytes_eq path c.path) _ d))
    ]

  once_now : t.status ≡ Status.DeleteInProgress → (id : List ℕ) → length (deletions_of id t) ≤ 1
  once_now now id = elim (came_from s.status t.status moved now) [
    | inl was ↦ at_most schemas x out name s t (λ c. deletes id c.request) 1 (counts_of (λ c. deletes id c.request) (λ c d k. ap (deletes id) k.request))
        ((way.supported.few.two (ap deletes_or_failed was)).once was id) (λ stage token lane path r at may is.
        let m = gone_asks was stage path r at may.chosen in
        let its : id ≡ m.0.physical = (bytes_eq-Decides id m.0.physical).0 (ap (deletes id) (sym m.2) ∙ is) in
        let none : length (deletions_of id s) ≡ 0 = ap (λ z. length (deletions_of z s)) its ∙ m.4 in
        omega (arith, none))
    | inr f ↦
        let none = none_deletes t (begun_clear f to_it now) (λ c. deletes id c.request) (λ c d. deleting c.request d) in
        omega (arith, none)
  ] where
    deleting : (r : Request) → deletes id r ≡ true → is_deletion r ≡ true
    deleting (Request.Delete i) d = refl
    deleting (Request.Create kind props) d = absurd (true≢false (sym d))
    deleting (Request.Update i props) d = absurd (true≢false (sym d))

  module _ (now : deletes_or_failed t.status ≡ true) where
    from : AreFrom e s t
    from = are_from schemas x out name s w.fits now to_it

    opens : (p : Pending) → In p t.tokens → is_create p.request ≡ true → In p s.tokens
    opens = open_before x s w.fits schemas out name (never_forward s.status t.status moved now) to_it

    creates_here : (path : List ℕ) (p : Pending) → is_create p.request ≡ true → p.path ≡ path → is_create_at path p ≡ true
    creates_here path p c at = and_from (is_create p.request) _ c ((bytes_eq-Decides path p.path).1 (sym at))

    here_of : (path : List ℕ) (p : Pending) → is_create_at path p ≡ true → (is_create p.request ≡ true) × (p.path ≡ path)
    here_of path p e = (first_so (is_create p.request) _ e, sym ((bytes_eq-Decides path p.path).0 (second_so (is_create p.request) _ e)))

    module _ (path a b : List ℕ) (two : AreTwoAt s path a b) where
      -- they stay, where no create at the path succeeds
      stays_two : ((r : Held) → IsNewMade e s.tokens t.tokens r → r.path ≡ path → ⊥) → AreTwoAt t path a b
      stays_two none = record {
        resources = λ r i at. elim (from r i) [
          | inl q ↦ elim (two.resources q.0 q.1 (q.3 ∙ at)) [ inl k ↦ inl (sym q.2 ∙ k) | inr k ↦ inr (sym q.2 ∙ k) ]
          | inr n ↦ absurd (none r n at)
        ];
        creating = λ p i c at. two.creating p (opens p i c) c at;
        deleted = third_now path a b two.deleted two.resources;
      }

      -- one may be new, where the create at the path is open no more
      made_two : a ≡ b → list_any (is_create_at path) t.tokens ≡ false → AreTwoAt t path a (id_in e)
      made_two one none = record {
        resources = λ r i at. elim (from r i) [
          | inl q ↦ inl (sym q.2 ∙ the_one q.0 q.1 (q.3 ∙ at))
          | inr n ↦ inr n.physical
        ];
        creating = λ p i c at. absurd (true≢false (sym (any_of (is_create_at path) t.tokens p i (creates_here path p c at)) ∙ none));
        deleted = third_now path a (id_in e) (λ d. less (two.deleted d)) (λ m i at. inl (the_one m i at));
      } where
        the_one : (m : Held) → In m (resources_of s) → m.path ≡ path → m.physical ≡ a
        the_one m i at = elim (two.resources m i at) [ inl k ↦ k | inr k ↦ k ∙ sym one ]

        cover : (z d p q : Bool) → (z && (d && not (p || q))) ≡ true → ((z && (d && not (p || p))) || (false || (false || false))) ≡ true
        cover true true false false k = refl
        cover true true false true k = absurd (true≢false (sym k))
        cover true true true q k = absurd (true≢false (sym k))
        cover true false p q k = absurd (true≢false (sym k))
        cover false d p q k = absurd (true≢false (sym k))

        less : number_of (deletes_third path a b) s ≡ 0 → number_of (deletes_third path a (id_in e)) s ≡ 0
        less none_so =
            let same_so : number_of (deletes_third path a a) s ≡ 0 = subst (λ z. number_of (deletes_third path a z) s ≡ 0) (sym one) none_so in
            let all = covered (deletes_third path a (id_in e)) (deletes_third path a a) (λ c. false) (λ c. false) (λ c. false)
            (λ c. cover (bytes_eq path c.path) (is_deletion c.request) (deletes a c.request) (deletes (id_in e) c.request)) (own_calls s) in
            let never = none_pass_none (own_calls s) in
            omega (arith, all, same_so, never)

      two_by : (c d : Bool) → list_any (is_create_at path) s.tokens ≡ c → list_any (is_create_at path) t.tokens ≡ d → (f g : List ℕ) × AreTwoAt t path f g
      two_by false d before after = (
        a,
        b,
        stays_two (λ r n at. true≢false
            (sym (any_of (is_create_at path) s.tokens n.call n.of_tokens (creates_here path n.call n.creates (sym n.path ∙ at))) ∙ before)),
      )
      two_by true true before after =
          let p = some_of (is_create_at path) t.tokens after in
          (a, b, stays_two (λ r n at. n.closed p.one p.of_list ((here_of path p.one p.passes).1 ∙ sym at ∙ n.path)))
      two_by true false before after =
          let p = some_of (is_create_at path) s.tokens before in
          let k = here_of path p.one p.passes in
          (a, id_in e, made_two (two.creating p.one p.of_list k.0 k.1) after)

    two_now : HasTwoAPath t
    two_now = record {
      two = λ path.
          let k = two_before schemas name x s w.fits way.supported.few.two way.supported.few.unmakes s.status t.status moved now refl way.course.stage path in
          two_by path k.0 k.1 k.2 (list_any (is_create_at path) s.tokens) (list_any (is_create_at path) t.tokens) refl refl;
      once = once_now;
    }

pub deleting_stays_two : LeavesSo DeletesTwo
deleting_stays_two schemas x out e name s t w way = two_now schemas x out e name s t w way
