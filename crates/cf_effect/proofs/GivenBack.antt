-- What is kept of the rollback of an update follows what its stack hears.
use Rattle.std.proofs.Common.{◌≡◌, ◌⊎◌, inl, inr, ℕ, zero, suc, ◌+◌, ◌<◌, ◌≤◌, ◌==◌, ◌&&◌, ◌||◌, not, Bool, true, false, List, [], ◌∷◌, ◌++◌, Option, Some, None, IfSome, cond, flat_map, fold, get_or, length, map, replicate, set, take, refl, sym, ◌∙◌, ap, arith, subst, true≢false}
use Rattle.std.specs.List.{list_any, slice_get}
use Rattle.std.specs.Option.{option_and_then, option_map, option_map_or}
use Rattle.std.specs.Str.{bytes_eq}
use Rattle.std.proofs.Math.Seq.{take-suc}
use Rattle.std.proofs.lemmas.Bool.{and_parts, cases_lt}
use Rattle.std.proofs.lemmas.List.{get_or-set_other, get_or-set_same, length-set, take_all}
use Rattle.std.proofs.lemmas.Grind.{flat_map-append}
use Rattle.std.proofs.lemmas.List.Concat.{flat_map-cons}
use Rattle.std.proofs.lemmas.List.Folds.{list_any-append}
use Rattle.std.proofs.lemmas.Option.{none-some, same_Some, slice_get-get_or, slice_get-map, slice_get_within}
use Rattle.std.proofs.lemmas.Slice.Eq.{bytes_eq-Decides}
use Rattle.cf_tree.specs.Datum.{Data}
use Rattle.cf_tree.specs.Keys.{ascends, value_at}
use Rattle.cf_tree.specs.declared.code.Code.TheVariants as code
use Rattle.cf_tree.specs.declared.request.Request.{Request}
use Rattle.cf_tree.specs.declared.request.Request.TheVariants as request
use Rattle.cf_entry.specs.declared.entry.Entry.{Entry}
use Rattle.cf_entry.specs.declared.entry.Entry.TheVariants as entry
use Rattle.cf_entry.specs.declared.entry.Reply.{Reply}
use Rattle.cf_entry.specs.declared.entry.Reply.TheVariants as reply
use Rattle.cf_entry.specs.declared.status.Status.{Status}
use Rattle.cf_entry.specs.declared.status.Status.TheVariants as status
use Rattle.cf_ready.proofs.Ranked.{same_or_not}
use Rattle.cf_effect.specs.declared.call.Call.{Call}
use Rattle.cf_effect.specs.declared.held.Held.{Held}
use Rattle.cf_effect.specs.declared.held.HeldStatus.TheVariants as held
use Rattle.cf_effect.specs.declared.held.Pending.{Pending}
use Rattle.cf_effect.specs.declared.restoring.Restoring.{Restoring}
use Rattle.cf_effect.specs.Ahead.{called_heard}
use Rattle.cf_effect.specs.Calls.{answered_call, is_call, is_restore, new_call, succeeded, where_call}
use Rattle.cf_effect.specs.Fold.{effect_at}
use Rattle.cf_effect.specs.Heard.{is_success_outcome}
use Rattle.cf_effect.specs.Index.{is_path}
use Rattle.cf_effect.specs.Operation.{named_in}
use Rattle.cf_effect.specs.Reply.{answered, changing, closing, intending, made_of, replied, replying, status_made, terms_at, updating}
use Rattle.cf_effect.specs.Restoring.{AreAwaited, AreOwnPlaces, GivesBack, HasRank, HaveOwnIds, IsRestoreAt, IsRestoring, UpdatesAt, awaits_by, awaits_restore, held_ranked, id_of, is_change, is_changed_by, is_return, is_updated_by, may_change, path_of, with_passed, with_updated}
use Rattle.cf_effect.specs.Status.{goes_back, goes_forward}
use Rattle.cf_effect.specs.Words.{current_at, has_physical, has_token, is_update, pending_of, updates, where_physical, without}
use Rattle.cf_effect.specs.World.{StackState}
use Rattle.cf_effect.proofs.Answered.{calls_stay}
use Rattle.cf_effect.proofs.Followed.{same_for}
use Rattle.cf_effect.proofs.Places.{passes_at}
use Rattle.cf_effect.proofs.Sorted.{name_once, value_there}
use Rattle.cf_effect.proofs.Undone.{length_none, none_marked, or_false, or_further, or_true}

-- the flags of paths
pub record AreAwaitedTo (n : ℕ) (paths : List (List ℕ × ℕ)) (changed returned flags : List Bool) : Type 0 where
  pub count : length flags ≡ length paths
  pub so : (rank : ℕ) (p : List ℕ × ℕ) → rank < n → slice_get paths rank ≡ Some p → get_or flags rank false ≡ awaits_by changed returned p.1

pub flags_first : (paths : List (List ℕ × ℕ)) (changed returned flags : List Bool) → length flags ≡ length paths → AreAwaitedTo 0 paths changed returned flags
flags_first paths changed returned flags count = record { count = count; so = λ rank p less e. absurd (omega (arith, less)) }

pub flags_more : (paths : List (List ℕ × ℕ)) (changed returned old new : List Bool) (n : ℕ) (p : List ℕ × ℕ) (flag : Bool) → n < length paths → p ≡ get_or paths n p
    → flag ≡ awaits_by changed returned p.1 → new ≡ set old n flag → AreAwaitedTo n paths changed returned old → AreAwaitedTo (n + 1) paths changed returned new
flags_more paths changed returned old new n p flag within is told put before = record {
  count = ap length put ∙ length-set old n flag ∙ before.count;
  so = λ rank q less e. ap (λ fs. get_or fs rank false) put ∙ elim (same_or_not rank n) [
    | inl same ↦
        let same_item : q ≡ p = same_Some q p (sym e ∙ ap (slice_get paths) same ∙ slice_get-get_or paths n p within ∙ ap Some (sym is)) in
        let count = before.count in
        ap (λ k. get_or (set old n flag) k false) same ∙ get_or-set_same old n flag false (omega (arith, within, count)) ∙ told
        ∙ ap (λ (x : List ℕ × ℕ). awaits_by changed returned x.1) (sym same_item)
    | inr apart ↦ get_or-set_other old n rank flag false apart ∙ before.so rank q (below rank less apart) e
  ];
} where
  below : (rank : ℕ) → rank < n + 1 → (rank ≡ n → ⊥) → rank < n
  below rank less apart = elim (cases_lt rank n) [ inl under ↦ under | inr over ↦ absurd (apart (omega (arith, less, over))) ]

pub flags_all : (paths : List (List ℕ × ℕ)) (changed returned flags : List Bool) (n : ℕ) → length paths ≤ n → AreAwaitedTo n paths changed returned flags
    → AreAwaited paths changed returned flags
flags_all paths changed returned flags n over h rank p e = let within = slice_get_within paths rank p e in h.so rank p (omega (arith, within, over)) e

-- entries that name no paths
pub success_names_none : (e : Entry) → is_success_outcome e ≡ true → named_in e ≡ []
success_names_none (entry.Outcome n token answer b a) h = refl
success_names_none (entry.Begin number stack kind) h = absurd (true≢false (sym h))
success_names_none _ h = refl

pub none_joined : (es : List Entry) (e : Entry) → flat_map named_in es ≡ [] → named_in e ≡ [] → flat_map named_in (es ++ e ∷ []) ≡ []
none_joined es e before none =
    flat_map-append named_in es (e ∷ []) ∙ ap (λ ps. ps ++ flat_map named_in (e ∷ [])) before ∙ flat_map-cons named_in e [] ∙ ap (λ ps. ps ++ []) none

pub none_named_more : (es : List Entry) (i : ℕ) (e : Entry) → i < length es → e ≡ get_or es i e → named_in e ≡ [] → flat_map named_in (take i es) ≡ []
    → flat_map named_in (take (i + 1) es) ≡ []
none_named_more es i e within is none before =
    let next : suc i ≡ i + 1 = omega arith in
    let more : take (i + 1) es ≡ take i es ++ e ∷ [] = ap (λ k. take k es) (sym next) ∙ take-suc es i e within ∙ ap (λ (z : Entry). take i es ++ z ∷ []) (sym is) in
    ap (flat_map named_in) more ∙ none_joined (take i es) e before none

pub none_named_all : (es : List Entry) (i : ℕ) → length es ≤ i → flat_map named_in (take i es) ≡ [] → flat_map named_in es ≡ []
none_named_all es i over h = ap (flat_map named_in) (sym (take_all i es over)) ∙ h

-- names at their own places
module _ (names : List (Option (List ℕ))) (places : List (List ℕ × ℕ)) (own : AreOwnPlaces names places) where
  named_at : (name : List ℕ) (at : ℕ) → value_at name places ≡ Some at → slice_get names at ≡ Some (Some name)
  named_at name at h =
      let it = passes_at (is_path name) names at (sym (own.found name) ∙ h) in it.1 ∙ ap Some (by it.0 it.2) where
        by : (o : Option (List ℕ)) → is_path name o ≡ true → o ≡ Some name
        by None t = absurd (true≢false (sym t))
        by (Some other) t = ap Some (sym ((bytes_eq-Decides name other).0 t))

  pub place_at : (name : List ℕ) (at : ℕ) → slice_get names at ≡ Some (Some name) → value_at name places ≡ Some at
  place_at name at e = own.first at name (ap (option_and_then (λ (x : Option (List ℕ)). x)) e)

module _ {A : Type 0} (f : A → Option (List ℕ)) (xs : List A) where
  pub mapped_at : (at : ℕ) (x : A) → slice_get xs at ≡ Some x → slice_get (map f xs) at ≡ Some (f x)
  mapped_at at x e = slice_get-map f xs at ∙ ap (option_map f) e

ids_apart : (hs : List Held) (places : List (List ℕ × ℕ)) → AreOwnPlaces (map id_of hs) places → HaveOwnIds hs
ids_apart hs places own i j h g e k same =
    same_Some i j
    (sym (place_at (map id_of hs) places own h.physical i (mapped_at id_of hs i h e))
    ∙ ap (λ id. value_at id places) same
    ∙ place_at (map id_of hs) places own g.physical j (mapped_at id_of hs j g k))

-- what calls update is marked
module _ (test : Call → Bool) (ids : List (List ℕ × ℕ)) where
  abbrev IsOnly : ℕ → List ℕ → Type 0
  IsOnly at id = (value_at id ids ≡ Some at) × ((other : List ℕ) → value_at other ids ≡ Some at → other ≡ id)

  same_length : (marks : List Bool) (c : Call) → length (with_passed test ids marks c) ≡ length marks
  same_length marks c = by (test c) c.request where
    found : (o : Option ℕ) → length (option_map_or (λ k. set marks k true) o marks) ≡ length marks
    found None = refl
    found (Some k) = length-set marks k true

    by : (b : Bool) (r : Request) → length (cond b (with_updated ids marks r) marks) ≡ length marks
    by false r = refl
    by true (request.Create k props) = refl
    by true (request.Update id props) = found (value_at id ids)
    by true (request.Delete id) = refl

  one_marked : (marks : List Bool) (c : Call) (at : ℕ) (id : List ℕ) → IsOnly at id → at < length marks
      → get_or (with_passed test ids marks c) at false ≡ (get_or marks at false || (test c && updates id c.request))
  one_marked marks c at id only within = by (test c) c.request where
    as_was : get_or marks at false ≡ (get_or marks at false || false)
    as_was = sym (or_false (get_or marks at false))

    found : (other : List ℕ) (b : Bool) → bytes_eq id other ≡ b → (o : Option ℕ) → value_at other ids ≡ o
        → get_or (option_map_or (λ k. set marks k true) o marks) at false ≡ (get_or marks at false || b)
    found other true e None h = absurd (none-some at (sym h ∙ ap (λ n. value_at n ids) (sym ((bytes_eq-Decides id other).0 e)) ∙ only.0))
    found other true e (Some k) h =
        let here : k ≡ at = same_Some k at (sym h ∙ ap (λ n. value_at n ids) (sym ((bytes_eq-Decides id other).0 e)) ∙ only.0) in
        ap (λ j. get_or (set marks j true) at false) here ∙ get_or-set_same marks at true false within ∙ sym (or_true (get_or marks at false))
    found other false e None h = as_was
    found other false e (Some k) h =
        get_or-set_other marks k at true false
        (λ same. true≢false (sym ((bytes_eq-Decides id other).1 (sym (only.1 other (h ∙ ap (λ n. Some n) (sym same))))) ∙ e))
        ∙ as_was

    by : (b : Bool) (r : Request) → get_or (cond b (with_updated ids marks r) marks) at false ≡ (get_or marks at false || (b && updates id r))
    by false r = as_was
    by true (request.Create k props) = as_was
    by true (request.Delete other) = as_was
    by true (request.Update other props) = found other (bytes_eq id other) refl (value_at other ids) refl

  all_marked : (cs : List Call) (marks : List Bool) (at : ℕ) (id : List ℕ) → IsOnly at id → at < length marks
      → get_or (fold (with_passed test ids) marks cs) at false ≡ (get_or marks at false || is_updated_by test cs id)
  all_marked [] marks at id only within = sym (or_false (get_or marks at false))
  all_marked (c ∷ cs) marks at id only within =
      all_marked cs (with_passed test ids marks c) at id only (let n = same_length marks c in omega (arith, within, n))
      ∙ ap (λ b. b || is_updated_by test cs id) (one_marked marks c at id only within)
      ∙ or_further (get_or marks at false) (test c && updates id c.request) (is_updated_by test cs id)

-- what is kept at first
module _ (s : StackState) (ids : List (List ℕ × ℕ)) (count : ℕ) (many : count ≡ length s.before) (own_ids : AreOwnPlaces (map id_of s.before) ids) where
  marked : (test : Call → Bool) (marks : List Bool) → marks ≡ fold (with_passed test ids) (replicate count false) s.ledger → (at : ℕ) (h : Held) → slice_get s.before at ≡ Some h
      → get_or marks at false ≡ is_updated_by test s.ledger h.physical
  marked test marks is at h e =
      let within = slice_get_within s.before at h e in
      let zeros = length_none count in
      ap (λ ms. get_or ms at false) is ∙ all_marked test ids s.ledger (replicate count false) at h.physical only (omega (arith, within, zeros, many))
      ∙ ap (λ b. b || is_updated_by test s.ledger h.physical) (none_marked count at)
    where
      only : IsOnly test ids at h.physical
      only = (
        place_at (map id_of s.before) ids own_ids h.physical at (mapped_at id_of s.before at h e),
        λ other g.
            same_Some other h.physical
            (same_Some (Some other) (Some h.physical)
            (sym (named_at (map id_of s.before) ids own_ids other at g) ∙ mapped_at id_of s.before at h e)),
      )

pub restoring_made : (s : StackState) (before : List Held) (ids names : List (List ℕ × ℕ)) (r : Restoring) (number count : ℕ) (calls : List Call) (changed returned : List Bool)
    → ascends r.paths ≡ true → names ≡ r.paths → count ≡ length before → number ≡ s.operation → calls ≡ s.ledger
    → changed ≡ fold (with_passed is_change ids) (replicate count false) calls → returned ≡ fold (with_passed (is_return number) ids) (replicate count false) calls
    → length r.awaited ≡ length names → AreAwaited names changed returned r.awaited → GivesBack s → before ≡ s.before → AreOwnPlaces (map id_of before) ids
    → AreOwnPlaces (map path_of before) r.paths → IsRestoring s r
restoring_made s before ids names r number count calls changed returned order named many own ledger c d long flags gives was ids_before paths_before = record {
  gives = gives;
  order = order;
  paths = own_paths;
  ids = ids_apart s.before ids own_ids;
  count = long ∙ ap length named;
  flags = λ rank h e. by (slice_get r.paths rank) rank refl h e;
} where
  own_ids : AreOwnPlaces (map id_of s.before) ids
  own_ids = subst (λ (hs : List Held). AreOwnPlaces (map id_of hs) ids) was ids_before

  own_paths : AreOwnPlaces (map path_of s.before) r.paths
  own_paths = subst (λ (hs : List Held). AreOwnPlaces (map path_of hs) r.paths) was paths_before

  changed_so : changed ≡ fold (with_passed is_change ids) (replicate count false) s.ledger
  changed_so = c ∙ ap (fold (with_passed is_change ids) (replicate count false)) ledger

  returned_so : returned ≡ fold (with_passed (is_return s.operation) ids) (replicate count false) s.ledger
  returned_so =
      d ∙ ap (λ n. fold (with_passed (is_return n) ids) (replicate count false) calls) own
      ∙ ap (fold (with_passed (is_return s.operation) ids) (replicate count false)) ledger

  by : (o : Option (List ℕ × ℕ)) (rank : ℕ) → slice_get r.paths rank ≡ o → (h : Held) → option_and_then (λ p. slice_get s.before p.1) o ≡ Some h
      → get_or r.awaited rank false ≡ awaits_restore s h.physical
  by None rank g h e = absurd (none-some h e)
  by (Some p) rank g h e =
      flags rank p (ap (λ (ps : List (List ℕ × ℕ)). slice_get ps rank) named ∙ g)
      ∙ ap (λ b. b && not (get_or returned p.1 false)) (marked s ids count (many ∙ ap length was) own_ids is_change changed changed_so p.1 h e)
      ∙ ap (λ b. is_updated_by is_change s.ledger h.physical && not b) (marked s ids count (many ∙ ap length was) own_ids (is_return s.operation) returned returned_so p.1 h e)

-- resources of ranks
module _ (s : StackState) (r : Restoring) (k : IsRestoring s r) where
  pub ranked : (rank : ℕ) (h : Held) → held_ranked s.before r.paths rank ≡ Some h
      → (p : List ℕ × ℕ) × (slice_get r.paths rank ≡ Some p) × (slice_get s.before p.1 ≡ Some h)
  ranked rank h e = by (slice_get r.paths rank) refl e where
    by : (o : Option (List ℕ × ℕ)) → slice_get r.paths rank ≡ o → option_and_then (λ p. slice_get s.before p.1) o ≡ Some h
        → (p : List ℕ × ℕ) × (slice_get r.paths rank ≡ Some p) × (slice_get s.before p.1 ≡ Some h)
    by None g t = absurd (none-some h t)
    by (Some p) g t = (p, g, t)

  pub named : (rank : ℕ) (p : List ℕ × ℕ) → slice_get r.paths rank ≡ Some p → slice_get (map path_of s.before) p.1 ≡ Some (Some p.0)
  named rank p e = named_at (map path_of s.before) r.paths k.paths p.0 p.1 (value_there r.paths k.order rank p e)

  one_rank : (i j : ℕ) (h g : Held) → held_ranked s.before r.paths i ≡ Some h → held_ranked s.before r.paths j ≡ Some g → h.physical ≡ g.physical → i ≡ j
  one_rank i j h g e f same =
      let p = ranked i h e in
      let q = ranked j g f in
      let at : p.0.1 ≡ q.0.1 = k.ids p.0.1 q.0.1 h g p.2 q.2 same in
      let names : Some p.0.0 ≡ Some q.0.0 =
      same_Some (Some p.0.0) (Some q.0.0) (sym (named i p.0 p.1) ∙ ap (slice_get (map path_of s.before)) at ∙ named j q.0 q.1) in
      name_once r.paths k.order i j p.0 q.0 p.1 q.1 (same_Some p.0.0 q.0.0 names)

-- the operation calls to give a resource back what it had
and_none : (b : Bool) → (b && false) ≡ false
and_none true = refl
and_none false = refl

module _ (number : ℕ) (p : Pending) (s : StackState) (e : Entry) (lines : List (List ℕ)) (old : Restoring) (k : IsRestoring s old) (own : (number == s.operation) ≡ true)
    (fresh : list_any (has_token p.token) s.tokens ≡ false) (rank : ℕ) (to : UpdatesAt s.before old.paths p.request rank) where
  abbrev heard : StackState
  heard = called_heard number p e lines s

  abbrev row : Call
  row = new_call number s.status p

  went : intending number p s ≡ record s { tokens = s.tokens ++ p ∷ []; ledger = s.ledger ++ row ∷ [] }
  went = ap (λ b. cond b s (record s { tokens = s.tokens ++ p ∷ []; ledger = s.ledger ++ row ∷ [] })) fresh

  before_stays : heard.before ≡ s.before
  before_stays = same_for number p s (λ x. x.before) refl

  module _ (id : List ℕ) where
    abbrev changed : Bool
    changed = is_updated_by is_change s.ledger id

    abbrev returned : Bool
    returned = is_updated_by (is_return s.operation) s.ledger id

    no_change : (is_change row && updates id row.request) ≡ false
    no_change = ap (λ st. (goes_forward st && false) && updates id p.request) k.gives.back

    a_return : (is_return s.operation row && updates id row.request) ≡ bytes_eq id to.id
    a_return =
        ap (λ st. (goes_back st && (number == s.operation)) && updates id p.request) k.gives.back
        ∙ ap (λ b. b && updates id p.request) own ∙ ap (updates id) to.asked

    one_more : (test : Call → Bool) (b : Bool) → (test row && updates id row.request) ≡ b
        → is_updated_by test (s.ledger ++ row ∷ []) id ≡ (is_updated_by test s.ledger id || b)
    one_more test b is =
        list_any-append (λ c. test c && updates id c.request) s.ledger (row ∷ [])
        ∙ ap (λ c. is_updated_by test s.ledger id || c) (or_false (test row && updates id row.request) ∙ is)

    awaits_now : awaits_restore heard id ≡ (changed && not (returned || bytes_eq id to.id))
    awaits_now =
        ap (λ (y : StackState). is_updated_by is_change y.ledger id && not (is_updated_by (is_return y.operation) y.ledger id)) went
        ∙ ap (λ b. b && not (is_updated_by (is_return s.operation) (s.ledger ++ row ∷ []) id)) (one_more is_change false no_change ∙ or_false changed)
        ∙ ap (λ b. changed && not b) (one_more (is_return s.operation) (bytes_eq id to.id) a_return)

  flag_now : (j : ℕ) (h : Held) → held_ranked s.before old.paths j ≡ Some h → get_or (set old.awaited rank false) j false ≡ awaits_restore heard h.physical
  flag_now j h f = elim (same_or_not j rank) [
    | inl same ↦
        let held : h ≡ to.ranked.held = same_Some h to.ranked.held (sym f ∙ ap (held_ranked s.before old.paths) same ∙ to.ranked.ranked) in
        let is : bytes_eq h.physical to.id ≡ true = (bytes_eq-Decides h.physical to.id).1 (ap (λ (x : Held). x.physical) held ∙ to.ranked.physical) in
        ap (λ i. get_or (set old.awaited rank false) i false) same ∙ get_or-set_same old.awaited rank false false within
        ∙ sym (awaits_now h.physical ∙ ap (λ b. changed h.physical && not (returned h.physical || b)) is
        ∙ ap (λ b. changed h.physical && not b) (or_true (returned h.physical)) ∙ and_none (changed h.physical))
    | inr apart ↦
        get_or-set_other old.awaited rank j false false apart ∙ k.flags j h f
        ∙ sym (awaits_now h.physical ∙ ap (λ b. changed h.physical && not (returned h.physical || b)) (other apart (bytes_eq h.physical to.id) refl)
        ∙ ap (λ b. changed h.physical && not b) (or_false (returned h.physical)))
  ] where
    within : rank < length old.awaited
    within =
        let w = ranked s old k rank to.ranked.held to.ranked.ranked in
        let n = slice_get_within old.paths rank w.0 w.1 in
        let c = k.count in omega (arith, n, c)

    other : (j ≡ rank → ⊥) → (b : Bool) → bytes_eq h.physical to.id ≡ b → bytes_eq h.physical to.id ≡ false
    other apart false g = g
    other apart true g = absurd (apart (one_rank s old k j rank h to.ranked.held f to.ranked.ranked ((bytes_eq-Decides h.physical to.id).0 g ∙ sym to.ranked.physical)))

pub restore_noted : (number : ℕ) (p : Pending) (s : StackState) (e : Entry) (lines : List (List ℕ)) (old : Restoring) (rank : ℕ) (flags : List Bool) → IsRestoring s old
    → IsRestoreAt number p e s old rank → flags ≡ set old.awaited rank false → IsRestoring (called_heard number p e lines s) (record old { awaited = flags })
restore_noted number p s e lines old rank flags k at put =
    let parts = and_parts (number == s.operation) (not (list_any (has_token p.token) s.tokens)) at.own in
    let fresh = unset (list_any (has_token p.token) s.tokens) parts.1 in
    let stays = before_stays number p s e lines old k parts.0 fresh rank at.to in record {
      gives = record { back = same_for number p s (λ x. x.status) refl ∙ k.gives.back; skips = entries_stay };
      order = k.order;
      paths = subst (λ (hs : List Held). AreOwnPlaces (map path_of hs) old.paths) (sym stays) k.paths;
      ids = subst HaveOwnIds (sym stays) k.ids;
      count = ap length put ∙ length-set old.awaited rank false ∙ k.count;
      flags = λ j h f.
          ap (λ fs. get_or fs j false) put
          ∙ flag_now number p s e lines old k parts.0 fresh rank at.to j h (ap (λ hs. held_ranked hs old.paths j) (sym stays) ∙ f);
    }
  where
    entries_stay : flat_map named_in (s.entries ++ e ∷ []) ≡ []
    entries_stay = none_joined s.entries e k.gives.skips at.names

    unset : (b : Bool) → not b ≡ true → b ≡ false
    unset true e = absurd (true≢false (sym e))
    unset false e = refl

pub has_rank_so : (before : List Held) (paths : List (List ℕ × ℕ)) (id : List ℕ) (rank : ℕ) (h : Held) (so : Bool) → Some h ≡ held_ranked before paths rank
    → so ≡ bytes_eq h.physical id → so ≡ true → HasRank before paths id rank
has_rank_so before paths id rank h so there told t = record { held = h; ranked = sym there; physical = (bytes_eq-Decides h.physical id).0 (sym told ∙ t) }

pub updated_at : (before : List Held) (paths : List (List ℕ × ℕ)) (id : List ℕ) (props : List (List ℕ × Data)) (r : Request) (o : Option ℕ) → r ≡ request.Update id props
    → IfSome o (HasRank before paths id) → IfSome o (UpdatesAt before paths r)
updated_at before paths id props r None asked h = tt
updated_at before paths id props r (Some rank) asked h = record { id = id; props = props; asked = asked; ranked = h }

pub restore_so : (number : ℕ) (p : Pending) (e : Entry) (s : StackState) (r : Restoring) (before : List Held) (o : Option ℕ) (own : Bool)
    → own ≡ (number == s.operation && not (list_any (has_token p.token) s.tokens)) → own ≡ true → named_in e ≡ [] → before ≡ s.before
    → IfSome o (UpdatesAt before r.paths p.request) → IfSome o (IsRestoreAt number p e s r)
restore_so number p e s r before None own told so names was h = tt
restore_so number p e s r before (Some rank) own told so names was h =
    record { own = sym told ∙ so; names = names; to = subst (λ (hs : List Held). UpdatesAt hs r.paths p.request rank) was h }

-- an outcome of a call that went out in the rollback
not_forward : (st : Status) → goes_back st ≡ true → goes_forward st ≡ false
not_forward status.RollbackInProgress e = refl
not_forward status.UpdateRollbackInProgress e = refl
not_forward _ e = absurd (true≢false (sym e))

not_so : (b : Bool) → not b ≡ false → b ≡ true
not_so true e = refl
not_so false e = absurd (true≢false e)

module _ (id : List ℕ) (st : Status) (own x y : Bool) where
  same_change : (r : Request) → (is_update r && not (goes_back st && own)) ≡ false → ((goes_forward st && x) && updates id r) ≡ ((goes_forward st && y) && updates id r)
  same_change (request.Create kind props) e = and_none (goes_forward st && x) ∙ sym (and_none (goes_forward st && y))
  same_change (request.Delete other) e = and_none (goes_forward st && x) ∙ sym (and_none (goes_forward st && y))
  same_change (request.Update other props) e =
      let back = not_forward st (and_parts (goes_back st) own (not_so (goes_back st && own) e)).0 in
      ap (λ b. (b && x) && bytes_eq id other) back ∙ ap (λ b. (b && y) && bytes_eq id other) (sym back)

  same_return : (r : Request) → (is_update r && not (goes_back st && own)) ≡ false → ((goes_back st && (x || own)) && updates id r) ≡ ((goes_back st && (y || own)) && updates id r)
  same_return (request.Create kind props) e = and_none (goes_back st && (x || own)) ∙ sym (and_none (goes_back st && (y || own)))
  same_return (request.Delete other) e = and_none (goes_back st && (x || own)) ∙ sym (and_none (goes_back st && (y || own)))
  same_return (request.Update other props) e =
      let is = (and_parts (goes_back st) own (not_so (goes_back st && own) e)).1 in
      ap (λ b. (goes_back st && (x || b)) && bytes_eq id other) is ∙ ap (λ b. (goes_back st && b) && bytes_eq id other) (or_true x ∙ sym (or_true y))
      ∙ ap (λ b. (goes_back st && (y || b)) && bytes_eq id other) (sym is)

module _ (number token : ℕ) (id : List ℕ) where
  row_changed : (c : Call) (a : Reply) → may_change number c ≡ false → (is_change (answered_call a c) && updates id (answered_call a c).request) ≡ (is_change c && updates id c.request)
  row_changed c (reply.Success physical attrs) e = same_change id c.status (c.number == number) true (succeeded c) c.request e
  row_changed c (reply.Failed f) e = same_change id c.status (c.number == number) false (succeeded c) c.request e
  row_changed c reply.Doubt e = refl

  row_returned : (c : Call) (a : Reply) → may_change number c ≡ false
      → (is_return number (answered_call a c) && updates id (answered_call a c).request) ≡ (is_return number c && updates id c.request)
  row_returned c (reply.Success physical attrs) e = same_return id c.status (c.number == number) true (succeeded c) c.request e
  row_returned c (reply.Failed f) e = same_return id c.status (c.number == number) false (succeeded c) c.request e
  row_returned c reply.Doubt e = refl

  all_stay : (test : Call → Bool) (a : Reply)
      → ((c : Call) → may_change number c ≡ false → (test (answered_call a c) && updates id (answered_call a c).request) ≡ (test c && updates id c.request))
      → (cs : List Call) → list_any (is_changed_by number token) cs ≡ false → is_updated_by test (where_call token (answered_call a) cs) id ≡ is_updated_by test cs id
  all_stay test a one [] e = refl
  all_stay test a one (c ∷ cs) e = by (is_call token c) (may_change number c) refl e (all_stay test a one cs) where
    by : (b m : Bool) → may_change number c ≡ m → ((b && m) || list_any (is_changed_by number token) cs) ≡ false
        → (list_any (is_changed_by number token) cs ≡ false → is_updated_by test (where_call token (answered_call a) cs) id ≡ is_updated_by test cs id)
        → ((test (cond b (answered_call a c) c) && updates id (cond b (answered_call a c) c).request) || is_updated_by test (where_call token (answered_call a) cs) id)
        ≡ ((test c && updates id c.request) || is_updated_by test cs id)
    by false m g h rest = ap (λ b. (test c && updates id c.request) || b) (rest h)
    by true true g h rest = absurd (true≢false h)
    by true false g h rest = ap (λ b. b || is_updated_by test (where_call token (answered_call a) cs) id) (one c g) ∙ ap (λ b. (test c && updates id c.request) || b) (rest h)

-- what an answer changes of the resources of now leaves the rest
module _ {A : Type 0} (part : StackState → A) (apart : (t : StackState) (held made : List Held) → part (record t { held = held; made = made }) ≡ part t) where
  part_changing : (id : List ℕ) (change : Held → Held) (s : StackState) → part (changing id change s) ≡ part s
  part_changing id change s = by (list_any (has_physical id) s.held) where
    by : (b : Bool) → part (cond b (record s { held = where_physical id change s.held }) (record s { made = where_physical id change s.made })) ≡ part s
    by true = apart s (where_physical id change s.held) s.made
    by false = apart s s.held (where_physical id change s.made)

  part_answered : (b : Bool) (path : List ℕ) (r : Request) (a : Reply) (s : StackState) → part (answered b path r a s) ≡ part s
  part_answered b path (request.Create kind props) (reply.Success physical attrs) s =
      apart s s.held (s.made ++ made_of (terms_at path s) (status_made (current_at path s.held)) path kind props physical attrs ∷ [])
  part_answered b path (request.Create kind props) (reply.Failed c) s = refl
  part_answered b path (request.Create kind props) reply.Doubt s = refl
  part_answered b path (request.Update id props) (reply.Success physical attrs) s = part_changing id (updating props attrs) s
  part_answered true path (request.Update id props) (reply.Failed c) s = part_changing id (λ h. record h { status = held.UpdateFailed }) s
  part_answered false path (request.Update id props) (reply.Failed c) s = refl
  part_answered b path (request.Update id props) reply.Doubt s = refl
  part_answered b path (request.Delete id) (reply.Success physical attrs) s = apart s (without id s.held) (without id s.made)
  part_answered b path (request.Delete id) (reply.Failed code.NotFound) s = apart s (without id s.held) (without id s.made)
  part_answered b path (request.Delete id) (reply.Failed c) s = part_changing id (λ h. record h { status = held.DeleteFailed }) s
  part_answered b path (request.Delete id) reply.Doubt s = refl

module _ {A : Type 0} (part : StackState → A) (apart : (t : StackState) (held made : List Held) → part (record t { held = held; made = made }) ≡ part t)
    (closed : (token : ℕ) (a : Reply) (t : StackState) → part (closing token a t) ≡ part t) where
  part_replying : (token : ℕ) (a : Reply) (s : StackState) → part (replying token a s) ≡ part s
  part_replying token a s = by (pending_of token s) where
    by : (o : Option Pending) → part (replied token a o s) ≡ part s
    by None = refl
    by (Some p) =
        closed token a (answered (is_restore token s) p.path p.request a s) ∙ part_answered part apart (is_restore token s) p.path p.request a s

ledger_after : (token : ℕ) (a : Reply) (s : StackState) → (replying token a s).ledger ≡ option_map_or (λ (p : Pending). where_call token (answered_call a) s.ledger) (pending_of token s) s.ledger
ledger_after token a s = by (pending_of token s) where
  by : (o : Option Pending) → (replied token a o s).ledger ≡ option_map_or (λ (p : Pending). where_call token (answered_call a) s.ledger) o s.ledger
  by None = refl
  by (Some p) = ap (λ (t : StackState). where_call token (answered_call a) t.ledger) (calls_stay (is_restore token s) p.path p.request a s)

pub outcome_kept : (s : StackState) (x : Entry) (n token b e : ℕ) (a : Reply) (calls : List Call) (number : ℕ) (so : Bool) → x ≡ entry.Outcome n token a b e → number ≡ s.operation
    → calls ≡ s.ledger → so ≡ list_any (is_changed_by number token) calls → so ≡ false → (place : ℕ) (r : Restoring) → IsRestoring s r
    → IsRestoring (effect_at place x s).stack r
outcome_kept s x n token b e a calls number so is own ledger told none place r k = subst (λ (y : Entry). IsRestoring (effect_at place y s).stack r) (sym is) (record {
  gives = record {
    back = part_replying (λ t. t.status) (λ t held made. refl) (λ token a t. refl) token a s ∙ k.gives.back;
    skips = none_joined (replying token a s).entries (entry.Outcome n token a b e) (ap (flat_map named_in) entries ∙ k.gives.skips) refl;
  };
  order = k.order;
  paths = subst (λ (hs : List Held). AreOwnPlaces (map path_of hs) r.paths) (sym before) k.paths;
  ids = subst HaveOwnIds (sym before) k.ids;
  count = k.count;
  flags = λ rank h f. k.flags rank h (ap (λ hs. held_ranked hs r.paths rank) (sym before) ∙ f) ∙ sym (same h.physical);
}) where
  entries : (replying token a s).entries ≡ s.entries
  entries = part_replying (λ t. t.entries) (λ t held made. refl) (λ token a t. refl) token a s

  before : (replying token a s).before ≡ s.before
  before = part_replying (λ t. t.before) (λ t held made. refl) (λ token a t. refl) token a s

  operation : (replying token a s).operation ≡ s.operation
  operation = part_replying (λ t. t.operation) (λ t held made. refl) (λ token a t. refl) token a s

  unchanged : list_any (is_changed_by s.operation token) s.ledger ≡ false
  unchanged = ap (λ m. list_any (is_changed_by m token) s.ledger) (sym own) ∙ ap (list_any (is_changed_by number token)) (sym ledger) ∙ sym told ∙ none

  as_was : (test : Call → Bool) (id : List ℕ)
      → ((c : Call) → may_change s.operation c ≡ false → (test (answered_call a c) && updates id (answered_call a c).request) ≡ (test c && updates id c.request))
      → is_updated_by test (replying token a s).ledger id ≡ is_updated_by test s.ledger id
  as_was test id row = ap (λ cs. is_updated_by test cs id) (ledger_after token a s) ∙ by (pending_of token s) where
    by : (o : Option Pending)
        → is_updated_by test (option_map_or (λ (p : Pending). where_call token (answered_call a) s.ledger) o s.ledger) id ≡ is_updated_by test s.ledger id
    by None = refl
    by (Some p) = all_stay s.operation token id test a row s.ledger unchanged

  same : (id : List ℕ) → awaits_restore (replying token a s) id ≡ awaits_restore s id
  same id =
      ap (λ m. is_updated_by is_change (replying token a s).ledger id && not (is_updated_by (is_return m) (replying token a s).ledger id)) operation
      ∙ ap (λ c. c && not (is_updated_by (is_return s.operation) (replying token a s).ledger id)) (as_was is_change id (λ c. row_changed s.operation token id c a))
      ∙ ap (λ c. is_updated_by is_change s.ledger id && not c) (as_was (is_return s.operation) id (λ c. row_returned s.operation token id c a))

pub kept_some : (s after : StackState) (o : Option Restoring) → ((r : Restoring) → IsRestoring s r → IsRestoring after r) → IfSome o (IsRestoring s) → IfSome o (IsRestoring after)
kept_some s after None keeps k = tt
kept_some s after (Some r) keeps k = keeps r k
