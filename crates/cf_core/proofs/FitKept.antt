-- Each entry that may be written keeps the fit of every stack.
pub use Rattle.cf_plan.proofs.{BlameRows.into_mapped, ChangedLists.find_mapped, ChangedLists.find_left, Differ.one_id, Differ.one_number}
pub use Rattle.cf_core.proofs.{Stacks.put_by, Rows.IsSameCall, Rows.itself_same as same_call, Rows.answered_row_same as same_where}
use Rattle.std.proofs.Common.{◌≡◌, ℕ, ◌==◌, List, [], ◌∷◌, Bool, true, false, Some, map, filter, find, refl, sym, ap, ◌∙◌, true≢false, option_map, ◌++◌, not, subst, None, ◌+◌, ◌≤◌, Option, arith, ◌⊎◌, inl, inr, unwrap_or}
use Rattle.cf_core.proofs.Words.{AllFit, AreApart, AreSteady, BecomesBy, Begun, Call, Clean, Data, EachIsWritten, Entry, Fits, FitsKept, FitsLane, Forward, HasLanes, Held, HeldStatus, In, IntendsIn, IsKindFor, IsLaneFor, IsNamedLane, IsNew, IsOfItsLane, IsOfLane, IsRowOf, IsSteady, MayFollow, MayIntend, Pending, Phase, Reply, Request, Schema, StackState, Stage, Status, Thing, Why, World, all_differ, anew, answered, answered_call, at_opening, beginning, bytes_eq, change_first, changing, closing, current_at, deleting, effect_at, ended_effect, first_so, has_physical, has_token, heard, held_in, id_named, is_among, is_at, is_call, is_create_at, is_lane_of, is_on, is_open_call, is_opening, is_restore, keeping, keeping_known, keeping_unknown, known_stack, list_any, made_of, marked, new_call, no_stack, on_stack, option_map_or, other, own, pending_of, replied, resources_of, settled_in, skipped_in, stack_at, stack_for, stack_of_operation, status_made, still_open, stopping, terms_at, there, thing_of, turned_effect, turning, updating, value_at, where_call, whole_now, with_status, without, world_after}
use Rattle.cf_core.proofs.Lemmas.{append_assoc, any_of, append-nil, bytes_eq-Decides, bytes_or, differ_end, differ_less, either_way, eq-eqb, eqb-true, filter-append, find-append, found_in_more, found_one, found_still, in_back, in_filter, in_front, in_kept, in_more, keys_mapped, map-append, map_in, none_any, none_false, none_passes, not-true, or_left, or_right, other_bytes, put_else, put_here, some_is, some_of, token_after, value_under}
use Rattle.cf_core.proofs.{Rows.anew_same, Rows.answered_row, Outcomes.LeavesThing, Outcomes.marked_leaves, Outcomes.settled_leaves, Statuses.kept_way}
use Rattle.cf_core.proofs.Stacks.{Found, exports_by, known_for, left_of}
use Rattle.cf_core.proofs.Moving.{beginning_name, in_stage, numbered_so}
use Rattle.std.specs.{Bool.IsTrue, Prelude.cond, Prelude.is_some}

-- What names the resources of a stack, their paths, ids and types, and what is left of them.

pub record Key : Type 0 where
  pub path : List ℕ
  pub physical : List ℕ
  pub kind : List ℕ

abbrev pub key_of : Held → Key
key_of h = record { path = h.path; physical = h.physical; kind = h.kind }

abbrev pub keys_in : List Held → List Key
keys_in hs = map key_of hs

abbrev pub keys_of : StackState → List Key
keys_of s = keys_in (resources_of s)

abbrev pub has_other : List ℕ → Key → Bool
has_other id k = not (bytes_eq id k.physical)

-- they stay, or that of one id is gone
pub data Keyed (ks ls : List Key) : Type 0 where
  stay : ls ≡ ks → Keyed ks ls
  one_less : (id : List ℕ) → ls ≡ filter (has_other id) ks → Keyed ks ls

abbrev pub IsLeft : {ks ls : List Key} → Keyed ks ls → List ℕ → Type 0
IsLeft (stay e) i = Unit {0}
IsLeft (one_less id e) i = bytes_eq id i ≡ false

pub in_keyed : {ks ls : List Key} → Keyed ks ls → (k : Key) → In k ls → In k ks
in_keyed (stay e) k i = subst (In k) e i
in_keyed {ks} (one_less id e) k i = (in_filter (has_other id) ks k (subst (In k) e i)).0

pub still_keyed : {ks ls : List Key} (d : Keyed ks ls) (k : Key) → In k ks → IsLeft d k.physical → In k ls
still_keyed (stay e) k i l = subst (In k) (sym e) i
still_keyed {ks} (one_less id e) k i l = subst (In k) (sym e) (in_kept (has_other id) ks k i (ap not l))

ids_by : (hs : List Held) → map (λ (k : Key). k.physical) (keys_in hs) ≡ map (λ h. h.physical) hs
ids_by hs = keys_mapped key_of (λ (k : Key). k.physical) (λ h. h.physical) hs (λ h. refl)

pub differ_keyed : (hs gs : List Held) → Keyed (keys_in hs) (keys_in gs) → all_differ bytes_eq (map (λ h. h.physical) hs) ≡ true → all_differ bytes_eq (map (λ h. h.physical) gs) ≡ true
differ_keyed hs gs k d = grind (arith, ids_by, differ_less)

-- a change that keeps the keys
abbrev pub KeepsKey : (Held → Held) → Type 0
KeepsKey f = (h : Held) → key_of (f h) ≡ key_of h

pub keys_changed : (f : Held → Held) → KeepsKey f → (hs : List Held) → keys_in (map f hs) ≡ keys_in hs
keys_changed f k hs = keys_mapped f key_of key_of hs k

keys_first : (test : Held → Bool) (f : Held → Held) → KeepsKey f → (hs : List Held) → keys_in (change_first test f hs) ≡ keys_in hs
keys_first test f k [] = refl
keys_first test f k (h ∷ hs) = let e = keys_first test f k hs in let m = k h in grind arith

keys_two : (hs gs hs' gs' : List Held) → keys_in hs' ≡ keys_in hs → keys_in gs' ≡ keys_in gs → keys_in (hs' ++ gs') ≡ keys_in (hs ++ gs)
keys_two hs gs hs' gs' e f = map-append key_of hs' gs' ∙ ap (λ ks. ks ++ keys_in gs') e ∙ ap (λ ks. keys_in hs ++ ks) f ∙ sym (map-append key_of hs gs)

pub keys_each : (f : Held → Held) → KeepsKey f → (hs gs : List Held) → keys_in (map f hs ++ map f gs) ≡ keys_in (hs ++ gs)
keys_each f k hs gs = keys_two hs gs (map f hs) (map f gs) (keys_changed f k hs) (keys_changed f k gs)

pub keys_front : (f : Held → Held) → KeepsKey f → (hs gs : List Held) → keys_in (map f hs ++ gs) ≡ keys_in (hs ++ gs)
keys_front f k hs gs = keys_two hs gs (map f hs) gs (keys_changed f k hs) refl

pub keys_joined : (f : Held → Held) → KeepsKey f → (hs : List Held) → keys_in (map f hs ++ []) ≡ keys_in hs
keys_joined f k hs = ap keys_in (append-nil (map f hs)) ∙ keys_changed f k hs

-- one is taken off
keys_without : (id : List ℕ) (hs : List Held) → keys_in (without id hs) ≡ filter (has_other id) (keys_in hs)
keys_without id [] = refl
keys_without id (h ∷ hs) = let e = keys_without id hs in grind arith

pub keys_deleted : (id : List ℕ) (s : StackState) → keys_of (deleting id s) ≡ filter (has_other id) (keys_of s)
keys_deleted id s = ap keys_in (sym (filter-append (λ h. not (has_physical id h)) s.held s.made)) ∙ keys_without id (resources_of s)

-- What stays of the rows of a ledger: each open call keeps its row.

-- of these rows those are left, where these calls are open
pub record AreRowsLeft (ps : List Pending) (cs ds : List Call) : Type 0 where
  pub row :
      (p : Pending) → In p ps → (c : Call) → find (is_call p.token) cs ≡ Some c → c.answer ≡ None → (d : Call) × (find (is_call p.token) ds ≡ Some d)
      × IsSameCall c d × (d.answer ≡ None)
  pub tokens : all_differ ◌==◌ (map (λ c. c.token) cs) ≡ true → all_differ ◌==◌ (map (λ c. c.token) ds) ≡ true
  pub from : (d : Call) → In d ds → (c : Call) × In c cs × IsSameCall c d

pub rows_same : (ps : List Pending) (cs : List Call) → AreRowsLeft ps cs cs
rows_same ps cs = record { row = λ p i c e n. (c, e, same_call c, n); tokens = λ d. d; from = λ d i. (d, i, same_call d) }

pub rows_then : (ps : List Pending) (cs ds es : List Call) → AreRowsLeft ps cs ds → AreRowsLeft ps ds es → AreRowsLeft ps cs es
rows_then ps cs ds es h k = grind arith

-- rows that change one by one
pub rows_mapped :
    (ps : List Pending) (f : Call → Call) → ((c : Call) → IsSameCall c (f c)) → ((p : Pending) (c : Call) → In p ps → p.token ≡ c.token → c.answer ≡ None → (f c).answer ≡ None)
    → (cs : List Call) → AreRowsLeft ps cs (map f cs)
rows_mapped ps f same open_ cs = record {
  row = λ p i c e n. (
    f c,
    find_mapped (is_call p.token) f cs (λ d. ap (λ t. p.token == t) (same d).token) ∙ ap (option_map f) e,
    same c,
    open_ p c i (eqb-true p.token c.token (found_one (is_call p.token) cs c e).1) n,
  );
  tokens = λ d. ap (all_differ ◌==◌) (keys_mapped f (λ c. c.token) (λ c. c.token) cs (λ c. (same c).token)) ∙ d;
  from = λ d i.
      let (c, j, e) = map_in f d cs i in
      (c, j, subst (IsSameCall c) e (same c));
}

pub rows_anew : (ps : List Pending) (cs : List Call) → AreRowsLeft ps cs (map anew cs)
rows_anew ps cs = rows_mapped ps anew anew_same (λ p c i e n. n) cs

-- those of the open calls alone
pub rows_open : (ps : List Pending) (cs : List Call) → AreRowsLeft ps cs (filter (is_open_call ps) cs)
rows_open ps cs = record {
  row = λ p i c e n.
      let t = eqb-true p.token c.token (found_one (is_call p.token) cs c e).1 in
      (c, find_left (is_call p.token) (is_open_call ps) cs c e (any_of (has_token c.token) ps p i (eq-eqb c.token p.token (sym t))), same_call c, n);
  tokens = λ d. differ_less ◌==◌ (λ c. c.token) (is_open_call ps) cs d;
  from = λ d i. (d, (in_filter (is_open_call ps) cs d i).0, same_call d);
}

open_yet : (token : ℕ) (a : Reply) (ps : List Pending) (p : Pending) (c : Call) → In p (still_open token a ps) → p.token ≡ c.token
    → c.answer ≡ None → (answered_row token a c).answer ≡ None
open_yet token a ps p c i e n = grind (arith, eqb-true, not-true, in_filter, eq-eqb)

pub rows_answered : (token : ℕ) (a : Reply) (ps : List Pending) (cs : List Call) → AreRowsLeft (still_open token a ps) cs (where_call token (answered_call a) cs)
rows_answered token a ps cs = rows_mapped (still_open token a ps) (answered_row token a) (same_where token a) (open_yet token a ps) cs

-- A stack fits after a change that leaves of its calls and resources what it does.

-- no call is new, and no resource
pub record IsLess (s t : StackState) : Type 0 where
  pub keyed : Keyed (keys_of s) (keys_of t)
  pub left : (p : Pending) (i : List ℕ) → In p t.tokens → id_named p.request ≡ Some i → IsLeft keyed i
  pub open_ : (p : Pending) → In p t.tokens → In p s.tokens
  pub tokens : all_differ ◌==◌ (map (λ p. p.token) s.tokens) ≡ true → all_differ ◌==◌ (map (λ p. p.token) t.tokens) ≡ true
  pub rows : AreRowsLeft t.tokens s.ledger t.ledger
  pub operation : s.operation ≤ t.operation

-- a resource of a stack is one of another, where the keys are
pub with_key : (s : StackState) (k : Key) → In k (keys_of s) → (r : Held) × In r (resources_of s) × (key_of r ≡ k)
with_key s k i = map_in key_of k (resources_of s) i

module _ (x y : World) (s t : StackState) (h : Fits x s) where
  pub fits_less : IsLess s t → HasLanes y.lanes s → x.token ≤ y.token → Fits y t
  fits_less d lanes more = record {
    ids = differ_keyed (resources_of s) (resources_of t) d.keyed h.ids;
    tokens = d.tokens h.tokens;
    paths = λ p q i j e. h.paths p q (d.open_ p i) (d.open_ q j) e;
    named = λ p id i e.
        let (r, j, f, g) = h.named p id (d.open_ p i) e in
        let (q, k, m) = with_key t (key_of r) (still_keyed d.keyed (key_of r) (into_mapped key_of (resources_of s) r j) (subst (IsLeft d.keyed) (sym f) (d.left p id i e))) in
        (q, k, ap (λ (z : Key). z.physical) m ∙ f, ap (λ (z : Key). z.path) m ∙ g);
    rows = λ p i.
        let (c, e, r) = h.rows p (d.open_ p i) in
        let (b, f, m, n) = (d.rows).row p i c e r.unanswered in
        (b, f, record { lane = m.lane ∙ r.lane; path = m.path ∙ r.path; request = m.request ∙ r.request; unanswered = n });
    row_tokens = (d.rows).tokens h.row_tokens;
    last = grind arith;
    numbers = grind arith;
    lanes = (
      λ r i.
          let (q, j, e) = with_key s (key_of r) (in_keyed d.keyed (key_of r) (into_mapped key_of (resources_of t) r i)) in
          (subst (λ (k : Key). IsNamedLane y.lanes k.physical k.kind) e (lanes.0 q j)),
      λ p i. lanes.1 p (d.open_ p i),
    );
  }

  -- one resource more, of a new id
  pub fits_made :
      (r : Held) → resources_of t ≡ resources_of s ++ r ∷ [] → ((q : Held) → In q (resources_of s) → q.physical ≡ r.physical → ⊥) → IsNamedLane x.lanes r.physical r.kind
      → t.tokens ≡ s.tokens → t.ledger ≡ s.ledger → t.operation ≡ s.operation → Fits x t
  fits_made r made new lane tokens ledger operation = record {
    ids = grind (arith, differ_end, none_false, bytes_eq-Decides);
    tokens = ap (λ ps. all_differ ◌==◌ (map (λ (p : Pending). p.token) ps)) tokens ∙ h.tokens;
    paths = λ p q i j. h.paths p q (subst (In p) tokens i) (subst (In q) tokens j);
    named = λ p id i e.
        let (q, j, f, g) = h.named p id (subst (In p) tokens i) e in
        (q, subst (In q) (sym made) (in_front q (resources_of s) (r ∷ []) j), f, g);
    rows = λ p i.
        let (c, e, f) = h.rows p (subst (In p) tokens i) in
        (c, ap (find (is_call p.token)) ledger ∙ e, f);
    row_tokens = ap (λ cs. all_differ ◌==◌ (map (λ (c : Call). c.token) cs)) ledger ∙ h.row_tokens;
    last = λ c i. h.last c (subst (In c) ledger i);
    numbers = λ c i. subst (λ n. c.number ≤ n) (sym operation) (h.numbers c (subst (In c) ledger i));
    lanes = (
      λ q i. in_more (λ (z : Held). IsNamedLane x.lanes z.physical z.kind) r (resources_of s) (λ z j. (h.lanes).0 z j) lane q (subst (In q) made i),
      λ p i. (h.lanes).1 p (subst (In p) tokens i),
    );
  }

  -- no call has a token above the last
  none_above : (t : ℕ) → t ≡ x.token + 1 → (c : Call) → In c s.ledger → t ≡ c.token → ⊥
  none_above t new c i e = let low : c.token ≤ x.token = h.last c i in omega (arith, low, new, e)

  pub none_open : (t : ℕ) → t ≡ x.token + 1 → (p : Pending) → In p s.tokens → t ≡ p.token → ⊥
  none_open t new p i e =
      let (c, f, m) = h.rows p i in
      let (j, k) = found_one (is_call p.token) s.ledger c f in
      none_above t new c j (e ∙ eqb-true p.token c.token k)

  -- one call more, of the next token
  module _ (number : ℕ) (state : Status) (p : Pending) (new : p.token ≡ x.token + 1) (tokens : t.tokens ≡ s.tokens ++ p ∷ []) (ledger : t.ledger ≡ s.ledger ++ new_call number state p ∷ []) where
    found_new : find (is_call p.token) (s.ledger ++ new_call number state p ∷ []) ≡ Some (new_call number state p)
    found_new = found_in_more (is_call p.token) s.ledger (new_call number state p) (eq-eqb p.token p.token refl) (none (find (is_call p.token) s.ledger) refl) where
      none : (o : Option Call) → find (is_call p.token) s.ledger ≡ o → o ≡ None
      none None e = refl
      none (Some c) e = let (i, k) = found_one (is_call p.token) s.ledger c e in absurd (none_above p.token new c i (eqb-true p.token c.token k))

    abbrev HasRow : Pending → Type 0
    HasRow q = (c : Call) × (find (is_call q.token) (s.ledger ++ new_call number state p ∷ []) ≡ Some c) × IsRowOf q c

    abbrev HasNamed : Pending → Type 0
    HasNamed q = (id : List ℕ) → id_named q.request ≡ Some id → (r : Held) × In r (resources_of s) × (r.physical ≡ id) × (r.path ≡ q.path)

    pub fits_called :
        resources_of t ≡ resources_of s → t.operation ≡ s.operation → number ≤ s.operation → y.lanes ≡ x.lanes → y.token ≡ p.token
        → ((q : Pending) → In q s.tokens → p.path ≡ q.path → ⊥) → HasNamed p → (l : List ℕ × List ℕ) → In l x.lanes → IsLaneFor p l → Fits y t
    fits_called same operation low lanes token free names l l_in l_for = record {
      ids = ap (λ hs. all_differ bytes_eq (map (λ (g : Held). g.physical) hs)) same ∙ h.ids;
      tokens = grind (arith, differ_end, none_false, none_open, eqb-true);
      paths = λ q r i j e. paths_more q r (subst (In q) tokens i) (subst (In r) tokens j) e;
      named = λ q id i e.
          let (r, j, f, g) = in_more HasNamed p s.tokens (λ z k id e. h.named z id k e) names q (subst (In q) tokens i) id e in
          (r, subst (In r) (sym same) j, f, g);
      rows = λ q i.
          let (c, e, f) = in_more HasRow p s.tokens row_still (new_call number state p, found_new, record { lane = refl; path = refl; request = refl; unanswered = refl }) q (subst (In q) tokens i) in
          (c, ap (find (is_call q.token)) ledger ∙ e, f);
      row_tokens = grind (arith, differ_end, none_false, none_above, eqb-true);
      last = λ c i. subst (λ n. c.token ≤ n) (sym token) (in_more (λ (z : Call). z.token ≤ p.token) (new_call number state p) s.ledger
          (λ z j. let lower : z.token ≤ x.token = h.last z j in omega (arith, lower, new)) (omega arith) c (subst (In c) ledger i));
      numbers = λ c i. subst (λ n. c.number ≤ n) (sym operation) (in_more (λ (z : Call). z.number ≤ s.operation) (new_call number state p) s.ledger h.numbers low c (subst (In c) ledger i));
      lanes = (
        λ r i. subst (λ ls. IsNamedLane ls r.physical r.kind) (sym lanes) ((h.lanes).0 r (subst (In r) same i)),
        λ q i. subst (λ ls. (m : List ℕ × List ℕ) × In m ls × IsLaneFor q m) (sym lanes)
            (in_more (λ (z : Pending). (m : List ℕ × List ℕ) × In m x.lanes × IsLaneFor z m) p s.tokens (h.lanes).1 (l, l_in, l_for) q (subst (In q) tokens i)),
      );
    } where
      row_still : (q : Pending) → In q s.tokens → HasRow q
      row_still q i = let (c, e, f) = h.rows q i in (c, found_still (is_call q.token) s.ledger (new_call number state p ∷ []) c e, f)

      paths_more : (q r : Pending) → In q (s.tokens ++ p ∷ []) → In r (s.tokens ++ p ∷ []) → q.path ≡ r.path → q ≡ r
      paths_more q r i j e =
          in_more (λ (z : Pending). z.path ≡ r.path → z ≡ r) p s.tokens
          (λ z k f. in_more (λ (w : Pending). z.path ≡ w.path → z ≡ w) p s.tokens (λ w m. h.paths z w k m) (λ g. absurd (free z k (sym g))) r j f)
          (λ f. in_more (λ (w : Pending). p.path ≡ w.path → p ≡ w) p s.tokens (λ w m g. absurd (free w m g)) (λ g. refl) r j f)
          q i e

-- What each entry leaves of its stack's calls and resources.

pub same_number : (n : ℕ) → n ≤ n
same_number n = omega arith

-- the stack hears of an entry
pub less_heard : (s u : StackState) (es : List Entry) (lines : List (List ℕ)) → IsLess s u → IsLess s (record u { entries = es; events = lines })
less_heard s u es lines h = record { keyed = h.keyed; left = h.left; open_ = h.open_; tokens = h.tokens; rows = h.rows; operation = h.operation }

-- calls and resources stay, and so do rows or they count anew
module _ (s t : StackState) where
  pub less_stay : keys_of t ≡ keys_of s → t.tokens ≡ s.tokens → AreRowsLeft s.tokens s.ledger t.ledger → s.operation ≤ t.operation → IsLess s t
  less_stay keys tokens rows op = record {
    keyed = stay keys;
    left = λ p i j e. tt;
    open_ = λ p i. subst (In p) tokens i;
    tokens = λ d. ap (λ ps. all_differ ◌==◌ (map (λ (p : Pending). p.token) ps)) tokens ∙ d;
    rows = subst (λ ps. AreRowsLeft ps s.ledger t.ledger) (sym tokens) rows;
    operation = op;
  }

  -- some calls are given up
  pub less_open : (test : Pending → Bool) (k : Keyed (keys_of s) (keys_of t)) → ((p : Pending) (i : List ℕ) → test p ≡ true → id_named p.request ≡ Some i → IsLeft k i)
      → t.tokens ≡ filter test s.tokens → AreRowsLeft t.tokens s.ledger t.ledger → s.operation ≤ t.operation → IsLess s t
  less_open test k left tokens rows op = record {
    keyed = k;
    left = λ p i j e. left p i (in_filter test s.tokens p (subst (In p) tokens j)).1 e;
    open_ = λ p i. (in_filter test s.tokens p (subst (In p) tokens i)).0;
    tokens = λ d. ap (λ ps. all_differ ◌==◌ (map (λ (p : Pending). p.token) ps)) tokens ∙ differ_less ◌==◌ (λ (p : Pending). p.token) test s.tokens d;
    rows = rows;
    operation = op;
  }

pub less_self : (s : StackState) → IsLess s s
less_self s = less_stay s s refl refl (rows_same s.tokens s.ledger) (same_number s.operation)

-- a change of what is held at skipped paths
pub keeps_skipped : (paths : List (List ℕ)) (before : List Held) → KeepsKey (skipped_in paths before)
keeps_skipped paths before h = grind arith

-- an operation begins: a creation or an update where nothing is made
abbrev pub HasNoneMade : Begun → StackState → Type 0
HasNoneMade (Begun.Delete paths) s = Unit {0}
HasNoneMade (Begun.Continue paths) s = Unit {0}
HasNoneMade _ s = s.made ≡ []

rows_begun : (s : StackState) → AreRowsLeft s.tokens s.ledger (map anew (filter (is_open_call s.tokens) s.ledger))
rows_begun s = rows_then s.tokens s.ledger (filter (is_open_call s.tokens) s.ledger) (map anew (filter (is_open_call s.tokens) s.ledger)) (rows_open s.tokens s.ledger) (rows_anew s.tokens (filter (is_open_call s.tokens) s.ledger))

pub less_begun : (name : List ℕ) (number : ℕ) (k : Begun) (s : StackState) → s.operation ≤ number → HasNoneMade k s → IsLess s (beginning name number k s)
less_begun name number (Begun.Delete paths) s up none = less_stay s (beginning name number (Begun.Delete paths) s) refl refl (rows_begun s) up
less_begun name number (Begun.Continue paths) s up none =
    less_open s (beginning name number (Begun.Continue paths) s) (λ p. not (is_among p.path paths))
    (stay (keys_front (skipped_in paths s.before) (keeps_skipped paths s.before) s.held s.made)) (λ p i t e. tt) refl
    (rows_anew (filter (λ (p : Pending). not (is_among p.path paths)) s.tokens) s.ledger) up
less_begun name number any s up none =
    less_stay s (beginning name number any s) (ap (λ ms. keys_in (s.held ++ ms)) (sym none)) refl (rows_begun s) up

-- a resource is kept, or the open create of a path is given up
is_on_other : (id : List ℕ) (p : Pending) (i : List ℕ) → not (is_on id p) ≡ true → id_named p.request ≡ Some i → bytes_eq id i ≡ false
is_on_other id p i t e = sym (ap (λ o. option_map_or (bytes_eq id) o false) e) ∙ not-true (is_on id p) t

pub less_kept : (path id : List ℕ) (w : Why) (s : StackState) → IsLess s (keeping path id w s)
less_kept path id w s =
    kept_way (IsLess s) s (less_self s) path id w
    (less_open s (keeping_unknown path w s) (λ p. not (is_create_at path p)) (stay refl) (λ p i t e. tt) refl
    (rows_same (filter (λ (p : Pending). not (is_create_at path p)) s.tokens) s.ledger) (same_number s.operation))
    (less_open s (keeping_known path id w s) (λ p. not (is_on id p)) (one_less id (keys_deleted id s)) (λ p i t e. is_on_other id p i t e) refl
    (rows_same (filter (λ (p : Pending). not (is_on id p)) s.tokens) s.ledger) (same_number s.operation))

-- a later phase
-- what leaves a resource's id and what is told of it keeps its key
abbrev keyed : List ℕ → Thing → Key
keyed i t = record { path = t.path; physical = i; kind = t.kind }

keeps_thing : (f : Held → Held) → LeavesThing f → KeepsKey f
keeps_thing f l h = ap (keyed (f h).physical) (l.thing [] h) ∙ ap (λ i. keyed i (thing_of [] h)) (l.physical h)

pub less_turned : (p : Phase) (s : StackState) → IsLess s (turned_effect p s).stack
less_turned Phase.Clean s =
    less_stay s (turned_effect Phase.Clean s).stack (keys_joined (settled_in (whole_now s) (turning Phase.Clean s)) (keeps_thing (settled_in (whole_now s) (turning Phase.Clean s)) (settled_leaves (whole_now s) (turning Phase.Clean s))) (resources_of s)) refl (rows_anew s.tokens s.ledger) (same_number s.operation)
less_turned any s = less_stay s (turned_effect any s).stack refl refl (rows_anew s.tokens s.ledger) (same_number s.operation)

-- an end
keys_stopped : (state : Status) (s : StackState) → keys_of (stopping state s) ≡ keys_of s
keys_stopped state s = keys_each (marked s.tokens) (keeps_thing (marked s.tokens) (marked_leaves s.tokens)) s.held s.made

pub less_ended : (state : Status) (s : StackState) → IsLess s (ended_effect state s).stack
less_ended Status.CreateComplete s =
    let u = stopping Status.CreateComplete s in
    less_stay s (ended_effect Status.CreateComplete s).stack (keys_joined (settled_in (whole_now u) u) (keeps_thing (settled_in (whole_now u) u) (settled_leaves (whole_now u) u)) (resources_of u) ∙ keys_stopped Status.CreateComplete s) refl (rows_same s.tokens s.ledger) (same_number s.operation)
less_ended Status.RollbackFailed s =
    less_stay s (ended_effect Status.RollbackFailed s).stack (ap keys_in (append-nil (resources_of (stopping Status.RollbackFailed s))) ∙ keys_stopped Status.RollbackFailed s) refl (rows_same s.tokens s.ledger) (same_number s.operation)
less_ended state s = less_stay s (ended_effect state s).stack (keys_stopped state s) refl (rows_same s.tokens s.ledger) (same_number s.operation)

-- A stack fits after the answer to one of its open calls.

-- the calls stay
pub record IsSameBut (s u : StackState) : Type 0 where
  pub tokens : u.tokens ≡ s.tokens
  pub ledger : u.ledger ≡ s.ledger
  pub operation : u.operation ≡ s.operation

same_self : (s : StackState) → IsSameBut s s
same_self s = record { tokens = refl; ledger = refl; operation = refl }

-- What an answer leaves of the resources: they stay, or that which was to be deleted is gone, or one more is made.
pub data IsLeftBy (s : StackState) (path : List ℕ) : Request → Reply → StackState → Type 0 where
  same : {r : Request} {a : Reply} {u : StackState} → IsSameBut s u → keys_of u ≡ keys_of s → IsLeftBy s path r a u
  gone : {r : Request} {a : Reply} {u : StackState} (id : List ℕ) → IsSameBut s u → id_named r ≡ Some id → (a ≡ Reply.Doubt → ⊥) → keys_of u ≡ filter (has_other id) (keys_of s) → IsLeftBy s path r a u
  made : {u : StackState} (k id : List ℕ) (props attrs : List (List ℕ × Data)) (h : Held) → IsSameBut s u → resources_of u ≡ resources_of s ++ h ∷ [] → h.physical ≡ id → h.kind ≡ k
      → IsLeftBy s path (Request.Create k props) (Reply.Success id attrs) u

by_change : (s : StackState) (path : List ℕ) (r : Request) (a : Reply) (id : List ℕ) (f : Held → Held) → ((h : Held) → key_of (f h) ≡ key_of h) → IsLeftBy s path r a (changing id f s)
by_change s path r a id f k = same (grind arith) (grind (arith, either_way, keys_two, keys_first))

by_deletion : (s : StackState) (path : List ℕ) (a : Reply) (id : List ℕ) → (a ≡ Reply.Doubt → ⊥) → IsLeftBy s path (Request.Delete id) a (deleting id s)
by_deletion s path a id n = gone id (record { tokens = refl; ledger = refl; operation = refl }) refl n (keys_deleted id s)

pub left_by : (restores : Bool) (path : List ℕ) (r : Request) (a : Reply) (s : StackState) → IsLeftBy s path r a (answered restores path r a s)
left_by restores path (Request.Create k props) (Reply.Success id attrs) s =
    made k id props attrs (made_of (terms_at path s) (status_made (current_at path s.held)) path k props id attrs) (record { tokens = refl; ledger = refl; operation = refl })
    (sym (append_assoc s.held s.made (made_of (terms_at path s) (status_made (current_at path s.held)) path k props id attrs ∷ []))) refl refl
left_by restores path (Request.Update id props) (Reply.Success physical attrs) s = by_change s path (Request.Update id props) (Reply.Success physical attrs) id (updating props attrs) (λ h. refl)
left_by restores path (Request.Update id props) (Reply.Failed c) s =
    either_way (IsLeftBy s path (Request.Update id props) (Reply.Failed c)) restores (with_status id HeldStatus.UpdateFailed s) s
    (by_change s path (Request.Update id props) (Reply.Failed c) id (λ h. record h { status = HeldStatus.UpdateFailed }) (λ h. refl)) (same (same_self s) refl)
left_by restores path (Request.Delete id) (Reply.Success physical attrs) s = by_deletion s path (Reply.Success physical attrs) id (λ e. let no : ⊥ = cc in no)
left_by restores path (Request.Delete id) (Reply.Failed c) s = grind (arith, by_deletion, by_change)
left_by restores path r a s = same (same_self s) refl

module _ (x y : World) (s : StackState) (h : Fits x s) (token : ℕ) (q : Pending) (found : pending_of token s ≡ Some q) (lanes : y.lanes ≡ x.lanes) (last : y.token ≡ x.token) where
  -- no other open call names the id that this one names
  not_named : (a : Reply) (id : List ℕ) → id_named q.request ≡ Some id → (a ≡ Reply.Doubt → ⊥) → (p : Pending) (i : List ℕ) → In p (still_open token a s.tokens) → id_named p.request ≡ Some i → bytes_eq id i ≡ false
  not_named a id e n p i j f = none_false (bytes_eq id i) (λ t.
      let (k, m) = found_one (has_token token) s.tokens q found in
      let (r, r_in, r_id, r_path) = h.named q id k e in
      let (g, g_in, g_id, g_path) = h.named p i (grind (arith, in_filter)) f in
      let one : r ≡ g = one_id (λ (z : Held). z.physical) (resources_of s) h.ids r g r_in g_in (r_id ∙ (bytes_eq-Decides id i).0 t ∙ sym g_id) in
      let call : q ≡ p = h.paths q p k (grind (arith, in_filter)) (sym r_path ∙ ap (λ (z : Held). z.path) one ∙ g_path) in
      (grind (arith, not-true, in_filter, eq-eqb)))

  -- the calls of what is left
  less_closed : (a : Reply) (u : StackState) → IsSameBut s u → (k : Keyed (keys_of s) (keys_of u)) → ((p : Pending) (i : List ℕ) → In p (still_open token a s.tokens) → id_named p.request ≡ Some i → IsLeft k i) → IsLess s (closing token a u)
  less_closed a u b k left = record {
    keyed = k;
    left = λ p i j. left p i (subst (λ ps. In p (still_open token a ps)) b.tokens j);
    open_ = λ p i. grind (arith, in_filter);
    tokens = λ d. ap (λ ps. all_differ ◌==◌ (map (λ (p : Pending). p.token) (still_open token a ps))) b.tokens ∙ (grind (arith, differ_less));
    rows = grind (arith, rows_answered);
    operation = let same : u.operation ≡ s.operation = b.operation in omega (arith, same);
  }

  last_kept : x.token ≤ y.token
  last_kept = omega (arith, last)

  lanes_kept : HasLanes y.lanes s
  lanes_kept = subst (λ ls. HasLanes ls s) (sym lanes) h.lanes

  pub fits_answered :
      (a : Reply) (u : StackState) → IsLeftBy s q.path q.request a u
      → ((id : List ℕ) (attrs : List (List ℕ × Data)) → a ≡ Reply.Success id attrs → id_named q.request ≡ None → (IsOfLane q.lane id) × ((r : Held) → In r (resources_of s) → r.physical ≡ id → ⊥))
      → Fits y (closing token a u)
  fits_answered a u d new = by q.request a u refl refl d where
    by : (r : Request) (b : Reply) (u : StackState) → q.request ≡ r → a ≡ b → IsLeftBy s q.path r b u → Fits y (closing token a u)
    by r b u e f (same k keys) = fits_less x y s (closing token a u) h (less_closed a u k (stay keys) (λ p i j g. tt)) lanes_kept last_kept
    by r b u e f (gone id k named n keys) =
        fits_less x y s (closing token a u) h
        (less_closed a u k (one_less id keys) (λ p i j g. not_named a id (ap id_named e ∙ named) (λ z. n (sym f ∙ z)) p i j g)) lanes_kept last_kept
    by _ _ u e f (made k id props attrs g b made_is id_is kind_is) =
        let (of, none) = new id attrs f (ap id_named e) in
        let (l, l_in, (l_lane, l_kind)) = (h.lanes).1 q (found_one (has_token token) s.tokens q found).0 in
        let closed = fits_less x y s (closing token a s) h (less_closed a s (same_self s) (stay refl) (λ p i j g. tt)) lanes_kept last_kept in
        fits_made y y (closing token a s) (closing token a u) closed g made_is (λ r i m. none r i (m ∙ id_is))
        (l, subst (In l) (sym lanes) l_in, subst (λ n. IsOfLane n g.physical) (sym l_lane) (subst (IsOfLane q.lane) (sym id_is) of), subst (λ r. IsKindFor r l.1) e l_kind ∙ sym kind_is)
        (ap (still_open token a) b.tokens) (ap (where_call token (answered_call a)) b.ledger) b.operation

-- Which stacks stand in the world after an entry, and what else it leaves.

pub after_stacks : (x : World) (e : Entry) → is_opening e ≡ false → (world_after x e).stacks ≡ put_by x e (stack_for e x)
after_stacks x e n = grind (arith, true≢false, left_of)

pub after_lanes : (x : World) (e : Entry) → is_opening e ≡ false → (world_after x e).lanes ≡ x.lanes
after_lanes x e n = grind (arith, true≢false, left_of)

pub after_exports : (x : World) (e : Entry) → is_opening e ≡ false → (world_after x e).exports ≡ exports_by x e (stack_for e x)
after_exports x e n = grind (arith, true≢false, left_of)

pub after_token : (x : World) (e : Entry) → (world_after x e).token ≡ token_after e x.token
after_token x e = grind (arith, left_of)

-- the stack that an entry is of is the one that is known by its name
known_by : (x : World) (name : List ℕ) (s : StackState) → stack_at name x ≡ Some s → known_stack name x ≡ s
known_by x name s e = ap (λ (o : Option StackState). unwrap_or o no_stack) e

pub stack_known : (x : World) → AreApart x → (e : Entry) (name : List ℕ) (s : StackState) → stack_for e x ≡ Some (name, s) → known_stack name x ≡ s
stack_known x h e name s f = known_for x h.names name s e f

-- what stands under a name after an entry that is no opening: the stack that it is of, or what was there
pub data AtName (x : World) (e : Entry) (name : List ℕ) : Type 0 where
  of_it : (s : StackState) → stack_for e x ≡ Some (name, s) → stack_at name (world_after x e) ≡ Some (effect_at (x.place + 1) e s).stack → AtName x e name
  of_another : ((s : StackState) → stack_for e x ≡ Some (name, s) → ⊥) → stack_at name (world_after x e) ≡ stack_at name x → AtName x e name

pub at_name : (x : World) (e : Entry) (name : List ℕ) → is_opening e ≡ false → AtName x e name
at_name x e name n = by (stack_for e x) refl (ap (value_at name) (after_stacks x e n)) where
  by : (o : Found) → stack_for e x ≡ o → stack_at name (world_after x e) ≡ value_at name (put_by x e (stack_for e x)) → AtName x e name
  by None f now = of_another (λ s k. let no : ⊥ = cc in no) (now ∙ ap (λ o. value_at name (put_by x e o)) f)
  by (Some p) f now =
      let at = now ∙ ap (λ o. value_at name (put_by x e o)) f in
      elim (bytes_or name p.0) [
        | inl is ↦ of_it p.1 (f ∙ ap (λ (m : List ℕ). Some (m, p.1)) (sym is))
            (at ∙ ap (λ m. value_at m (put_by x e (Some p))) is ∙ put_here p.0 (effect_at (x.place + 1) e p.1).stack x.stacks)
        | inr differs ↦ of_another (λ s k. differs (ap (λ (o : Found). (unwrap_or o (name, s)).0) (sym k ∙ f)))
            (at ∙ put_else name p.0 (effect_at (x.place + 1) e p.1).stack x.stacks (other_bytes name p.0 differs))
      ]

-- A stack after an entry is the one before, changed by it or not.
pub record Stands (x : World) (e : Entry) (name : List ℕ) (t : StackState) : Type 0 where
  pub stack : StackState
  pub known : known_stack name x ≡ stack
  pub becomes : BecomesBy x e name stack t
  pub there : (stack_for e x ≡ Some (name, stack)) ⊎ (stack_at name x ≡ Some stack)

pub stands_by : (x : World) → AreApart x → (e : Entry) (name : List ℕ) (t : StackState) → stack_at name (world_after x e) ≡ Some t → Stands x e name t
stands_by x h (Entry.Opened epoch lanes) name t g = by (stack_at name x) refl (sym (value_under (λ (s : StackState). (effect_at (x.place + 1) (Entry.Opened epoch lanes) s).stack) name x.stacks) ∙ g) where
  by : (o : Option StackState) → stack_at name x ≡ o → option_map (λ (s : StackState). (effect_at (x.place + 1) (Entry.Opened epoch lanes) s).stack) o ≡ Some t → Stands x (Entry.Opened epoch lanes) name t
  by None f k = let none : ⊥ = cc in absurd none
  by (Some s) f k =
      let is : (effect_at (x.place + 1) (Entry.Opened epoch lanes) s).stack ≡ t = cc in
      record { stack = s; known = known_by x name s f; becomes = subst (BecomesBy x (Entry.Opened epoch lanes) name s) is (at_opening refl); there = inr f }
stands_by x h e name t g = elim (at_name x e name refl) [
  | of_it s mine now ↦
      let is : (effect_at (x.place + 1) e s).stack ≡ t = some_is _ _ (sym now ∙ g) in
      record { stack = s; known = stack_known x h e name s mine; becomes = subst (BecomesBy x e name s) is (own mine); there = inl mine }
  | of_another never now ↦ record { stack = t; known = known_by x name t (sym now ∙ g); becomes = other refl never; there = inr (sym now ∙ g) }
]

abbrev IsNamedIn : StackState → List ℕ → List ℕ → Type 0
IsNamedIn s path id = (r : Held) × In r (resources_of s) × (r.physical ≡ id) × (r.path ≡ path)

-- what a call names is a resource of the stack, at the call's path
pub intends_named :
    (stage : Stage) (schemas : List Schema) (name : List ℕ) (x : World) (s : StackState) (path : List ℕ) (r : Request) (id : List ℕ) → IsSteady s
    → IntendsIn stage schemas name x s path r → id_named r ≡ Some id → IsNamedIn s path id
intends_named Forward schemas name x s path (Request.Update physical props) id steady (a, b, c, (h, at, of, known, wants, rest)) e =
    let (i, t) = found_one _ s.held h at in
    let same : physical ≡ id = cc in
    (h, in_front h s.held s.made i, sym of ∙ same, sym ((bytes_eq-Decides path h.path).0 (first_so (is_at path h) (not h.superseded) t)))
intends_named v0 schemas name x s path r id steady m e = grind (arith, in_front, in_back)

-- a lane that fits the request is one of those that were handed in
pub fitting_lane : (x : World) (p : Pending) (r : Request) → p.request ≡ r → FitsLane x p.lane r → (l : List ℕ × List ℕ) × In l x.lanes × IsLaneFor p l
fitting_lane x p (Request.Create k props) e t = let f = some_of (is_lane_of p.lane k) x.lanes t in grind (arith, bytes_eq-Decides)
fitting_lane x p _ e t = let f = some_of (λ (l : List ℕ × List ℕ). bytes_eq p.lane l.0) x.lanes t.1 in grind (arith, bytes_eq-Decides)

-- what holds of each stack that is there, and of one of which nothing is known, holds of the known one of a name
pub at_known : (P : StackState → Type 0) (x : World) (name : List ℕ) → P no_stack → ((s : StackState) → stack_at name x ≡ Some s → P s) → P (known_stack name x)
at_known P x name none each = grind arith

module _ (schemas : List Schema) (x : World) (out : List ℕ) (apart : AreApart x) where
  module _ (s : StackState) (steady : IsSteady s) (h : Fits x s) where
    intent_fits : (name : List ℕ) (number token : ℕ) (lane path : List ℕ) (r : Request) → number ≡ s.operation → (stage : Stage) → MayIntend schemas name x out s stage token lane path r
        → Fits (world_after x (Entry.Intent number token lane path r)) (effect_at (x.place + 1) (Entry.Intent number token lane path r) s).stack
    intent_fits name number token lane path r of stage m =
        let p : Pending = record { token = token; path = path; lane = lane; request = r } in
        let called : Bool → StackState =
        λ b. cond b s (record s { tokens = s.tokens ++ p ∷ []; ledger = s.ledger ++ new_call number s.status p ∷ [] }) in
        let none : list_any (has_token token) s.tokens ≡ false =
        none_any (has_token token) s.tokens (λ q i t. none_open x (world_after x (Entry.Intent number token lane path r)) s s h token m.next q i (eqb-true token q.token t)) in
        let free : (q : Pending) → In q s.tokens → path ≡ q.path → ⊥ =
        λ q i e. true≢false (sym (any_of (λ (z : Pending). bytes_eq path z.path) s.tokens q i ((bytes_eq-Decides path q.path).1 e)) ∙ not-true (list_any (λ (z : Pending). bytes_eq path z.path) s.tokens) m.free) in
        let (l, l_in, l_for) = fitting_lane x p r refl m.fits in
        fits_called x (world_after x (Entry.Intent number token lane path r)) s (effect_at (x.place + 1) (Entry.Intent number token lane path r) s).stack h number s.status p m.next
        (ap (λ b. (called b).tokens) none) (ap (λ b. (called b).ledger) none) (ap (λ b. resources_of (called b)) none) (ap (λ b. (called b).operation) none)
        (omega (arith, of)) (after_lanes x (Entry.Intent number token lane path r) refl) refl free (λ id e. intends_named stage schemas name x s path r id steady m.chosen e) l l_in l_for

    outcome_fits : (name : List ℕ) (number token : ℕ) (a : Reply) (before after : ℕ) → stack_of_operation number x ≡ Some (name, s) → IsTrue (is_some (pending_of token s))
        → IsNew x (Entry.Outcome number token a before after) → IsOfItsLane x (Entry.Outcome number token a before after)
        → Fits (world_after x (Entry.Outcome number token a before after)) (effect_at (x.place + 1) (Entry.Outcome number token a before after) s).stack
    outcome_fits name number token a before after going stands new lane = by (pending_of token s) refl stands where
      e : Entry
      e = Entry.Outcome number token a before after

      by : (o : Option Pending) → pending_of token s ≡ o → IsTrue (is_some o) → Fits (world_after x e) (effect_at (x.place + 1) e s).stack
      by None f t = absurd (true≢false (sym t))
      by (Some q) f t =
          let u = closing token a (answered (is_restore token s) q.path q.request a s) in
          let fit : Fits (world_after x e) u =
          fits_answered x (world_after x e) s h token q f (after_lanes x e refl) (after_token x e) a
          (answered (is_restore token s) q.path q.request a s) (left_by (is_restore token s) q.path q.request a s)
          (λ id attrs g n. (
            subst (λ b. IsOfItsLane x (Entry.Outcome number token b before after)) g lane name s q going f n,
            (subst (λ b. IsNew x (Entry.Outcome number token b before after)) g new name s q going f n).resources,
          )) in
          subst (λ o. Fits (world_after x e) (heard (x.place + 1) e s (on_stack (replied token a o s))).stack) (sym f)
          (fits_less (world_after x e) (world_after x e) u (heard (x.place + 1) e s (on_stack u)).stack fit
          (less_heard u u _ _ (less_self u)) fit.lanes (omega arith))

  -- an entry that is no call, no answer and no opening makes nothing new
  abbrev pub IsPlain : Entry → Type 0
  IsPlain (Entry.Opened epoch lanes) = ⊥
  IsPlain (Entry.Intent number token lane path r) = ⊥
  IsPlain (Entry.Outcome number token a before after) = ⊥
  IsPlain e = Unit {0}

  pub own_less :
      (e : Entry) (name : List ℕ) (s : StackState) → stack_for e x ≡ Some (name, s) → MayFollow schemas x out e → IsSteady s → IsPlain e
      → IsLess s (effect_at (x.place + 1) e s).stack
  own_less (Entry.Begin number n k) name s mine may steady plain =
      let known : known_stack n x ≡ s = ap (λ m. known_stack m x) (beginning_name schemas x out name s number n k mine) ∙ stack_known x apart (Entry.Begin number n k) name s mine in
      let low : (known_stack n x).operation ≤ x.operation = at_known (λ (z : StackState). z.operation ≤ x.operation) x n (omega arith)
      (apart.last n) in
      let same : (known_stack n x).operation ≡ s.operation = ap (λ (z : StackState). z.operation) known in
      let next : number ≡ x.operation + 1 = may.0 in
      less_heard s (beginning n number k s) _ _
      (less_begun n number k s (omega (arith, low, same, next)) (grind (arith, or_left, or_right)))
  own_less (Entry.ChangeSet number n source rows outputs) name s mine may steady plain =
      less_stay s (effect_at (x.place + 1) (Entry.ChangeSet number n source rows outputs) s).stack refl refl (rows_same s.tokens s.ledger) (same_number s.operation)
  own_less (Entry.Kept number path physical w) name s mine may steady plain = less_heard s (keeping path physical w s) _ _ (less_kept path physical w s)
  own_less (Entry.Phase number p cause) name s mine may steady plain = less_heard s (turned_effect p s).stack _ _ (less_turned p s)
  own_less (Entry.Done number state failed) name s mine may steady plain = less_heard s (ended_effect state s).stack _ _ (less_ended state s)
  own_less e name s mine may steady plain = absurd plain

  own_fits : (e : Entry) (name : List ℕ) (s : StackState) → stack_for e x ≡ Some (name, s) → MayFollow schemas x out e → IsNew x e → IsOfItsLane x e → IsSteady s → Fits x s → Fits (world_after x e) (effect_at (x.place + 1) e s).stack
  own_fits (Entry.Opened epoch lanes) name s mine may new lane steady h = let none : ⊥ = cc in absurd none
  own_fits (Entry.Intent number token lane path r) name s mine may new at steady h =
      let (stage, is, m) = in_stage schemas x out name s (Entry.Intent number token lane path r) number mine may in
      intent_fits s steady h name number token lane path r (numbered_so schemas x out name s number mine) stage m
  own_fits (Entry.Outcome number token a before after) name s mine may new lane steady h =
      let (stage, is, m) = in_stage schemas x out name s (Entry.Outcome number token a before after) number mine may in
      outcome_fits s steady h name number token a before after mine m.1 new lane
  own_fits (Entry.ChangeSet number n source rows outputs) name s mine may new lane steady h = grind arith
  own_fits e name s mine may new lane steady h =
      let same : (world_after x e).token ≡ x.token = after_token x e in
      fits_less x (world_after x e) s _ h (own_less e name s mine may steady tt)
      (subst (λ ls. HasLanes ls s) (sym (after_lanes x e refl)) h.lanes) (omega (arith, same))

pub steady_none : IsSteady no_stack
steady_none = record { rests = λ t. (refl, refl); restores = λ e b i. elim i [ ]; gives_up = λ e p i. elim i [ ] }

pub known_fits : (x : World) → AllFit x → (name : List ℕ) → Fits x (known_stack name x)
known_fits x all name = at_known (Fits x) x name (grind arith) (all name)

pub known_steady : (x : World) → AreSteady x → (name : List ℕ) → IsSteady (known_stack name x)
known_steady x all name = at_known IsSteady x name steady_none (all name)

-- an opening is of every stack
pub opening_less : (x : World) (epoch : ℕ) (lanes : List (List ℕ × List ℕ)) (s : StackState) → IsLess s (effect_at (x.place + 1) (Entry.Opened epoch lanes) s).stack
opening_less x epoch lanes s = less_stay s (effect_at (x.place + 1) (Entry.Opened epoch lanes) s).stack refl refl (rows_anew s.tokens s.ledger) (same_number s.operation)

opening_fits :
    (schemas : List Schema) (x : World) (out : List ℕ) (e : Entry) (name : List ℕ) (s : StackState) → is_opening e ≡ true → MayFollow schemas x out e
    → (stack_for e x ≡ Some (name, s)) ⊎ (stack_at name x ≡ Some s) → Fits x s → Fits (world_after x e) (effect_at (x.place + 1) e s).stack
opening_fits schemas x out (Entry.Opened epoch lanes) name s n may (inl e) h = let none : ⊥ = cc in absurd none
opening_fits schemas x out (Entry.Opened epoch lanes) name s n may (inr e) h =
    fits_less x (world_after x (Entry.Opened epoch lanes)) s (effect_at (x.place + 1) (Entry.Opened epoch lanes) s).stack h
    (opening_less x epoch lanes s) (may.2 name s e) (omega arith)
opening_fits schemas x out e name s n may stands h = absurd (true≢false (sym n))

pub fits_kept : FitsKept
fits_kept schemas x out e may new lane apart steady all name t g = by t f.becomes where
  f : Stands x e name t
  f = stands_by x apart e name t g

  fit : Fits x f.stack
  fit = subst (Fits x) f.known (known_fits x all name)

  by : (u : StackState) → BecomesBy x e name f.stack u → Fits (world_after x e) u
  by _ (own mine) = own_fits schemas x out apart e name f.stack mine may new lane (subst IsSteady f.known (known_steady x steady name)) fit
  by _ (at_opening n) = opening_fits schemas x out e name f.stack n may f.there fit
  by _ (other n no_one) = grind (arith, fits_less, f, fit, less_self, after_lanes, after_token)

pub each_is_written : EachIsWritten
each_is_written schemas x out e may new lane apart steady all name t g =
    let f = stands_by x apart e name t g in
    record {
      may = may;
      new = new;
      apart = apart;
      was = refl;
      now = g;
      becomes = subst (λ s. BecomesBy x e name s t) (sym f.known) f.becomes;
      fits = known_fits x all name;
      fits_after = fits_kept schemas x out e may new lane apart steady all name t g;
    }

-- no two resources have one id after an answer, where what is made is new
pub differ_left : (s u : StackState) (path : List ℕ) (r : Request) (a : Reply) → IsLeftBy s path r a u → all_differ bytes_eq (map (λ (h : Held). h.physical) (resources_of s)) ≡ true
    → ((k : List ℕ) (q : List (List ℕ × Data)) (i : List ℕ) (v : List (List ℕ × Data)) → r ≡ Request.Create k q → a ≡ Reply.Success i v → held_in i s ≡ None) → all_differ bytes_eq (map (λ (h : Held). h.physical) (resources_of u)) ≡ true
differ_left s u path r a (same k keys) d new = differ_keyed (resources_of s) (resources_of u) (stay keys) d
differ_left s u path r a (gone id k named n keys) d new = differ_keyed (resources_of s) (resources_of u) (one_less id keys) d
differ_left s u path _ _ (made k id props attrs g b made_is id_is kind_is) d new =
    let not_new : (q : Held) → In q (resources_of s) → q.physical ≡ g.physical → ⊥ =
    λ q i e. true≢false (sym ((bytes_eq-Decides id q.physical).1 (sym (e ∙ id_is))) ∙ none_passes (has_physical id) (resources_of s) (find-append (has_physical id) s.held s.made ∙ new k props id attrs refl refl) q i) in
    ap (λ hs. all_differ bytes_eq (map (λ (h : Held). h.physical) hs)) made_is ∙ differ_end bytes_eq (λ (h : Held). h.physical) (resources_of s) g (λ q i. none_false _ (λ e. not_new q i ((bytes_eq-Decides q.physical g.physical).0 e))) d
