-- Each call that the forward phase intends is hidden by the change set of the operation; what it did not hide stays seen, and properties stay in order.
use Rattle.std.proofs.Common.{arith, ◌≡◌, ◌∙◌, ℕ, List, ◌∷◌, ◌++◌, Bool, true, false, not, Option, Some, None, map, refl, sym, ap, subst, true≢false, ◌⊎◌, inl, inr, ◌+◌, ◌&&◌, filter, find, []}
use Rattle.cf_core.proofs.Words.{AdvancingStays, AgreeAt, AreDescribed, AreSameThings, BeginsSeen, Begun, Call, Code, Data, Detail, Entry, Fits, RowsFound, Held, HeldAt, HeldLeft, HeldStatus, In, InOrder, IntendedIsHidden, IntendsForward, IsAdvancing, IsAsBefore, IsDone, IsHidden, IsOrdered, IsOwn, IsSameThing, IsTo, StaysKnown, KeepsRest, Known, LeftAt, MayFollowIn, MayReplace, Member, NoneIsOrdered, OrderStays, Pending, Phase, Replace, Reply, Request, RestBeginsSeen, RestStaysSeen, Row, Schema, Seen, SeenAt, SeesMore, Shape, Source, StackState, Stage, Status, Update, Wanted, WantsNew, WantsUpdate, Why, World, answered, ascends, at_path, beginning, begins_from, bytes_eq, changes_begun, changes_of, changing, closed, closing, completing, cond, current_at, deleting, difference_of, difference_to, effect_at, ending, evaluated_at, first_so, flaws_of, found, found_of, given_root, goes_forward, has_token, held_as, held_before_as, held_seen, hides_attrs, hides_id, intending, is_among, is_current_at, is_never, is_other_kind, is_property, is_restore, is_some, is_update, is_updated, is_wanted_at, keeping, known_of, known_props_from, known_stack, left_seen, list_any, made_of, marked, member_at, more as more_same, none as none_same, option_and_then, option_map_or, own_calls, pending_of, plan_by, plan_in, policy_details, property_details, props_asked, props_at, replied, resource_held, resources_in, resources_of, row_for, row_hides_attrs, row_hides_id, row_list, second_so, seen_in, seen_now, settled_in, shape_of, skipped_in, source_for, status_made, stopping, succeeded, terms_at, turned_effect, turning, unmoved, updates, updating, value_at, valued_in, wanted_at, wanted_of, was_updated, whole_now, with_status, ◌==◌}
use Rattle.cf_core.proofs.Lemmas.{Becomes, Props, PropsBecome, Valued, and_from, any_of, bytes_eq-Decides, changes_hide, each_map, either_way, eq-eqb, false_from, find-append, find_on, flawless, found_in, found_one, had_before, in_either, in_filter, in_front, in_kept, in_more, is_found, known_is, member_of, members_in, needs_suffice, no_change, no_detail, no_replacement, none_false, shape_is_held, shown, shown_at, some_of, unmapped, valued_become}
use Rattle.cf_desired.specs.Whole.{Whole}
use Rattle.std.specs.Prelude.{option_map}
use Rattle.cf_core.proofs.{HidSeen.rest_itself, HidSeen.compared_rest, HidSeen.same_found, HidSeen.shape_before, Moving.written_is_to, AdvSteps.is_ahead, AdvSteps.goes_by, AdvSteps.none_begins, AdvSteps.advancing_goes_on, AdvSteps.HasBegunBy, AdvSteps.begins_ahead, AdvSteps.seen_still, Statuses.intended_way, Statuses.kept_way, HidProps.said_in_order, Cleanups.from_changed}
use Rattle.cf_plan.proofs.RowsFound.{attrs_kept, found_there, hidden_less, id_kept, no_flaw_known, none_first, none_found, not_not, row_found, true_from, updates_one}
use Rattle.cf_core.specs.Written as to
use Rattle.cf_desired.specs.declared.wanted.Evaluated.TheVariants.{Known as evaluated}

-- What the change set of an operation did not hide stays seen, whatever entry is written as it goes forward.

-- the resources of before and those held now at one path
abbrev pub SameAt : Option Held → Option Held → Type 0
SameAt None None = Unit {0}
SameAt (Some b) (Some h) = IsSameThing b h
SameAt _ _ = ⊥

pub same_at : (path : List ℕ) (bs hs : List Held) → AreSameThings bs hs → SameAt (current_at path bs) (current_at path hs)
same_at path [] [] none_same = tt
same_at path [] (h ∷ hs) r = elim r [ ]
same_at path (b ∷ bs) [] r = elim r [ ]
same_at path (b ∷ bs) (h ∷ hs) (more_same s r) = grind (arith, same_at path bs)

-- what stays seen, over the lists that it is_other on
abbrev RestOver : List Schema → Source → List Held → List Held → List Held → Type 0
RestOver schemas source before made held =
    KeepsRest (hides_id (changes_of schemas (map held_as (filter (λ h. not h.superseded) before)) [] [] source).rows)
    (hides_attrs (changes_of schemas (map held_as (filter (λ h. not h.superseded) before)) [] [] source).rows) (seen_in before) (seen_in (made ++ held))

-- what is shown at a path, by its resource
abbrev KeptAt : Bool → Bool → Option SeenAt → Option SeenAt → Type 0
KeptAt i a o p = (i ≡ false → StaysKnown (option_and_then (λ x. x.physical) o) (option_and_then (λ x. x.physical) p)) × (a ≡ false → StaysKnown (option_and_then (λ x. x.attrs) o) (option_and_then (λ x. x.attrs) p))

module _ (schemas : List Schema) (s : StackState) (source : Source) (a : IsAdvancing schemas s source) (t : StackState) (path : List ℕ) where
  abbrev rows_of : List Row
  rows_of = (changes_begun schemas s source).rows

  -- what was seen of the path before, and what is seen of it now
  abbrev Kept : Option SeenAt → Option SeenAt → Type 0
  Kept = KeptAt (hides_id rows_of path) (hides_attrs rows_of path)

  -- the path of a create, where what was held is hidden, or of an update, whose attributes are hidden
  rest_closed : (p : Pending) (r : Request) → p.request ≡ r → IsHidden rows_of s path r → HeldLeft s t p path → Kept (value_at path (seen_in s.before)) (value_at path (seen_now t))
  rest_closed p (Request.Create kind props) e hid l =
      subst (λ o. Kept o (value_at path (seen_now t))) (sym (shown_at path s.before)) (by (current_at path s.before) (current_at path s.held) (same_at path s.before s.held a.held) refl) where
        by : (b h : Option Held) → SameAt b h → current_at path s.held ≡ h → Kept (option_map shown b) (value_at path (seen_now t))
        by b h w q = grind arith
  rest_closed p v1 e hid l = grind (arith, shown, shown_at, find-append)

  rest_at : LeftAt s t path → Kept (value_at path (seen_in s.before)) (value_at path (seen_now t))
  rest_at (unmoved k) = subst (Kept (value_at path (seen_in s.before))) (sym (seen_still s t path k)) (a.rest path)
  rest_at (closed p i e none l) = rest_closed p p.request refl (subst (λ q. IsHidden rows_of s q p.request) e (a.hidden p i)) l

pub rest_stays : RestStaysSeen
rest_stays schemas x out e name s t source w goes f a =
    let g = goes_by schemas x out name s source a w.fits goes (is_ahead schemas x out name s goes (written_is_to schemas x out e name s t w) f) in
    subst (λ bs. RestOver schemas source bs t.made t.held) (sym g.before) (λ path. rest_at schemas s source a t path (g.left path))

-- as an operation begins nothing is made, and what is held is what was held before
pub rest_begins : RestBeginsSeen
rest_begins schemas x out number stack k name s t w same f = by (begins_ahead w (false_from (goes_forward s.status) (λ g. none_begins k s.status g from)) f) where
  from : begins_from k s.status ≡ true
  from = subst (λ (u : StackState). begins_from k u.status ≡ true) w.was (subst (λ n. begins_from k (known_stack n x).status ≡ true) same w.may.1)

  by : HasBegunBy schemas x name s t → (c : Source) × BeginsSeen schemas t c
  by (Begun.Create c, from, b, q) =
      subst (λ u. (d : Source) × BeginsSeen schemas u d) q
      (source_for name (x.operation + 1) c, record { going = refl; no_flaw = b.no_flaw; no_clash = b.same_types; rest = rest_itself _ _ s (seen_in s.held) })
  by (Begun.Update c, from, b, q) =
      subst (λ u. (d : Source) × BeginsSeen schemas u d) q
      (source_for name s.number c, record { going = refl; no_flaw = b.no_flaw; no_clash = b.same_types; rest = rest_itself _ _ s (seen_in s.held) })
  by v0 = grind arith

-- Properties stay in the order of their names, whatever entry is written.

abbrev All : List Held → Type 0
All hs = (r : Held) → In r hs → InOrder r

-- of what is held, what was held before, what is made, and what is asked for
abbrev Ordered : StackState → Type 0
Ordered s = All s.held × All s.before × All s.made × ((p : Pending) → In p s.tokens → ascends (props_asked p.request) ≡ true)

no_held : All []
no_held r i = elim i [ ]

of_filter : {A : Type 0} {P : A → Type 0} (test : A → Bool) (xs : List A) → ((a : A) → In a xs → P a) → (a : A) → In a (filter test xs) → P a
of_filter test xs h a i = h a (in_filter test xs a i).0

all_both : (xs ys : List Held) → All xs → All ys → All (xs ++ ys)
all_both xs ys h g r i = elim (in_either r xs ys i) [ inl j ↦ h r j | inr j ↦ g r j ]

module _ (f : Held → Held) (keeps : (h : Held) → InOrder h → InOrder (f h)) where
  all_map : (hs : List Held) → All hs → All (map f hs)
  all_map hs h = each_map InOrder f hs (λ r i. keeps r (h r i))

  changing_ordered : (id : List ℕ) (s : StackState) → Ordered s → Ordered (changing id f s)
  changing_ordered id s o = grind (arith, either_way, from_changed)

module _ (s : StackState) (o : Ordered s) where
  deleting_ordered : (id : List ℕ) → Ordered (deleting id s)
  deleting_ordered id = (of_filter _ s.held o.0, o.1, of_filter _ s.made o.2, o.3)

  keeping_ordered : (path physical : List ℕ) (w : Why) → Ordered (keeping path physical w s)
  keeping_ordered path physical w =
      kept_way Ordered s o path physical w (o.0, o.1, o.2, of_filter _ s.tokens o.3) (of_filter _ s.held o.0, o.1, of_filter _ s.made o.2, of_filter _ s.tokens o.3)

  intending_ordered : (number : ℕ) (p : Pending) → ascends (props_asked p.request) ≡ true → Ordered (intending number p s)
  intending_ordered number p k =
      intended_way Ordered s o number p (o.0, o.1, o.2, in_more (λ (q : Pending). ascends (props_asked q.request) ≡ true) p s.tokens o.3 k)

  with_status_ordered : (b : Bool) (id : List ℕ) (state : HeldStatus) → Ordered (cond b (with_status id state s) s)
  with_status_ordered b id state = either_way Ordered b (with_status id state s) s (changing_ordered (λ h. record h { status = state }) (λ h k. k) id s o) o

  answered_ordered : (restores : Bool) (path : List ℕ) (r : Request) → ascends (props_asked r) ≡ true → (a : Reply) → Ordered (answered restores path r a s)
  answered_ordered b path (Request.Create k props) h (Reply.Success physical attrs) =
      (o.0, o.1, in_more InOrder (made_of (terms_at path s) (status_made (current_at path s.held)) path k props physical attrs) s.made o.2 h, o.3)
  answered_ordered b path (Request.Update id props) h (Reply.Success physical attrs) = changing_ordered (updating props attrs) (λ r k. h) id s o
  answered_ordered b path (Request.Update id props) h (Reply.Failed c) = with_status_ordered b id _
  answered_ordered b path (Request.Delete id) h (Reply.Success physical attrs) = deleting_ordered id
  answered_ordered b path (Request.Delete id) h (Reply.Failed Code.NotFound) = deleting_ordered id
  answered_ordered b path (Request.Delete id) h (Reply.Failed c) = with_status_ordered true id _
  answered_ordered b path r h a = o

closing_ordered : (token : ℕ) (a : Reply) (s : StackState) → Ordered s → Ordered (closing token a s)
closing_ordered token Reply.Doubt s o = o
closing_ordered token a s o = (o.0, o.1, o.2, of_filter _ s.tokens o.3)

replied_ordered : (token : ℕ) (a : Reply) (p : Option Pending) (s : StackState) → pending_of token s ≡ p → Ordered s → Ordered (replied token a p s)
replied_ordered token a None s e o = o
replied_ordered token a (Some p) s e o =
    closing_ordered token a (answered (is_restore token s) p.path p.request a s)
    (answered_ordered s o (is_restore token s) p.path p.request (o.3 p (found_one (has_token token) s.tokens p e).0) a)

-- the end of the forward phase, and of an operation
settled_ordered : (whole : Whole) (s : StackState) (h : Held) → InOrder h → InOrder (settled_in whole s h)
settled_ordered whole s h k = grind (arith, either_way)

completing_ordered : (whole : Whole) (s : StackState) → Ordered s → Ordered (completing whole s)
completing_ordered whole s o = (all_map (settled_in whole s) (settled_ordered whole s) (resources_of s) (all_both s.held s.made o.0 o.2), o.1, no_held, o.3)

turned_ordered : (p : Phase) (s : StackState) → Ordered s → Ordered (turned_effect p s).stack
turned_ordered Phase.Clean s o = completing_ordered (whole_now s) (turning Phase.Clean s) o
turned_ordered p s o = o

stopping_ordered : (state : Status) (s : StackState) → Ordered s → Ordered (stopping state s)
stopping_ordered state s o =
    (all_map (marked s.tokens) (λ h k. grind arith) s.held o.0, o.1, all_map (marked s.tokens) (λ h k. grind arith) s.made o.2, o.3)

ending_ordered : (state : Status) (s : StackState) → Ordered s → Ordered (ending state s).stack
ending_ordered Status.CreateComplete s o = completing_ordered (whole_now s) s o
ending_ordered Status.RollbackFailed s o = (all_both s.held s.made o.0 o.2, o.1, no_held, o.3)
ending_ordered state s o = o

begun_ordered : (name : List ℕ) (number : ℕ) (k : Begun) (s : StackState) → Ordered s → Ordered (beginning name number k s)
begun_ordered name number (Begun.Create source) s o = (o.0, o.0, no_held, o.3)
begun_ordered name number (Begun.Update source) s o = (o.0, o.0, no_held, o.3)
begun_ordered name number (Begun.Delete paths) s o = o
begun_ordered name number (Begun.Continue paths) s o =
    (all_map (skipped_in paths s.before) (λ h k. grind (arith, either_way, found_one)) s.held o.0, o.1, o.2, of_filter _ s.tokens o.3)

module _ (schemas : List Schema) (x : World) (out : List ℕ) (name : List ℕ) (s : StackState) (o : Ordered s) where
  step_ordered : (stage : Stage) (e : Entry) → IsOwn s.operation e → MayFollowIn schemas name x out s stage e → Ordered (effect_at (x.place + 1) e s).stack
  step_ordered stage (Entry.Kept number path physical w) own may = keeping_ordered s o path physical w
  step_ordered stage (Entry.Intent number token lane path r) own may =
      intending_ordered s o number (record { token = token; path = path; lane = lane; request = r }) (grind (arith, said_in_order))
  step_ordered stage (Entry.Outcome number token a before after) own may = replied_ordered token a (pending_of token s) s refl o
  step_ordered stage (Entry.Phase number p c) own may = turned_ordered p s o
  step_ordered stage (Entry.Done number state failed) own may = ending_ordered state (stopping state s) (stopping_ordered state s o)
  step_ordered stage e own may = absurd own

  entry_ordered : (e : Entry) (t : StackState) → IsTo schemas x out name s e t → Ordered t
  entry_ordered e t (to.step stage is own may) = step_ordered stage e own may
  entry_ordered e t (to.begins k from by) = begun_ordered name (x.operation + 1) k s o
  entry_ordered e t (to.reviewed number source rows outputs from) = o
  entry_ordered e t (to.opened epoch lanes) = o
  entry_ordered e t to.other = o

pub order_stays : OrderStays
order_stays schemas x out e name s t w o =
    let h = entry_ordered schemas x out name s (o.held, o.before, o.made, o.asked) e t (written_is_to schemas x out e name s t w) in
    record { held = h.0; before = h.1; made = h.2; asked = h.3 }

pub none_is_ordered : NoneIsOrdered
none_is_ordered = record { held = no_held; before = no_held; made = no_held; asked = λ p i. elim i [ ] }

-- Each call that the forward phase intends is hidden by the change set of the operation.

module _ (schemas : List Schema) (s : StackState) (source : Source) (a : IsAdvancing schemas s source) where
  abbrev held : List HeldAt
  held = held_before_as s

  abbrev f : RowsFound
  f = found_of schemas held source

  abbrev shape : Shape
  shape = shape_of source (held_seen held)

  abbrev rows : List Row
  rows = (changes_begun schemas s source).rows

  abbrev left : Seen
  left = left_seen rows held

  -- what the template says is said by the shape of what is compared
  said_over : (path k : List ℕ) (props : List (List ℕ × Data)) → evaluated_at path s ≡ Known k props → found_in (wanted_at path (plan_by source shape (seen_now s))) ≡ Known k props
  said_over path k props e =
      sym (ap (λ g. found_in (wanted_at path (plan_in g (seen_in s.before) (seen_now s)))) a.going ∙ ap (λ h. found_in (wanted_at path (plan_by source h (seen_now s)))) (shape_before schemas s source a)) ∙ e

  more_seen : SeesMore left (seen_now s)
  more_seen = hidden_less (hides_id rows) (hides_attrs rows) (held_seen held) (seen_now s) (compared_rest (hides_id rows) (hides_attrs rows) s (seen_now s) a.rest)

  -- what is said of a path now, and what it was for the change set
  pub record IsSaid (path k : List ℕ) (props : List (List ℕ × Data)) : Type 0 where
    pub member : Member
    pub kind : member.kind ≡ k
    pub at : path ≡ member.path
    pub was : Props
    pub now : Props
    pub becomes : Becomes was now
    pub known : known_props_from now ≡ Some props
    same_kind : is_other_kind (resource_held member.path held) (wanted_of (member, evaluated was)) ≡ false
    row : (test : Row → Bool) → list_any test f.rows ≡ false → list_any test (row_list (row_for schemas (resource_held member.path held) (wanted_of (member, evaluated was)))) ≡ false
    -- the change set has this row of it
    pub told : find (λ r. bytes_eq member.path r.path) rows ≡ row_for schemas (resource_held member.path held) (wanted_of (member, evaluated was))

  pub said : (path k : List ℕ) (props : List (List ℕ × Data)) → evaluated_at path s ≡ Known k props → IsSaid path k props
  said path k props e =
      let all : List Valued = valued_in source (seen_now s) (given_root source) shape in
      let w = is_found k props (wanted_at path (plan_by source shape (seen_now s))) (said_over path k props e) in
      let y = unmapped wanted_of (at_path path all) w.wanted (sym (find_on wanted_of (is_wanted_at path) all) ∙ w.there) in
      let m : Member = y.0.0 in
      let before = had_before source shape left (seen_now s) more_seen path y.0 y.1 in
      let member : member_at shape path ≡ Some m =
      ap (find (λ n. bytes_eq path n.path)) (sym (members_in source (seen_now s) (given_root source) shape)) ∙ find_on member_of (λ n. bytes_eq path n.path) all ∙ ap (option_map member_of) y.1 in
      let there = found_one (λ n. bytes_eq path n.path) (resources_in shape) m member in
      let at : path ≡ m.path = (bytes_eq-Decides path m.path).0 there.1 in
      let row = found_there schemas held source a.no_clash m there.0 in
      let hide = changes_hide schemas held [] [] source a.no_flaw a.no_clash in
      let agree : (g : Seen) → ((q : List ℕ) → is_among q m.needs ≡ true → value_at q f.seen ≡ value_at q g) → AgreeAt m.needs left g =
      λ g same q i. (
        ap (option_and_then (λ x. x.physical)) (sym (same q i)) ∙ sym (hide.same q (row.needs q i).0).0,
        ap (option_and_then (λ x. x.attrs)) (sym (same q i)) ∙ sym (hide.same q (row.needs q i).0).1,
      ) in
      let over_left : props_at source shape left path ≡ Some before.one.1 = ap (option_map (λ (r : Valued). r.1)) before.there in
      let over_all : props_at source shape f.seen path ≡ Some before.one.1 = needs_suffice source (held_seen held) left f.seen path m member (agree f.seen (λ q i. refl)) ∙ over_left in
      let over_earlier : props_at source shape row.earlier.seen path ≡ Some before.one.1 =
      needs_suffice source (held_seen held) left row.earlier.seen path m member (agree row.earlier.seen (λ q i. (row.needs q i).1)) ∙ over_left in
      let clean : (plan_by source shape f.seen).flaws ≡ [] = subst (λ h. (plan_by source h f.seen).flaws ≡ []) (shape_is_held schemas held source a.no_flaw) a.no_flaw in
      let one = unmapped (λ (r : Valued). r.1) (at_path path (valued_in source f.seen (given_root source) shape)) before.one.1 over_all in
      let xs = no_flaw_known before.one.1 (ap flaws_of (sym one.2) ∙ flawless source shape f.seen clean path one.0 one.1) in
      let ys = known_is y.0.1 props (ap (λ (v : Wanted). known_of v.props) y.2 ∙ w.props) in
      let found_row : props_at source shape row.earlier.seen m.path ≡ Some (evaluated xs.0) = ap (props_at source shape row.earlier.seen) (sym at) ∙ over_earlier ∙ ap (λ v. Some v) xs.1 in
      record {
        member = m;
        kind = ap (λ (v : Wanted). v.kind) y.2 ∙ w.kind;
        at = at;
        was = xs.0;
        now = ys.0;
        becomes = subst (λ v. PropsBecome v (evaluated ys.0)) xs.1 (subst (PropsBecome before.one.1) ys.1 (valued_become before.one y.0 before.valued));
        known = ys.2;
        same_kind = row.kind (evaluated xs.0) found_row;
        row = row.rows (evaluated xs.0) found_row;
        told = row_found schemas held [] [] source m row (evaluated xs.0) found_row;
      }

  -- a path that is not done was not updated, and so its resource is as it was
  pub not_updated : (path : List ℕ) (b : Held) → In b s.before → path ≡ b.path → (IsDone s path → ⊥) → was_updated b.physical s ≡ false
  not_updated path b i at undone = none_false (was_updated b.physical s) (λ t.
      let p = some_of (λ (c : Call). goes_forward c.status && (updates b.physical c.request && succeeded c)) s.ledger t in
      let calls = second_so (goes_forward p.one.status) (updates b.physical p.one.request && succeeded p.one) p.passes in
      let is : updates b.physical p.one.request ≡ true = first_so (updates b.physical p.one.request) (succeeded p.one) calls in
      undone (is_updated (any_of (λ (c : Call). bytes_eq path c.path && (is_update c.request && succeeded c)) (own_calls s) p.one
      (in_kept (λ (c : Call). c.number == s.operation) s.ledger p.one p.of_list (ap (λ n. n == s.operation) (a.calls p.one p.of_list).0 ∙ eq-eqb s.operation s.operation refl))
      (and_from (bytes_eq path p.one.path) (is_update p.one.request && succeeded p.one) ((bytes_eq-Decides path p.one.path).1 (at ∙ sym (a.at_path p.one b p.of_list i is)))
      (and_from (is_update p.one.request) (succeeded p.one) (updates_one b.physical p.one.request is) (second_so (updates b.physical p.one.request) (succeeded p.one) calls))))))

  -- the resource that is held at a path, and what it was
  pub record IsHeldAt (path : List ℕ) (h : Held) : Type 0 where
    pub before : Held
    pub of_before : current_at path s.before ≡ Some before
    pub in_before : In before s.before
    pub at : path ≡ before.path
    pub in_held : In h s.held
    pub same : IsSameThing before h

  pub was_held : (path : List ℕ) (h : Held) → current_at path s.held ≡ Some h → IsHeldAt path h
  was_held path h e = by_before (current_at path s.before) refl (subst (SameAt (current_at path s.before)) e (same_at path s.before s.held a.held)) where
    by_before : (o : Option Held) → current_at path s.before ≡ o → SameAt o (Some h) → IsHeldAt path h
    by_before None g w = absurd w
    by_before (Some b) g w =
        let there = found_one (is_current_at path) s.before b g in
        record {
          before = b;
          of_before = g;
          in_before = there.0;
          at = (bytes_eq-Decides path b.path).0 (first_so (bytes_eq path b.path) (not b.superseded) there.1);
          in_held = (found_one (is_current_at path) s.held h e).0;
          same = w;
        }

  module _ (path k : List ℕ) (props : List (List ℕ × Data)) (e : evaluated_at path s ≡ Known k props) (undone : IsDone s path → ⊥) (h : Held) (at_path : current_at path s.held ≡ Some h) where
    pub it : IsSaid path k props
    it = said path k props e

    pub was : IsHeldAt path h
    was = was_held path h at_path

    abbrev pub b : Held
    b = was.before

    was_before : IsAsBefore b h
    was_before = a.unchanged b h was.in_before was.in_held was.same.physical (not_updated path b was.in_before was.at undone)

    abbrev pub w : Wanted
    w = wanted_of (it.member, evaluated it.was)

    pub resource : resource_held it.member.path held ≡ Some (held_as b)
    resource = ap (λ p. resource_held p held) (sym it.at) ∙ same_found path s.before ∙ ap (option_map held_as) was.of_before

    pub one_kind : h.kind ≡ it.member.kind
    one_kind = was.same.kind ∙ (bytes_eq-Decides b.kind it.member.kind).0 (not_not (bytes_eq b.kind it.member.kind) (sym (ap (λ o. is_other_kind o w) resource) ∙ it.same_kind))

    abbrev pub details : List Detail
    details = property_details (found it.member.kind schemas) b.props it.was

    -- no detail may replace where the id is not hidden, none is of a property where the attributes are not
    open_id : hides_id rows path ≡ false → list_any (λ d. not (is_never d.recreation)) details ≡ false
    open_id n =
        none_first (λ d. not (is_never d.recreation)) details (policy_details (held_as b) w)
        (id_kept (held_as b) w (details ++ policy_details (held_as b) w)
        (subst (λ o. list_any (λ r. bytes_eq w.path r.path && row_hides_id r) (row_list (row_for schemas o w)) ≡ false) resource
        (it.row (λ r. bytes_eq w.path r.path && row_hides_id r) (none_found (λ r. bytes_eq w.path r.path && row_hides_id r) f.rows held f.seen (subst (λ p. hides_id rows p ≡ false) it.at n)))))

    open_attrs : hides_attrs rows path ≡ false → (list_any is_property details ≡ false) × (b.unsure ≡ false)
    open_attrs n =
        let kept = attrs_kept (held_as b) w (details ++ policy_details (held_as b) w)
        (subst (λ o. list_any (λ r. bytes_eq w.path r.path && row_hides_attrs r) (row_list (row_for schemas o w)) ≡ false) resource
        (it.row (λ r. bytes_eq w.path r.path && row_hides_attrs r) (none_found (λ r. bytes_eq w.path r.path && row_hides_attrs r) f.rows held f.seen (subst (λ p. hides_attrs rows p ≡ false) it.at n)))) in
        (none_first is_property details (policy_details (held_as b) w) kept.0, kept.1)

    pub difference_is : difference_to schemas h props ≡ option_map_or (λ g. difference_of g b.props props) (found it.member.kind schemas) Update
    difference_is = ap (λ ps. option_map_or (λ g. difference_of g ps props) (found h.kind schemas) Update) was_before.props ∙ ap (λ n. option_map_or (λ g. difference_of g b.props props) (found n schemas) Update) one_kind

    -- so no new resource is wanted
    pub none_new : list_any (λ d. not (is_never d.recreation)) details ≡ false → WantsNew schemas s (Some h) props → ⊥
    none_new none r =
        by_schema (found it.member.kind schemas) none
        (elim r [ inl d ↦ inl (sym difference_is ∙ d) | inr d ↦ inr (sym difference_is ∙ d.0) ])
      where
        by_schema : (o : Option Schema) → list_any (λ d. not (is_never d.recreation)) (property_details o b.props it.was) ≡ false
            → (option_map_or (λ g. difference_of g b.props props) o Update ≡ Replace) ⊎ (option_map_or (λ g. difference_of g b.props props) o Update ≡ MayReplace) → ⊥
        by_schema o n d = grind (arith, no_replacement, it, was)

    hides_new : WantsNew schemas s (Some h) props → (hides_id rows path ≡ true) × (hides_attrs rows path ≡ true)
    hides_new n = (
      true_from (hides_id rows path) (λ t. none_new (open_id t) n),
      true_from (hides_attrs rows path) (λ t. none_new (no_detail (found it.member.kind schemas) b.props it.was (open_attrs t).0) n),
    )

    hides_change : is_some (found h.kind schemas) ≡ true → ((r : Held) → In r s.before → ascends r.props ≡ true) → ascends props ≡ true → WantsUpdate schemas s h props → hides_attrs rows path ≡ true
    hides_change known old new (none, either) = true_from (hides_attrs rows path) (λ t.
        let open_ = open_attrs t in
        elim either [
          | inl u ↦ true≢false (sym u ∙ was_before.unsure ∙ open_.1)
          | inr d ↦ d (grind (arith, difference_is, it, one_kind, was, no_change))
        ])

  module _ (name : List ℕ) (x : World) (fits : Fits x s) (order : IsOrdered s) (described : AreDescribed schemas x) (path : List ℕ) (undone : IsDone s path → ⊥) where
    known_kind : (h : Held) → In h s.held → is_some (found h.kind schemas) ≡ true
    known_kind h i = let l = fits.lanes.0 h (in_front h s.held s.made i) in grind arith

    by_request : (r : Request) → IntendsForward schemas s path r → IsHidden rows s path r
    by_request (Request.Create k props) (e, wants) = λ h at. hides_new path k props e undone h at (subst (λ o. WantsNew schemas s o props) at wants)
    by_request (Request.Update physical props) (h, at, same, e, wants, unanswered) =
        hides_change path h.kind props e undone h at (known_kind h (was_held path h at).in_held) order.before (said_in_order s path h.kind props e) wants
    by_request (Request.Delete physical) none = absurd none

pub intended_hidden : IntendedIsHidden
intended_hidden schemas name x out s source token lane path r a fits order described may =
    by_request schemas s source a name x fits order described path may.chosen.2 r may.chosen.3

-- The forward phase goes on: what its change set did not hide stays seen, and its calls are hidden.

pub advancing_stays : AdvancingStays
advancing_stays schemas x out e name s t source w forward on h ordered described =
    advancing_goes_on schemas x out e name s t source w forward on h (record {
      calls = λ token lane path r may. intended_hidden schemas name x out s source token lane path r h w.fits ordered described may;
      rest = rest_stays schemas x out e name s t source w forward on h;
    })
