-- A source is accepted by the schemas of the types that its stack holds, and that it wants, and no others: with what an operation begins,
-- and what a change set tells, by some schemas, it does by others that tell the same of these types.
use Rattle.std.proofs.Common.{◌≡◌, inl, inr, ℕ, Bool, true, false, not, List, [], ◌∷◌, ◌++◌, Option, Some, None, IsTrue, filter, fold, map, refl, sym, ◌∙◌, ap, subst, cond, true≢false}
use Rattle.std.specs.List.{list_all, list_any}
use Rattle.std.specs.Option.{option_map_or}
use Rattle.std.specs.Str.{bytes_eq}
use Rattle.cf_tree.specs.Keys.{put}
use Rattle.cf_tree.specs.Lists.{In, is_among}
use Rattle.cf_tree.specs.Lists.In.{here, there}
use Rattle.cf_tree.specs.declared.source.Source.{Source}
use Rattle.cf_schema.specs.declared.described.Schema.{Schema}
use Rattle.cf_schema.specs.Kinds.{found}
use Rattle.cf_entry.specs.declared.entry.Begun.{Begun}
use Rattle.cf_entry.specs.declared.entry.Begun.TheVariants as begin
use Rattle.cf_entry.specs.declared.entry.Entry.{Entry}
use Rattle.cf_entry.specs.declared.entry.Entry.TheVariants as entry
use Rattle.cf_change.specs.Changes.{Changes, HeldAt, RowsFound, changes_by, found_next, found_of, found_with, held_seen, is_other_kind, is_unchanged, modify_row, policy_details, property_details, props_or_none, resource_held, row_for, row_list, seen_after}
use Rattle.cf_desired.specs.declared.wanted.Evaluated.{Evaluated}
use Rattle.cf_desired.specs.declared.wanted.Wanted.{Wanted}
use Rattle.cf_desired.specs.Plan.{plan_by, plan_of, props_at, wanted_of}
use Rattle.cf_desired.specs.Shape.{given_root, shape_of}
use Rattle.cf_desired.specs.Seeing.{Seen}
use Rattle.cf_desired.specs.Valued.{resources_in, valued_in}
use Rattle.cf_desired.proofs.Termed.{member_of, members_in}
use Rattle.cf_change.proofs.Shown.{shape_is_held}
use Rattle.cf_tree.specs.declared.row.Row.{Row}
use Rattle.cf_desired.specs.Work.{Member, Shape}
use Rattle.cf_effect.specs.Begin.{source_for}
use Rattle.cf_effect.specs.World.{StackState, World, known_stack}
use Rattle.cf_effect.specs.declared.held.Held.{Held}
use Rattle.cf_plan.proofs.Causing.{map_in}
use Rattle.cf_plan.proofs.CreatedRight.{in_filter}
use Rattle.cf_plan.proofs.CreatedStays.{found_one}
use Rattle.cf_plan.proofs.Listed.{bytes_same, in_map}
use Rattle.cf_plan.proofs.Members.{all_in, in_all}
use Rattle.cf_plan.specs.Accept.{IsAccepted, IsReviewed, ImportsWhatItUses, are_free, changes_on, exports_by, held_as, held_by, is_taken_away, schema_kinds, seen_before}
use Rattle.cf_plan.specs.Follow.{BeginsBy, MayFollow, lane_kinds}
use Rattle.cf_plan.specs.Life.{IsBegin}

module _ (a b : List Schema) (held : List HeldAt) (IsWanted : List ℕ → Type 0) (same : (h : HeldAt) → In h held → IsWanted h.kind → found h.kind a ≡ found h.kind b) where
  -- the row of a resource that is held with its type
  same_row : (w : Wanted) → IsWanted w.kind → (o : Option HeldAt) → resource_held w.path held ≡ o → is_other_kind o w ≡ false → row_for a o w ≡ row_for b o w
  same_row w wants None e k = refl
  same_row w wants (Some h) e k =
      let typed : h.kind ≡ w.kind = bytes_same h.kind w.kind (so (bytes_eq h.kind w.kind) k) in
      let mine : found h.kind a ≡ found h.kind b = same h (found_one (λ (r : HeldAt). bytes_eq w.path r.path) held h e).0 (subst IsWanted (sym typed) wants) in
      ap (λ g. modify_row h w (property_details g h.props (props_or_none w.props) ++ policy_details h w))
      (subst (λ q. found q a ≡ found q b) typed mine)
    where
      so : (t : Bool) → not t ≡ false → t ≡ true
      so true e = refl
      so false e = absurd (true≢false e)

  module _ (f : RowsFound) (w : Wanted) (wants : IsWanted w.kind) where
    abbrev o : Option HeldAt
    o = resource_held w.path held

    abbrev clashing : RowsFound
    clashing = record f { clash = f.clash ++ w.path ∷ []; seen = put w.path (seen_after o None) f.seen }

    same_with : found_with a held f w ≡ found_with b held f w
    same_with = by (is_other_kind o w) refl where
      rowed : List Schema → RowsFound
      rowed ss = record f { rows = f.rows ++ row_list (row_for ss o w); seen = put w.path (seen_after o (row_for ss o w)) f.seen }

      by : (t : Bool) → is_other_kind o w ≡ t → cond (is_other_kind o w) clashing (rowed a) ≡ cond (is_other_kind o w) clashing (rowed b)
      by true e = ap (λ t. cond t clashing (rowed a)) e ∙ sym (ap (λ t. cond t clashing (rowed b)) e)
      by false e =
          ap (λ t. cond t clashing (rowed a)) e
          ∙ ap (λ r. record f { rows = f.rows ++ row_list r; seen = put w.path (seen_after o r) f.seen }) (same_row w wants o refl e)
          ∙ sym (ap (λ t. cond t clashing (rowed b)) e)

  module _ (source : Source) (wants : (m : Member) → In m (resources_in (shape_of source (held_seen held))) → IsWanted m.kind) where
    abbrev shape : Shape
    shape = shape_of source (held_seen held)

    same_next : (f : RowsFound) (m : Member) → IsWanted m.kind → found_next a held source shape f m ≡ found_next b held source shape f m
    same_next f m wanted = by (props_at source shape f.seen m.path) where
      by : (o : Option Evaluated) → option_map_or (λ v. found_with a held f (wanted_of (m, v))) o f
          ≡ option_map_or (λ v. found_with b held f (wanted_of (m, v))) o f
      by None = refl
      by (Some v) = same_with f (wanted_of (m, v)) wanted

    same_all : (ms : List Member) → ((m : Member) → In m ms → IsWanted m.kind) → (f : RowsFound)
        → fold (found_next a held source shape) f ms ≡ fold (found_next b held source shape) f ms
    same_all [] all f = refl
    same_all (m ∷ ms) all f =
        ap (λ g. fold (found_next a held source shape) g ms) (same_next f m (all m here)) ∙ same_all ms (λ n i. all n (there i)) (found_next b held source shape f m)

    pub same_found : found_of a held source ≡ found_of b held source
    same_found = same_all (resources_in shape) wants (record { rows = []; seen = []; clash = [] })

module _ (a b : List Schema) (s : StackState) (IsWanted : List ℕ → Type 0) (same : (h : Held) → In h s.held → IsWanted h.kind → found h.kind a ≡ found h.kind b)
    (name : List ℕ) (x : World) (source : Source) (wants : (m : Member) → In m (resources_in (shape_of source (held_seen (held_by s)))) → IsWanted m.kind) where
  same_held : (h : HeldAt) → In h (held_by s) → IsWanted h.kind → found h.kind a ≡ found h.kind b
  same_held h i =
      let (g, j, e) = map_in held_as h (filter (λ (r : Held). not r.superseded) s.held) i in
      subst (λ (q : HeldAt). IsWanted q.kind → found q.kind a ≡ found q.kind b) e (same g (in_filter (λ (r : Held). not r.superseded) s.held g j).0)

  seen : seen_before a s source ≡ seen_before b s source
  seen = ap (λ (f : RowsFound). f.seen) (same_found a b (held_by s) IsWanted same_held source wants)

  changes : changes_on a name x s source ≡ changes_on b name x s source
  changes =
      ap (λ (f : RowsFound). changes_by (held_by s) s.outputs (exports_by name x) f (plan_of source f.seen)) (same_found a b (held_by s) IsWanted same_held source wants)

  pub same_accepted : (kinds : List (List ℕ)) → IsAccepted a kinds name x s source → IsAccepted b kinds name x s source
  same_accepted kinds h = record {
    no_flaw = subst (λ (c : Changes). c.flaws ≡ []) changes h.no_flaw;
    known_types = subst (λ v. IsTrue (list_all (λ (w : Wanted). is_among w.kind kinds) (plan_of source v).wanted)) seen h.known_types;
    same_types = subst (λ (c : Changes). c.clash ≡ []) changes h.same_types;
    imports = subst (ImportsWhatItUses name x source) seen h.imports;
    free = subst (λ v. IsTrue (are_free name x (map (λ e. e.0) (plan_of source v).exports))) seen h.free;
    not_in_use = subst (λ v. list_any (is_taken_away name x (map (λ e. e.0) (plan_of source v).exports)) x.exports ≡ false) seen h.not_in_use;
    changing = elim h.changing [ inl c ↦ inl c | inr c ↦ inr (subst (λ (c : Changes). is_unchanged c ≡ false) changes c) ];
  }

-- an operation that begins
pub same_begun : (a b : List Schema) (x : World) (out : List ℕ) (e : Entry) → IsBegin e
    → ((name : List ℕ) (h : Held) → In h (known_stack name x).held → found h.kind a ≡ found h.kind b) → MayFollow a x out e → MayFollow b x out e
same_begun a b x out (entry.Begin number name k) i same may = (may.0, may.1, by k may.2) where
  s : StackState
  s = known_stack name x

  by : (k : Begun) → BeginsBy a name x number s k → BeginsBy b name x number s k
  by (begin.Create source) h = same_accepted a b s (λ k. Unit {0}) (λ r i u. same name r i) name x (source_for name number source) (λ m i. tt) (lane_kinds x) h
  by (begin.Update source) h = same_accepted a b s (λ k. Unit {0}) (λ r i u. same name r i) name x (source_for name s.number source) (λ m i. tt) (lane_kinds x) h
  by (begin.Delete paths) h = h
  by (begin.Continue paths) h = h
same_begun a b x out (entry.Opened epoch lanes) i same may = absurd i
same_begun a b x out (entry.ChangeSet number name source rows outputs) i same may = absurd i
same_begun a b x out (entry.Kept number path physical w) i same may = absurd i
same_begun a b x out (entry.Intent number token lane path r) i same may = absurd i
same_begun a b x out (entry.Outcome number token answer before after) i same may = absurd i
same_begun a b x out (entry.Phase number p c) i same may = absurd i
same_begun a b x out (entry.Done number state failed) i same may = absurd i

-- a resource of a shape is wanted, with its type
wanted_member : (source : Source) (shape : Shape) (seen : Seen) (m : Member) → In m (resources_in shape) → (w : Wanted) × In w (plan_by source shape seen).wanted × (w.kind ≡ m.kind)
wanted_member source shape seen m i =
    let (r, j, e) = map_in member_of m (valued_in source seen (given_root source) shape) (subst (In m) (sym (members_in source seen (given_root source) shape)) i) in
    (wanted_of r, in_map wanted_of r (valued_in source seen (given_root source) shape) j, ap (λ (n : Member). n.kind) e)

-- A change set that is kept by some schemas is kept by others that have all their types, and tell the same of them.
module _ (a b : List Schema) (has : (k : List ℕ) → IsTrue (is_among k (schema_kinds a)) → found k a ≡ found k b)
    (more : (k : List ℕ) → IsTrue (is_among k (schema_kinds a)) → IsTrue (is_among k (schema_kinds b))) (name : List ℕ) (x : World) (s : StackState)
    (source : Source) (rows : List Row) (outputs : Bool) (h : IsReviewed a name x s source rows outputs) where
  abbrev IsKnown : List ℕ → Type 0
  IsKnown k = IsTrue (is_among k (schema_kinds a))

  abbrev is_known_in : List Schema → Wanted → Bool
  is_known_in schemas w = is_among w.kind (schema_kinds schemas)

  -- the shape that the source has over what its rows leave to be seen is that over what is held
  shaped : shape_of source (seen_before a s source) ≡ shape_of source (held_seen (held_by s))
  shaped = shape_is_held a (held_by s) source h.accepted.no_flaw

  wants_known : (m : Member) → In m (resources_in (shape_of source (held_seen (held_by s)))) → IsKnown m.kind
  wants_known m i =
      let (w, j, k) = wanted_member source (shape_of source (seen_before a s source)) (seen_before a s source) m
      (subst (λ (q : Shape). In m (resources_in q)) (sym shaped) i) in
      subst IsKnown k (all_in (is_known_in a) (plan_of source (seen_before a s source)).wanted h.accepted.known_types w j)

  same_kinds : (r : Held) → In r s.held → IsKnown r.kind → found r.kind a ≡ found r.kind b
  same_kinds r i known = has r.kind known

  same_changes : changes_on a name x s source ≡ changes_on b name x s source
  same_changes = changes a b s IsKnown same_kinds name x source wants_known

  known_more : (ws : List Wanted) → IsTrue (list_all (is_known_in a) ws) → IsTrue (list_all (is_known_in b) ws)
  known_more ws all = in_all (is_known_in b) ws (λ w i. more w.kind (all_in (is_known_in a) ws all w i))

  pub same_reviewed : IsReviewed b name x s source rows outputs
  same_reviewed =
      let was = same_accepted a b s IsKnown same_kinds name x source wants_known (schema_kinds a) h.accepted in
      record {
        accepted = record {
          no_flaw = was.no_flaw;
          known_types = known_more (plan_of source (seen_before b s source)).wanted was.known_types;
          same_types = was.same_types;
          imports = was.imports;
          free = was.free;
          not_in_use = was.not_in_use;
          changing = was.changing;
        };
        changing = subst (λ (c : Changes). is_unchanged c ≡ false) same_changes h.changing;
        rows_are = h.rows_are ∙ ap (λ (c : Changes). c.rows) same_changes;
        outputs_are = h.outputs_are ∙ ap (λ (c : Changes). c.outputs_differ) same_changes;
      }
