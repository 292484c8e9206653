-- An opening over lanes of which no two have one name, and among which none is missing, may follow.
use Rattle.std.proofs.Common.{◌≡◌, inl, inr, ℕ, ◌+◌, Bool, true, false, ◌&&◌, ◌||◌, List, [], ◌∷◌, ◌++◌, Option, Some, None, refl, ap, sym, ◌∙◌, subst, take, drop, cond, map, not, option_map, nat_eq, true≢false}
use Rattle.std.specs.Prelude.{fold}
use Rattle.std.specs.List.{list_all, list_any, starts_with}
use Rattle.std.specs.Option.{option_map_or}
use Rattle.std.specs.Str.{bytes_eq}
use Rattle.std.proofs.lemmas.Option.{none-some}
use Rattle.std.proofs.lemmas.Slice.Eq.{bytes_eq-Decides}
use Rattle.std.specs.Cmp.{first_so, second_so}
use Rattle.cf_funcs.specs.Pieces.{cut_at}
use Rattle.cf_tree.specs.Keys.{value_at}
use Rattle.cf_tree.specs.Lists.{In, here, least_by, there}
use Rattle.cf_tree.specs.Named.{all_differ}
use Rattle.cf_tree.specs.declared.request.Request.{Request}
use Rattle.cf_tree.specs.declared.request.Request.TheVariants as request
use Rattle.cf_effect.specs.declared.held.Held.{Held}
use Rattle.cf_effect.specs.World.{StackState, World}
use Rattle.cf_effect.specs.Words.{resources_of}
use Rattle.cf_plan.specs.Follow.{HasLanes, IsNamedLane, MayOpen}
use Rattle.cf_handler.specs.Move.{IsKindFor}
use Rattle.cf_handler.specs.Name.{is_lane_name}
use Rattle.cf_lane.specs.Lanes.{LaneNow}
use Rattle.cf_plan.proofs.Causing.{in_either}
use Rattle.cf_plan.proofs.Least.{lesser_some}
use Rattle.cf_book.specs.Entering.{names_of}
use Rattle.cf_book.specs.Opening.{LaneName, before_colon, is_handed_in, is_named, missing, missing_in, or_missing_held, serves_call, serves_held, serves_request, twice}

-- a text that is cut at a colon
cut_whole : (id : List ℕ) (c : List ℕ × List ℕ) → cut_at (58 ∷ []) id ≡ Some c → id ≡ c.0 ++ 58 ∷ c.1
cut_whole [] c e = absurd (none-some c e)
cut_whole (b ∷ bs) c e = by (starts_with nat_eq (b ∷ bs) (58 ∷ [])) refl (cut_at (58 ∷ []) bs) (λ d. cut_whole bs d) e where
  by : (t : Bool) → starts_with nat_eq (b ∷ bs) (58 ∷ []) ≡ t → (o : Option (List ℕ × List ℕ)) → ((d : List ℕ × List ℕ) → o ≡ Some d → bs ≡ d.0 ++ 58 ∷ d.1)
      → cond t (Some ([], drop 1 (b ∷ bs))) (option_map (λ (cut : List ℕ × List ℕ). (b ∷ cut.0, cut.1)) o) ≡ Some c → b ∷ bs ≡ c.0 ++ 58 ∷ c.1
  by true s o k q =
      let is : ([], bs) ≡ c = cc in
      let at_front : take 1 (b ∷ bs) ≡ 58 ∷ [] = sym ((bytes_eq-Decides (58 ∷ []) (take 1 (b ∷ bs))).0 s) in
      let whole : b ∷ bs ≡ 58 ∷ bs = ap (λ t. t ++ bs) at_front in
      whole ∙ ap (λ (d : List ℕ × List ℕ). d.0 ++ 58 ∷ d.1) is
  by false s (Some d) k q =
      let is : (b ∷ d.0, d.1) ≡ c = cc in
      ap (λ t. b ∷ t) (k d refl) ∙ ap (λ (d : List ℕ × List ℕ). d.0 ++ 58 ∷ d.1) is
  by false s None k q = absurd (none-some c q)

-- one of a list that passes a test
one_of : {A : Type 0} (test : A → Bool) (xs : List A) → list_any test xs ≡ true → (x : A) × In x xs × (test x ≡ true)
one_of test [] e = absurd (true≢false (sym e))
one_of {A = A} test (x ∷ xs) e = by (test x) refl e (one_of test xs) where
  by : (t : Bool) → test x ≡ t → (t || list_any test xs) ≡ true → (list_any test xs ≡ true → (y : A) × In y xs × (test y ≡ true))
      → (y : A) × In y (x ∷ xs) × (test y ≡ true)
  by true q h rest = (x, here, q)
  by false q h rest = let r = rest h in (r.0, there r.1, r.2)

-- a lane of this name and type, and one of this name, is among those handed in
has_pair : (lanes : List LaneName) (name kind : List ℕ) → is_handed_in lanes name kind ≡ true
    → (l : LaneName) × In l lanes × (l.0 ≡ name) × (l.1 ≡ kind)
has_pair lanes name kind e =
    let r = one_of (λ (l : LaneName). bytes_eq name l.0 && bytes_eq kind l.1) lanes e in (
      r.0,
      r.1,
      sym ((bytes_eq-Decides name r.0.0).0 (first_so (bytes_eq name r.0.0) (bytes_eq kind r.0.1) r.2)),
      sym ((bytes_eq-Decides kind r.0.1).0 (second_so (bytes_eq name r.0.0) (bytes_eq kind r.0.1) r.2)),
    )

has_name : (lanes : List LaneName) (name : List ℕ) → is_named lanes name ≡ true → (l : LaneName) × In l lanes × (l.0 ≡ name)
has_name lanes name e = let r = one_of (λ (l : LaneName). bytes_eq name l.0) lanes e in (r.0, r.1, sym ((bytes_eq-Decides name r.0.0).0 r.2))

module _ {A : Type 0} (serves : A → Bool) (name : A → List ℕ) where
  abbrev or_lacking : Option (List ℕ) → A → Option (List ℕ)
  or_lacking best a = cond (serves a) best (least_by (λ n. n) best (name a))

  all_served : (best : Option (List ℕ)) (xs : List A) → fold or_lacking best xs ≡ None → (best ≡ None) × ((a : A) → In a xs → serves a ≡ true)
  all_served best [] e = (e, λ a i. elim i [ ])
  all_served best (x ∷ xs) e = by (serves x) refl (all_served (or_lacking best x) xs e) where
    by : (t : Bool) → serves x ≡ t → (cond t best (least_by (λ n. n) best (name x)) ≡ None) × ((a : A) → In a xs → serves a ≡ true)
        → (best ≡ None) × ((a : A) → In a (x ∷ xs) → serves a ≡ true)
    by true s (q, rest) = (q, each) where
      each : (a : A) → In a (x ∷ xs) → serves a ≡ true
      each a here = s
      each a (there i) = rest a i
    by false s (q, rest) = absurd (lesser_some (λ n. n) best (name x) q)

-- each resource and each open call of a stack has its lane
module _ (lanes : List LaneName) where
  pub named_lane : (h : Held) → serves_held lanes h ≡ true → IsNamedLane lanes h.physical h.kind
  named_lane h e = by (cut_at (58 ∷ []) h.physical) refl e where
    by : (o : Option (List ℕ × List ℕ)) → cut_at (58 ∷ []) h.physical ≡ o → option_map_or (λ c. is_handed_in lanes c.0 h.kind) o false ≡ true
        → IsNamedLane lanes h.physical h.kind
    by None s q = absurd (true≢false (sym q))
    by (Some c) s q =
        let p = has_pair lanes c.0 h.kind q in
        (p.0, p.1, (c.1, cut_whole h.physical c s ∙ ap (λ (n : List ℕ). n ++ 58 ∷ c.1) (sym p.2)), p.3)

  pub call_lane : (lane : List ℕ) (r : Request) → serves_request lanes lane r ≡ true → (l : LaneName) × In l lanes × ((l.0 ≡ lane) × IsKindFor r l.1)
  call_lane lane (request.Create kind props) e = let p = has_pair lanes lane kind e in (p.0, p.1, (p.2, p.3))
  call_lane lane (request.Update physical props) e = let p = has_name lanes lane e in (p.0, p.1, (p.2, tt))
  call_lane lane (request.Delete physical) e = let p = has_name lanes lane e in (p.0, p.1, (p.2, tt))

  stack_served : (best : Option (List ℕ)) (s : StackState) → missing_in lanes best s ≡ None → (best ≡ None) × HasLanes lanes s
  stack_served best s e =
      let calls = all_served (serves_call lanes) (λ p. p.lane) (fold (or_missing_held lanes) (fold (or_missing_held lanes) best s.held) s.made) s.tokens e in
      let made = all_served (serves_held lanes) (λ h. before_colon h.physical) (fold (or_missing_held lanes) best s.held) s.made calls.0 in
      let held = all_served (serves_held lanes) (λ h. before_colon h.physical) best s.held made.0 in
      (held.0, (resources held.1 made.1, λ p i. call_lane p.lane p.request (calls.1 p i))) where
        resources : ((h : Held) → In h s.held → serves_held lanes h ≡ true) → ((h : Held) → In h s.made → serves_held lanes h ≡ true)
            → (r : Held) → In r (resources_of s) → IsNamedLane lanes r.physical r.kind
        resources held made r i = elim (in_either r s.held s.made i) [
          | inl j ↦ named_lane r (held r j)
          | inr j ↦ named_lane r (made r j)
        ]

  abbrev or_missing : Option (List ℕ) → List ℕ × StackState → Option (List ℕ)
  or_missing best s = missing_in lanes best s.1

  all_have :
      (best : Option (List ℕ)) (ss : List (List ℕ × StackState)) → fold or_missing best ss ≡ None
      → (best ≡ None) × ((name : List ℕ) (s : StackState) → value_at name ss ≡ Some s → HasLanes lanes s)
  all_have best [] e = (e, λ name s q. absurd (none-some s q))
  all_have best (t ∷ ss) e = both (all_have (or_missing best t) ss e) where
    both : (or_missing best t ≡ None) × ((name : List ℕ) (s : StackState) → value_at name ss ≡ Some s → HasLanes lanes s)
        → (best ≡ None) × ((name : List ℕ) (s : StackState) → value_at name (t ∷ ss) ≡ Some s → HasLanes lanes s)
    both (q, rest) = (first.0, each) where
      first : (best ≡ None) × HasLanes lanes t.1
      first = stack_served best t.1 q

      each : (name : List ℕ) (s : StackState) → value_at name (t ∷ ss) ≡ Some s → HasLanes lanes s
      each name s r = by (bytes_eq name t.0) r where
        by : (b : Bool) → cond b (Some t.1) (value_at name ss) ≡ Some s → HasLanes lanes s
        by true k = let same : t.1 ≡ s = cc in subst (HasLanes lanes) same first.1
        by false k = rest name s k

  pub may_open : (x : World) → missing lanes x ≡ None → MayOpen x [] (x.epoch + 1) lanes
  may_open x e = (refl, refl, (all_have None x.stacks e).1)

-- no two of the names are one
pub names_apart : (lanes : List LaneName) → twice lanes ≡ None → all_differ bytes_eq (map (λ (l : LaneName). l.0) lanes) ≡ true
names_apart [] e = refl
names_apart (l ∷ ls) e = by (is_named ls l.0) refl e (names_apart ls) where
  named_so : (ms : List LaneName) → is_named ms l.0 ≡ list_any (bytes_eq l.0) (map (λ (m : LaneName). m.0) ms)
  named_so [] = refl
  named_so (m ∷ ms) = ap (λ b. bytes_eq l.0 m.0 || b) (named_so ms)

  by : (b : Bool) → is_named ls l.0 ≡ b → cond b (Some l.0) (twice ls) ≡ None
      → (twice ls ≡ None → all_differ bytes_eq (map (λ (m : LaneName). m.0) ls) ≡ true) → all_differ bytes_eq (map (λ (m : LaneName). m.0) (l ∷ ls)) ≡ true
  by true q h rest = absurd (none-some l.0 (sym h))
  by false q h rest = ap (λ b. not b && all_differ bytes_eq (map (λ (m : LaneName). m.0) ls)) (sym (named_so ls) ∙ q) ∙ rest h

-- nor of the lanes that are handed in
pub labels_are : (ls : List LaneNow) → map (λ (n : LaneName). n.0) (names_of ls) ≡ map (λ (l : LaneNow). l.name) ls
labels_are [] = refl
labels_are (l ∷ ls) = ap (λ ns. l.name ∷ ns) (labels_are ls)

pub lanes_apart : (ls : List LaneNow) → twice (names_of ls) ≡ None → all_differ bytes_eq (map (λ (l : LaneNow). l.name) ls) ≡ true
lanes_apart ls e = subst (λ ns. all_differ bytes_eq ns ≡ true) (labels_are ls) (names_apart (names_of ls) e)

-- all have the names of lanes
pub named_so : (ls : List LaneNow) → list_all (λ (l : LaneNow). is_lane_name l.name) ls ≡ true → list_all (λ (n : LaneName). is_lane_name n.0) (names_of ls) ≡ true
named_so ls h = same ls ∙ h where
  same : (ls : List LaneNow) → list_all (λ (n : LaneName). is_lane_name n.0) (names_of ls) ≡ list_all (λ (l : LaneNow). is_lane_name l.name) ls
  same [] = refl
  same (l ∷ ls) = ap (λ b. is_lane_name l.name && b) (same ls)
