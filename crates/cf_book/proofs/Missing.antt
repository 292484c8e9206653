-- The lane that the test of an opening finds missing is the first one that a stack needs and that is not handed in.
use Rattle.std.proofs.Common.{◌≡◌, inl, inr, ℕ, ◌==◌, Bool, true, false, not, ◌&&◌, List, [], ◌∷◌, ◌++◌, Option, Some, None, length, map, filter, option_map, refl, ap, sym, ◌∙◌, subst, cond, true≢false, take, nat_eq}
use Rattle.std.specs.Prelude.{fold, nat_le}
use Rattle.std.proofs.lemmas.Bool.{eqb-true}
use Rattle.std.proofs.lemmas.Slice.Eq.{bytes_eq-Decides}
use Rattle.std.specs.List.{flat_map, list_all, starts_with}
use Rattle.std.specs.Option.{option_map_or}
use Rattle.std.specs.Cmp.{first_so, second_so}
use Rattle.std.specs.Str.{bytes_eq}
use Rattle.std.proofs.lemmas.List.Sums.{fold-append}
use Rattle.cf_funcs.specs.Pieces.{cut_at}
use Rattle.cf_tree.specs.Lists.{In, here, least_by, there}
use Rattle.cf_tree.specs.declared.request.Request.{Request}
use Rattle.cf_tree.specs.declared.request.Request.TheVariants as request
use Rattle.cf_agree.specs.Base.{lane_of}
use Rattle.cf_handler.specs.Name.{is_lane_name, is_name_byte}
use Rattle.cf_handler.specs.Move.{IsKindFor}
use Rattle.cf_effect.specs.declared.held.Held.{Held}
use Rattle.cf_effect.specs.declared.held.Pending.{Pending}
use Rattle.cf_effect.specs.World.{StackState, World}
use Rattle.cf_plan.specs.Follow.{IsNamedLane}
use Rattle.cf_plan.proofs.Causing.{in_either, in_left, in_right, map_in}
use Rattle.cf_plan.proofs.Least.{least_in, least_low}
use Rattle.cf_plan.proofs.Listed.{in_cons, in_map, same_bytes}
use Rattle.cf_plan.proofs.Members.{any_in}
use Rattle.cf_plan.proofs.RunLists.{in_kept}
use Rattle.cf_book.specs.Opening.{IsFirstMissing, LacksLane, LaneName, before_colon, is_handed_in, missing, missing_in, serves_call, serves_held, serves_request}
use Rattle.cf_book.proofs.Opened.{call_lane, named_lane}

-- where a text begins with a colon
is_colon : (b : ℕ) (bs : List ℕ) → starts_with nat_eq (b ∷ bs) (58 ∷ []) ≡ true → b ≡ 58
is_colon b bs s = let at_front : take 1 (b ∷ bs) ≡ 58 ∷ [] = sym ((bytes_eq-Decides (58 ∷ []) (take 1 (b ∷ bs))).0 s) in cc

no_colon : (b : ℕ) (bs : List ℕ) → starts_with nat_eq (b ∷ bs) (58 ∷ []) ≡ false → (b == 58) ≡ false
no_colon b bs s = by (b == 58) refl where
  by : (t : Bool) → (b == 58) ≡ t → t ≡ false
  by true k = absurd (true≢false (subst (λ c. starts_with nat_eq (c ∷ bs) (58 ∷ []) ≡ false) (eqb-true b 58 k) s))
  by false k = refl

-- a lane's name has no colon: an id that begins with it and a colon is cut there
abbrev cut_more : ℕ → Option (List ℕ × List ℕ) → Option (List ℕ × List ℕ)
cut_more b o = option_map (λ (cut : List ℕ × List ℕ). (b ∷ cut.0, cut.1)) o

abbrev cut_here : List ℕ → Option (List ℕ × List ℕ)
cut_here bs = Some ([], bs)

cut_named : (n rest : List ℕ) → list_all is_name_byte n ≡ true → cut_at (58 ∷ []) (n ++ 58 ∷ rest) ≡ Some (n, rest)
cut_named [] rest h = refl
cut_named (b ∷ n) rest h =
    by (starts_with nat_eq (b ∷ n ++ 58 ∷ rest) (58 ∷ [])) refl (cut_named n rest (second_so (is_name_byte b) (list_all is_name_byte n) h))
  where
    by : (t : Bool) → starts_with nat_eq (b ∷ n ++ 58 ∷ rest) (58 ∷ []) ≡ t → cut_at (58 ∷ []) (n ++ 58 ∷ rest) ≡ Some (n, rest)
        → cond t (cut_here (n ++ 58 ∷ rest)) (cut_more b (cut_at (58 ∷ []) (n ++ 58 ∷ rest))) ≡ Some (b ∷ n, rest)
    by true k q =
        absurd (true≢false (sym (subst (λ c. is_name_byte c ≡ true) (is_colon b (n ++ 58 ∷ rest) k) (first_so (is_name_byte b) (list_all is_name_byte n) h))))
    by false k q = ap (cut_more b) q

-- what stands before the colon is the lane of the id
abbrev front : Option (List ℕ × List ℕ) → List ℕ → List ℕ
front o id = option_map_or (λ (c : List ℕ × List ℕ). c.0) o id

pub colon_same : (i : List ℕ) → before_colon i ≡ lane_of i
colon_same [] = refl
colon_same (b ∷ i) = by (starts_with nat_eq (b ∷ i) (58 ∷ [])) refl (cut_at (58 ∷ []) i) (colon_same i) where
  by : (t : Bool) → starts_with nat_eq (b ∷ i) (58 ∷ []) ≡ t → (o : Option (List ℕ × List ℕ)) → front o i ≡ lane_of i
      → front (cond t (cut_here i) (cut_more b o)) (b ∷ i) ≡ cond (b == 58) [] (b ∷ lane_of i)
  by true s o q = ap (λ (n : ℕ). cond (n == 58) [] (b ∷ lane_of i)) (sym (is_colon b i s))
  by false s (Some c) q = ap (λ xs. b ∷ xs) q ∙ ap (λ t. cond t [] (b ∷ lane_of i)) (sym (no_colon b i s))
  by false s None q = ap (λ xs. b ∷ xs) q ∙ ap (λ t. cond t [] (b ∷ lane_of i)) (sym (no_colon b i s))

-- those of a list that are not served, by the names of their lanes; the least of these is what the test finds
module _ {A : Type 0} (serves : A → Bool) (name : A → List ℕ) where
  abbrev lacking : List A → List (List ℕ)
  lacking xs = map name (filter (λ a. not (serves a)) xs)

  as_least : (best : Option (List ℕ)) (xs : List A)
      → fold (λ b a. cond (serves a) b (least_by (λ n. n) b (name a))) best xs ≡ fold (least_by (λ n. n)) best (lacking xs)
  as_least best [] = refl
  as_least best (x ∷ xs) = by (serves x) (as_least (cond (serves x) best (least_by (λ n. n) best (name x))) xs) where
    by : (t : Bool)
        → fold (λ b a. cond (serves a) b (least_by (λ n. n) b (name a))) (cond t best (least_by (λ n. n) best (name x))) xs
        ≡ fold (least_by (λ n. n)) (cond t best (least_by (λ n. n) best (name x))) (lacking xs)
        → fold (λ b a. cond (serves a) b (least_by (λ n. n) b (name a))) (cond t best (least_by (λ n. n) best (name x))) xs
        ≡ fold (least_by (λ n. n)) best (map name (cond (not t) (x ∷ filter (λ a. not (serves a)) xs) (filter (λ a. not (serves a)) xs)))
    by true h = h
    by false h = h

  from_filter : (xs : List A) (a : A) → In a (filter (λ a. not (serves a)) xs) → In a xs × (serves a ≡ false)
  from_filter [] a i = elim i [ ]
  from_filter (x ∷ xs) a i = by (serves x) refl i (from_filter xs a) where
    by : (t : Bool) → serves x ≡ t → In a (cond (not t) (x ∷ filter (λ a. not (serves a)) xs) (filter (λ a. not (serves a)) xs))
        → (In a (filter (λ a. not (serves a)) xs) → In a xs × (serves a ≡ false)) → In a (x ∷ xs) × (serves a ≡ false)
    by true s i rest = let (j, k) = rest i in (there j, k)
    by false s i rest = elim (in_cons i) [
      | inl e ↦ (subst (λ z. In a (z ∷ xs)) (sym e) here, ap serves (sym e) ∙ s)
      | inr j ↦ (let (k, l) = rest j in (there k, l))
    ]

  lacks_one : (xs : List A) (n : List ℕ) → In n (lacking xs) → (a : A) × In a xs × (serves a ≡ false) × (name a ≡ n)
  lacks_one xs n i =
      let (a, j, e) = map_in name n (filter (λ a. not (serves a)) xs) i in
      let (k, s) = from_filter xs a j in
      (a, k, s, e)

  one_lacks : (xs : List A) (a : A) → In a xs → serves a ≡ false → In (name a) (lacking xs)
  one_lacks xs a i s = in_map name a (filter (λ a. not (serves a)) xs) (in_kept (λ a. not (serves a)) xs a i (ap not s))

module _ (lanes : List LaneName) where
  -- those of the resources that are held, of those that are made, and of the open calls
  abbrev of_held : StackState → List (List ℕ)
  of_held s = lacking (serves_held lanes) (λ h. before_colon h.physical) s.held

  abbrev of_made : StackState → List (List ℕ)
  of_made s = lacking (serves_held lanes) (λ h. before_colon h.physical) s.made

  abbrev of_calls : StackState → List (List ℕ)
  of_calls s = lacking (serves_call lanes) (λ p. p.lane) s.tokens

  abbrev lacking_in : StackState → List (List ℕ)
  lacking_in s = (of_held s ++ of_made s) ++ of_calls s

  stack_least : (best : Option (List ℕ)) (s : StackState) → missing_in lanes best s ≡ fold (least_by (λ n. n)) best (lacking_in s)
  stack_least best s =
      let helds = as_least (serves_held lanes) (λ (h : Held). before_colon h.physical) in
      let both : fold (least_by (λ n. n)) (fold (least_by (λ n. n)) best (of_held s)) (of_made s) ≡ fold (least_by (λ n. n)) best (of_held s ++ of_made s) =
      sym (fold-append (least_by (λ n. n)) best (of_held s) (of_made s)) in
      as_least (serves_call lanes) (λ (p : Pending). p.lane) _ s.tokens
      ∙ ap (λ b. fold (least_by (λ n. n)) b (of_calls s))
      (helds _ s.made ∙ ap (λ b. fold (least_by (λ n. n)) b (of_made s)) (helds best s.held) ∙ both)
      ∙ sym (fold-append (least_by (λ n. n)) best (of_held s ++ of_made s) (of_calls s))

  all_least : (best : Option (List ℕ)) (ss : List (List ℕ × StackState))
      → fold (λ b (s : List ℕ × StackState). missing_in lanes b s.1) best ss ≡ fold (least_by (λ n. n)) best (flat_map (λ s. lacking_in s.1) ss)
  all_least best [] = refl
  all_least best (s ∷ ss) =
      ap (λ b. fold (λ b (s : List ℕ × StackState). missing_in lanes b s.1) b ss) (stack_least best s.1)
      ∙ all_least (fold (least_by (λ n. n)) best (lacking_in s.1)) ss
      ∙ sym (fold-append (least_by (λ n. n)) best (lacking_in s.1) (flat_map (λ s. lacking_in s.1) ss))

  module _ (named : list_all (λ (l : LaneName). is_lane_name l.0) lanes ≡ true) where
    name_bytes : (ls : List LaneName) → list_all (λ (l : LaneName). is_lane_name l.0) ls ≡ true → (l : LaneName) → In l ls → list_all is_name_byte l.0 ≡ true
    name_bytes [] h l i = elim i [ ]
    name_bytes (k ∷ ls) h l i = elim (in_cons i) [
      | inl e ↦ (let first = first_so (is_lane_name k.0) (list_all (λ (l : LaneName). is_lane_name l.0) ls) h in
          subst (λ (z : LaneName). list_all is_name_byte z.0 ≡ true) e
          (second_so (nat_le (length k.0) 64) _ (second_so (nat_le 1 (length k.0)) _ first)))
      | inr j ↦ name_bytes ls (second_so (is_lane_name k.0) (list_all (λ (l : LaneName). is_lane_name l.0) ls) h) l j
    ]

    held_served : (h : Held) → IsNamedLane lanes h.physical h.kind → serves_held lanes h ≡ true
    held_served h (l, i, (rest, is), kind) =
        ap (λ o. option_map_or (λ (c : List ℕ × List ℕ). is_handed_in lanes c.0 h.kind) o false)
        (ap (cut_at (58 ∷ [])) is ∙ cut_named l.0 rest (name_bytes lanes named l i))
        ∙ any_in (λ (k : LaneName). bytes_eq l.0 k.0 && bytes_eq h.kind k.1) l lanes i
        (rw (same_bytes l.0) (subst (λ k. bytes_eq k l.1 ≡ true) kind (same_bytes l.1)))

    request_served : (lane : List ℕ) (r : Request) → ((l : LaneName) × In l lanes × ((l.0 ≡ lane) × IsKindFor r l.1)) → serves_request lanes lane r ≡ true
    request_served lane (request.Create kind props) (l, i, (is, of_kind)) =
        any_in (λ (k : LaneName). bytes_eq lane k.0 && bytes_eq kind k.1) l lanes i
        (rw (subst (λ n. bytes_eq n l.0 ≡ true) is (same_bytes l.0)) (subst (λ k. bytes_eq kind k ≡ true) (sym of_kind) (same_bytes kind)))
    request_served lane (request.Update physical props) (l, i, (is, of_kind)) =
        any_in (λ (k : LaneName). bytes_eq lane k.0) l lanes i (subst (λ n. bytes_eq n l.0 ≡ true) is (same_bytes l.0))
    request_served lane (request.Delete physical) (l, i, (is, of_kind)) =
        any_in (λ (k : LaneName). bytes_eq lane k.0) l lanes i (subst (λ n. bytes_eq n l.0 ≡ true) is (same_bytes l.0))

    unserved : {b : Bool} → b ≡ false → b ≡ true → ⊥
    unserved f t = true≢false (sym t ∙ f)

    served : (b : Bool) → (b ≡ true → ⊥) → b ≡ false
    served true h = absurd (h refl)
    served false h = refl

    -- a stack lacks just the lanes that are not served
    lacks : (s : StackState) (n : List ℕ) → In n (lacking_in s) → LacksLane lanes s n
    lacks s n i =
        elim (in_either n (of_held s ++ of_made s) (of_calls s) i) [
          | inl j ↦ elim (in_either n (of_held s) (of_made s) j) [
            | inl k ↦ (let (h, at, unmet, is) = lacks_one (serves_held lanes) (λ (h : Held). before_colon h.physical) s.held n k in
                inl (h, in_left h s.held s.made at, (λ l. unserved unmet (held_served h l)), sym is ∙ colon_same h.physical))
            | inr k ↦ (let (h, at, unmet, is) = lacks_one (serves_held lanes) (λ (h : Held). before_colon h.physical) s.made n k in
                inl (h, in_right h s.held s.made at, (λ l. unserved unmet (held_served h l)), sym is ∙ colon_same h.physical))
          ]
          | inr j ↦ (let (p, at, unmet, is) = lacks_one (serves_call lanes) (λ (p : Pending). p.lane) s.tokens n j in
              inr (p, at, (λ l. unserved unmet (request_served p.lane p.request l)), sym is))
        ]

    is_lacking : (s : StackState) (n : List ℕ) → LacksLane lanes s n → In n (lacking_in s)
    is_lacking s n (inl (h, i, lacked, is)) =
        let unmet = served (serves_held lanes h) (λ t. lacked (named_lane lanes h t)) in
        subst (λ m. In m (lacking_in s)) (colon_same h.physical ∙ sym is)
        (in_left (before_colon h.physical) (of_held s ++ of_made s) (of_calls s) (elim (in_either h s.held s.made i) [
          | inl j ↦ in_left (before_colon h.physical) (of_held s) (of_made s) (one_lacks (serves_held lanes) (λ (h : Held). before_colon h.physical) s.held h j unmet)
          | inr j ↦ in_right (before_colon h.physical) (of_held s) (of_made s) (one_lacks (serves_held lanes) (λ (h : Held). before_colon h.physical) s.made h j unmet)
        ]))
    is_lacking s n (inr (p, i, lacked, is)) =
        subst (λ m. In m (lacking_in s)) (sym is)
        (in_right p.lane (of_held s ++ of_made s) (of_calls s) (one_lacks (serves_call lanes) (λ (p : Pending). p.lane) s.tokens p i
        (served (serves_call lanes p) (λ t. lacked (call_lane lanes p.lane p.request t)))))

    in_flat : (ss : List (List ℕ × StackState)) (n : List ℕ) → In n (flat_map (λ s. lacking_in s.1) ss)
        → (s : List ℕ × StackState) × In s ss × In n (lacking_in s.1)
    in_flat [] n i = elim i [ ]
    in_flat (s ∷ ss) n i = elim (in_either n (lacking_in s.1) (flat_map (λ s. lacking_in s.1) ss) i) [
      | inl j ↦ (s, here, j)
      | inr j ↦ (let (t, k, l) = in_flat ss n j in (t, there k, l))
    ]

    flat_in : (ss : List (List ℕ × StackState)) (s : List ℕ × StackState) (n : List ℕ) → In s ss → In n (lacking_in s.1)
        → In n (flat_map (λ s. lacking_in s.1) ss)
    flat_in [] s n i j = elim i [ ]
    flat_in (t ∷ ss) s n i j = elim (in_cons i) [
      | inl e ↦ in_left n (lacking_in t.1) (flat_map (λ s. lacking_in s.1) ss) (subst (λ (z : List ℕ × StackState). In n (lacking_in z.1)) (sym e) j)
      | inr k ↦ in_right n (lacking_in t.1) (flat_map (λ s. lacking_in s.1) ss) (flat_in ss s n k j)
    ]

    pub first_missing : (x : World) (name : List ℕ) → missing lanes x ≡ Some name → IsFirstMissing lanes x name
    first_missing x name e =
        let found : fold (least_by (λ n. n)) None (flat_map (λ s. lacking_in s.1) x.stacks) ≡ Some name = sym (all_least None x.stacks) ∙ e in
        let (s, i, j) = in_flat x.stacks name (least_in (λ n. n) (flat_map (λ s. lacking_in s.1) x.stacks) name found) in
        record {
          stack = s;
          there = i;
          lacks = lacks s.1 name j;
          first = λ other lane at l.
              least_low (λ n. n) (flat_map (λ s. lacking_in s.1) x.stacks) name found lane (flat_in x.stacks other lane at (is_lacking other.1 lane l));
        }
