-- What each resource of an order of work needs, and that the order holds each made one.
use Rattle.std.proofs.Common.{◌≡◌, ℕ, zero, suc, List, [], ◌∷◌, ◌++◌, Bool, true, false, ◌&&◌, ◌||◌, Option, Some, None, refl, sym, ap, ◌∙◌, true≢false, map, filter, fold, find, ◌⊎◌, inl, inr}
use Rattle.std.specs.Prelude.{⊤, cond, is_some, length, IfOk}
use Rattle.std.specs.Cmp.{second_so}
use Rattle.std.specs.Option.{option_map_or}
use Rattle.std.specs.Str.{bytes_eq}
use Rattle.std.proofs.lemmas.Slice.Eq.{bytes_eq-Decides}
use Rattle.std.proofs.lemmas.List.Folds.{list_any-append}
use Rattle.cf_tree.specs.Keys.{value_at, ascends_from}
use Rattle.cf_tree.specs.Named.{found}
use Rattle.cf_tree.specs.declared.bound.Verdict.{Verdict}
use Rattle.cf_tree.specs.declared.template.Res.{Res}
use Rattle.cf_tree.specs.declared.template.Template.{Template}
use Rattle.cf_tree.proofs.Lookups.{value_below}
use Rattle.cf_tree.specs.Lists.{is_among}
use Rattle.cf_template.proofs.Ordered.{under_names, AreOrdered}
use Rattle.cf_graph.specs.Needs.{is_made, referred_to, needs_in, all_needs, is_next, ordered, unknown_dependency, cycle_of, order_of, unless_unknown, needs_of}
use Rattle.cf_desired.specs.Shape.{put_name, in_order}
use Rattle.cf_desired.proofs.Puts.{value_put}

same_name : (k : List ℕ) → bytes_eq k k ≡ true
same_name k = (bytes_eq-Decides k k).1 refl

pub either_so : (a b : Bool) → b ≡ true → (a || b) ≡ true
either_so true b h = refl
either_so false b h = h

either_first : (a b : Bool) → a ≡ true → (a || b) ≡ true
either_first true b h = refl
either_first false b h = absurd (true≢false (sym h))

module _ (t : Template) (conds : List (List ℕ × Verdict)) where
  abbrev pub made_names : List Res → List (List ℕ)
  made_names rs = map (λ r. r.name) (filter (is_made conds) rs)

  -- each of these resources is the one of its name among all, and is among those that are made where it is
  abbrev AreFound : List Res → List Res → Type 0
  AreFound all [] = ⊤
  AreFound all (r ∷ rs) = ((found (λ x. x.name) r.name all ≡ Some r) × (is_made conds r ≡ true → is_among r.name (made_names all) ≡ true)) × AreFound all rs

  differ : (k : List ℕ) (r : Res) (rs : List Res) → value_at k (under_names (r ∷ rs)) ≡ None → (bytes_eq r.name k ≡ false) × (value_at k (under_names rs) ≡ None)
  differ k r rs h = by_name (bytes_eq k r.name) refl h where
    by_name : (b : Bool) → bytes_eq k r.name ≡ b → cond b (Some true) (value_at k (under_names rs)) ≡ None → (bytes_eq r.name k ≡ false) × (value_at k (under_names rs) ≡ None)
    by_name true e n = let no : ⊥ = cc in absurd no
    by_name false e n = (other (bytes_eq r.name k) refl, n) where
      other : (c : Bool) → bytes_eq r.name k ≡ c → bytes_eq r.name k ≡ false
      other false d = d
      other true d = absurd (true≢false (sym ((bytes_eq-Decides k r.name).1 (sym ((bytes_eq-Decides r.name k).0 d))) ∙ e))

  among_more : (b : Bool) (k : List ℕ) (x : Res) (rs : List Res) → is_among k (made_names rs) ≡ true → is_among k (map (λ r. r.name) (cond b (x ∷ filter (is_made conds) rs) (filter (is_made conds) rs))) ≡ true
  among_more true k x rs h = either_so (bytes_eq k x.name) _ h
  among_more false k x rs h = h

  -- they are found among one more, too
  found_behind : (x : Res) (all rs : List Res) → value_at x.name (under_names rs) ≡ None → AreFound all rs → AreFound (x ∷ all) rs
  found_behind x all [] n h = tt
  found_behind x all (r ∷ rs) n h =
      let d = differ x.name r rs n in (
        (
          ap (λ b. cond b (Some x) (found (λ y. y.name) r.name all)) d.0 ∙ h.0.0,
          λ m. among_more (is_made conds x) r.name x all (h.0.1 m),
        ),
        found_behind x all rs d.1 h.1,
      )

  tail_ordered : (x : Res) (rs : List Res) → ascends_from x.name (under_names rs) ≡ true → AreOrdered rs
  tail_ordered x [] h = refl
  tail_ordered x (r ∷ rs) h = second_so _ _ h

  pub each_found : (rs : List Res) → AreOrdered rs → AreFound rs rs
  each_found [] h = tt
  each_found (x ∷ rs) h = (
    (
      ap (λ b. cond b (Some x) (found (λ y. y.name) x.name rs)) (same_name x.name),
      λ m. ap (λ b. is_among x.name (map (λ r. r.name) (cond b (x ∷ filter (is_made conds) rs) (filter (is_made conds) rs)))) m
          ∙ either_first (bytes_eq x.name x.name) _ (same_name x.name),
    ),
    found_behind x rs rs (value_below x.name (under_names rs) h) (each_found rs (tail_ordered x rs h)),
  )

  -- what stands in an order of work: a made resource with what it needs
  abbrev pub HasNeeds : List ℕ × List (List ℕ) → Type 0
  HasNeeds m =
      (is_among m.0 (made_names t.resources) ≡ true)
      × ((r : Res) → found (λ x. x.name) m.0 t.resources ≡ Some r → m.1 ≡ needs_in t conds r)

  abbrev pub AllNeeds : List (List ℕ × List (List ℕ)) → Type 0
  AllNeeds [] = ⊤
  AllNeeds (m ∷ ms) = HasNeeds m × AllNeeds ms

  one_needs : (x : Res) → found (λ y. y.name) x.name t.resources ≡ Some x → (r : Res) → found (λ y. y.name) x.name t.resources ≡ Some r → needs_in t conds x ≡ needs_in t conds r
  one_needs x e r d = let both : Some x ≡ Some r = sym e ∙ d in let same : x ≡ r = cc in ap (needs_in t conds) same

  needs_all : (rs : List Res) → AreFound t.resources rs → AllNeeds (map (λ r. (r.name, needs_in t conds r)) (filter (is_made conds) rs))
  needs_all [] h = tt
  needs_all (x ∷ rs) h = by_made (is_made conds x) refl (needs_all rs h.1) where
    by_made :
        (b : Bool) → is_made conds x ≡ b → AllNeeds (map (λ r. (r.name, needs_in t conds r)) (filter (is_made conds) rs))
        → AllNeeds (map (λ r. (r.name, needs_in t conds r)) (cond b (x ∷ filter (is_made conds) rs) (filter (is_made conds) rs)))
    by_made true e ih = ((h.0.1 e, λ r d. one_needs x h.0.0 r d), ih)
    by_made false e ih = ih

  abbrev IfFound : Option (List ℕ × List (List ℕ)) → Type 0
  IfFound None = ⊤
  IfFound (Some m) = HasNeeds m

  found_needs : (test : List ℕ × List (List ℕ) → Bool) (ms : List (List ℕ × List (List ℕ))) → AllNeeds ms → IfFound (find test ms)
  found_needs test [] h = tt
  found_needs test (m ∷ ms) h = either (test m) (found_needs test ms h.1) where
    either : (b : Bool) → IfFound (find test ms) → IfFound (cond b (Some m) (find test ms))
    either true ih = h.0
    either false ih = ih

  needs_and : (ms : List (List ℕ × List (List ℕ))) (m : List ℕ × List (List ℕ)) → AllNeeds ms → HasNeeds m → AllNeeds (ms ++ m ∷ [])
  needs_and [] m h g = (g, tt)
  needs_and (x ∷ ms) m h g = (h.0, needs_and ms m h.1 g)

  ordered_needs : (left : ℕ) (all placed : List (List ℕ × List (List ℕ))) → AllNeeds all → AllNeeds placed → AllNeeds (ordered left all placed)
  ordered_needs zero all placed h g = g
  ordered_needs (suc left) all placed h g =
      by_next (find (is_next placed) all) (found_needs (is_next placed) all h) (λ m f. ordered_needs left all (placed ++ m ∷ []) h (needs_and placed m g f)) where
        by_next :
            (o : Option (List ℕ × List (List ℕ))) → IfFound o → ((m : List ℕ × List (List ℕ)) → HasNeeds m → AllNeeds (ordered left all (placed ++ m ∷ [])))
            → AllNeeds (option_map_or (λ r. ordered left all (placed ++ r ∷ [])) o placed)
        by_next None f ih = g
        by_next (Some m) f ih = ih m f

  pub order_needs : AreOrdered t.resources → IfOk (needs_of t conds) AllNeeds
  order_needs h = by_unknown (unknown_dependency t) where
    by_cycle : (o : Option (List (List ℕ))) → IfOk (order_of (all_needs t conds) o) AllNeeds
    by_cycle None = ordered_needs (length (all_needs t conds)) (all_needs t conds) [] (needs_all t.resources (each_found t.resources h)) tt
    by_cycle (Some c) = tt

    by_unknown : (o : Option (List ℕ × List ℕ)) → IfOk (unless_unknown o (order_of (all_needs t conds) (cycle_of (all_needs t conds)))) AllNeeds
    by_unknown None = by_cycle (cycle_of (all_needs t conds))
    by_unknown (Some x) = tt

  -- a made name that is referred to is needed
  named_needs :
      (name : List ℕ) (p : List ℕ → Bool) → p name ≡ true → (rs : List Res) → is_among name (made_names rs) ≡ true
      → is_among name (map (λ m. m.name) (filter (λ m. is_made conds m && p m.name) rs)) ≡ true
  named_needs name p h [] g = g
  named_needs name p h (m ∷ rs) g = by_made (is_made conds m) (bytes_eq name m.name) refl (p m.name) refl g (named_needs name p h rs) where
    by_made :
        (b c : Bool) → bytes_eq name m.name ≡ c → (d : Bool) → p m.name ≡ d
        → is_among name (map (λ r. r.name) (cond b (m ∷ filter (is_made conds) rs) (filter (is_made conds) rs))) ≡ true
        → (is_among name (made_names rs) ≡ true → is_among name (map (λ r. r.name) (filter (λ r. is_made conds r && p r.name) rs)) ≡ true)
        → is_among name (map (λ r. r.name) (cond (b && d) (m ∷ filter (λ r. is_made conds r && p r.name) rs) (filter (λ r. is_made conds r && p r.name) rs))) ≡ true
    by_made false c e d f g ih = ih g
    by_made true true e true f g ih = either_first (bytes_eq name m.name) _ e
    by_made true true e false f g ih = absurd (true≢false (sym h ∙ ap p ((bytes_eq-Decides name m.name).0 e) ∙ f))
    by_made true false e true f g ih = either_so (bytes_eq name m.name) _ (ih (ap (λ c. c || is_among name (made_names rs)) (sym e) ∙ g))
    by_made true false e false f g ih = ih (ap (λ c. c || is_among name (made_names rs)) (sym e) ∙ g)

  pub is_needed : (name : List ℕ) (r : Res) → is_among name (referred_to t conds r) ≡ true → is_among name (made_names t.resources) ≡ true → is_among name (needs_in t conds r) ≡ true
  is_needed name r h g = named_needs name (λ n. is_among n (referred_to t conds r)) h t.resources g

-- what is among names is among them in order
there_put : (q k : List ℕ) (all : List (List ℕ × Bool)) → (bytes_eq q k || is_some (value_at q all)) ≡ is_some (value_at q (put_name all k))
there_put q k all = by_name (bytes_eq q k) ∙ sym (ap is_some (value_put q k true all)) where
  by_name : (b : Bool) → (b || is_some (value_at q all)) ≡ is_some (cond b (Some true) (value_at q all))
  by_name true = refl
  by_name false = refl

there_fold : (q : List ℕ) (names : List (List ℕ)) (all : List (List ℕ × Bool)) → (is_some (value_at q all) ≡ true) ⊎ (is_among q names ≡ true) → is_some (value_at q (fold put_name all names)) ≡ true
there_fold q [] all (inl h) = h
there_fold q [] all (inr h) = absurd (true≢false (sym h))
there_fold q (k ∷ names) all (inl h) = there_fold q names (put_name all k) (inl (sym (there_put q k all) ∙ either_so (bytes_eq q k) _ h))
there_fold q (k ∷ names) all (inr h) = by_name (bytes_eq q k) refl h (there_fold q names (put_name all k)) where
  by_name :
      (b : Bool) → bytes_eq q k ≡ b → (b || is_among q names) ≡ true
      → ((is_some (value_at q (put_name all k)) ≡ true) ⊎ (is_among q names ≡ true) → is_some (value_at q (fold put_name (put_name all k) names)) ≡ true)
      → is_some (value_at q (fold put_name (put_name all k) names)) ≡ true
  by_name true e g ih = ih (inl (sym (there_put q k all) ∙ either_first (bytes_eq q k) _ e))
  by_name false e g ih = ih (inr g)

keys_among : (q : List ℕ) (ps : List (List ℕ × Bool)) → is_some (value_at q ps) ≡ is_among q (map (λ p. p.0) ps)
keys_among q [] = refl
keys_among q (p ∷ ps) = by_name (bytes_eq q p.0) (keys_among q ps) where
  by_name : (b : Bool) → is_some (value_at q ps) ≡ is_among q (map (λ x. x.0) ps) → is_some (cond b (Some p.1) (value_at q ps)) ≡ (b || is_among q (map (λ x. x.0) ps))
  by_name true ih = refl
  by_name false ih = ih

pub among_order : (q : List ℕ) (names : List (List ℕ)) → is_among q names ≡ true → is_among q (in_order names) ≡ true
among_order q names h = sym (keys_among q (fold put_name [] names)) ∙ there_fold q names [] (inr h)

pub among_first : (q : List ℕ) (xs ys : List (List ℕ)) → is_among q xs ≡ true → is_among q (xs ++ ys) ≡ true
among_first q xs ys h = list_any-append (λ n. bytes_eq q n) xs ys ∙ either_first (is_among q xs) (is_among q ys) h

pub among_second : (q : List ℕ) (xs ys : List (List ℕ)) → is_among q ys ≡ true → is_among q (xs ++ ys) ≡ true
among_second q xs ys h = list_any-append (λ n. bytes_eq q n) xs ys ∙ either_so (is_among q xs) (is_among q ys) h
