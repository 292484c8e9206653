-- What a list of resources shows of a path is the resource that it holds there; what the resources of some paths show of these
-- is what all show.
use Rattle.std.proofs.Common.{◌≡◌, ℕ, List, [], ◌∷◌, ◌++◌, Bool, true, false, not, ◌&&◌, ◌||◌, Option, Some, None, refl, sym, ap, ◌∙◌, filter, map, option_map, true≢false}
use Rattle.std.specs.Prelude.{cond}
use Rattle.std.specs.List.{cons_option, filter_map}
use Rattle.std.specs.Option.{option_or}
use Rattle.std.specs.Str.{bytes_eq}
use Rattle.cf_tree.specs.Keys.{value_at, put}
use Rattle.cf_tree.specs.Lists.{is_among}
use Rattle.std.proofs.lemmas.Bool.{and_parts, not-true}
use Rattle.std.proofs.lemmas.List.Folds.{find-append}
use Rattle.std.proofs.lemmas.Option.{none-some, same_Some}
use Rattle.std.proofs.lemmas.Slice.Eq.{bytes_eq-Decides}
use Rattle.cf_effect.specs.declared.held.Held.{Held}
use Rattle.cf_effect.specs.Words.{current_at, is_current_at, resource_at}
use Rattle.cf_effect.specs.Begin.{seen_in, seen_as_held, shown_under}
use Rattle.cf_effect.specs.End.{seen_now}
use Rattle.cf_effect.specs.World.{StackState}
use Rattle.cf_desired.proofs.Puts.{value_put}
use Rattle.cf_desired.specs.Seeing.{Seen, SeenAt, by_names}

abbrev pub shown : Held → SeenAt
shown h = seen_as_held h

-- what is shown of a path is its resource
shown_with :
    (path : List ℕ) (h : Held) (seen : Seen) (o : Option Held) (a : Bool) → bytes_eq path h.path ≡ a → (gone : Bool) → value_at path seen ≡ option_map shown o
    → value_at path (cond (not gone) (put h.path (shown h) seen) seen) ≡ option_map shown (cond (a && not gone) (Some h) o)
shown_with path h seen o true k true e = e
shown_with path h seen o false k true e = e
shown_with path h seen o true k false e = value_put path h.path (shown h) seen ∙ ap (λ b. cond b (Some (shown h)) (value_at path seen)) k
shown_with path h seen o false k false e = value_put path h.path (shown h) seen ∙ ap (λ b. cond b (Some (shown h)) (value_at path seen)) k ∙ e

named_if : (b : Bool) (h : Held) (hs : List Held) → by_names (map shown_under (cond b (h ∷ hs) hs)) ≡ cond b (put h.path (shown h) (by_names (map shown_under hs))) (by_names (map shown_under hs))
named_if true h hs = refl
named_if false h hs = refl

pub shown_at : (path : List ℕ) (hs : List Held) → value_at path (seen_in hs) ≡ option_map shown (current_at path hs)
shown_at path [] = refl
shown_at path (h ∷ hs) =
    ap (value_at path) (named_if (not h.superseded) h (filter (λ x. not x.superseded) hs))
    ∙ shown_with path h (seen_in hs) (current_at path hs) (bytes_eq path h.path) refl h.superseded (shown_at path hs)

-- of two lists the first counts, so what is shown now of a path is its resource
pub shown_now : (path : List ℕ) (s : StackState) → value_at path (seen_now s) ≡ option_map seen_as_held (resource_at path s)
shown_now path s = shown_at path (s.made ++ s.held) ∙ ap (option_map seen_as_held) (find-append (is_current_at path) s.made s.held)

found_current : (path : List ℕ) (hs : List Held) (h : Held) → current_at path hs ≡ Some h → is_current_at path h ≡ true
found_current path [] h e = absurd (none-some h e)
found_current path (x ∷ hs) h e = by (is_current_at path x) refl e (found_current path hs h) where
  by : (b : Bool) → is_current_at path x ≡ b → cond b (Some x) (current_at path hs) ≡ Some h → (current_at path hs ≡ Some h → is_current_at path h ≡ true) → is_current_at path h ≡ true
  by true c g f = ap (is_current_at path) (sym (same_Some x h g)) ∙ c
  by false c g f = f g

pub is_current : (path : List ℕ) (s : StackState) (h : Held) → resource_at path s ≡ Some h → is_current_at path h ≡ true
is_current path s h e = by (current_at path s.made) refl e where
  by : (o : Option Held) → current_at path s.made ≡ o → option_or o (current_at path s.held) ≡ Some h → is_current_at path h ≡ true
  by None c g = found_current path s.held h g
  by (Some x) c g = found_current path s.made h (c ∙ g)

pub path_of_current : (path : List ℕ) (h : Held) → is_current_at path h ≡ true → path ≡ h.path
path_of_current path h e = (bytes_eq-Decides path h.path).0 (and_parts (bytes_eq path h.path) (not h.superseded) e).0

pub stands_of_current : (path : List ℕ) (h : Held) → is_current_at path h ≡ true → h.superseded ≡ false
stands_of_current path h e = not-true h.superseded (and_parts (bytes_eq path h.path) (not h.superseded) e).1

module _ (s : StackState) where
  abbrev R : List ℕ → Option Held
  R p = resource_at p s

  -- none of them is superseded
  all_stand : (ps : List (List ℕ)) → filter (λ h. not h.superseded) (filter_map R ps) ≡ filter_map R ps
  all_stand [] = refl
  all_stand (p ∷ ps) = by (R p) refl (all_stand ps) where
    by : (o : Option Held) → R p ≡ o → filter (λ h. not h.superseded) (filter_map R ps) ≡ filter_map R ps
        → filter (λ h. not h.superseded) (cons_option o (filter_map R ps)) ≡ cons_option o (filter_map R ps)
    by None e g = g
    by (Some h) e g =
        ap (λ b. cond (not b) (h ∷ filter (λ x. not x.superseded) (filter_map R ps)) (filter (λ x. not x.superseded) (filter_map R ps))) (stands_of_current p h (is_current p s h e))
        ∙ ap (λ l. h ∷ l) g

  module _ (q : List ℕ) where
    -- one that is current at q is q's
    only_own : (p : List ℕ) (h : Held) → R p ≡ Some h → is_current_at q h ≡ true → R q ≡ Some h
    only_own p h e c = ap R (path_of_current q h c ∙ sym (path_of_current p h (is_current p s h e))) ∙ e

    none_shown : R q ≡ None → (ps : List (List ℕ)) → current_at q (filter_map R ps) ≡ None
    none_shown n [] = refl
    none_shown n (p ∷ ps) = by (R p) refl (none_shown n ps) where
      inner : (h : Held) → R p ≡ Some h → (b : Bool) → is_current_at q h ≡ b → current_at q (filter_map R ps) ≡ None → cond b (Some h) (current_at q (filter_map R ps)) ≡ None
      inner h e true c g = absurd (none-some h (sym n ∙ only_own p h e c))
      inner h e false c g = g

      by : (o : Option Held) → R p ≡ o → current_at q (filter_map R ps) ≡ None → current_at q (cons_option o (filter_map R ps)) ≡ None
      by None e g = g
      by (Some h) e g = inner h e (is_current_at q h) refl g

    one_shown : (ps : List (List ℕ)) → is_among q ps ≡ true → current_at q (filter_map R ps) ≡ R q
    one_shown [] a = absurd (true≢false (sym a))
    one_shown (p ∷ ps) a = by (R p) refl (bytes_eq q p) refl a (one_shown ps) where
      inner : (h : Held) → R p ≡ Some h → (e : Bool) → bytes_eq q p ≡ e → (e || is_among q ps) ≡ true → (is_among q ps ≡ true → current_at q (filter_map R ps) ≡ R q)
          → (b : Bool) → is_current_at q h ≡ b → cond b (Some h) (current_at q (filter_map R ps)) ≡ R q
      inner h i e d among f true c = sym (only_own p h i c)
      inner h i true d among f false c = absurd (true≢false (sym (ap (λ z. is_current_at z h) ((bytes_eq-Decides q p).0 d) ∙ is_current p s h i) ∙ c))
      inner h i false d among f false c = f among

      by : (o : Option Held) → R p ≡ o → (e : Bool) → bytes_eq q p ≡ e → (e || is_among q ps) ≡ true → (is_among q ps ≡ true → current_at q (filter_map R ps) ≡ R q)
          → current_at q (cons_option o (filter_map R ps)) ≡ R q
      by None i true d among f =
          let none : R q ≡ None = ap R ((bytes_eq-Decides q p).0 d) ∙ i in
          none_shown none ps ∙ sym none
      by None i false d among f = f among
      by (Some h) i e d among f = inner h i e d among f (is_current_at q h) refl

    -- what the resources of some paths show of one of these
    pub needs_shown : (ps : List (List ℕ)) → is_among q ps ≡ true → value_at q (by_names (map shown_under (filter_map (λ p. resource_at p s) ps))) ≡ value_at q (seen_now s)
    needs_shown ps a =
        ap (λ hs. value_at q (by_names (map shown_under hs))) (sym (all_stand ps)) ∙ shown_at q (filter_map R ps) ∙ ap (option_map shown) (one_shown ps a) ∙ sym (shown_now q s)
