-- Rows of which those of one name are kept once, and what is noted of names by going through rows.
use Rattle.std.proofs.Common.{◌≡◌, ◌<◌, ◌+◌, arith, length, take, get_or, suc, ℕ, Bool, true, false, cond, ◌&&◌, ◌||◌, List, [], ◌∷◌, ◌++◌, Option, Some, None, is_some, refl, ap, sym, ◌∙◌, subst, true≢false}
use Rattle.std.specs.List.{list_any}
use Rattle.std.specs.Option.{option_or}
use Rattle.std.specs.Str.{bytes_eq}
use Rattle.std.proofs.lemmas.Slice.Eq.{bytes_eq-Decides}
use Rattle.std.proofs.Math.Seq.{take-suc}
use Rattle.cf_tree.specs.Keys.{value_at}
use Rattle.cf_graph.specs.Cycles.{StandAlike}
use Rattle.cf_graph.proofs.Placing.{value_at_push}

abbrev pub Rows : Type 0
Rows = List (List ℕ × List (List ℕ))

module _ (k : List ℕ) (v : List (List ℕ)) where
  pub with_row : (rows ps new : Rows) → StandAlike rows ps → new ≡ rows ++ (k, v) ∷ [] → StandAlike new (ps ++ (k, v) ∷ [])
  with_row rows ps new h e q =
      subst (λ (n : Rows). value_at q n ≡ value_at q (ps ++ (k, v) ∷ [])) (sym e)
      (value_at_push q rows k v ∙ ap (λ (o : Option (List (List ℕ))). option_or o (cond (bytes_eq q k) (Some v) None)) (h q) ∙ sym (value_at_push q ps k v))

  pub without_row : (rows ps : Rows) → StandAlike rows ps → is_some (value_at k rows) ≡ true → StandAlike rows (ps ++ (k, v) ∷ [])
  without_row rows ps h s q = h q ∙ by (value_at q ps) (bytes_eq q k) refl refl ∙ sym (value_at_push q ps k v)
    where
      gone : value_at q ps ≡ None → bytes_eq q k ≡ true → is_some (value_at k rows) ≡ false
      gone e f = ap (λ (n : List ℕ). is_some (value_at n rows)) (sym ((bytes_eq-Decides q k).0 f)) ∙ ap is_some (h q ∙ e)

      by : (o : Option (List (List ℕ))) (b : Bool) → value_at q ps ≡ o → bytes_eq q k ≡ b → o ≡ option_or o (cond b (Some v) None)
      by (Some w) b e f = refl
      by None false e f = refl
      by None true e f = absurd (true≢false (sym s ∙ gone e f))

module _ (f : List ℕ → Bool) where
  any_under : (q : List ℕ) (ps : Rows) → list_any (λ r. bytes_eq q r.0 && f r.0) ps ≡ (is_some (value_at q ps) && f q)
  any_under q [] = refl
  any_under q (p ∷ ps) = by (any_under q ps) (bytes_eq q p.0) refl
    where
      joined : (a b : Bool) → (a || (b && a)) ≡ a
      joined true b = refl
      joined false true = refl
      joined false false = refl

      by : list_any (λ r. bytes_eq q r.0 && f r.0) ps ≡ (is_some (value_at q ps) && f q) → (b : Bool) → bytes_eq q p.0 ≡ b → ((b && f p.0) || list_any (λ r. bytes_eq q r.0 && f r.0) ps) ≡ (is_some (cond b (Some p.1) (value_at q ps)) && f q)
      by h true e = ap (λ (b : Bool). f p.0 || b) h ∙ ap (λ (n : List ℕ). f n || (is_some (value_at q ps) && f q)) (sym ((bytes_eq-Decides q p.0).0 e)) ∙ joined (f q) (is_some (value_at q ps))
      by h false e = h

  -- a test that no other name passes
  pub any_named : (all : Rows) → ((q : List ℕ) → value_at q all ≡ None → f q ≡ false) → (q : List ℕ) → list_any (λ r. bytes_eq q r.0 && f r.0) all ≡ f q
  any_named all h q = any_under q all ∙ by (value_at q all) refl
    where
      by : (o : Option (List (List ℕ))) → value_at q all ≡ o → (is_some o && f q) ≡ f q
      by None e = sym (h q e)
      by (Some v) e = refl

pub take_more : (ps : Rows) (i : ℕ) (d : List ℕ × List (List ℕ)) → i < length ps → take (i + 1) ps ≡ take i ps ++ get_or ps i d ∷ []
take_more ps i d l = subst (λ (j : ℕ). take j ps ≡ take i ps ++ get_or ps i d ∷ []) {x = suc i} {y = i + 1} (omega arith) (take-suc ps i d l)
