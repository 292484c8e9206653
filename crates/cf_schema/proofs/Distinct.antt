-- A schema of a new type leaves the types distinct.
use Rattle.std.proofs.Common.{◌≡◌, ℕ, List, [], ◌∷◌, ◌++◌, Bool, true, false, cond, not, ◌&&◌, ◌||◌, Option, Some, None, refl, sym, ◌∙◌, true≢false}
use Rattle.std.specs.List.{list_any}
use Rattle.std.specs.Str.{bytes_eq}
use Rattle.std.specs.Cmp.{second_so}
use Rattle.std.proofs.lemmas.List.Folds.{list_any-append}
use Rattle.std.proofs.lemmas.Option.{none-some}
use Rattle.std.proofs.lemmas.Slice.Eq.{bytes_eq-Decides}
use Rattle.cf_schema.specs.declared.described.Schema.{Schema}
use Rattle.cf_schema.specs.Kinds.{found, kinds_distinct}

unlike : (k l : List ℕ) → bytes_eq k l ≡ false → bytes_eq l k ≡ false
unlike k l h = false_from _ (λ e. true≢false (sym ((bytes_eq-Decides k l).1 (sym ((bytes_eq-Decides l k).0 e))) ∙ h))
  where
    false_from : (b : Bool) → (b ≡ true → ⊥) → b ≡ false
    false_from true n = absurd (n refl)
    false_from false n = refl

missed : {A : Type 0} (b : Bool) (x : A) (o : Option A) → cond b (Some x) o ≡ None → (b ≡ false) × (o ≡ None)
missed true x o h = absurd (none-some x (sym h))
missed false x o h = (refl, h)

kept : (a b : Bool) (x y : Bool) → x ≡ false → (not a && b) ≡ true → y ≡ true → (not (a || (x || false)) && y) ≡ true
kept true b x y e h k = absurd (true≢false (sym h))
kept false b x y e h k = rw e k

pub distinct_more : (s : Schema) (ss : List Schema) → kinds_distinct ss ≡ true → found s.kind ss ≡ None → kinds_distinct (ss ++ s ∷ []) ≡ true
distinct_more s [] d f = refl
distinct_more s (t ∷ ts) d f =
    let gone = missed (bytes_eq s.kind t.kind) t (found s.kind ts) f in
    let earlier = distinct_more s ts (second_so (not (list_any (λ u. bytes_eq t.kind u.kind) ts)) (kinds_distinct ts) d) gone.1 in
    rw (list_any-append (λ (u : Schema). bytes_eq t.kind u.kind) ts (s ∷ []))
    (kept (list_any (λ u. bytes_eq t.kind u.kind) ts) (kinds_distinct ts) (bytes_eq t.kind s.kind) _ (unlike s.kind t.kind gone.0) d earlier)
