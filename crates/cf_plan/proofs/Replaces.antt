-- A detail that always replaces and is known replaces: the resource of before differs in a create-only property.
use Rattle.std.proofs.Common.{◌≡◌, ◌∙◌, ℕ, ◌||◌, Bool, true, false, cond, not, List, [], ◌∷◌, ◌++◌, Option, Some, None, refl, sym, ap, subst, inl, inr, true≢false}
use Rattle.std.specs.List.{list_any}
use Rattle.std.specs.Option.{option_map_or}
use Rattle.std.specs.Str.{bytes_eq}
use Rattle.std.proofs.lemmas.List.Folds.{list_any-append}
use Rattle.std.proofs.lemmas.Slice.Eq.{bytes_eq-Decides}
use Rattle.cf_tree.specs.Datum.{Data, members_of}
use Rattle.cf_tree.specs.Keys.{value_at}
use Rattle.cf_tree.specs.Lists.{In, is_among}
use Rattle.cf_tree.specs.Same.{same_members}
use Rattle.cf_tree.specs.declared.row.Attribute.TheVariants as attribute
use Rattle.cf_tree.specs.declared.row.Detail.{Detail}
use Rattle.cf_tree.specs.declared.row.Evaluation.{Evaluation}
use Rattle.cf_tree.specs.declared.row.Evaluation.TheVariants as evaluation
use Rattle.cf_tree.specs.declared.row.Recreation.{Recreation}
use Rattle.cf_tree.specs.declared.row.Recreation.TheVariants as recreation
use Rattle.cf_schema.specs.Change.{any_differs, difference_of, differs_at, value_differs}
use Rattle.cf_schema.specs.declared.changed.Difference.{Difference}
use Rattle.cf_schema.specs.declared.changed.Difference.TheVariants.{MayReplace, Replace, Same, Update}
use Rattle.cf_schema.specs.declared.described.Schema.{Schema}
use Rattle.cf_schema.proofs.Equal.{same_equal}
use Rattle.cf_change.specs.Changes.{HeldAt, evaluation_of, is_always_static, names_on_either, policy_details, property_detail, property_details, recreation_by, recreation_of, same_deletion, same_replace, static_if}
use Rattle.cf_desired.specs.Whole.{known_props_from}
use Rattle.cf_desired.specs.declared.wanted.Wanted.{Wanted}
use Rattle.cf_plan.proofs.Members.{any_flat, any_in, in_any}
use Rattle.cf_plan.proofs.PropsStay.{Becomes, IsKnownAs, Props, is_known_as, no_value_differs}

abbrev pub is_certain : Detail → Bool
is_certain d = is_always_static d.recreation d.evaluation

-- what differs in what is known does in what is known at last
differs_known : (o : Option Data) (q : Option (Option Data)) (p : Option Data) → IsKnownAs q p → evaluation_of o q ≡ Some evaluation.Static → value_differs o p ≡ true
differs_known o (Some None) p k e = let no : ⊥ = cc in absurd no
differs_known o (Some (Some d)) p k e = ap (value_differs o) (k.same d refl) ∙ by (value_differs o (Some d)) e where
  by : (b : Bool) → static_if b ≡ Some evaluation.Static → b ≡ true
  by true h = refl
  by false h = let no : ⊥ = cc in absurd no
differs_known o None p k e = ap (value_differs o) (k.gone refl) ∙ by (value_differs o None) e where
  by : (b : Bool) → static_if b ≡ Some evaluation.Static → b ≡ true
  by true h = refl
  by false h = let no : ⊥ = cc in absurd no

-- a property always replaces where it is create-only
always_among : (g : Schema) (n : List ℕ) → recreation_by g n ≡ recreation.Always → is_among n g.create_only ≡ true
always_among g n = by (is_among n g.create_only) (is_among n g.conditional) where
  by : (b c : Bool) → cond b recreation.Always (cond c recreation.Conditionally recreation.Never) ≡ recreation.Always → b ≡ true
  by true c e = refl
  by false true e = let no : ⊥ = cc in absurd no
  by false false e = let no : ⊥ = cc in absurd no

pub record IsCertain (o : Option Evaluation) (r : Recreation) : Type 0 where
  pub static : o ≡ Some evaluation.Static
  pub always : r ≡ recreation.Always

certain_detail : (g : Option Schema) (old : List (List ℕ × Data)) (xs : Props) (n : List ℕ) → list_any is_certain (property_detail g old xs n) ≡ true
    → IsCertain (evaluation_of (value_at n old) (value_at n xs)) (recreation_of g n)
certain_detail g old xs n = by (evaluation_of (value_at n old) (value_at n xs)) (recreation_of g n) where
  by : (o : Option Evaluation) (r : Recreation)
      → list_any is_certain (option_map_or (λ e. record { attribute = attribute.Properties; name = n; recreation = r; evaluation = e } ∷ []) o []) ≡ true
      → IsCertain o r
  by None r h = absurd (true≢false (sym h))
  by (Some evaluation.Static) recreation.Always h = record { static = refl; always = refl }
  by (Some evaluation.Static) recreation.Conditionally h = absurd (true≢false (sym h))
  by (Some evaluation.Static) recreation.Never h = absurd (true≢false (sym h))
  by (Some evaluation.Dynamic) recreation.Always h = absurd (true≢false (sym h))
  by (Some evaluation.Dynamic) recreation.Conditionally h = absurd (true≢false (sym h))
  by (Some evaluation.Dynamic) recreation.Never h = absurd (true≢false (sym h))

module _ (g : Schema) (old : List (List ℕ × Data)) (xs ys : Props) (new : List (List ℕ × Data)) (becomes : Becomes xs ys) (known : known_props_from ys ≡ Some new) where
  one_differs : (n : List ℕ) → list_any is_certain (property_detail (Some g) old xs n) ≡ true → any_differs g.create_only old new ≡ true
  one_differs n h =
      let c = certain_detail (Some g) old xs n h in
      let (m, i, same) = in_any (bytes_eq n) g.create_only (always_among g n c.always) in
      any_in (λ k. differs_at k old new) m g.create_only i
      (subst (λ k. differs_at k old new ≡ true) ((bytes_eq-Decides n m).0 same) (differs_known (value_at n old) (value_at n xs) (value_at n new) (is_known_as xs ys new becomes known n) c.static))

  -- so it is replaced
  pub replaces : list_any is_certain (property_details (Some g) old xs) ≡ true → difference_of g old new ≡ Replace
  replaces h =
      let (n, i, one) = in_any (λ m. list_any is_certain (property_detail (Some g) old xs m)) (names_on_either old xs) (sym (any_flat is_certain (property_detail (Some g) old xs) (names_on_either old xs)) ∙ h) in
      by (same_members (members_of old) (members_of new)) refl (one_differs n one)
    where
      none_differs : (names : List (List ℕ)) → old ≡ new → any_differs names old new ≡ false
      none_differs [] e = refl
      none_differs (n ∷ names) e =
          ap (λ b. b || any_differs names old new) (ap (λ ps. value_differs (value_at n old) (value_at n ps)) (sym e) ∙ no_value_differs (value_at n old)) ∙ none_differs names e

      by : (b : Bool) → same_members (members_of old) (members_of new) ≡ b → any_differs g.create_only old new ≡ true
          → cond b Same (cond (any_differs g.create_only old new) Replace (cond (any_differs g.conditional old new) MayReplace Update)) ≡ Replace
      by true e d = absurd (true≢false (sym d ∙ none_differs g.create_only (same_equal old new e)))
      by false e d = ap (λ b. cond b Replace (cond (any_differs g.conditional old new) MayReplace Update)) d

-- no policy replaces
pub policies_never : (h : HeldAt) (w : Wanted) → list_any is_certain (policy_details h w) ≡ false
policies_never h w = by (same_deletion h.deletion w.deletion) (same_replace h.replace w.replace) where
  by : (b c : Bool)
      → list_any is_certain (cond b [] (record { attribute = attribute.DeletionPolicy; name = []; recreation = recreation.Never; evaluation = evaluation.Static } ∷ [])
      ++ cond c [] (record { attribute = attribute.UpdateReplacePolicy; name = []; recreation = recreation.Never; evaluation = evaluation.Static } ∷ [])) ≡ false
  by true true = refl
  by true false = refl
  by false true = refl
  by false false = refl

-- and without a schema nothing does
pub unknown_never : (old : List (List ℕ × Data)) (xs : Props) → list_any is_certain (property_details None old xs) ≡ false
unknown_never old xs = by (list_any is_certain (property_details None old xs)) refl where
  by : (b : Bool) → list_any is_certain (property_details None old xs) ≡ b → b ≡ false
  by false e = refl
  by true e =
      let (n, i, one) = in_any (λ m. list_any is_certain (property_detail None old xs m)) (names_on_either old xs) (sym (any_flat is_certain (property_detail None old xs) (names_on_either old xs)) ∙ e) in
      let never : recreation.Never ≡ recreation.Always = (certain_detail None old xs n one).always in let no : ⊥ = cc in absurd no
