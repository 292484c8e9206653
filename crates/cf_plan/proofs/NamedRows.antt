-- The rows of a change set can be written: no detail of a policy has a name.
use Rattle.std.proofs.Common.{◌≡◌, ℕ, Bool, true, false, cond, List, [], ◌∷◌, ◌++◌, Option, Some, None, fold, map, filter, refl, subst, sym}
use Rattle.std.specs.List.{AllByRecursion}
use Rattle.std.specs.Option.{option_map_or}
use Rattle.std.specs.List.{flat_map}
use Rattle.std.specs.Prelude.{◌&&◌, not, is_some}
use Rattle.cf_tree.specs.Datum.{Data}
use Rattle.cf_tree.specs.Keys.{put, value_at}
use Rattle.cf_tree.specs.Lists.{insert_by}
use Rattle.cf_tree.specs.declared.row.Action.TheVariants as action
use Rattle.cf_tree.specs.declared.row.Attribute.TheVariants as attribute
use Rattle.cf_tree.specs.declared.row.Detail.{Detail}
use Rattle.cf_tree.specs.declared.row.Evaluation.{Evaluation}
use Rattle.cf_tree.specs.declared.row.Evaluation.TheVariants as evaluation
use Rattle.cf_tree.specs.declared.row.Recreation.TheVariants as recreation
use Rattle.cf_tree.specs.declared.row.Row.{Row}
use Rattle.cf_tree.specs.declared.source.Source.{Source}
use Rattle.cf_export.specs.declared.Output.{Output}
use Rattle.cf_schema.specs.Kinds.{found}
use Rattle.cf_schema.specs.declared.described.Schema.{Schema}
use Rattle.cf_entry.specs.Entry.{AreNamed, HasNamed, IsNamed}
use Rattle.cf_desired.specs.declared.wanted.Evaluated.{Evaluated}
use Rattle.cf_desired.specs.declared.wanted.Wanted.{Wanted}
use Rattle.cf_desired.specs.Plan.{props_at, wanted_of}
use Rattle.cf_desired.specs.Seeing.{Seen}
use Rattle.cf_desired.specs.Shape.{shape_of}
use Rattle.cf_desired.specs.Valued.{resources_in}
use Rattle.cf_desired.specs.Work.{Member, Shape}
use Rattle.cf_change.specs.Changes.{HeldAt, RowsFound, changes_of, details_for, evaluation_of, found_next, found_of, found_with, held_seen, is_empty, is_other_kind, is_row_before, modify_row, names_on_either, policy_details, property_detail, property_details, props_or_none, recreation_of, removed_row, removed_rows, replacement_of, resource_held, row_for, row_list, same_deletion, same_replace, seen_after}

module _ {A : Type 0} (P : A → Type 0) where
  all_append : (xs ys : List A) → AllByRecursion P xs → AllByRecursion P ys → AllByRecursion P (xs ++ ys)
  all_append [] ys a b = b
  all_append (x ∷ xs) ys a b = (a.0, all_append xs ys a.1 b)

  module _ (test : A → A → Bool) where
    all_insert : (xs : List A) (y : A) → AllByRecursion P xs → P y → AllByRecursion P (insert_by test xs y)
    all_insert [] y a p = (p, tt)
    all_insert (x ∷ xs) y a p = by (test x y) (all_insert xs y a.1 p) where
      by : (b : Bool) → AllByRecursion P (insert_by test xs y) → AllByRecursion P (cond b (x ∷ insert_by test xs y) (y ∷ x ∷ xs))
      by true rest = (a.0, rest)
      by false rest = (p, a)

    all_sorted : (ys xs : List A) → AllByRecursion P xs → AllByRecursion P ys → AllByRecursion P (fold (insert_by test) xs ys)
    all_sorted [] xs a b = a
    all_sorted (y ∷ ys) xs a b = all_sorted ys (insert_by test xs y) (all_insert xs y a b.0) b.1

module _ (schemas : List Schema) (held : List HeldAt) where
  named_property : (g : Option Schema) (old : List (List ℕ × Data)) (new : List (List ℕ × Option Data)) (name : List ℕ) → AllByRecursion IsNamed (property_detail g old new name)
  named_property g old new name = by (evaluation_of (value_at name old) (value_at name new)) where
    by : (o : Option Evaluation) → AllByRecursion IsNamed (option_map_or (λ e. record { attribute = attribute.Properties; name = name; recreation = recreation_of g name; evaluation = e } ∷ []) o [])
    by None = tt
    by (Some e) = (refl, tt)

  named_properties : (g : Option Schema) (old : List (List ℕ × Data)) (new : List (List ℕ × Option Data)) (names : List (List ℕ))
      → AllByRecursion IsNamed (flat_map (property_detail g old new) names)
  named_properties g old new [] = tt
  named_properties g old new (n ∷ names) =
      all_append IsNamed (property_detail g old new n) (flat_map (property_detail g old new) names) (named_property g old new n) (named_properties g old new names)

  named_policies : (h : HeldAt) (w : Wanted) → AllByRecursion IsNamed (policy_details h w)
  named_policies h w = all_append IsNamed _ _ (deletion (same_deletion h.deletion w.deletion)) (replaced (same_replace h.replace w.replace)) where
    deletion : (b : Bool) → AllByRecursion IsNamed (cond b [] (record { attribute = attribute.DeletionPolicy; name = []; recreation = recreation.Never; evaluation = evaluation.Static } ∷ []))
    deletion true = tt
    deletion false = (refl, tt)

    replaced : (b : Bool) → AllByRecursion IsNamed (cond b [] (record { attribute = attribute.UpdateReplacePolicy; name = []; recreation = recreation.Never; evaluation = evaluation.Static } ∷ []))
    replaced true = tt
    replaced false = (refl, tt)

  named_row : (o : Option HeldAt) (w : Wanted) → AreNamed (row_list (row_for schemas o w))
  named_row None w = (tt, tt)
  named_row (Some h) w = by (is_empty (details_for schemas h w)) h.unsure where
    ds : AllByRecursion IsNamed (details_for schemas h w)
    ds =
        all_append IsNamed (property_details (found w.kind schemas) h.props (props_or_none w.props)) (policy_details h w)
        (named_properties (found w.kind schemas) h.props (props_or_none w.props) (names_on_either h.props (props_or_none w.props))) (named_policies h w)

    by : (e u : Bool) → AreNamed (row_list (cond (e && not u) None (Some (record {
      action = action.Modify;
      path = w.path;
      kind = w.kind;
      replacement = Some (replacement_of (details_for schemas h w));
      unsure = h.unsure;
      details = details_for schemas h w;
    }))))
    by true false = tt
    by true true = (ds, tt)
    by false u = (ds, tt)

  named_with : (f : RowsFound) (w : Wanted) → AreNamed f.rows → AreNamed (found_with schemas held f w).rows
  named_with f w a = by (is_other_kind (resource_held w.path held) w) where
    by : (b : Bool) → AreNamed (cond b (record f { clash = f.clash ++ w.path ∷ []; seen = put w.path (seen_after (resource_held w.path held) None) f.seen })
        (record f {
          rows = f.rows ++ row_list (row_for schemas (resource_held w.path held) w);
          seen = put w.path (seen_after (resource_held w.path held) (row_for schemas (resource_held w.path held) w)) f.seen;
        })).rows
    by true = a
    by false = all_append HasNamed f.rows (row_list (row_for schemas (resource_held w.path held) w)) a (named_row (resource_held w.path held) w)

  module _ (source : Source) where
    abbrev shape : Shape
    shape = shape_of source (held_seen held)

    named_next : (f : RowsFound) (m : Member) → AreNamed f.rows → AreNamed (found_next schemas held source shape f m).rows
    named_next f m a = by (props_at source shape f.seen m.path) where
      by : (o : Option Evaluated) → AreNamed (option_map_or (λ v. found_with schemas held f (wanted_of (m, v))) o f).rows
      by None = a
      by (Some v) = named_with f (wanted_of (m, v)) a

    named_all : (ms : List Member) (f : RowsFound) → AreNamed f.rows → AreNamed (fold (found_next schemas held source shape) f ms).rows
    named_all [] f a = a
    named_all (m ∷ ms) f a = named_all ms (found_next schemas held source shape f m) (named_next f m a)

    named_removed : (hs : List HeldAt) → AreNamed (map removed_row hs)
    named_removed [] = tt
    named_removed (h ∷ hs) = (tt, named_removed hs)

    pub named_rows : (outputs : List Output) (exports : List (List ℕ × List ℕ)) → AreNamed (changes_of schemas held outputs exports source).rows
    named_rows outputs exports =
        all_sorted HasNamed is_row_before ((found_of schemas held source).rows ++ removed_rows held (found_of schemas held source).seen) [] tt
        (all_append HasNamed (found_of schemas held source).rows (removed_rows held (found_of schemas held source).seen)
        (named_all (resources_in shape) (record { rows = []; seen = []; clash = [] }) tt)
        (named_removed (filter (λ h. not (is_some (value_at h.path (found_of schemas held source).seen))) held)))
