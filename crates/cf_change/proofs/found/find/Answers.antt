use Rattle.std.proofs.Common.{◌≡◌, ◌∙◌, ◌++◌, ◌∷◌, [], ℕ, List, true, false, Option, None, refl, sym, ap}
use Rattle.std.specs.Option.{option_copied}
use Rattle.cf_tree.specs.Keys.{put}
use Rattle.cf_tree.specs.declared.row.Row.{Row}
use Rattle.cf_schema.specs.declared.described.Schema.{Schema}
use Rattle.cf_desired.specs.declared.wanted.Wanted.{Wanted}
use Rattle.cf_change.specs.Changes.{RowsFound, HeldAt, found_with, is_other_kind, resource_held, row_for, row_list, seen_after}
use Rattle.cf_change.proofs.found.find.Goals as goal

module _ (schemas : List Schema) (held : List HeldAt) (f : RowsFound) (w : Wanted) where
  -- of a path that is held with another type, and of one that isn't
  clashing : is_other_kind (resource_held w.path held) w ≡ true
      → found_with schemas held f w ≡ record f { clash = f.clash ++ w.path ∷ []; seen = put w.path (seen_after (resource_held w.path held) None) f.seen }
  clashing h = rw h refl

  fitting : is_other_kind (resource_held w.path held) w ≡ false
      → found_with schemas held f w ≡ record f {
        rows = f.rows ++ row_list (row_for schemas (resource_held w.path held) w);
        seen = put w.path (seen_after (resource_held w.path held) (row_for schemas (resource_held w.path held) w)) f.seen;
      }
  fitting h = rw h refl

pub returns-then-is_other_kind : goal.returns-then-is_other_kind
returns-then-is_other_kind c =
    let held = c.args.held.now in
    let f = c.args.found.now in
    let w = c.args.wanted.now in
    let at : option_copied c.find-at.result ≡ resource_held w.path held = c.find-at.ensures ∙ ap (λ (p : List ℕ). resource_held p held) c.as_str.ensures in
    let other : is_other_kind (resource_held w.path held) w ≡ true = ap (λ (o : Option HeldAt). is_other_kind o w) (sym at) ∙ sym c.is_other_kind.ensures ∙ c.if-is_other_kind.true in
    let seen : c.show.new.seen ≡ put w.path (seen_after (resource_held w.path held) None) f.seen = c.in_ok-show.ensures ∙ ap (λ (o : Option HeldAt). put w.path (seen_after o None) f.seen) at in
    let clash : c.push.new.self ≡ f.clash ++ w.path ∷ [] = c.in_ok-push.ensures.ok ∙ ap (λ (p : List ℕ). f.clash ++ p ∷ []) c.in_ok-try_clone.ensures in
    (λ j. record { rows = f.rows; seen = seen j; clash = clash j }) ∙ sym (clashing c.args.schemas.now held f w other)

pub returns : goal.returns
returns c =
    let schemas = c.args.schemas.now in
    let held = c.args.held.now in
    let f = c.args.found.now in
    let w = c.args.wanted.now in
    let at : option_copied c.find-at.result ≡ resource_held w.path held = c.find-at.ensures ∙ ap (λ (p : List ℕ). resource_held p held) c.as_str.ensures in
    let same : is_other_kind (resource_held w.path held) w ≡ false = ap (λ (o : Option HeldAt). is_other_kind o w) (sym at) ∙ sym c.is_other_kind.ensures ∙ c.if-is_other_kind.false in
    let row : c.in_ok-row.row ≡ row_for schemas (resource_held w.path held) w = c.in_ok-row.ensures ∙ ap (λ (o : Option HeldAt). row_for schemas o w) at in
    let seen = c.in_ok-show-2.ensures ∙ (λ j. put w.path (seen_after (at j) ((c.as_ref.ensures.value ∙ row) j)) f.seen) in
    let rows : c.add_row.new.rows ≡ f.rows ++ row_list (row_for schemas (resource_held w.path held) w) = c.in_ok-add_row.ensures ∙ ap (λ (o : Option Row). f.rows ++ row_list o) row in
    (λ j. record { rows = rows j; seen = seen j; clash = f.clash }) ∙ sym (fitting schemas held f w same)
