-- What a nested stack is given for its parameters, member by member.
use Rattle.std.proofs.Common.{◌≡◌, ℕ, List, [], ◌∷◌, ◌++◌, true, Option, Some, None, refl, sym, ap, ◌∙◌, option_map, map, filter_map, append_assoc, append-nil, drop, length}
use Rattle.std.specs.Option.{option_or, option_map_or}
use Rattle.std.specs.List.{cons_option}
use Rattle.cf_eval.specs.Env.{scope_in}
use Rattle.cf_eval.specs.Value.{value_within}
use Rattle.cf_tree.proofs.Order.{ascends_map}
use Rattle.cf_tree.specs.Datum.{Data, members_of}
use Rattle.std.specs.Prelude.{if◌then◌else◌}
use Rattle.cf_tree.specs.Form.{node_of}
use Rattle.cf_tree.specs.Forms.{Form, choice, expr, fields_of}
use Rattle.cf_tree.specs.declared.bound.Verdict.{Verdict}
use Rattle.cf_tree.specs.declared.expr.ExprNode.{ExprNode}
use Rattle.cf_tree.specs.declared.expr.ExprNode.TheVariants as kept
use Rattle.cf_eval.specs.declared.env.Env as given
use Rattle.cf_tree.specs.Keys.{ascends, value_at}
use Rattle.cf_eval.specs.Outcome.{Stop, got, later, bad, undecided, on_got}
use Rattle.cf_eval.specs.Scope.{Scope, decided_at, verdict_of}
use Rattle.cf_eval.specs.Texts.{Found}
use Rattle.cf_param.specs.declared.offered.Piece.{Piece}
use Rattle.cf_param.specs.declared.offered.Piece.TheVariants.{Text, Later}
use Rattle.cf_desired.specs.declared.offers.Taken.{Taken}
use Rattle.cf_desired.specs.Given.{Offered, kind_stop, kinds_stop, offered_fields, offered_members, offers_in, parts_stop, value_offers, piece_text, given_pieces, with_piece}
use Rattle.cf_desired.specs.Kept.{Takes, blame_at, flaw_of_blame}
use Rattle.cf_desired.specs.Stack.{flaw_at, stop_in}
use Rattle.cf_desired.proofs.Blames.{some_blamed}
use Rattle.cf_desired.proofs.Kept.{kept_ascend, under}

-- what was taken so far, and what is left, are all that is offered
pub record IsTaking (stack : List ℕ) (all rest : List Offered) (t : Taken) : Type 0 where
  pub pieces : given_pieces all ≡ t.pieces.items ++ given_pieces rest
  pub part : option_map (blame_at stack) (parts_stop all) ≡ option_or t.part (option_map (blame_at stack) (parts_stop rest))
  pub kind : option_map (blame_at stack) (kinds_stop all) ≡ option_or t.kind (option_map (blame_at stack) (kinds_stop rest))

piece_first : (name : List ℕ) (f : Found) (ps : List (List ℕ × Piece)) → with_piece name f ps ≡ with_piece name f [] ++ ps
piece_first name (got None) ps = refl
piece_first name (got (Some d)) ps = refl
piece_first name later ps = refl
piece_first name (bad s) ps = refl

or_both : (path : List ℕ) (x y : Option Stop) → option_map (blame_at path) (option_or x y) ≡ option_or (option_map (blame_at path) x) (option_map (blame_at path) y)
or_both path None y = refl
or_both path (Some s) y = refl

or_assoc : {A : Type 0} (x y z : Option A) → option_or x (option_or y z) ≡ option_or (option_or x y) z
or_assoc None y z = refl
or_assoc (Some a) y z = refl

pub take_one : (stack : List ℕ) (all : List Offered) (o : Offered) (rest : List Offered) (old new : Taken) → IsTaking stack all (o ∷ rest) old → Takes stack o.name o.at o.value old new
    → IsTaking stack all rest new
take_one stack all o rest old new h t = record {
  pieces =
      h.pieces ∙ ap (λ ps. old.pieces.items ++ ps) (piece_first o.name o.value (given_pieces rest))
      ∙ sym (append_assoc old.pieces.items (with_piece o.name o.value []) (given_pieces rest)) ∙ ap (λ ps. ps ++ given_pieces rest) (sym t.pieces);
  part =
      h.part ∙ ap (option_or old.part) (or_both stack (stop_in o.value) (parts_stop rest))
      ∙ or_assoc old.part (option_map (blame_at stack) (stop_in o.value)) (option_map (blame_at stack) (parts_stop rest))
      ∙ ap (λ x. option_or x (option_map (blame_at stack) (parts_stop rest))) (sym t.part);
  kind =
      h.kind ∙ ap (option_or old.kind) (or_both stack (kind_stop o.at o.value) (kinds_stop rest))
      ∙ or_assoc old.kind (option_map (blame_at stack) (kind_stop o.at o.value)) (option_map (blame_at stack) (kinds_stop rest))
      ∙ ap (λ x. option_or x (option_map (blame_at stack) (kinds_stop rest))) (sym t.kind);
}

or_none : {A : Type 0} (x : Option A) → option_or x None ≡ x
or_none None = refl
or_none (Some a) = refl

-- all is taken
module _ (stack : List ℕ) (all : List Offered) (t : Taken) (h : IsTaking stack all [] t) where
  pub all_pieces : t.pieces.items ≡ given_pieces all
  all_pieces = sym (h.pieces ∙ append-nil t.pieces.items)

  pub all_flaws : (whole : Option Stop)
      → option_map flaw_of_blame (option_or (option_or t.part t.kind) (option_map (blame_at stack) whole)) ≡ option_map (flaw_at stack) (option_or (parts_stop all) (option_or (kinds_stop all) whole))
  all_flaws whole =
      (λ i. option_map flaw_of_blame (option_or (option_or (sym (h.part ∙ or_none t.part) i) (sym (h.kind ∙ or_none t.kind) i)) (option_map (blame_at stack) whole)))
      ∙ ap (option_map flaw_of_blame)
      (sym (or_assoc (option_map (blame_at stack) (parts_stop all)) (option_map (blame_at stack) (kinds_stop all)) (option_map (blame_at stack) whole))
      ∙ ap (option_or (option_map (blame_at stack) (parts_stop all))) (sym (or_both stack (kinds_stop all) whole)) ∙ sym (or_both stack (parts_stop all) (option_or (kinds_stop all) whole)))
      ∙ some_blamed stack (option_or (parts_stop all) (option_or (kinds_stop all) whole))

  pub member_flaws : option_map flaw_of_blame (option_or t.part t.kind) ≡ option_map (flaw_at stack) (option_or (parts_stop all) (option_or (kinds_stop all) None))
  member_flaws = ap (option_map flaw_of_blame) (sym (or_none (option_or t.part t.kind))) ∙ all_flaws None

-- pieces keep the order of the names
abbrev piece_from : Found → Option Piece
piece_from (got None) = None
piece_from (got (Some d)) = Some (option_map_or (λ t. Text t) (piece_text d) Later)
piece_from later = Some Later
piece_from (bad s) = Some Later

abbrev named_found : Offered → List ℕ × Found
named_found o = (o.name, o.value)

one_kept : (name : List ℕ) (f : Found) (ps : List (List ℕ × Piece)) → with_piece name f ps ≡ cons_option (option_map (λ p. (name, p)) (piece_from f)) ps
one_kept name (got None) ps = refl
one_kept name (got (Some d)) ps = refl
one_kept name later ps = refl
one_kept name (bad s) ps = refl

pieces_kept : (os : List Offered) → given_pieces os ≡ filter_map (under piece_from) (map named_found os)
pieces_kept [] = refl
pieces_kept (o ∷ os) = ap (with_piece o.name o.value) (pieces_kept os) ∙ one_kept o.name o.value (filter_map (under piece_from) (map named_found os))

pub pieces_in_order : (os : List Offered) → ascends (map named_found os) ≡ true → ascends (given_pieces os) ≡ true
pieces_in_order os h = ap ascends (pieces_kept os) ∙ kept_ascend piece_from (map named_found os) h

-- the names of what is offered are those of the map
abbrev found_form : Scope → Option (List ℕ) → List ℕ × Form → List ℕ × Found
found_form s around p = (p.0, value_within s around p.1)

fields_named : (s : Scope) (around : Option (List ℕ)) (ps : List (List ℕ × Form)) → map named_found (offered_fields s around (fields_of ps)) ≡ map (found_form s around) ps
fields_named s around [] = refl
fields_named s around (p ∷ ps) = ap (λ xs. found_form s around p ∷ xs) (fields_named s around ps)

pub fields_ascend : (s : Scope) (around : Option (List ℕ)) (ps : List (List ℕ × Form)) → ascends ps ≡ true → ascends (map named_found (offered_fields s around (fields_of ps))) ≡ true
fields_ascend s around ps h = ap ascends (fields_named s around ps) ∙ ascends_map (found_form s around) (λ p. refl) ps ∙ h

abbrev found_datum : List ℕ × Data → List ℕ × Found
found_datum p = (p.0, got (Some p.1))

members_named : (at : List ℕ) (ps : List (List ℕ × Data)) → map named_found (offered_members at (members_of ps)) ≡ map found_datum ps
members_named at [] = refl
members_named at (p ∷ ps) = ap (λ xs. found_datum p ∷ xs) (members_named at ps)

pub members_ascend : (at : List ℕ) (ps : List (List ℕ × Data)) → ascends ps ≡ true → ascends (map named_found (offered_members at (members_of ps))) ≡ true
members_ascend at ps h = ap ascends (members_named at ps) ∙ ascends_map found_datum (λ p. refl) ps ∙ h

pub drop_all : {A : Type 0} (xs : List A) → drop (length xs) xs ≡ []
drop_all [] = refl
drop_all (x ∷ xs) = drop_all xs

-- what is offered by a value that is neither a map of expressions nor an Fn::If
pub by_value : (s : Scope) (around : Option (List ℕ)) (at : List ℕ) (n : ExprNode) → ((ps : _) → n ≡ kept.Dict ps → ⊥) → ((name : _) (y z : _) → n ≡ kept.If name y z → ⊥)
    → offers_in s around (expr at (node_of n)) ≡ value_offers s around (expr at (node_of n))
by_value s around at (kept.Lit v) h g = refl
by_value s around at (kept.List es) h g = refl
by_value s around at (kept.Dict ps) h g = absurd (h ps refl)
by_value s around at (kept.Ref t) h g = refl
by_value s around at (kept.GetAtt t e) h g = refl
by_value s around at (kept.Sub qs ps) h g = refl
by_value s around at (kept.Join t e) h g = refl
by_value s around at (kept.Select e f) h g = refl
by_value s around at (kept.Split t e) h g = refl
by_value s around at (kept.If t e f) h g = absurd (g t e f refl)
by_value s around at (kept.FindInMap e f k) h g = refl
by_value s around at (kept.Import e) h g = refl
by_value s around at (kept.Base64 e) h g = refl

-- where the condition of an Fn::If is not declared
pub by_undecided : (env : given.Env) (around : Option (List ℕ)) (at name : List ℕ) (y z : Form) → value_at name env.conds.now ≡ None
    → offers_in (scope_in env) around (expr at (choice name y z)) ≡ bad (undecided name at)
by_undecided env around at name y z h =
    ap (λ (o : Option Verdict). on_got (decided_at at name (option_map verdict_of o)) (λ b. if b then offers_in (scope_in env) (Some at) y else offers_in (scope_in env) (Some at) z)) h
