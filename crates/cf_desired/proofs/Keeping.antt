-- What is seen in a template, and what its parameters are given, as more is seen.
use Rattle.std.proofs.Common.{◌≡◌, ℕ, List, [], ◌∷◌, ◌++◌, Bool, true, false, Option, Some, None, refl, sym, ap, subst, map, option_map}
use Rattle.std.specs.Prelude.{⊤, cond, codes}
use Rattle.std.specs.Option.{option_map_or, option_and_then, option_or}
use Rattle.std.specs.Str.{bytes_eq}
use Rattle.cf_tree.specs.Forms.{Form, Node, Fields, expr, lit, ref, get_att, sub, join, select, split, choice, find_in_map, import_value, base64, no_fields, field, place_of}
use Rattle.cf_tree.specs.Forms as node
use Rattle.cf_tree.specs.Keys.{value_at, put}
use Rattle.cf_tree.specs.declared.source.Source.{Source}
use Rattle.cf_tree.specs.declared.template.Out.{Out}
use Rattle.cf_tree.specs.declared.template.Param.{Param}
use Rattle.cf_eval.specs.Knows.{StaysKnown, KeepsSetting, KnowsMore, KeepsOutput, KeepsSight, KeepsOutcome}
use Rattle.cf_param.specs.Binding.{bound_to}
use Rattle.cf_param.specs.declared.offered.Piece.{Piece}
use Rattle.cf_param.specs.declared.offered.Piece.TheVariants as piece
use Rattle.cf_desired.specs.Names.{path_in}
use Rattle.cf_desired.specs.Seeing.{SeenAt, Seen, is_output_made, seen_as, own_ids, unmade_sights, first_sights, unnamed_output, export_wanted, export_stop, output_stop, text_in, text_known, broken_at, output_sight, output_seen, sights_after, outputs_inside, outputs_of, by_names}
use Rattle.cf_desired.specs.Stays.{SeesMore}
use Rattle.cf_desired.proofs.Puts.{value_put, kept_self, value_names}
use Rattle.cf_desired.specs.Given.{Given, Offered, Offers, offers_in, node_offers, offers_of, offered_fields, map_wanted, given_in, given_by, given_pieces, with_piece, piece_text, or_unknown, settings_for, setting_given}
use Rattle.cf_eval.specs.Outcome.{Outcome, Stop, fault, undecided, below, got, later, bad, on_got}
use Rattle.cf_eval.specs.declared.env.OutputSight.{OutputSight}
use Rattle.cf_eval.specs.declared.env.OutputSight.TheVariants as output
use Rattle.cf_eval.specs.Scope.{Scope, setting_of}
use Rattle.cf_eval.specs.declared.env.Sight.{Sight}
use Rattle.cf_eval.specs.declared.env.Sight.TheVariants as sight
use Rattle.cf_desired.specs.Stack.{Stack, Verdicts, Sights, Scoping, scoping, stop_in}
use Rattle.cf_eval.specs.Texts.{Found, wanted_text}
use Rattle.cf_eval.specs.Value.{blamed, value_within}
use Rattle.cf_desired.specs.Work.{Member, Nesting, Work, Inside, Body, no_work, resource, nested, shut, barred, halted, opened}
use Rattle.cf_desired.specs.Work as inside
use Rattle.cf_eval.proofs.Knowing.{Stands, itself, stands_on, form_value_stands as form_stands, undeclared_stands, value_stands}

outcome_self : {A : Type 0} (o : Outcome A) → KeepsOutcome o o
outcome_self (got a) = refl
outcome_self later = tt
outcome_self (bad w) = tt

-- what is offered, member by member
abbrev pub Aligned : List Offered → List Offered → Type 0
Aligned [] [] = ⊤
Aligned (o ∷ os) (u ∷ us) = (u.name ≡ o.name) × (Stands false o.value u.value × Aligned os us)
Aligned _ _ = ⊥

abbrev pub OffersKeep : Outcome Offers → Outcome Offers → Type 0
OffersKeep (got o) y = (u : Offers) × ((y ≡ got u) × Aligned o.members u.members)
OffersKeep later y = ⊤
OffersKeep (bad w) y = ⊤

aligned_self : (os : List Offered) → Aligned os os
aligned_self [] = tt
aligned_self (o ∷ os) = (refl, (itself false o.value, aligned_self os))

offers_self : (x : Outcome Offers) → OffersKeep x x
offers_self (got o) = (o, (refl, aligned_self o.members))
offers_self later = tt
offers_self (bad w) = tt

module _ (s t : Scope) (k : KnowsMore s t) where
  fields_aligned : (around : Option (List ℕ)) (fs : Fields) → Aligned (offered_fields s around fs) (offered_fields t around fs)
  fields_aligned around no_fields = tt
  fields_aligned around (field n e fs) = (refl, (undeclared_stands _ _ (form_stands s t k around e), fields_aligned around fs))

  by_value : (around : Option (List ℕ)) (at : List ℕ) (x : Node)
      → OffersKeep (on_got (value_within s around (expr at x)) (map_wanted (blamed around at x))) (on_got (value_within t around (expr at x)) (map_wanted (blamed around at x)))
  by_value around at x = either (value_within s around (expr at x)) _ (undeclared_stands _ _ (form_stands s t k around (expr at x))) where
    either : (f h : Found) → Stands false f h → OffersKeep (on_got f (map_wanted (blamed around at x))) (on_got h (map_wanted (blamed around at x)))
    either (got o) h g = subst (λ z. OffersKeep (map_wanted (blamed around at x) o) (on_got z (map_wanted (blamed around at x)))) (sym g) (offers_self (map_wanted (blamed around at x) o))
    either later h g = tt
    either (bad w) h g = tt

  branch_keeps : (x y : Outcome Bool) (p q u v : Outcome Offers) → KeepsOutcome x y → OffersKeep p u → OffersKeep q v → OffersKeep (on_got x (λ b. cond b p q)) (on_got y (λ b. cond b u v))
  branch_keeps (got true) y p q u v d g h = subst (λ z. OffersKeep p (on_got z (λ b. cond b u v))) (sym d) g
  branch_keeps (got false) y p q u v d g h = subst (λ z. OffersKeep q (on_got z (λ b. cond b u v))) (sym d) h
  branch_keeps later y p q u v d g h = tt
  branch_keeps (bad w) y p q u v d g h = tt

  mutual
    pub offers_keep : (around : Option (List ℕ)) (e : Form) → OffersKeep (offers_in s around e) (offers_in t around e)
    offers_keep around (expr at x) = node_keeps around at x

    node_keeps : (around : Option (List ℕ)) (at : List ℕ) (x : Node) → OffersKeep (node_offers s around at x) (node_offers t around at x)
    node_keeps around at (node.dict fs) = (_, (refl, fields_aligned around fs))
    node_keeps around at (choice name y z) = branch_keeps _ _ _ _ _ _ (k.decided at name) (offers_keep (Some at) y) (offers_keep (Some at) z)
    node_keeps around at (lit d) = by_value around at (lit d)
    node_keeps around at (node.list es) = by_value around at (node.list es)
    node_keeps around at (ref name) = by_value around at (ref name)
    node_keeps around at (get_att id x) = by_value around at (get_att id x)
    node_keeps around at (sub ps own) = by_value around at (sub ps own)
    node_keeps around at (join d e) = by_value around at (join d e)
    node_keeps around at (select i e) = by_value around at (select i e)
    node_keeps around at (split d e) = by_value around at (split d e)
    node_keeps around at (find_in_map x f l) = by_value around at (find_in_map x f l)
    node_keeps around at (import_value e) = by_value around at (import_value e)
    node_keeps around at (base64 e) = by_value around at (base64 e)

  pub form_keeps : (form : Option Form) → OffersKeep (offers_of s form) (offers_of t form)
  form_keeps None = offers_self (offers_of s None)
  form_keeps (Some f) = offers_keep None f

-- what is given, by name
abbrev KeepsPiece : Option Piece → Option Piece → Type 0
KeepsPiece None o = o ≡ None
KeepsPiece (Some piece.Later) o = ⊤
KeepsPiece (Some (piece.Text t)) o = o ≡ Some (piece.Text t)

piece_self : (o : Option Piece) → KeepsPiece o o
piece_self None = refl
piece_self (Some piece.Later) = tt
piece_self (Some (piece.Text t)) = refl

with_kept : (name k : List ℕ) (x y : Found) (ps qs : List (List ℕ × Piece)) → Stands false x y → KeepsPiece (value_at name ps) (value_at name qs)
    → KeepsPiece (value_at name (with_piece k x ps)) (value_at name (with_piece k y qs))
with_kept name k (got None) y ps qs g h = subst (λ z. KeepsPiece (value_at name ps) (value_at name (with_piece k z qs))) (sym g) h
with_kept name k (got (Some d)) y ps qs g h = subst (λ z. KeepsPiece (value_at name (with_piece k (got (Some d)) ps)) (value_at name (with_piece k z qs))) (sym g) (either (bytes_eq name k)) where
  either : (b : Bool)
      → KeepsPiece (cond b (Some (option_map_or (λ t. piece.Text t) (piece_text d) piece.Later)) (value_at name ps)) (cond b (Some (option_map_or (λ t. piece.Text t) (piece_text d) piece.Later)) (value_at name qs))
  either true = piece_self (Some (option_map_or (λ t. piece.Text t) (piece_text d) piece.Later))
  either false = h
with_kept name k later y ps qs g h = late (bytes_eq name k) refl y where
  late : (b : Bool) → bytes_eq name k ≡ b → (z : Found) → KeepsPiece (cond b (Some piece.Later) (value_at name ps)) (value_at name (with_piece k z qs))
  late true e z = tt
  late false e (got None) = h
  late false e (got (Some d)) = subst (λ c. KeepsPiece (value_at name ps) (cond c (Some (option_map_or (λ t. piece.Text t) (piece_text d) piece.Later)) (value_at name qs))) (sym e) h
  late false e later = subst (λ c. KeepsPiece (value_at name ps) (cond c (Some piece.Later) (value_at name qs))) (sym e) h
  late false e (bad w) = subst (λ c. KeepsPiece (value_at name ps) (cond c (Some piece.Later) (value_at name qs))) (sym e) h
with_kept name k (bad x) y ps qs g h = late (bytes_eq name k) refl y where
  late : (b : Bool) → bytes_eq name k ≡ b → (z : Found) → KeepsPiece (cond b (Some piece.Later) (value_at name ps)) (value_at name (with_piece k z qs))
  late true e z = tt
  late false e (got None) = h
  late false e (got (Some d)) = subst (λ c. KeepsPiece (value_at name ps) (cond c (Some (option_map_or (λ t. piece.Text t) (piece_text d) piece.Later)) (value_at name qs))) (sym e) h
  late false e later = subst (λ c. KeepsPiece (value_at name ps) (cond c (Some piece.Later) (value_at name qs))) (sym e) h
  late false e (bad w) = subst (λ c. KeepsPiece (value_at name ps) (cond c (Some piece.Later) (value_at name qs))) (sym e) h

pieces_kept : (name : List ℕ) (os us : List Offered) → Aligned os us → KeepsPiece (value_at name (given_pieces os)) (value_at name (given_pieces us))
pieces_kept name [] [] h = refl
pieces_kept name [] (u ∷ us) h = absurd h
pieces_kept name (o ∷ os) [] h = absurd h
pieces_kept name (o ∷ os) (u ∷ us) h =
    subst (λ k. KeepsPiece (value_at name (given_pieces (o ∷ os))) (value_at name (with_piece k u.value (given_pieces us)))) (sym h.0)
    (with_kept name o.name o.value u.value (given_pieces os) (given_pieces us) h.1.0 (pieces_kept name os us h.1.1))

-- what each parameter is bound to stays, where it is known
abbrev pub GivenKeeps : Given → Given → Type 0
GivenKeeps g h = (p : Param) → StaysKnown (setting_of (setting_given g p)) (setting_of (setting_given h p))

pub given_self : (g : Given) → GivenKeeps g g
given_self g p = kept_self (setting_of (setting_given g p))

bound_kept : (p : Param) (x y : Option Piece) → KeepsPiece x y → StaysKnown (setting_of (or_unknown (bound_to p x))) (setting_of (or_unknown (bound_to p y)))
bound_kept p None y h = subst (λ z. StaysKnown (setting_of (or_unknown (bound_to p None))) (setting_of (or_unknown (bound_to p z)))) (sym h) (kept_self _)
bound_kept p (Some piece.Later) y h = tt
bound_kept p (Some (piece.Text t)) y h = subst (λ z. StaysKnown (setting_of (or_unknown (bound_to p (Some (piece.Text t))))) (setting_of (or_unknown (bound_to p z)))) (sym h) (kept_self _)

offers_given : (x y : Outcome Offers) → OffersKeep x y → GivenKeeps (given_by x) (given_by y)
offers_given (got o) y h p =
    subst (λ z. StaysKnown (setting_of (setting_given (given_by (got o)) p)) (setting_of (setting_given (given_by z) p))) (sym h.1.0)
    (bound_kept p (value_at p.name (given_pieces o.members)) (value_at p.name (given_pieces h.0.members)) (pieces_kept p.name o.members h.0.members h.1.1))
offers_given later y h p = tt
offers_given (bad w) y h p = tt

pub given_keeps : (s t : Scope) → KnowsMore s t → (form : Option Form) → GivenKeeps (given_in s form) (given_in t form)
given_keeps s t k form = offers_given (offers_of s form) (offers_of t form) (form_keeps s t k form)

pub settings_keep : (g h : Given) → GivenKeeps g h → (name : List ℕ) (ps : List Param)
    → KeepsSetting (option_map setting_of (value_at name (settings_for ps g))) (option_map setting_of (value_at name (settings_for ps h)))
settings_keep g h k name [] = refl
settings_keep g h k name (p ∷ ps) = either (bytes_eq name p.name) (settings_keep g h k name ps) where
  either : (b : Bool) → KeepsSetting (option_map setting_of (value_at name (settings_for ps g))) (option_map setting_of (value_at name (settings_for ps h)))
      → KeepsSetting (option_map setting_of (cond b (Some (setting_given g p)) (value_at name (settings_for ps g)))) (option_map setting_of (cond b (Some (setting_given h p)) (value_at name (settings_for ps h))))
  either true ih = k p
  either false ih = ih

abbrev pub KeepsSights : Sights → Sights → Type 0
KeepsSights m n = (id : List ℕ) → KeepsSight (value_at id m) (value_at id n)

abbrev pub KeepsOutputs : List (List ℕ × OutputSight) → List (List ℕ × OutputSight) → Type 0
KeepsOutputs os us = (name : List ℕ) → KeepsOutput (value_at name os) (value_at name us)

pub put_keeps : (k : List ℕ) (x y : Sight) (m n : Sights) → KeepsSight (Some x) (Some y) → KeepsSights m n → KeepsSights (put k x m) (put k y n)
put_keeps k x y m n g h id =
    subst (λ o. KeepsSight o (value_at id (put k y n))) (sym (value_put id k x m))
    (subst (λ o. KeepsSight (cond (bytes_eq id k) (Some x) (value_at id m)) o) (sym (value_put id k y n)) (either (bytes_eq id k))) where
      either : (b : Bool) → KeepsSight (cond b (Some x) (value_at id m)) (cond b (Some y) (value_at id n))
      either true = g
      either false = h id

-- each name once keeps what stands under it
pub names_keep : (os us : List (List ℕ × OutputSight)) → KeepsOutputs os us → KeepsOutputs (by_names os) (by_names us)
names_keep os us h name = subst (λ (x : Option OutputSight). KeepsOutput x (value_at name (by_names us))) (sym (value_names name os)) (subst (λ (x : Option OutputSight). KeepsOutput (value_at name os) x) (sym (value_names name us)) (h name))

output_self : (o : Option OutputSight) → KeepsOutput o o
output_self None = refl
output_self (Some output.NotMade) = refl
output_self (Some (output.Made (Some v))) = refl
output_self (Some (output.Made None)) = tt
output_self (Some (output.Broken why stack at)) = tt

sight_self : (o : Option Sight) → KeepsSight o o
sight_self None = refl
sight_self (Some sight.NotMade) = refl
sight_self (Some (sight.Made p a)) = (kept_self p, kept_self a)
sight_self (Some (sight.Nested i outs)) = (refl, λ name. output_self (value_at name outs))

module _ (source : Source) (a b : Seen) (more : SeesMore a b) where
  both_seen : (x y : Option SeenAt) → StaysKnown (option_and_then (λ s. s.physical) x) (option_and_then (λ s. s.physical) y) → StaysKnown (option_and_then (λ s. s.attrs) x) (option_and_then (λ s. s.attrs) y)
      → KeepsSight (Some (seen_as x)) (Some (seen_as y))
  both_seen None None g h = (tt, tt)
  both_seen None (Some t) g h = (tt, tt)
  both_seen (Some s) None g h = (g, h)
  both_seen (Some s) (Some t) g h = (g, h)

  pub first_keep : (t : Stack) (conds : Verdicts) (ids : List (List ℕ)) → KeepsSights (first_sights t conds a ids) (first_sights t conds b ids)
  first_keep t conds [] id = sight_self (value_at id (unmade_sights t conds))
  first_keep t conds (k ∷ ids) id = either (bytes_eq id k) (first_keep t conds ids id) where
    either : (e : Bool) → KeepsSight (value_at id (first_sights t conds a ids)) (value_at id (first_sights t conds b ids))
        → KeepsSight (cond e (Some (seen_as (value_at (path_in t.path k) a))) (value_at id (first_sights t conds a ids))) (cond e (Some (seen_as (value_at (path_in t.path k) b))) (value_at id (first_sights t conds b ids)))
    either true ih = both_seen (value_at (path_in t.path k) a) (value_at (path_in t.path k) b) (more (path_in t.path k)).0 (more (path_in t.path k)).1
    either false ih = ih

  abbrev pub over : Stack → Verdicts → Given → Scoping
  over t conds g = scoping source t conds (settings_for t.template.params g)

  pub scope_knows : (t : Stack) (conds : Verdicts) (g h : Given) → GivenKeeps g h → (m n : Sights) → KeepsSights m n → KnowsMore (over t conds g m) (over t conds h n)
  scope_knows t conds g h k m n s = record {
    params = λ name. settings_keep g h k name t.template.params;
    mapping = λ name. refl;
    pseudo = refl;
    decided = λ at name. outcome_self _;
    beyond = (s, refl);
  }

  -- an output that is known stays so
  module _ (s t : Scope) (k : KnowsMore s t) where
    pub text_stands : (e : Form) → Stands false (text_in s e) (text_in t e)
    text_stands e = stands_on false _ _ _ _ (value_stands s t k e) (λ o. itself false (wanted_text (place_of e) o))

    export_kept : (o : Option Form) → export_stop s o ≡ None → export_stop t o ≡ None
    export_kept None h = refl
    export_kept (Some f) h = either (text_in s f) (text_in t f) (text_stands f) h where
      either : (x y : Outcome (List ℕ)) → Stands false x y → stop_in (export_wanted f x) ≡ None → stop_in (export_wanted f y) ≡ None
      either (got v) y g q = ap (λ z. stop_in (export_wanted f z)) g
      either later y g q = let no : ⊥ = cc in absurd no
      either (bad w) y g q = let no : ⊥ = cc in absurd no

    one_kept : (at : Stack) (conds : Verdicts) (o : Out) → KeepsOutput (Some (output_sight at conds s o)) (Some (output_sight at conds t o))
    one_kept at conds o = by_made (is_output_made conds o) where
      by_text : (x y : Outcome (List ℕ)) → Stands false x y
          → KeepsOutput (Some (option_map_or (broken_at at.path) (stop_in x) (output.Made (text_known x)))) (Some (option_map_or (broken_at at.path) (stop_in y) (output.Made (text_known y))))
      by_text (got v) y g = ap (λ z. Some (option_map_or (broken_at at.path) (stop_in z) (output.Made (text_known z)))) g
      by_text later y g = tt
      by_text (bad w) y g = tt

      by_export : (e f : Option Stop) → (e ≡ None → f ≡ None)
          → KeepsOutput (Some (option_map_or (broken_at at.path) (option_or e (stop_in (text_in s o.value))) (output.Made (text_known (text_in s o.value)))))
          (Some (option_map_or (broken_at at.path) (option_or f (stop_in (text_in t o.value))) (output.Made (text_known (text_in t o.value)))))
      by_export None f h =
          subst (λ z. KeepsOutput (Some (option_map_or (broken_at at.path) (stop_in (text_in s o.value)) (output.Made (text_known (text_in s o.value)))))
          (Some (option_map_or (broken_at at.path) (option_or z (stop_in (text_in t o.value))) (output.Made (text_known (text_in t o.value)))))) (sym (h refl))
          (by_text (text_in s o.value) (text_in t o.value) (text_stands o.value))
      by_export (Some w) f h = tt

      by_name : (u : Option Stop)
          → KeepsOutput (Some (option_map_or (broken_at at.path) (option_or u (option_or (export_stop s o.export) (stop_in (text_in s o.value)))) (output.Made (text_known (text_in s o.value)))))
          (Some (option_map_or (broken_at at.path) (option_or u (option_or (export_stop t o.export) (stop_in (text_in t o.value)))) (output.Made (text_known (text_in t o.value)))))
      by_name None = by_export (export_stop s o.export) (export_stop t o.export) (export_kept o.export)
      by_name (Some w) = tt

      by_made : (m : Bool)
          → KeepsOutput (Some (cond m (option_map_or (broken_at at.path) (output_stop conds s o) (output.Made (text_known (text_in s o.value)))) output.NotMade))
          (Some (cond m (option_map_or (broken_at at.path) (output_stop conds t o) (output.Made (text_known (text_in t o.value)))) output.NotMade))
      by_made true = by_name (unnamed_output conds o)
      by_made false = refl

    outs_kept : (at : Stack) (conds : Verdicts) (os : List Out) → KeepsOutputs (map (output_seen at conds s) os) (map (output_seen at conds t) os)
    outs_kept at conds [] name = refl
    outs_kept at conds (o ∷ os) name = either (bytes_eq name (codes "Outputs." ++ o.name)) (outs_kept at conds os name) where
      either : (c : Bool) → KeepsOutput (value_at name (map (output_seen at conds s) os)) (value_at name (map (output_seen at conds t) os))
          → KeepsOutput (cond c (Some (output_sight at conds s o)) (value_at name (map (output_seen at conds s) os))) (cond c (Some (output_sight at conds t o)) (value_at name (map (output_seen at conds t) os)))
      either true ih = one_kept at conds o
      either false ih = ih

  mutual
    pub after_keeps : (t : Stack) (conds : Verdicts) (g h : Given) → GivenKeeps g h → (m n : Sights) → KeepsSights m n → (w : Work)
        → KeepsSights (sights_after source a (over t conds g) m w) (sights_after source b (over t conds h) n w)
    after_keeps t conds g h k m n s no_work = s
    after_keeps t conds g h k m n s (resource r w) = after_keeps t conds g h k m n s w
    after_keeps t conds g h k m n s (nested x i w) =
        after_keeps t conds g h k _ _ (put_keeps x.id _ _ m n (refl, names_keep _ _ (inside_keeps (over t conds g m) (over t conds h n) (scope_knows t conds g h k m n s) i)) s) w

    pub inside_keeps : (s u : Scope) → KnowsMore s u → (i : Inside) → KeepsOutputs (outputs_inside source a s i) (outputs_inside source b u i)
    inside_keeps s u k (shut f) name = refl
    inside_keeps s u k (inside.given_by form x) name = body_keeps (given_in s form) (given_in u form) (given_keeps s u k form) x name

    pub body_keeps : (g h : Given) → GivenKeeps g h → (x : Body) → KeepsOutputs (outputs_of source a g x) (outputs_of source b h x)
    body_keeps g h k (barred f) name = refl
    body_keeps g h k (halted t f) name = refl
    body_keeps g h k (opened t conds w) name =
        outs_kept _ _ (scope_knows t conds g h k _ _ (after_keeps t conds g h k (first_sights t conds a (own_ids w)) (first_sights t conds b (own_ids w)) (first_keep t conds (own_ids w)) w)) t conds t.template.outputs name
