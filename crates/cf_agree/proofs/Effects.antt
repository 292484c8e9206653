-- What one more settled call changes of what is live under an id.
use Rattle.std.proofs.Common.{arith, ◌≡◌, ◌≢◌, inl, inr, ℕ, List, [], ◌∷◌, ◌++◌, true, false, not, Option, Some, None, option_map, refl, sym, ap, subst, ◌∙◌, map, filter, find}
use Rattle.std.specs.{List.list_any, Option.option_or, Prelude.cond, Str.bytes_eq}
use Rattle.cf_tree.specs.declared.request.Request.{Request}
use Rattle.cf_tree.specs.declared.request.Request.TheVariants.{Create, Update, Delete}
use Rattle.cf_tree.specs.declared.code.Code.TheVariants as code
use Rattle.cf_handler.specs.declared.settled.{Settled.Settled, Settlement.Settlement}
use Rattle.cf_handler.specs.declared.settled.Settlement.TheVariants.{Success, Failed}
use Rattle.cf_handler.specs.Lane.{LaneState, Live, live_of, live_after, live_changed, updated, has_id, is_used, succeeded_with}
use Rattle.cf_handler.specs.Move.{MaySettle}
use Rattle.cf_agree.specs.Base.{Dict, Made, Set, named_by, gone_by, change_of}
use Rattle.cf_agree.proofs.Words.{bytes_same, other_bytes, some_or, same_bytes, bytes_or, has_found, has_none}

-- the live resource with other properties and attributes
abbrev pub with_props : Live → Dict → Dict → Live
with_props v props attrs = record { id = v.id; kind = v.kind; props = props; attrs = attrs }

-- what is found under an id before and after: the call made it, set it, took it away, or left it
pub data Does (r : Request) (x : Settlement) (i : List ℕ) (before after : Option Live) : Type 0 where
  makes : (kind : List ℕ) (props attrs : Dict) → change_of r x ≡ Made i kind props attrs → after ≡ Some (record { id = i; kind = kind; props = props; attrs = attrs }) → Does r x i before after
  sets : (props attrs : Dict) (v : Live) → change_of r x ≡ Set i props attrs → before ≡ Some v → after ≡ Some (with_props v props attrs) → Does r x i before after
  takes : gone_by r x ≡ Some i → after ≡ None → Does r x i before after
  keeps : ((k : List ℕ) (p t : Dict) → change_of r x ≢ Made i k p t) → ((p t : Dict) → change_of r x ≢ Set i p t) → gone_by r x ≢ Some i → after ≡ before → Does r x i before after

abbrev under : List ℕ → List Live → Option Live
under i live = find (λ r. bytes_eq i r.id) live

-- One more at the end counts where none was found; an update changes what is found, and a deletion takes it away, under its id alone.
under_last : (i : List ℕ) (live : List Live) (v : Live)
    → under i (live ++ v ∷ []) ≡ option_or (under i live) (cond (bytes_eq i v.id) (Some v) None)
under_last i [] v = refl
under_last i (r ∷ live) v = grind (arith, under_last i live v)

under_updated : (i j : List ℕ) (p t : Dict) (live : List Live)
    → under i (map (updated j p t) live) ≡ option_map (updated j p t) (under i live)
under_updated i j p t [] = refl
under_updated i j p t (r ∷ live) = grind (arith, under_updated i j p t live)

abbrev left : List ℕ → List Live → List Live
left j live = filter (λ r. not (bytes_eq j r.id)) live

under_left : (i j : List ℕ) (live : List Live) → under i (left j live) ≡ cond (bytes_eq j i) None (under i live)
under_left i j [] = grind arith
under_left i j (r ∷ live) = grind (arith, under_left i j live, bytes_same i r.id, bytes_same j r.id, bytes_same j i)

found_as : (i : List ℕ) (live : List Live) (v : Live) → under i live ≡ Some v → i ≡ v.id
found_as i [] v h = absurd (cc)
found_as i (r ∷ live) v h = grind (arith, found_as i live v, bytes_same i r.id)

-- an id that was never used isn't live
none_changed : (i : List ℕ) (r : Request) (x : Settlement) (live : List Live)
    → succeeded_with i x ≡ false → under i live ≡ None → under i (live_changed r x live) ≡ None
none_changed i r x live u h = grind (arith, under_last i live, under_updated i, under_left i)

none_after : (i : List ℕ) (ss : List Settled) (live : List Live) → under i live ≡ None
    → list_any (λ t. succeeded_with i t.settlement) ss ≡ false → under i (live_after live ss) ≡ None
none_after i [] live h u = h
none_after i (t ∷ ss) live h u = grind (arith, none_after i ss, none_changed)

pub unused : (i : List ℕ) (l : LaneState) → is_used i l ≡ false → under i (live_of l) ≡ None
unused i l h = grind (arith, has_none, none_after)

-- what may settle, on what is live there
pub does : (n : List ℕ) (l : LaneState) (r : Request) (x : Settlement) (i : List ℕ) → MaySettle n l r x → (is_used i l ≡ false → under i (live_of l) ≡ None) → Does r x i (under i (live_of l)) (under i (live_changed r x (live_of l)))
does n l (Create k p) (Success j t) i m u =
    let f = under_last i (live_of l) (record { id = j; kind = k; props = p; attrs = t }) in elim (bytes_or i j) [
      | inl e ↦ (let c = same_bytes i j e in makes k p t (ap (λ q. Made q k p t) (sym e)) (grind (arith, u)))
      | inr e ↦ (let c = other_bytes i j e in keeps (λ k' p' t' c. e (cc)) (λ p' t' c. absurd (cc)) (λ c. absurd (cc)) (grind arith))
    ]
does n l (Update j p) (Success j' t) i m u = let f = under_updated i j p t (live_of l) in elim (bytes_or i j) [
  | inl e ↦ (let (v, g) = has_found i (live_of l) (subst (λ q. has_id q (live_of l) ≡ true) (sym e) m.1) in
      let c = same_bytes j v.id (sym e ∙ found_as i (live_of l) v g) in sets p t v (ap (λ q. Set q p t) (sym e)) g (grind arith))
  | inr e ↦ keeps (λ k' p' t' c. absurd (cc)) (λ p' t' c. e (cc)) (λ c. absurd (cc)) (elim (some_or (under i (live_of l))) [
    | inl h ↦ grind arith
    | inr (v, h) ↦ (let c = other_bytes j v.id (λ z. e (found_as i (live_of l) v h ∙ sym z)) in grind arith)
  ])
]
does n l (Delete j) (Success j' t) i m u = let f = under_left i j (live_of l) in elim (bytes_or i j) [
  | inl e ↦ (let c = same_bytes j i (sym e) in takes (ap Some (sym e)) (grind arith))
  | inr e ↦ (let c = other_bytes j i (λ z. e (sym z)) in keeps (λ k' p' t' c. absurd (cc)) (λ p' t' c. absurd (cc)) (λ c. e (cc)) (grind arith))
]
does n l (Delete j) (Failed code.NotFound) i m u = elim (bytes_or i j) [
  | inl e ↦ takes (ap Some (sym e)) (has_none i (live_of l) (subst (λ q. has_id q (live_of l) ≡ false) (sym e) m))
  | inr e ↦ keeps (λ k' p' t' c. absurd (cc)) (λ p' t' c. absurd (cc)) (λ c. e (cc)) refl
]
does n l r x i m u = keeps (λ k' p' t' c. absurd (cc)) (λ p' t' c. absurd (cc)) (λ c. absurd (cc)) refl

-- what each of these says of the request and the answer
pub gone_request : (r : Request) (x : Settlement) (i : List ℕ) → gone_by r x ≡ Some i → r ≡ Delete i
gone_request r x i e = grind arith

pub gone_names : (r : Request) (x : Settlement) (i : List ℕ) → gone_by r x ≡ Some i → named_by r ≡ Some i
gone_names r x i e = ap named_by (gone_request r x i e)

pub set_request : (r : Request) (x : Settlement) (i : List ℕ) (p t : Dict) → change_of r x ≡ Set i p t → r ≡ Update i p
set_request r x i p t e = grind arith

pub set_names : (r : Request) (x : Settlement) (i : List ℕ) (p t : Dict) → change_of r x ≡ Set i p t → named_by r ≡ Some i
set_names r x i p t e = ap named_by (set_request r x i p t e)

pub made_success : (r : Request) (x : Settlement) (i k : List ℕ) (p t : Dict) → change_of r x ≡ Made i k p t → (x ≡ Success i t) × (r ≡ Create k p)
made_success r x i k p t e = grind arith
