-- A reader of a list of two or three items that refuses the empty list and what has other items refuses each list of another length.
use Rattle.std.proofs.Common.{◌≡◌, ℕ, ◌<◌, List, [], ◌∷◌, length, Err, ◌⊎◌, inl, inr, lt_irrefl}
use Rattle.serde_json.specs.Data.{Data, Items, no_items, item}
use Rattle.serde_json.specs.View.{view, items_view}
use Rattle.serde_json.specs.declared.value.Value.{Value}
use Rattle.cf_template.specs.declared.refusal.TemplateFault.{TemplateFault}
use Rattle.cf_template.specs.Refusals.{Reading}

pub not_two : {A : Type 0} (r : Items → Reading A) (e : TemplateFault)
    → (r no_items ≡ Err e) → ((a : Data) → r (item a no_items) ≡ Err e)
    → ((a b d : Data) (ds : Items) → r (item a (item b (item d ds))) ≡ Err e)
    → (vs : List Value) → (length vs < 2) ⊎ (2 < length vs) → r (items_view vs) ≡ Err e
not_two r e h0 h1 more [] o = h0
not_two r e h0 h1 more (a ∷ []) o = h1 (view a)
not_two r e h0 h1 more (a ∷ b ∷ []) (inl o) = absurd (lt_irrefl 2 o)
not_two r e h0 h1 more (a ∷ b ∷ []) (inr o) = absurd (lt_irrefl 2 o)
not_two r e h0 h1 more (a ∷ b ∷ d ∷ vs) o = more (view a) (view b) (view d) (items_view vs)

pub not_three : {A : Type 0} (r : Items → Reading A) (e : TemplateFault)
    → (r no_items ≡ Err e) → ((a : Data) → r (item a no_items) ≡ Err e) → ((a b : Data) → r (item a (item b no_items)) ≡ Err e)
    → ((a b d f : Data) (ds : Items) → r (item a (item b (item d (item f ds)))) ≡ Err e)
    → (vs : List Value) → (length vs < 3) ⊎ (3 < length vs) → r (items_view vs) ≡ Err e
not_three r e h0 h1 h2 more [] o = h0
not_three r e h0 h1 h2 more (a ∷ []) o = h1 (view a)
not_three r e h0 h1 h2 more (a ∷ b ∷ []) o = h2 (view a) (view b)
not_three r e h0 h1 h2 more (a ∷ b ∷ d ∷ []) (inl o) = absurd (lt_irrefl 3 o)
not_three r e h0 h1 h2 more (a ∷ b ∷ d ∷ []) (inr o) = absurd (lt_irrefl 3 o)
not_three r e h0 h1 h2 more (a ∷ b ∷ d ∷ f ∷ vs) o = more (view a) (view b) (view d) (view f) (items_view vs)
