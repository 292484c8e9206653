-- What a name that joins a map of names leaves, by its place.
use Rattle.std.proofs.Common.{◌≡◌, ℕ, Bool, true, false, List, Option, Result, Ok, Err, cond, insert, is_some, ap, sym, ◌∙◌}
use Rattle.cf_tree.specs.Keys.{ascends, place, put}
use Rattle.cf_tree.proofs.Lookups.{entry_found, entry_missed}
use Rattle.cf_tree.proofs.Order.{ascends_put}
use Rattle.cf_tree.proofs.Placed.{entry_new}
use Rattle.cf_next.specs.Lookups.{has_key, with_first}

module _ {X : Type 0} (k : List ℕ) where
  module _ (v : X) (ps : List (List ℕ × X)) where
    abbrev joined : (o : Option X) → List (List ℕ × X)
    joined o = cond (is_some o) ps (put k v ps)

    pub first_kept : (i : ℕ) → ascends ps ≡ true → place k ps ≡ Ok i → ps ≡ with_first k v ps
    first_kept i rise e = sym (ap joined (entry_found k ps i rise (k, v) e))

    pub first_put : (i : ℕ) → ascends ps ≡ true → place k ps ≡ Err i → insert ps i (k, v) ≡ with_first k v ps
    first_put i rise e = entry_new k v ps i e ∙ sym (ap joined (entry_missed k ps i rise e))

    put_or_kept : (b : Bool) → ascends ps ≡ true → ascends (cond b ps (put k v ps)) ≡ true
    put_or_kept true rise = rise
    put_or_kept false rise = ascends_put k v ps rise

    pub ascends_first : ascends ps ≡ true → ascends (with_first k v ps) ≡ true
    ascends_first rise = put_or_kept (has_key k ps) rise
