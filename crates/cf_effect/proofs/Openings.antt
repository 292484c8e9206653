-- What an opening leaves of a stack.
use Rattle.std.proofs.Common.{◌≡◌, ℕ, Bool, true, false, List, [], ◌∷◌, ◌++◌, map, refl, sym, ap, ◌∙◌}
use Rattle.std.proofs.lemmas.List.{append-nil}
use Rattle.cf_entry.specs.declared.entry.Entry.{Entry}
use Rattle.cf_entry.specs.declared.entry.Entry.TheVariants as entry
use Rattle.cf_effect.specs.Calls.{anew}
use Rattle.cf_effect.specs.Fold.{effect_at, is_opening}
use Rattle.cf_effect.specs.World.{StackState}

module _ (place : ℕ) (s : StackState) where
  -- where nothing was heard since an operation began, nothing is heard of it
  pub opened_first : (e : Entry) → is_opening e ≡ true → s.entries ≡ [] → record s { ledger = map anew s.ledger } ≡ (effect_at place e s).stack
  opened_first (entry.Opened epoch lanes) h none = rw (none, append-nil) refl
  opened_first (entry.Begin number name k) h none = absurd cc
  opened_first (entry.Kept number path physical w) h none = absurd cc
  opened_first (entry.Intent number token lane path r) h none = absurd cc
  opened_first (entry.Outcome number token answer before after) h none = absurd cc
  opened_first (entry.Phase number p cause) h none = absurd cc
  opened_first (entry.Done number state failed) h none = absurd cc
  opened_first (entry.ChangeSet number name source rows outputs) h none = absurd cc

  pub opened_more : (e : Entry) (f : Entry) (es : List Entry) → is_opening e ≡ true → s.entries ≡ f ∷ es
      → record s { ledger = map anew s.ledger; entries = s.entries ++ e ∷ [] } ≡ (effect_at place e s).stack
  opened_more (entry.Opened epoch lanes) f es h some = rw (some, append-nil) refl
  opened_more (entry.Begin number name k) f es h some = absurd cc
  opened_more (entry.Kept number path physical w) f es h some = absurd cc
  opened_more (entry.Intent number token lane path r) f es h some = absurd cc
  opened_more (entry.Outcome number token answer before after) f es h some = absurd cc
  opened_more (entry.Phase number p cause) f es h some = absurd cc
  opened_more (entry.Done number state failed) f es h some = absurd cc
  opened_more (entry.ChangeSet number name source rows outputs) f es h some = absurd cc
