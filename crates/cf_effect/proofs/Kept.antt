-- The spelling of an entry keeps the entry.
use Rattle.std.proofs.Common.{◌≡◌, ℕ, true, List, Some, None, refl, ap, sym, true≢false}
use Rattle.std.proofs.lemmas.Option.{none-some, same_Some}
use Rattle.cf_entry.specs.declared.entry.Entry.{Entry}
use Rattle.cf_entry.specs.Entry.{spelling_of, IsEntry}
use Rattle.cf_entry.specs.EntryReading.{entry_of}
use Rattle.cf_entry.proofs.Spelled.{spelled_is_read}
use Rattle.cf_entry.specs.declared.entry.Entry.TheVariants as entry
use Rattle.cf_entry.specs.declared.entry.Reply.TheVariants as reply
use Rattle.cf_effect.specs.Heard.{is_success_outcome, spelled, unsuccessful}
use Rattle.cf_effect.specs.Bounds.{IsShortOutcomeOf}

pub kept_spelled : (bytes : List ℕ) (x : Entry) → bytes ≡ spelling_of x → IsEntry x → spelled (entry_of bytes) ≡ x
kept_spelled bytes x h fits = ap spelled (spelled_is_read bytes x fits (sym h))

-- an outcome that is not copied is a success
pub only_success : (token : ℕ) (e : Entry) → IsShortOutcomeOf token e → unsuccessful e ≡ None → is_success_outcome e ≡ true
only_success token (entry.Outcome n t (reply.Success id attrs) b a) o h = refl
only_success token (entry.Outcome n t (reply.Failed c) b a) o h = absurd (none-some (entry.Outcome n t (reply.Failed c) b a) (sym h))
only_success token (entry.Outcome n t reply.Doubt b a) o h = absurd (none-some (entry.Outcome n t reply.Doubt b a) (sym h))
only_success token (entry.Opened epoch lanes) o h = absurd o
only_success token (entry.Begin number stack kind) o h = absurd o
only_success token (entry.Kept number path physical w) o h = absurd o
only_success token (entry.Intent number t lane path r) o h = absurd o
only_success token (entry.Phase number p cause) o h = absurd o
only_success token (entry.Done number state failed) o h = absurd o
only_success token (entry.ChangeSet number name source rows outputs) o h = absurd o

-- one that is copied is the same
pub same_outcome : (e f : Entry) → unsuccessful e ≡ Some f → f ≡ e
same_outcome (entry.Outcome n t (reply.Success id attrs) b a) f h = absurd (none-some f h)
same_outcome (entry.Outcome n t (reply.Failed c) b a) f h = sym (same_Some (entry.Outcome n t (reply.Failed c) b a) f h)
same_outcome (entry.Outcome n t reply.Doubt b a) f h = sym (same_Some (entry.Outcome n t reply.Doubt b a) f h)
same_outcome (entry.Opened epoch lanes) f h = absurd (none-some f h)
same_outcome (entry.Begin number stack kind) f h = absurd (none-some f h)
same_outcome (entry.Kept number path physical w) f h = absurd (none-some f h)
same_outcome (entry.Intent number t lane path r) f h = absurd (none-some f h)
same_outcome (entry.Phase number p cause) f h = absurd (none-some f h)
same_outcome (entry.Done number state failed) f h = absurd (none-some f h)
same_outcome (entry.ChangeSet number name source rows outputs) f h = absurd (none-some f h)
