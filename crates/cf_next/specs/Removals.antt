-- What a stage that deletes offers, in every world and under all schemas (this project's own).
use Rattle.std.specs.Prelude.{◌≡◌, ◌⊎◌, ◌↔◌, ℕ, true, false, List, ◌++◌, None, flat_map}
use Rattle.cf_schema.specs.declared.described.Schema.{Schema}
use Rattle.cf_entry.specs.declared.turn.Why.{Why}
use Rattle.cf_entry.specs.declared.turn.Why.TheVariants as why
use Rattle.cf_effect.specs.declared.held.Held.{Held}
use Rattle.cf_effect.specs.declared.held.Pending.{Pending}
use Rattle.cf_effect.specs.Status.{Stage}
use Rattle.cf_effect.specs.World.{StackState, World}
use Rattle.cf_plan.specs.Follow.{MayDelete, MayKeep, is_free, is_to_retain, keeps, waits_for_repeats}
use Rattle.cf_tree.specs.Lists.{In}
use Rattle.cf_next.specs.declared.deletions.Removals.{Removals}
use Rattle.cf_next.specs.declared.facts.Facts.{Facts}
use Rattle.cf_next.specs.declared.offer.Keeping.{Keeping}
use Rattle.cf_next.specs.declared.offer.Offer.{Offer}
use Rattle.cf_plan.specs.Start.{Start}
use Rattle.cf_next.specs.declared.unmaking.Unmaking.{Unmaking}
use Rattle.cf_next.specs.Facts.{creates_given_up, keepings_by, starts_for}
use Rattle.cf_next.specs.Offer.{AreStarts, IsOffer}
use Rattle.cf_next.specs.Unmaking.{held_for, made_for, stage_in}

abbrev pub looked_at : Unmaking → StackState → List Held
looked_at u s = held_for u s ++ made_for u s

-- these are just the calls that may begin
abbrev pub AreAllStarts : Unmaking → List ℕ → StackState → List Start → Type 0
AreAllStarts u out s starts = (schemas : List Schema) (name : List ℕ) (x : World) → AreStarts schemas name x out s (stage_in u) starts

-- what may be kept of the resources: all but what an open create may have made
abbrev pub KeepsResource : Stage → List ℕ → StackState → List ℕ → List ℕ → Why → Type 0
KeepsResource stage out s path physical why.Retained =
    (r : Held) × MayDelete stage s r × (waits_for_repeats stage out s ≡ false) × (keeps stage s r ≡ true) × (path ≡ r.path)
    × (physical ≡ r.physical) × ((is_free path s ≡ true) ⊎ (is_to_retain stage s path ≡ true))
KeepsResource stage out s path physical w = MayKeep stage out s path physical w

abbrev pub AreResourcesKept : Unmaking → List ℕ → StackState → List Keeping → Type 0
AreResourcesKept u out s keepings =
    (path physical : List ℕ) (w : Why) → KeepsResource (stage_in u) out s path physical w
    ↔ In (record { path = path; physical = physical; why = w }) keepings

-- what the walk over the resources makes of them, and that it is right
abbrev pub IsWalked : Unmaking → StackState → Facts → Removals → Type 0
IsWalked u s f r = (r.starts ≡ flat_map (starts_for u f) (looked_at u s)) × (r.keepings ≡ flat_map (keepings_by u f) (looked_at u s))

abbrev pub AreRemovals : Unmaking → List ℕ → StackState → Removals → Type 0
AreRemovals u out s r = AreAllStarts u out s r.starts × AreResourcesKept u out s r.keepings

-- all that a stage offers; with the repeats, and the open creates of the paths that it is to retain
abbrev pub IsOfferIn : Stage → List ℕ → StackState → Offer → Type 0
IsOfferIn stage out s o = (schemas : List Schema) (name : List ℕ) (x : World) → IsOffer schemas name x out s stage o

abbrev pub IsOfferWith : List (List ℕ) → StackState → List Pending → Removals → Offer → Type 0
IsOfferWith retained s repeats r o =
    (o.repeats ≡ repeats) × (o.starts ≡ r.starts) × (o.keepings ≡ r.keepings ++ flat_map (creates_given_up retained) s.tokens)
    × (o.turn ≡ None)
