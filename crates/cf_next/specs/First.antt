-- The first step of an operation's offer that a lane can take at once, found by one walk over each of its lists (this project's own).
use Rattle.std.specs.Prelude.{ℕ, ◌+◌, Bool, true, false, ◌&&◌, not, List, [], Option, Some, None, filter, find, fold, nat_lt, option_map, if◌then◌else◌}
use Rattle.std.specs.List.{list_any}
use Rattle.cf_effect.specs.declared.held.Pending.{Pending}
use Rattle.cf_effect.specs.World.{World}
use Rattle.cf_plan.specs.Follow.{is_lane_leased}
use Rattle.cf_plan.specs.Start.{Start}
use Rattle.cf_next.specs.declared.offer.Keeping.{Keeping}
use Rattle.cf_next.specs.declared.offer.Offer.{Offer}
use Rattle.cf_next.specs.declared.step.Next.{Next}
use Rattle.cf_next.specs.declared.step.Next.TheVariants as next
use Rattle.cf_next.specs.Chosen.{physical_id_of, precedes}
use Rattle.cf_next.specs.Joining.{fits}

-- of those that pass a test the first in an order, and of two in the same place the earlier one
abbrev pub better : {A : Type 0} → (A → A → Bool) → (A → Bool) → Option A → A → Option A
better before test None a = if test a then Some a else None
better before test (Some b) a = if before a b && test a then Some a else Some b

abbrev pub first_by : {A : Type 0} → (A → A → Bool) → (A → Bool) → List A → Option A
first_by before test xs = fold (better before test) None xs

-- open calls by their tokens, each where its lane is at home
abbrev pub is_opened_before : Pending → Pending → Bool
is_opened_before p q = nat_lt p.token q.token

abbrev pub is_lane_home : List ℕ → World → List ℕ → Bool
is_lane_home out x lane = not (is_lane_leased out x lane)

abbrev pub first_repeat : List ℕ → World → List Pending → Option Pending
first_repeat out x ps = first_by is_opened_before (λ p. is_lane_home out x p.lane) ps

-- new calls by path and physical id, each where one of the lanes at home fits it
abbrev pub start_place : Start → List ℕ × List ℕ
start_place a = (a.path, physical_id_of a.request)

abbrev pub is_start_before : Start → Start → Bool
is_start_before a b = precedes (start_place a) (start_place b)

abbrev pub homes_now : List ℕ → World → List (List ℕ × List ℕ)
homes_now out x = filter (λ l. is_lane_home out x l.0) x.lanes

abbrev pub fits_one : List (List ℕ × List ℕ) → Start → Bool
fits_one homes a = list_any (fits a.request) homes

abbrev pub first_start : List (List ℕ × List ℕ) → List Start → Option Start
first_start homes starts = first_by is_start_before (fits_one homes) starts

-- resources to keep by path and physical id
abbrev pub keeping_place : Keeping → List ℕ × List ℕ
keeping_place k = (k.path, k.physical)

abbrev pub is_keeping_before : Keeping → Keeping → Bool
is_keeping_before k l = precedes (keeping_place k) (keeping_place l)

abbrev pub first_keeping : List Keeping → Option Keeping
first_keeping ks = first_by is_keeping_before (λ k. true) ks

-- the steps: a call once more, a new call on the first lane at home that fits it, and a resource that is kept
abbrev pub again : Pending → Next
again p = next.Step p.path p.lane p.token p.request true

abbrev pub keep : Keeping → Next
keep k = next.Keep k.path k.physical k.why

abbrev pub call_on : ℕ → Start → List ℕ × List ℕ → Next
call_on token a l = next.Step a.path l.0 token a.request false

abbrev pub call_in : List (List ℕ × List ℕ) → ℕ → Start → Option Next
call_in homes token a = option_map (call_on token a) (find (fits a.request) homes)

-- a new call, or else a resource to keep, whichever comes first; and before both a call once more
abbrev pub either_new : List (List ℕ × List ℕ) → ℕ → Option Start → Option Keeping → Option Next
either_new homes token None None = None
either_new homes token None (Some k) = Some (keep k)
either_new homes token (Some a) None = call_in homes token a
either_new homes token (Some a) (Some k) = if precedes (keeping_place k) (start_place a) then Some (keep k) else call_in homes token a

abbrev pub first_new : List (List ℕ × List ℕ) → ℕ → Offer → Option Next
first_new homes token o = either_new homes token (first_start homes o.starts) (first_keeping o.keepings)

abbrev pub repeat_or : Option Pending → Option Next → Option Next
repeat_or (Some p) n = Some (again p)
repeat_or None n = n

abbrev pub first_begun : List ℕ → World → Offer → Option Next
first_begun out x o = repeat_or (first_repeat out x o.repeats) (first_new (homes_now out x) (x.token + 1) o)
