-- The life that makes the first resource.
use Rattle.std.proofs.Common.{◌≡◌, refl, List, [], ◌∷◌, Some, None, true, false, ℕ, sym, subst, lit≤, Bool}
use Rattle.std.specs.Prelude.{codes, ◌++◌, if◌then◌else◌}
use Rattle.cf_tree.specs.declared.request.Answer.TheVariants as answer
use Rattle.cf_entry.specs.declared.status.Status.TheVariants as status
use Rattle.std.specs.Str.{bytes_eq}
use Rattle.cf_handler.specs.declared.settled.Settled.{Settled}
use Rattle.cf_handler.specs.Lane.{Live, live_of}
use Rattle.cf_handler.specs.Fence.{Flying}
use Rattle.cf_effect.specs.declared.held.Held.{Held}
use Rattle.cf_effect.specs.World.{stack_at, empty_world, StackState}
use Rattle.cf_effect.specs.Words.{current_at}
use Rattle.cf_effect.specs.Fold.{world_after}
use Rattle.cf_effect.specs.Begin.{source_for}
use Rattle.cf_tree.specs.Lists.{here}
use Rattle.cf_tree.specs.Lists.{In}
use Rattle.cf_plan.specs.Lanes.{Lane, AreLanes, AreSchemas}
use Rattle.cf_plan.specs.Life.{Life}
use Rattle.cf_plan.specs.Ends.{IsLive, IsComplete}
use Rattle.cf_plan.specs.Promise.{Promised}
use Rattle.std.proofs.lemmas.Slice.Eq.{bytes_eq-Decides}
use Rattle.cf_plan.specs.Life as life
use Rattle.cf_tree.specs.declared.template.Deletion.TheVariants as deletion
use Rattle.cf_tree.specs.declared.template.Replace.TheVariants as replace
use Rattle.cf_desired.specs.Seeing.{Seen}
use Rattle.cf_desired.specs.Whole.{Right, Whole}
use Rattle.cf_examples.proofs.Standing.{IsWell, complete_of}
use Rattle.cf_examples.specs.Given.{file, file_props, file_attrs, schemas}
use Rattle.cf_examples.specs.FirstResource.{source, done, app, web, world}
use Rattle.cf_examples.specs.FirstLife.{files_with, start, events, made, end, StartIsOne, Lives, KeepsItsPromises, until_written, unwritten, Acts}
use Rattle.cf_examples.proofs.Computing.{computing}
use Rattle.cf_examples.proofs.Lists.{some_is, only}
use Rattle.cf_examples.proofs.Living as step
use Rattle.cf_examples.proofs.Living.{IsLived}
use Rattle.cf_examples.proofs.FirstResource.{world_1, world_2, world_3, world_4, leaves, opens, begins, intends, answers, ends}

-- its name is one, and its type has a schema
pub named_lanes : {settled : List Settled} {flying : List Flying} {fence : ℕ} → AreLanes (files_with settled flying fence ∷ [])
named_lanes = record { named = refl; names_differ = refl }

pub described_lanes : {settled : List Settled} {flying : List Flying} {fence : ℕ} → AreSchemas schemas (files_with settled flying fence ∷ [])
described_lanes = record { kinds_differ = refl; described = refl }

pub starts : StartIsOne
starts = record {
  no_entries = refl;
  closed = refl;
  no_leases = refl;
  named = named_lanes;
  described = described_lanes;
  untouched = λ l i. only (λ (q : Lane). (q.state.state.settled ≡ []) × (q.state.flying ≡ []) × (q.state.fence ≡ 0) × (live_of q.state.state ≡ [])) {a = files_with [] [] 0} (refl, refl, refl, refl) l i;
}

-- until the call has acted, whatever comes then
acting : {es : List life.Event} {last : Life} → IsLived unwritten world_3 es last → IsLived start empty_world (until_written ++ es) last
unfolding computing
acting rest =
    step.opens world_1 refl opens refl refl refl
    (step.raises refl refl refl here (lit≤ tt) (lit≤ tt, refl)
    (step.begins world_2 refl refl tt begins refl
    (step.grants world_3 refl tt intends refl refl
    (step.acts refl refl refl ((lit≤ tt, tt), (lit≤ tt, (_, (((codes "1", refl), lit≤ tt, refl, lit≤ tt), refl), refl))) rest))))

pub acts : Acts
acts = (acting step.ended).lives refl

living_it : IsLived start empty_world events end
unfolding computing
living_it =
    acting (step.settles world_4 refl refl refl refl answers refl
    (step.grants (world_after world_4 done) refl tt ends refl refl
    (step.closes refl refl step.ended)))

pub lives : Lives
lives = living_it.lives refl

abbrev answer_1 : life.CallEnd
answer_1 = life.Answered (answer.Success (codes "f1:1") (file_attrs (codes "f1:1") 5 (codes "web.txt") (codes "hello"))) 0 0

-- In the end: no call is open, one lane is there, and one resource is live on it.
abbrev f1 : Lane
f1 = files_with (made ∷ []) [] 1

abbrev web_live : Live
web_live = record { id = codes "f1:1"; kind = file; props = file_props (codes "web.txt") (codes "hello"); attrs = file_attrs (codes "f1:1") 5 (codes "web.txt") (codes "hello") }

-- The stack is what its status promises.
abbrev seen : Seen
seen = (codes "Web", record { physical = Some (codes "f1:1"); attrs = Some web.attrs }) ∷ []

abbrev web_right : Right
web_right = record { path = codes "Web"; kind = file; deletion = deletion.Delete; replace = replace.Delete; needs = []; props = web.props }

abbrev whole : Whole
whole = record { wanted = web_right ∷ []; outputs = []; exports = [] }

web_is_live : IsLive end.lanes web web_live
web_is_live = record { lane = f1; home = record { handed_in = refl; named = (codes "1", refl) }; live = refl }

well : (r : Held) → In r app.held → IsWell end.lanes app seen whole r
well r i = only (IsWell end.lanes app seen whole) {a = web} (record { right = web_right; live = web_live; is_right = refl; is_live = web_is_live; kind = refl; props = refl; is_seen = refl; alone = refl }) r i

complete : IsComplete (codes "app") world app end.lanes
unfolding computing
complete = complete_of (codes "app") world app end.lanes (source_for (codes "app") 1 source) seen whole refl refl refl refl refl refl refl well (λ w i. only (λ (q : Right). (r : Held) × (current_at q.path app.held ≡ Some r)) {a = web_right} (web, refl) w i)

-- the only stack is this one, under its own name
app_promised : (name : List ℕ) (s : StackState) → stack_at name world ≡ Some s → Promised s.status name world s end.lanes
app_promised name s e = by_test (bytes_eq name (codes "app")) refl e
  where
    by_test : (t : Bool) → bytes_eq name (codes "app") ≡ t → (if t then Some app else None) ≡ Some s → Promised s.status name world s end.lanes
    by_test true k f = subst (λ (q : StackState). Promised q.status name world q end.lanes) (some_is f) (subst (λ n. IsComplete n world app end.lanes) (sym ((bytes_eq-Decides name (codes "app")).0 k)) complete)
    by_test false k f = let z : None ≡ Some s = f in absurd (cc)

pub promises : KeepsItsPromises
promises = λ name s. subst (λ x. stack_at name x ≡ Some s → Promised s.status name x s end.lanes) (sym leaves) (app_promised name s)
