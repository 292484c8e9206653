-- An outcome that is a success is no doubt and no refusal, and begins nothing.
use Rattle.std.proofs.Common.{◌≡◌, ℕ, ◌==◌, Bool, true, false, ◌&&◌, List, None, refl, ap, sym, ◌∙◌, true≢false}
use Rattle.cf_tree.specs.Datum.{Data}
use Rattle.cf_schema.specs.declared.described.Schema.{Schema}
use Rattle.cf_entry.specs.declared.entry.Entry.{Entry}
use Rattle.cf_entry.specs.declared.entry.Entry.TheVariants as entry
use Rattle.cf_entry.specs.declared.entry.Reply.TheVariants as reply
use Rattle.cf_effect.specs.Heard.{is_success_outcome}
use Rattle.cf_effect.specs.Operation.{is_doubt, is_phase, is_turn_or_opening}
use Rattle.cf_effect.specs.World.{StackState}
use Rattle.cf_plan.specs.Called.{reply_passes}
use Rattle.cf_plan.specs.Forward.{doubting, refusing}

record IsSuccess (e : Entry) : Type 0 where
  number : ℕ
  token : ℕ
  physical : List ℕ
  attrs : List (List ℕ × Data)
  before : ℕ
  after : ℕ
  is : e ≡ entry.Outcome number token (reply.Success physical attrs) before after

success_is : (e : Entry) → is_success_outcome e ≡ true → IsSuccess e
success_is (entry.Outcome n t (reply.Success id attrs) b a) h = record { number = n; token = t; physical = id; attrs = attrs; before = b; after = a; is = refl }
success_is (entry.Outcome n t (reply.Failed c) b a) h = absurd (true≢false (sym h))
success_is (entry.Outcome n t reply.Doubt b a) h = absurd (true≢false (sym h))
success_is (entry.Opened epoch lanes) h = absurd (true≢false (sym h))
success_is (entry.Begin number stack kind) h = absurd (true≢false (sym h))
success_is (entry.Kept number path physical w) h = absurd (true≢false (sym h))
success_is (entry.Intent number token lane path r) h = absurd (true≢false (sym h))
success_is (entry.Phase number p cause) h = absurd (true≢false (sym h))
success_is (entry.Done number state failed) h = absurd (true≢false (sym h))
success_is (entry.ChangeSet number name source rows outputs) h = absurd (true≢false (sym h))

and_false : (b : Bool) → (b && false) ≡ false
and_false true = refl
and_false false = refl

pub no_doubt : (token : ℕ) (e : Entry) → is_success_outcome e ≡ true → reply_passes (λ r. token == r.token && is_doubt r.answer) e ≡ false
no_doubt token e h = let s = success_is e h in ap (λ f. reply_passes (λ r. token == r.token && is_doubt r.answer) f) s.is ∙ and_false (token == s.token)

pub no_turn : (e : Entry) → is_success_outcome e ≡ true → is_turn_or_opening e ≡ false
no_turn e h = let s = success_is e h in ap is_turn_or_opening s.is

pub no_phase : (e : Entry) → is_success_outcome e ≡ true → is_phase e ≡ false
no_phase e h = let s = success_is e h in ap is_phase s.is

pub no_refusal : (schemas : List Schema) (s : StackState) (e : Entry) → is_success_outcome e ≡ true → refusing schemas s e ≡ None
no_refusal schemas s e h = let k = success_is e h in ap (refusing schemas s) k.is

pub no_third : (s : StackState) (earlier : List Entry) (e : Entry) → is_success_outcome e ≡ true → doubting s earlier e ≡ None
no_third s earlier e h = let k = success_is e h in ap (doubting s earlier) k.is
