-- What may fail the forward phase of a creation, and whether a stack is nested in its source.
use Rattle.std.proofs.Common.{◌≡◌, Bool, true, false, List, [], Option, Some, None, ap, sym, ◌∙◌, refl, true≢false}
use Rattle.std.specs.Option.{option_map_or}
use Rattle.cf_entry.specs.declared.entry.Entry.{Entry}
use Rattle.cf_entry.specs.declared.entry.Entry.TheVariants as entry
use Rattle.cf_entry.specs.declared.entry.Reply.TheVariants as reply
use Rattle.cf_tree.specs.declared.source.Source.{Source}
use Rattle.cf_desired.specs.Kept.{IsShape}
use Rattle.cf_desired.specs.Shape.{shape_of}
use Rattle.cf_desired.specs.Valued.{nestings_in}
use Rattle.cf_desired.specs.Work.{Body}
use Rattle.cf_desired.specs.declared.shape.Shape.{Shape}
use Rattle.cf_effect.specs.declared.state.State.{State}
use Rattle.cf_effect.specs.Ahead.{is_setback, nestings_of}
use Rattle.cf_effect.specs.Begin.{seen_in}
use Rattle.cf_effect.specs.Heard.{is_success_outcome}
use Rattle.cf_effect.specs.Outset.{Outset}
use Rattle.cf_effect.specs.State.{before_in, source_in, state_of}

-- a success is no setback
pub no_setback : (e : Entry) → is_success_outcome e ≡ true → is_setback e ≡ false
no_setback (entry.Outcome n t (reply.Success id attrs) b a) h = refl
no_setback (entry.Outcome n t (reply.Failed c) b a) h = absurd (true≢false (sym h))
no_setback (entry.Outcome n t reply.Doubt b a) h = absurd (true≢false (sym h))
no_setback _ h = absurd (true≢false (sym h))

-- where the stack set out with a source, by what is told of its shape, and where with none
pub none_nested : (x : State) (o : Outset) (shape : Shape) (r : Bool) → x.outset ≡ Some o → IsShape shape (shape_of o.source (seen_in o.before))
    → ((b : Body) → IsShape shape b → r ≡ false → nestings_in b ≡ []) → r ≡ false → nestings_of (state_of x) ≡ []
none_nested x o shape r is so h e =
    ap (λ (y : Option Outset). option_map_or (λ source. nestings_in (shape_of source (seen_in (before_in y)))) (source_in y) []) is
    ∙ h (shape_of o.source (seen_in o.before)) so e

pub nothing_nested : (x : State) → x.outset ≡ None → nestings_of (state_of x) ≡ []
nothing_nested x is = ap (λ (y : Option Outset). option_map_or (λ source. nestings_in (shape_of source (seen_in (before_in y)))) (source_in y) []) is
