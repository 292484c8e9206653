-- What the evaluator's look-ups stand for (this project's own).
use Rattle.cf_eval.specs.declared.scope.Scope as held
use Rattle.cf_eval.specs.declared.scope.Beyond as held_beyond
use Rattle.cf_eval.specs.declared.scope.Beyond.TheVariants as around
use Rattle.cf_eval.specs.Scope.{Scope, Beyond, open_to, closed_to, verdict_among, scope_from}

abbrev pub beyond_of : held_beyond.Beyond → Beyond
beyond_of (around.Open seen imports) = open_to seen.now imports.now
beyond_of (around.Closed resources) = closed_to resources.now

abbrev pub scope_of : held.Scope → Scope
scope_of s = scope_from s.mappings.now s.params.now s.pseudo.now (verdict_among s.conds.now) (beyond_of s.beyond)
