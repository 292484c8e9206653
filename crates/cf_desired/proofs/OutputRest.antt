-- An output rests on what its value and the name of its export mention.
use Rattle.std.proofs.Common.{◌≡◌, ℕ, List, Option, Some, None, option_map, refl, ap}
use Rattle.std.specs.Option.{option_or}
use Rattle.cf_tree.specs.Forms.{Form, place_of}
use Rattle.cf_tree.specs.declared.source.Source.{Source}
use Rattle.cf_tree.specs.declared.template.Out.{Out}
use Rattle.cf_eval.specs.Outcome.{Outcome, Stop}
use Rattle.cf_eval.specs.Texts.{as_text}
use Rattle.cf_graph.specs.Mentions.{mentions_of}
use Rattle.cf_graph.specs.Needs.{holds_in}
use Rattle.cf_desired.specs.Met.{exporting_as, exporting_in}
use Rattle.cf_desired.specs.Names.{pseudo_of}
use Rattle.cf_desired.specs.Rests.{SeesAllSame, OutputRests, maybe_mentions}
use Rattle.cf_desired.specs.Seeing.{export_stop, export_wanted, text_in, text_known, unnamed_output}
use Rattle.cf_desired.specs.Stack.{Stack, Settings, Sights, Verdicts, flaw_at, scoping, stop_in}
use Rattle.cf_desired.specs.declared.wanted.Exporting.{Exporting}
use Rattle.cf_desired.specs.declared.wanted.WantedOutput.{WantedOutput}
use Rattle.cf_desired.proofs.Mentions.{value_rests}

abbrev told_by : List ℕ → Verdicts → Out → Outcome (List ℕ) → Exporting → Option Stop → WantedOutput
told_by path conds o value export stop = record {
  name = o.name;
  value = text_known value;
  export = export;
  fault = option_map (flaw_at path) (option_or (unnamed_output conds o) (option_or stop (stop_in value)));
}

module _ (source : Source) (t : Stack) (conds : Verdicts) (bound : Settings) (m n : Sights) where
  text_rests : (e : Form) → SeesAllSame bound m n (mentions_of (holds_in conds) e) → text_in (scoping source t conds bound n) e ≡ text_in (scoping source t conds bound m) e
  text_rests e a = ap (as_text (place_of e)) (value_rests t.template bound conds (pseudo_of t.name source.number) source.imports m n e a)

  exporting_rests : (x : Option Form) → SeesAllSame bound m n (maybe_mentions conds x) → exporting_in (scoping source t conds bound n) x ≡ exporting_in (scoping source t conds bound m) x
  exporting_rests None a = refl
  exporting_rests (Some e) a = ap (λ (x : Outcome (List ℕ)). exporting_as (export_wanted e x)) (text_rests e a)

  stop_rests : (x : Option Form) → SeesAllSame bound m n (maybe_mentions conds x) → export_stop (scoping source t conds bound n) x ≡ export_stop (scoping source t conds bound m) x
  stop_rests None a = refl
  stop_rests (Some e) a = ap (λ (x : Outcome (List ℕ)). stop_in (export_wanted e x)) (text_rests e a)

pub output_rests : OutputRests
output_rests source t conds bound m n o a b =
    λ i. told_by t.path conds o (text_rests source t conds bound m n o.value a i) (exporting_rests source t conds bound m n o.export b i) (stop_rests source t conds bound m n o.export b i)
