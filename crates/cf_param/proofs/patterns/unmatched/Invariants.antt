use Rattle.std.proofs.Common.{◌≡◌, drop}
use Rattle.regex.specs.Strings.{matcher_pattern}
use Rattle.cf_param.specs.Pattern.{any_unmatched}
use Rattle.cf_param.proofs.patterns.unmatched.Given as goal

abbrev pub invariant-loop-part : goal.invariant-loop-part
invariant-loop-part l = record {
  searches : matcher_pattern l.matcher ≡ matcher_pattern l.initial.matcher;
  so_far : any_unmatched l.pattern l.parts ≡ any_unmatched l.pattern (drop l.part-index l.parts);
}
