use Rattle.std.proofs.Common.{◌≡◌, Global, drop, map, string_bytes}
use Rattle.std.specs.List.{list_all}
use Rattle.cf_template.specs.Words.{is_name}
use Rattle.cf_face.proofs.words.are_names.Given as goal

abbrev pub invariant-loop-name : goal.invariant-loop-name
invariant-loop-name l =
    list_all is_name (map (string_bytes {Z = Global}) l.names) ≡ list_all is_name (map (string_bytes {Z = Global}) (drop l.name-index l.names))
