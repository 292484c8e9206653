-- Two lists of texts pass the test exactly if they are equal (this project's own).
use Rattle.std.specs.Str.{bytes_eq}
use Rattle.std.specs.Cmp.{IsEquivalence}
use Rattle.std.specs.Cmp.Lexicographic.{pointwise, nat_list_eq_equiv, lists_equiv}

pub same_names_equiv : IsEquivalence (pointwise bytes_eq)
same_names_equiv = lists_equiv nat_list_eq_equiv
