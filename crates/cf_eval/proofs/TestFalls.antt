-- A condition in a list has fewer parts than the list.
use Rattle.std.proofs.Common.{ℕ, zero, suc, ◌<◌, List, [], ◌∷◌, length, get_or, arith}
use Rattle.cf_tree.specs.Tests.{Test, parts_of_test, parts_of_tests, tests_of}

pub test_falls : (cs : List Test) (i : ℕ) (d : Test) → i < length cs → parts_of_test (get_or cs i d) < parts_of_tests (tests_of cs)
test_falls [] i d h = absurd (omega arith)
test_falls (c ∷ cs) zero d h = omega arith
test_falls (c ∷ cs) (suc i) d h = let below = test_falls cs i d (omega arith) in omega arith
