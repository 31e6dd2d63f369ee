-- A byte's class says whether it can stand in a name, and whether it is a digit.
use Rattle.std.proofs.Common.{◌≡◌, ℕ, ◌||◌, arith}
use Rattle.std.proofs.lemmas.Bool.Decides.{nat_tests}
use Rattle.text.specs.Classes.{class_of, is_digit, is_name_start}
use Rattle.text.specs.ClassTests.{digit_class, name_part_class}

pub of_part : (b : ℕ) → name_part_class (class_of b) ≡ (is_name_start b || is_digit b)
of_part b = grind (arith, nat_tests)

pub of_digit : (b : ℕ) → digit_class (class_of b) ≡ is_digit b
of_digit b = grind (arith, nat_tests)
