-- Worked examples: what the definitions give at edges that the standard's text names, or that tell two readings apart.
use Rattle.std.specs.Float.{nan, inf, fin}
use Rattle.std.specs.Prelude.{◌≡◌, true, false, [], ◌∷◌, ℤ, pos, negsuc, Some, None, Option}
use Rattle.ecma.specs.Comparison.{is_strictly_equal, same_value, to_boolean}
use Rattle.ecma.specs.declared.operators.BinaryOperator.{BinaryOperator}
use Rattle.ecma.specs.declared.operators.BinaryOperator.TheVariants.{Addition, Multiplication, Division, Remainder, Exponential, BitwiseOR, ShiftLeft, ShiftRight, ShiftRightZeroFill, LessThan, GreaterEqualThan, Equality, Inequality}
use Rattle.ecma.specs.Integer.{to_int32, to_uint32}
use Rattle.ecma.specs.Number.{number_for}
use Rattle.ecma.specs.Operators.{binary_fold}
use Rattle.ecma.specs.Value.{Primitive, null, undefined, boolean, number, string}

-- the Number for an integer, and some that are none
abbrev int : ℤ → Primitive
int z = number (number_for z)

abbrev minus_zero : Primitive
minus_zero = number (fin true 0 (pos 0))

abbrev not_a_number : Primitive
not_a_number = number nan

abbrev infinity : Primitive
infinity = number (inf false)

-- an operator at two values, where no text's number is known, and where every text's number is 1
abbrev at : Primitive → BinaryOperator → Primitive → Option Primitive
at x o y = binary_fold (λ _. None) o x y

abbrev at1 : Primitive → BinaryOperator → Primitive → Option Primitive
at1 x o y = binary_fold (λ _. Some (number_for (pos 1))) o x y

pub record WorkedExamples : Type 0 where
  -- conversions: -2147483649.5 and 2 ^ 84
  pub to_int32_cuts_and_wraps : to_int32 (fin true 4294967299 (negsuc 0)) ≡ pos 2147483647
  pub to_int32_of_a_half : to_int32 (fin true 1 (negsuc 0)) ≡ pos 0
  pub to_int32_of_2^84 : to_int32 (fin false 1 (pos 84)) ≡ pos 0
  pub to_uint32_of_minus_one : to_uint32 (fin true 1 (pos 0)) ≡ 4294967295
  pub to_int32_of_infinity : to_int32 (inf true) ≡ pos 0
  -- bits
  pub unsigned_shift : at (int (negsuc 0)) ShiftRightZeroFill (int (pos 0)) ≡ Some (int (pos 4294967295))
  pub or_wraps : at (int (pos 2147483648)) BitwiseOR (int (pos 0)) ≡ Some (int (negsuc 2147483647))
  pub shift_by_minus_one : at (int (pos 1)) ShiftLeft (int (negsuc 0)) ≡ Some (int (negsuc 2147483647))
  pub shift_by_32 : at (int (pos 1)) ShiftLeft (int (pos 32)) ≡ Some (int (pos 1))
  pub signed_shift_rounds_down : at (int (negsuc 4)) ShiftRight (int (pos 1)) ≡ Some (int (negsuc 2))
  -- remainders
  pub remainder_zero_keeps_sign : at (int (negsuc 0)) Remainder (int (pos 1)) ≡ Some minus_zero
  pub remainder_has_dividend's_sign : at (int (negsuc 4)) Remainder (int (pos 3)) ≡ Some (int (negsuc 1))
  pub remainder_ignores_divisor's_sign : at (int (pos 5)) Remainder (int (negsuc 2)) ≡ Some (int (pos 2))
  pub remainder_by_infinity : at (int (pos 5)) Remainder infinity ≡ Some (int (pos 5))
  pub remainder_by_zero : at (int (pos 5)) Remainder minus_zero ≡ Some not_a_number
  pub remainder_of_fractions : at (number (fin false 11 (negsuc 0))) Remainder (int (pos 2)) ≡ Some (number (fin false 3 (negsuc 0)))
  -- zeros and infinities
  pub minus_zeros_add : at minus_zero Addition minus_zero ≡ Some minus_zero
  pub one_over_minus_zero : at (int (pos 1)) Division minus_zero ≡ Some (number (inf true))
  pub zero_times_infinity : at (int (pos 0)) Multiplication infinity ≡ Some not_a_number
  -- comparisons
  pub nan_is_not_greater_or_equal : at not_a_number GreaterEqualThan (int (pos 1)) ≡ Some (boolean false)
  pub nan_is_not_less : at not_a_number LessThan (int (pos 1)) ≡ Some (boolean false)
  pub zeros_are_equal : is_strictly_equal (int (pos 0)) minus_zero ≡ true
  pub zeros_are_two_values : same_value (int (pos 0)) minus_zero ≡ false
  pub nan_equals_nothing : at not_a_number Equality not_a_number ≡ Some (boolean false)
  pub nan_is_itself : same_value not_a_number not_a_number ≡ true
  pub null_is_not_zero : at null Equality (int (pos 0)) ≡ Some (boolean false)
  pub undefined_is_null : at undefined Equality null ≡ Some (boolean true)
  pub true_is_the_text_1 : at1 (boolean true) Equality (string (49 ∷ [])) ≡ Some (boolean true)
  pub nan_asks_for_the_text : at not_a_number Inequality (string (49 ∷ [])) ≡ None
  pub nan_differs_from_the_text : at1 not_a_number Inequality (string (49 ∷ [])) ≡ Some (boolean true)
  -- truth
  pub nan_is_false : to_boolean not_a_number ≡ false
  pub the_empty_text_is_false : to_boolean (string []) ≡ false
  pub the_text_0_is_true : to_boolean (string (48 ∷ [])) ≡ true
  -- what does not fold
  pub powers_stay : at (int (pos 2)) Exponential (int (pos 3)) ≡ None
  pub texts_are_not_numbers : at (string (49 ∷ [])) Multiplication (int (pos 1)) ≡ None
  pub texts_join : at (string (49 ∷ [])) Addition (string (50 ∷ [])) ≡ Some (string (49 ∷ 50 ∷ []))
