-- What each operator gives at known values, or nothing where it does not fold. h is StringToNumber, where it is known.
use Rattle.std.specs.Float.{fin}
use Rattle.std.specs.Prelude.{ℕ, Bool, false, not, List, [], ◌++◌, pos, Some, None, Option, Float}
use Rattle.std.specs.Option.{option_map, option_or}
use Rattle.ecma.specs.Comparison.{to_boolean, is_strictly_equal, is_loosely_equal}
use Rattle.ecma.specs.declared.folds.Folded.{Folded}
use Rattle.ecma.specs.declared.folds.Folded.TheVariants.{Boolean, Number, Join}
use Rattle.ecma.specs.declared.operators.BinaryOperator.{BinaryOperator}
use Rattle.ecma.specs.declared.operators.BinaryOperator.TheVariants.{Addition, Subtraction, Multiplication, Division, Remainder, Exponential, BitwiseOR, BitwiseAnd, BitwiseXOR, ShiftLeft, ShiftRight, ShiftRightZeroFill, LessThan, LessEqualThan, GreaterThan, GreaterEqualThan, StrictEquality, StrictInequality, Equality, Inequality, In, Instanceof}
use Rattle.ecma.specs.declared.operators.UnaryOperator.{UnaryOperator}
use Rattle.ecma.specs.declared.operators.UnaryOperator.TheVariants.{Minus, Plus, Not, BitwiseNot, TypeOf, Void}
use Rattle.ecma.specs.declared.operators.UpdateOperator.{UpdateOperator}
use Rattle.ecma.specs.declared.operators.UpdateOperator.TheVariants.{Increment, Decrement}
use Rattle.ecma.specs.Number.{number_unary_minus, number_add, number_subtract, number_multiply, number_divide, number_remainder, number_less_than, number_bitwise_and, number_bitwise_xor, number_bitwise_or, number_left_shift, number_signed_right_shift, number_unsigned_right_shift}
use Rattle.ecma.specs.Value.{Primitive, boolean, number, string, if_number, if_string}

-- f at two Numbers, and nothing at any other pair
abbrev arithmetic : (Float → Float → Float) → Primitive → Primitive → Option Primitive
arithmetic f x y = if_number (λ a. if_number (λ b. Some (number (f a b))) None y) None x

abbrev relation : (Float → Float → Bool) → Primitive → Primitive → Option Primitive
relation f x y = if_number (λ a. if_number (λ b. Some (boolean (f a b))) None y) None x

abbrev concatenation : Primitive → Primitive → Option Primitive
concatenation x y = if_string (λ a. if_string (λ b. Some (string (a ++ b))) None y) None x

-- Number::lessThan answers undefined at NaN, and neither is then the case.
abbrev pub is_true : Option Bool → Bool
is_true None = false
is_true (Some b) = b

abbrev pub is_false : Option Bool → Bool
is_false None = false
is_false (Some b) = not b

abbrev pub binary_fold : (List ℕ → Option Float) → BinaryOperator → Primitive → Primitive → Option Primitive
binary_fold h Addition x y = option_or (arithmetic number_add x y) (concatenation x y)
binary_fold h Subtraction x y = arithmetic number_subtract x y
binary_fold h Multiplication x y = arithmetic number_multiply x y
binary_fold h Division x y = arithmetic number_divide x y
binary_fold h Remainder x y = arithmetic number_remainder x y
binary_fold h Exponential x y = None
binary_fold h BitwiseOR x y = arithmetic number_bitwise_or x y
binary_fold h BitwiseAnd x y = arithmetic number_bitwise_and x y
binary_fold h BitwiseXOR x y = arithmetic number_bitwise_xor x y
binary_fold h ShiftLeft x y = arithmetic number_left_shift x y
binary_fold h ShiftRight x y = arithmetic number_signed_right_shift x y
binary_fold h ShiftRightZeroFill x y = arithmetic number_unsigned_right_shift x y
binary_fold h LessThan x y = relation (λ a b. is_true (number_less_than a b)) x y
binary_fold h LessEqualThan x y = relation (λ a b. is_false (number_less_than b a)) x y
binary_fold h GreaterThan x y = relation (λ a b. is_true (number_less_than b a)) x y
binary_fold h GreaterEqualThan x y = relation (λ a b. is_false (number_less_than a b)) x y
binary_fold h StrictEquality x y = Some (boolean (is_strictly_equal x y))
binary_fold h StrictInequality x y = Some (boolean (not (is_strictly_equal x y)))
binary_fold h Equality x y = option_map boolean (is_loosely_equal h x y)
binary_fold h Inequality x y = option_map (λ b. boolean (not b)) (is_loosely_equal h x y)
binary_fold h In x y = None
binary_fold h Instanceof x y = None

abbrev pub unary_fold : UnaryOperator → Primitive → Option Primitive
unary_fold Minus x = if_number (λ a. Some (number (number_unary_minus a))) None x
unary_fold Plus x = None
unary_fold Not x = Some (boolean (not (to_boolean x)))
unary_fold BitwiseNot x = None
unary_fold TypeOf x = None
unary_fold Void x = None

-- the Number that an update leaves
abbrev pub update_fold : UpdateOperator → Float → Float
update_fold Increment x = number_add x (fin false 1 (pos 0))
update_fold Decrement x = number_subtract x (fin false 1 (pos 0))

-- the value that an answer of the code stands for: a join is of the two operands, which are then Strings
abbrev bytes : Primitive → List ℕ
bytes x = if_string (λ t. t) [] x

abbrev pub folded_of : Primitive → Primitive → Folded → Primitive
folded_of x y (Boolean b) = boolean b
folded_of x y (Number n) = number n
folded_of x y Join = string (bytes x ++ bytes y)

-- the value of an answer that is no join
abbrev pub value_at_once : Folded → Option Primitive
value_at_once (Boolean b) = Some (boolean b)
value_at_once (Number n) = Some (number n)
value_at_once Join = None
