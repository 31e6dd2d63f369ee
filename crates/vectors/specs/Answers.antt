-- The right answers, by ECMA-262's definitions.
use Rattle.std.specs.Prelude.{pos, Some, Option}
use Rattle.ecma.specs.Comparison as comparison
use Rattle.ecma.specs.Integer as integer
use Rattle.ecma.specs.Number.{number_for}
use Rattle.ecma.specs.Operators.{binary_fold, unary_fold, update_fold}
use Rattle.ecma.specs.Value.{Primitive, boolean, number}
use Rattle.vectors.specs.Value.{meaning_of}
use Rattle.vectors.specs.declared.vector.Question.{Question}
use Rattle.vectors.specs.declared.vector.Question.TheVariants.{Binary, Unary, Update, ToInt32, ToUint32, ToBoolean, SameValue}

abbrev pub answer_to : Question → Option Primitive
answer_to (Binary o x y n) = binary_fold (λ _. n) o (meaning_of x) (meaning_of y)
answer_to (Unary o x) = unary_fold o (meaning_of x)
answer_to (Update o x) = Some (number (update_fold o x))
answer_to (ToInt32 x) = Some (number (number_for (integer.to_int32 x)))
answer_to (ToUint32 x) = Some (number (number_for (pos (integer.to_uint32 x))))
answer_to (ToBoolean x) = Some (boolean (comparison.to_boolean (meaning_of x)))
answer_to (SameValue x y) = Some (boolean (comparison.same_value (meaning_of x) (meaning_of y)))
