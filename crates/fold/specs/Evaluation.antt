-- What an instruction of the script gives, where `known` has the values of the instructions before it.
use Rattle.std.specs.Prelude.{List, Some, None, Option, slice_index_or}
use Rattle.ecma.specs.Operators.{binary_fold, unary_fold}
use Rattle.ecma.specs.Value.{Primitive, null, undefined, boolean, number, string, value_of}
use Rattle.ecma.specs.declared.primitive_value.PrimitiveValue.{PrimitiveValue}
use Rattle.fold.specs.declared.operation.Operation.{Operation}
use Rattle.fold.specs.declared.operation.Operation.TheVariants.{Literal, Unary, Binary}
use Rattle.std.specs.Option.{option_and_then, option_map}

-- no text is made here: an instruction that gives one is left
abbrev unless_text : Primitive → Option Primitive
unless_text null = Some null
unless_text undefined = Some undefined
unless_text (boolean b) = Some (boolean b)
unless_text (number x) = Some (number x)
unless_text (string t) = None

abbrev pub evaluation_of : List (Option PrimitiveValue) → Operation → Option Primitive
evaluation_of known (Literal x) = Some (number x)
evaluation_of known (Unary o i) = option_and_then (unary_fold o) (option_map value_of (slice_index_or known i None))
evaluation_of known (Binary o i j) =
    option_and_then (λ x. option_and_then (λ y. option_and_then unless_text (binary_fold (λ _. None) o x y)) (option_map value_of (slice_index_or known j None)))
    (option_map value_of (slice_index_or known i None))
