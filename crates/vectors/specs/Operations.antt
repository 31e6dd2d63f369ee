-- How a line names its operation.
use Rattle.std.specs.Prelude.{ℕ, List, codes}
use Rattle.ecma.specs.Spelling.{spelling}
use Rattle.ecma.specs.declared.operators.UnaryOperator.{UnaryOperator}
use Rattle.ecma.specs.declared.operators.UnaryOperator.TheVariants.{Minus, Plus, Not, BitwiseNot, TypeOf, Void}
use Rattle.ecma.specs.declared.operators.UpdateOperator.{UpdateOperator}
use Rattle.ecma.specs.declared.operators.UpdateOperator.TheVariants.{Increment, Decrement}
use Rattle.vectors.specs.declared.operation.Operation.{Operation}
use Rattle.vectors.specs.declared.operation.Operation.TheVariants.{Binary, Unary, Update, ToInt32, ToUint32, ToBoolean, SameValue}

abbrev pub unary_name : UnaryOperator → List ℕ
unary_name Minus = codes "neg"
unary_name Plus = codes "pos"
unary_name Not = codes "not"
unary_name BitwiseNot = codes "bitnot"
unary_name TypeOf = codes "typeof"
unary_name Void = codes "void"

abbrev pub update_name : UpdateOperator → List ℕ
update_name Increment = codes "inc"
update_name Decrement = codes "dec"

abbrev pub operation_name : Operation → List ℕ
operation_name (Binary o) = spelling o
operation_name (Unary o) = unary_name o
operation_name (Update o) = update_name o
operation_name ToInt32 = codes "ToInt32"
operation_name ToUint32 = codes "ToUint32"
operation_name ToBoolean = codes "ToBoolean"
operation_name SameValue = codes "SameValue"
