-- How JavaScript spells a binary operator.
use Rattle.std.specs.Prelude.{ℕ, List, codes}
use Rattle.ecma.specs.declared.operators.BinaryOperator.{BinaryOperator}
use Rattle.ecma.specs.declared.operators.BinaryOperator.TheVariants.{Addition, Subtraction, Multiplication, Division, Remainder, Exponential, BitwiseOR, BitwiseAnd, BitwiseXOR, ShiftLeft, ShiftRight, ShiftRightZeroFill, LessThan, LessEqualThan, GreaterThan, GreaterEqualThan, StrictEquality, StrictInequality, Equality, Inequality, In, Instanceof}

abbrev pub spelling : BinaryOperator → List ℕ
spelling Addition = codes "+"
spelling Subtraction = codes "-"
spelling Multiplication = codes "*"
spelling Division = codes "/"
spelling Remainder = codes "%"
spelling Exponential = codes "**"
spelling BitwiseOR = codes "|"
spelling BitwiseAnd = codes "&"
spelling BitwiseXOR = codes "^"
spelling ShiftLeft = codes "<<"
spelling ShiftRight = codes ">>"
spelling ShiftRightZeroFill = codes ">>>"
spelling LessThan = codes "<"
spelling LessEqualThan = codes "<="
spelling GreaterThan = codes ">"
spelling GreaterEqualThan = codes ">="
spelling StrictEquality = codes "==="
spelling StrictInequality = codes "!=="
spelling Equality = codes "=="
spelling Inequality = codes "!="
spelling In = codes "in"
spelling Instanceof = codes "instanceof"
