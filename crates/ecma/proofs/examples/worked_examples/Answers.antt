use lib.Ieee.{add, div, eq, is_nan, mul, of_int}
use Rattle.std.proofs.Common.{rules}
use Rattle.ecma.proofs.examples.worked_examples.Goals as goal
use Rattle.ecma.specs.Integer.{to_int32, to_uint32, bit_string, integer_of, modulo, truncate}
use Rattle.ecma.specs.Number.{number_bitwise_or, number_left_shift, number_remainder, number_same_value, number_signed_right_shift, number_unsigned_right_shift}

pub returns : goal.returns
unfolding add div eq is_nan mul of_int to_int32 to_uint32 bit_string integer_of modulo truncate number_bitwise_or number_left_shift number_remainder number_same_value number_signed_right_shift number_unsigned_right_shift
returns c = search rules
