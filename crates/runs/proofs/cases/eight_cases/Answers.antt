use lib.Ieee.{eq, is_nan, lt, of_int}
use Rattle.std.proofs.Common.{rules, [], ◌∷◌, refl}
use Rattle.ecma.specs.Integer.{to_int32, to_uint32, bit_string, integer_of, modulo, truncate}
use Rattle.ecma.specs.Number.{number_bitwise_or, number_remainder, number_unsigned_right_shift}
use Rattle.hir.proofs.Certificates.{accepted}
use Rattle.runs.proofs.cases.eight_cases.Goals as goal
use Rattle.runs.specs.Cases.{two_branches}

pub returns : goal.returns
unfolding eq is_nan lt of_int to_int32 to_uint32 bit_string integer_of modulo truncate number_bitwise_or number_remainder number_unsigned_right_shift
returns c = search (rules, accepted 4 (record { assigned = [] ∷ [] ∷ [] ∷ [] ∷ []; held = [] }) two_branches refl refl)
