-- The values of the bits of zero and of the infinities, which the digit host returns.
use lib.Count.{count_trailing_zeros}
use lib.Ieee.{inf, binary64, of_bits, of_fields, odd, of_int, round, units, size, span, climb}
use Rattle.std.proofs.Common.{◌≡◌, true, false, pos, refl}

pub zero_bits : of_bits binary64 0 ≡ of_int binary64 (pos 0)
unfolding of_bits of_fields odd of_int round units size span climb count_trailing_zeros
zero_bits = refl

pub infinity_bits : of_bits binary64 9218868437227405312 ≡ inf false
unfolding of_bits of_fields
infinity_bits = refl

pub minus_infinity_bits : of_bits binary64 18442240474082181120 ≡ inf true
unfolding of_bits of_fields
minus_infinity_bits = refl
