-- ECMA-262's conversions of a Number to an integer of 32 bits, and such integers as bit strings.
use Rattle.std.specs.Prelude.{ℕ, suc, ◌-◌, ◌*◌, ◌/◌, ◌%◌, ◌^◌, cond, ℤ, pos, negsuc, neg_ℤ, nat_le, Float}
use Rattle.std.specs.Float.{nan, inf, fin}
use Rattle.std.specs.Float.Ieee.{up, down}
use Rattle.std.proofs.Math.IntN.{sub_ℕ}

-- truncate(ℝ(x)): the fraction dropped, toward zero. Where x is not finite, 0, as ToInt32 and ToUint32 have it.
unfoldable pub truncate : Float → ℤ
truncate nan = pos 0
truncate (inf s) = pos 0
truncate (fin s m e) = cond s (neg_ℤ (pos (m * up e / down e))) (pos (m * up e / down e))

-- z modulo k: from 0 to k - 1, and less than z by a multiple of k
unfoldable pub modulo : ℤ → ℕ → ℕ
modulo (pos n) k = n % k
modulo (negsuc n) k = k - suc (n % k)

unfoldable pub to_uint32 : Float → ℕ
to_uint32 x = modulo (truncate x) (2 ^ 32)

-- the 32-bit two's complement bit string of an integer, as the number with these bits; and the integer of such a string
unfoldable pub bit_string : ℤ → ℕ
bit_string z = modulo z (2 ^ 32)

unfoldable pub integer_of : ℕ → ℤ
integer_of n = cond (nat_le (2 ^ 31) n) (sub_ℕ n (2 ^ 32)) (pos n)

unfoldable pub to_int32 : Float → ℤ
to_int32 x = integer_of (modulo (truncate x) (2 ^ 32))
