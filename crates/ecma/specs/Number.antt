-- The operations on Numbers of ECMA-262, Number::add as number_add and so on.
-- Where the standard computes with real numbers and rounds, f64's own operation stands in (lib.Ieee); number_for rounds likewise.
use Rattle.std.specs.Prelude.{ℕ, ◌*◌, ◌/◌, ◌%◌, ◌^◌, Bool, false, cond, not, ◌&&◌, ◌||◌, ℤ, pos, ◌-ℤ◌, ◌*ℤ◌, neg_ℤ, Some, None, Option, ◌==◌, bit_and, bit_or, bit_xor, int_div, is_nan, unsigned_abs, Float}
use Rattle.std.specs.Float.{nan, inf, fin, binary64}
use Rattle.std.specs.Float.Ieee.{up, down, round, neg, add, mul, div, lt, eq, of_int}
use Rattle.std.specs.Int.Signed.{non_neg, shr_z}
use Rattle.std.specs.Bool.{beq}
use Rattle.ecma.specs.Integer.{to_int32, to_uint32, bit_string, integer_of}

-- the Number for an integer
abbrev pub number_for : ℤ → Float
number_for z = of_int binary64 z

-- +0 or -0
unfoldable pub is_zero : Float → Bool
is_zero nan = false
is_zero (inf s) = false
is_zero (fin s m e) = m == 0

-- ---- arithmetic

abbrev pub number_unary_minus : Float → Float
number_unary_minus x = neg x

abbrev pub number_add : Float → Float → Float
number_add x y = add binary64 x y

abbrev pub number_subtract : Float → Float → Float
number_subtract x y = number_add x (number_unary_minus y)

abbrev pub number_multiply : Float → Float → Float
number_multiply x y = mul binary64 x y

abbrev pub number_divide : Float → Float → Float
number_divide x y = div binary64 x y

-- an integer with a sign, and its multiple of 1 / u as a Number; a zero is negative where the sign z says so
abbrev pub signed : Bool → ℕ → ℤ
signed s n = cond s (neg_ℤ (pos n)) (pos n)

abbrev pub part : Bool → ℤ → ℕ → Float
part z r u = round binary64 (cond (unsigned_abs r == 0) z (not (non_neg r))) (unsigned_abs r) u

-- n and d are the whole multiples N and D of 1 / u, for a power u of two. The quotient is cut to an integer toward zero, and
-- what it leaves of n is the remainder; a remainder of 0 has n's sign.
unfoldable pub number_remainder : Float → Float → Float
number_remainder nan d = nan
number_remainder (inf s) d = nan
number_remainder (fin s m e) nan = nan
number_remainder (fin s m e) (inf t) = fin s m e
number_remainder (fin s m e) (fin t k c) =
    cond (k == 0) nan
    (cond (m == 0) (fin s m e)
    (let u = down e * down c in
    let N = signed s (m * up e * down c) in
    let D = signed t (k * up c * down e) in
    part s (N -ℤ D *ℤ int_div N D) u))

-- ---- comparison

-- undefined where one of the two is NaN
abbrev pub number_less_than : Float → Float → Option Bool
number_less_than x y = cond (is_nan x || is_nan y) None (Some (lt x y))

abbrev pub number_equal : Float → Float → Bool
number_equal x y = eq x y

-- the same value: NaN is itself, and the zeros differ by their sign
unfoldable pub number_same_value : Float → Float → Bool
number_same_value nan y = is_nan y
number_same_value (inf s) nan = false
number_same_value (inf s) (inf t) = beq s t
number_same_value (inf s) (fin t n d) = false
number_same_value (fin s m e) nan = false
number_same_value (fin s m e) (inf t) = false
number_same_value (fin s m e) (fin t n d) = beq s t && m * up e * down d == n * up d * down e

-- ---- bits: NumberBitwiseOp, and the shifts

unfoldable pub number_bitwise_and : Float → Float → Float
number_bitwise_and x y = number_for (integer_of (bit_and (bit_string (to_int32 x)) (bit_string (to_int32 y))))

unfoldable pub number_bitwise_xor : Float → Float → Float
number_bitwise_xor x y = number_for (integer_of (bit_xor (bit_string (to_int32 x)) (bit_string (to_int32 y))))

unfoldable pub number_bitwise_or : Float → Float → Float
number_bitwise_or x y = number_for (integer_of (bit_or (bit_string (to_int32 x)) (bit_string (to_int32 y))))

-- a left shift keeps the low 32 bits, a signed right shift copies the sign (it rounds down), an unsigned one fills with zeros
unfoldable pub number_left_shift : Float → Float → Float
number_left_shift x y = number_for (integer_of (bit_string (to_int32 x) * 2 ^ (to_uint32 y % 32) % 2 ^ 32))

unfoldable pub number_signed_right_shift : Float → Float → Float
number_signed_right_shift x y = number_for (shr_z (to_int32 x) (2 ^ (to_uint32 y % 32)))

unfoldable pub number_unsigned_right_shift : Float → Float → Float
number_unsigned_right_shift x y = number_for (pos (to_uint32 x / 2 ^ (to_uint32 y % 32)))
