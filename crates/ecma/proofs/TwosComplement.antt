-- The 32-bit bit string of an integer is what the machine's i32 holds, and the integer of a bit string is what it reads.
use lib.Bits.{and_lt, and_mask, bit_and, bit_or, bit_xor, or_lt, xor_lt}
use lib.Ieee.{Float, binary64, of_int}
use Rattle.std.proofs.Common.{◌≡◌, ℕ, suc, ◌-◌, ◌*◌, ◌/◌, ◌%◌, ◌^◌, ◌<◌, ℤ, pos, negsuc, sym, ap, ◌∙◌, lt_of_le_of_lt, mod-eq_of_lt, arith, w32, SFits, to_z, of_z}
use lib.Signed.{mag, mag_shr, shr_z}
use Rattle.std.specs.Int.{int_shl}
use Rattle.std.proofs.lemmas.Int.{ints, to_z-of_z}
use Rattle.std.proofs.lemmas.Nat.{mod_below}
use Rattle.std.proofs.lemmas.Bool.Decides.{nat_tests}
use Rattle.ecma.specs.Integer.{bit_string, integer_of, modulo, to_int32, to_uint32}
use Rattle.ecma.specs.Number.{number_bitwise_and, number_bitwise_or, number_bitwise_xor, number_left_shift, number_signed_right_shift, number_unsigned_right_shift}

pub bits_of : (z : ℤ) → SFits w32 z → bit_string z ≡ of_z w32 z
unfolding bit_string modulo
bits_of (pos n) h = let l : n < 2 ^ 32 = omega (arith, h.sfits) in mod-eq_of_lt l
bits_of (negsuc n) h = let l : n < 2 ^ 32 = omega (arith, h.sfits) in ap (λ (k : ℕ). 2 ^ 32 - suc k) (mod-eq_of_lt l)

pub integer_of_lem : (n : ℕ) → n < 2 ^ 32 → integer_of n ≡ to_z w32 n
unfolding integer_of
integer_of_lem n h = grind (arith, nat_tests, ints)

-- ---- the machine's operations on i32 are the standard's on bit strings

pub read_bits : (n : ℕ) (z : ℤ) → z ≡ to_z w32 n → n < 2 ^ 32 → mag z < 2 ^ 31 → to_z w32 (of_z w32 z) ≡ integer_of n
read_bits n z e l h = to_z-of_z w32 z (record { sfits = h }) ∙ e ∙ sym (integer_of_lem n l)

pub int32_is : (x : Float) (z : ℤ) → z ≡ to_z w32 (to_uint32 x) → to_uint32 x < 2 ^ 32 → mag z < 2 ^ 31 → to_z w32 (of_z w32 z) ≡ to_int32 x
unfolding to_int32 to_uint32
int32_is x = read_bits (to_uint32 x)

pub of_z_lt : (z : ℤ) → mag z < 2 ^ 31 → of_z w32 z < 2 ^ 32
of_z_lt (pos n) h = omega arith
of_z_lt (negsuc n) h = omega arith

-- Below, a and b are what to_int32 gave, u and v what to_uint32 gave.

written : (a x : ℤ) → a ≡ x → mag a < 2 ^ 31 → of_z w32 a ≡ bit_string x
written a x e h = sym (bits_of a (record { sfits = h })) ∙ ap bit_string e

pub bitwise_integers : (f : ℕ → ℕ → ℕ) (a b x y : ℤ) → a ≡ x → b ≡ y → mag a < 2 ^ 31 → mag b < 2 ^ 31 → f (of_z w32 a) (of_z w32 b) < 2 ^ 32
    → to_z w32 (f (of_z w32 a) (of_z w32 b)) ≡ integer_of (f (bit_string x) (bit_string y))
bitwise_integers f a b x y ax by ha hb small = rw (← integer_of_lem (f (of_z w32 a) (of_z w32 b)) small, written a x ax ha, written b y by hb)

pub bitwise : (f : ℕ → ℕ → ℕ) (a b x y : ℤ) → a ≡ x → b ≡ y → mag a < 2 ^ 31 → mag b < 2 ^ 31 → f (of_z w32 a) (of_z w32 b) < 2 ^ 32
    → of_int binary64 (to_z w32 (f (of_z w32 a) (of_z w32 b))) ≡ of_int binary64 (integer_of (f (bit_string x) (bit_string y)))
bitwise f a b x y ax by ha hb small = ap (of_int binary64) (bitwise_integers f a b x y ax by ha hb small)

pub shift_left : (a x : ℤ) (u v : ℕ) → a ≡ x → u ≡ v → mag a < 2 ^ 31
    → of_int binary64 (to_z w32 (of_z w32 a * 2 ^ bit_and u 31 % 2 ^ 32)) ≡ of_int binary64 (integer_of (bit_string x * 2 ^ (v % 32) % 2 ^ 32))
shift_left a x u v ax uv h =
    let low = mod_below (of_z w32 a * 2 ^ bit_and u 31) (2 ^ 32) (omega arith) in
    rw (← integer_of_lem (of_z w32 a * 2 ^ bit_and u 31 % 2 ^ 32) low, written a x ax h, and_mask u 5, uv)

pub shift_right : (a x : ℤ) (u v : ℕ) → a ≡ x → u ≡ v → mag a < 2 ^ 31
    → of_int binary64 (to_z w32 (of_z w32 (shr_z (to_z w32 (of_z w32 a)) (2 ^ bit_and u 31)))) ≡ of_int binary64 (shr_z x (2 ^ (v % 32)))
shift_right a x u v ax uv h =
    let shifted = to_z-of_z w32 (shr_z a (2 ^ bit_and u 31)) (record { sfits = lt_of_le_of_lt (mag_shr a (2 ^ bit_and u 31)) h }) in
    rw (to_z-of_z w32 a (record { sfits = h }), shifted, and_mask u 5, ax, uv)

pub shift_right_zero : (a x u v : ℕ) → a ≡ x → u ≡ v → of_int binary64 (pos (a / 2 ^ bit_and u 31)) ≡ of_int binary64 (pos (x / 2 ^ (v % 32)))
shift_right_zero a x u v ax uv = rw (and_mask u 5, ax, uv)

module _ (x y : Float) where
  pub and_is : (a b : ℤ) → a ≡ to_int32 x → b ≡ to_int32 y → mag a < 2 ^ 31 → mag b < 2 ^ 31
      → of_int binary64 (to_z w32 (bit_and (of_z w32 a) (of_z w32 b))) ≡ number_bitwise_and x y
  unfolding number_bitwise_and
  and_is a b ax by ha hb = bitwise bit_and a b _ _ ax by ha hb (and_lt 32 _ _ (of_z_lt a ha) (of_z_lt b hb))

  pub or_is : (a b : ℤ) → a ≡ to_int32 x → b ≡ to_int32 y → mag a < 2 ^ 31 → mag b < 2 ^ 31
      → of_int binary64 (to_z w32 (bit_or (of_z w32 a) (of_z w32 b))) ≡ number_bitwise_or x y
  unfolding number_bitwise_or
  or_is a b ax by ha hb = bitwise bit_or a b _ _ ax by ha hb (or_lt 32 _ _ (of_z_lt a ha) (of_z_lt b hb))

  pub xor_is : (a b : ℤ) → a ≡ to_int32 x → b ≡ to_int32 y → mag a < 2 ^ 31 → mag b < 2 ^ 31
      → of_int binary64 (to_z w32 (bit_xor (of_z w32 a) (of_z w32 b))) ≡ number_bitwise_xor x y
  unfolding number_bitwise_xor
  xor_is a b ax by ha hb = bitwise bit_xor a b _ _ ax by ha hb (xor_lt 32 _ _ (of_z_lt a ha) (of_z_lt b hb))

  pub left_is : (a : ℤ) (u : ℕ) → a ≡ to_int32 x → u ≡ to_uint32 y → mag a < 2 ^ 31
      → of_int binary64 (int_shl w32 (to_z w32 (of_z w32 a)) (u % 32)) ≡ number_left_shift x y
  unfolding number_left_shift
  left_is a u ax uy h = rw (to_z-of_z w32 a (record { sfits = h }), ← and_mask u 5) (shift_left a _ u _ ax uy h)

  pub right_is : (a : ℤ) (u : ℕ) → a ≡ to_int32 x → u ≡ to_uint32 y → mag a < 2 ^ 31
      → of_int binary64 (to_z w32 (of_z w32 (shr_z (to_z w32 (of_z w32 a)) (2 ^ (u % 32))))) ≡ number_signed_right_shift x y
  unfolding number_signed_right_shift
  right_is a u ax uy h = rw (← and_mask u 5) (shift_right a _ u _ ax uy h)

  pub unsigned_is : (u v : ℕ) → u ≡ to_uint32 x → v ≡ to_uint32 y → of_int binary64 (pos (u / 2 ^ (v % 32))) ≡ number_unsigned_right_shift x y
  unfolding number_unsigned_right_shift
  unsigned_is u v ux vy = rw (ux, vy)
