-- The remainder of the digits, with the dividend's sign, is Number::remainder.
use Rattle.std.proofs.Common.{◌≡◌, ℕ, zero, suc, ◌-◌, ◌*◌, ◌/◌, ◌%◌, ◌^◌, ◌<◌, ◌≤◌, Bool, true, false, cond, T, eqb, ℤ, pos, negsuc, ◌-ℤ◌, ◌*ℤ◌, sym, refl, ap, ◌∙◌, lt_irrefl, zero-lt-suc, mul-pos, one-mul, mul-zero, zero-mul, mul-one, arith, eqb→eq}
use lib.Dec.{eqb-suc-zero}
use lib.Ieee.{Float, nan, inf, fin, up, down, unlike, binary64, round, rem, fits}
use lib.Ieee.Fits.{down_pos, up_pos}
use lib.Ieee.Scale.{round_same}
use lib.IntN.{zero-*ℤ}
use lib.Signed.{quot_z}
use native.Mathlib.Nat.{mod_def, mul-div-le, zero-div, zero-mod}
use Rattle.std.proofs.lemmas.Nat.{pow_below}
use Rattle.std.proofs.lemmas.Int.{ints}
use Rattle.ecma.specs.Number.{number_remainder, part, signed}

-- ---- integers with a sign

product : (t u : Bool) (b q : ℕ) → signed t b *ℤ signed u q ≡ signed (unlike t u) (b * q)
product false false b q = refl
product false true b zero = simp mul-zero
product false true b (suc q) = refl
product true false zero q = simp zero-mul
product true false (suc b) q = refl
product true true zero q = simp (zero-*ℤ, zero-mul)
product true true (suc b) zero = simp mul-zero
product true true (suc b) (suc q) = refl

quotient : (s t : Bool) (a b : ℕ) → 0 < b → quot_z (signed s a) (signed t b) ≡ signed (unlike s t) (a / b)
quotient s t a zero h = absurd (lt_irrefl 0 h)
quotient false false a (suc b) h = refl
quotient false true a (suc b) h = refl
quotient true false zero (suc b) h = simp zero-div
quotient true false (suc a) (suc b) h = refl
quotient true true zero (suc b) h = simp zero-div
quotient true true (suc a) (suc b) h = refl

difference : (s : Bool) (a c : ℕ) → c ≤ a → signed s a -ℤ signed s c ≡ signed s (a - c)
difference false a c h = omega (arith, ints)
difference true a c h = omega (arith, ints)

own_sign : (s t : Bool) (n : ℕ) → signed (unlike t (unlike s t)) n ≡ signed s n
own_sign false false n = refl
own_sign false true n = refl
own_sign true false n = refl
own_sign true true n = refl

what_is_left : (s t : Bool) (a b : ℕ) → 0 < b → signed s a -ℤ signed t b *ℤ quot_z (signed s a) (signed t b) ≡ signed s (a % b)
what_is_left s t a b h =
    rw (quotient s t a b h, product t (unlike s t) b (a / b), own_sign s t (b * (a / b)), difference s a (b * (a / b)) (mul-div-le a b), mod_def a b)

-- ---- back to Numbers

as_part : (s : Bool) (r u : ℕ) → round binary64 s r u ≡ part s (signed s r) u
as_part false zero u = refl
as_part false (suc r) u = simp eqb-suc-zero
as_part true zero u = refl
as_part true (suc r) u = simp eqb-suc-zero

zero_rounds : (s : Bool) (u : ℕ) → 0 < u → round binary64 s 0 u ≡ fin s 0 (pos 0)
unfolding round
zero_rounds s u h = round_same binary64 s 0 u 0 1 h (zero-lt-suc 0) (sym (zero-mul u))

-- a zero is written in one way
not_one : (k : ℕ) → 2 ^ suc k ≡ 1 → ⊥
not_one k h = omega (arith, pow_below 0 (suc k) (zero-lt-suc k))

zero_exponent : (s : Bool) (e : ℤ) → T (fits binary64 (fin s 0 e)) → e ≡ pos 0
unfolding fits
zero_exponent s (pos zero) f = refl
zero_exponent s (pos (suc k)) f = absurd (not_one k (sym (mul-one (2 ^ suc k)) ∙ eqb→eq (2 ^ suc k * 1) 1 f))
zero_exponent s (negsuc k) f = absurd (not_one k (sym (one-mul (2 ^ suc k)) ∙ eqb→eq (1 * 2 ^ suc k) 1 f))

zero_left : (s : Bool) (e c : ℤ) (b : ℕ) → T (fits binary64 (fin s 0 e)) → round binary64 s (0 * up e * down c % b) (down e * down c) ≡ fin s 0 e
zero_left s e c b f = simp (zero-mul, zero-mod) (zero_rounds s (down e * down c) (mul-pos (down_pos e) (down_pos c)) ∙ ap (fin s 0) (sym (zero_exponent s e f)))

-- two finite Numbers, the divisor not zero
finite : (s : Bool) (m : ℕ) (e : ℤ) (t : Bool) (k : ℕ) (c : ℤ) → T (fits binary64 (fin s m e))
    → round binary64 s (m * up e * down c % (suc k * up c * down e)) (down e * down c)
    ≡ cond (eqb m 0) (fin s m e)
    (part s (signed s (m * up e * down c) -ℤ signed t (suc k * up c * down e) *ℤ quot_z (signed s (m * up e * down c)) (signed t (suc k * up c * down e))) (down e * down c))
finite s zero e t k c f = zero_left s e c (suc k * up c * down e) f
finite s (suc m) e t k c f =
    let a = suc m * up e * down c in
    let b = suc k * up c * down e in
    let u = down e * down c in
    let p : 0 < b = mul-pos (mul-pos (zero-lt-suc k) (up_pos c)) (down_pos e) in
    rw (eqb-suc-zero m, what_is_left s t a b p) (as_part s (a % b) u)

pub rem_is : (n d : Float) → T (fits binary64 n) → rem binary64 n d ≡ number_remainder n d
unfolding rem number_remainder
rem_is nan d f = refl
rem_is (inf s) d f = refl
rem_is (fin s m e) nan f = refl
rem_is (fin s m e) (inf t) f = refl
rem_is (fin s m e) (fin t zero c) f = refl
rem_is (fin s m e) (fin t (suc k) c) f = ap (cond (eqb (suc k) 0) nan) (finite s m e t k c f)
