-- What the code works out in multiples of 2 ^ -1074 is Number::remainder: the magnitude of a stored Number, the remainder of two, and a product that puts the
-- result back into a Number.
use lib.Ieee.{Float, nan, inf, fin, up, down, unlike, binary64, fits, is_nan, of_bits, of_fields, of_int, round, rem, mul}
use lib.Ieee.Back.{round_whole}
use lib.Ieee.Bits.{of_bits-fits}
use lib.Ieee.Exact.{HasValue, odd_sign}
use lib.Ieee.Fits.{down_pos, up_pos}
use lib.Ieee.Scale.{round_same}
use native.Mathlib.Nat.{mul-mul-mul_comm, mul-pos, mul_right_comm}
use Rattle.std.proofs.Common.{◌≡◌, ℕ, zero, suc, ◌+◌, ◌-◌, ◌*◌, ◌/◌, ◌%◌, ◌^◌, ◌<◌, ◌≤◌, Bool, true, false, cond, eqb, ltb, leb, ◌⊎◌, inl, inr, T, pos, sym, refl, ap, ◌∙◌, subst, mul_assoc, mul_comm, zero-add, zero-mul, one-mul, mul-one, zero-lt-suc, pow_pos, pow-add, pow_mono, arith}
use Rattle.std.proofs.lemmas.Bool.{ne_eqb, cond-true, le-leb, lt-leb}
use Rattle.std.proofs.lemmas.Bool.Decides.{leb_tells, nat_tests}
use Rattle.std.specs.Float.{float_is_finite}
use lib.Dec.{eqb-suc-zero}
use Rattle.ecma.proofs.LeftOver.{scaled_mod}
use Rattle.ecma.proofs.Remainder.{rem_is}
use Rattle.ecma.proofs.WholePart.{by_fields, field}
use Rattle.ecma.specs.Number.{is_zero, number_remainder}

-- ---- the magnitude by the fields: the exponent's field x and the digits t

abbrev pub digits : ℕ → ℕ → ℕ
digits x t = cond (eqb x 0) t (2 ^ 52 + t)

fields_value : (s : Bool) (x t : ℕ) → (x ≡ 2047 → ⊥) → HasValue (of_fields binary64 s x t) s (digits x t * 2 ^ (x - 1)) (2 ^ 1074)
unfolding of_fields
fields_value s zero t h = odd_sign 53 s t 0 1074
fields_value s (suc x) t h =
    let less : suc x - 1 ≡ x = omega arith in
    rw (ne_eqb (suc x) 2047 h, eqb-suc-zero x, less) (odd_sign 53 s (2 ^ 52 + t) x 1074)

-- the largest field is that of the infinities and of NaN
last_field : (s : Bool) (x t : ℕ) → float_is_finite (of_fields binary64 s x t) ≡ true → x ≡ 2047 → ⊥
unfolding of_fields float_is_finite
last_field s x t h e = go (eqb t 0) (subst (λ (y : ℕ). float_is_finite (of_fields binary64 s y t) ≡ true) e h)
  where
    go : (b : Bool) → float_is_finite (cond b (inf s) nan) ≡ true → ⊥
    go true k = cc
    go false k = cc

pub stored_value :
    (v : Float) (b q k : ℕ) → of_bits binary64 b ≡ v → float_is_finite v ≡ true → q ≡ digits (field b) (b % 2 ^ 52) → k ≡ field b - 1
    → HasValue v (leb (2 ^ 63) b) (q * 2 ^ k) (2 ^ 1074)
stored_value v b q k e f hq hk =
    let s = leb (2 ^ 63) b in
    let is : of_fields binary64 s (field b) (b % 2 ^ 52) ≡ v = sym (by_fields b) ∙ e in
    rw (hq, hk, ← is) (fields_value s (field b) (b % 2 ^ 52) (last_field s (field b) (b % 2 ^ 52) (ap float_is_finite is ∙ f)))

-- ---- the remainder of two values over one denominator

crossed : (x p q a u c : ℕ) → x * p * c ≡ a * u → x * p * q * c ≡ a * (u * q)
crossed x p q a u c h = mul_right_comm (x * p) q c ∙ ap (λ (y : ℕ). y * q) h ∙ mul_assoc a u q

rem_value : (v w : Float) (s t : Bool) (a b c : ℕ) → HasValue v s a c → HasValue w t b c → 0 < b → 0 < c → rem binary64 v w ≡ round binary64 s (a % b) c
unfolding rem
rem_value nan w s t a b c h k hb hc = absurd h
rem_value (inf z) w s t a b c h k hb hc = absurd h
rem_value (fin z m e) nan s t a b c h k hb hc = absurd k
rem_value (fin z m e) (inf y) s t a b c h k hb hc = absurd k
rem_value (fin z m e) (fin y zero d) s t a b c h k hb hc =
    let none : 0 ≡ b * down d = rw (← k.1) (simp zero-mul) in
    let some : 0 < b * down d = mul-pos hb (down_pos d) in
    absurd (omega arith)
rem_value (fin z m e) (fin y (suc n) d) s t a b c h k hb hc =
    let A = m * up e * down d in
    let B = suc n * up d * down e in
    let u = down e * down d in
    let ea : A * c ≡ a * u = crossed m (up e) (down d) a (down e) c h.1 in
    let eb : B * c ≡ b * u = rw (mul_comm (down e) (down d)) (crossed (suc n) (up d) (down e) b (down d) c k.1) in
    let pb : 0 < B = mul-pos (mul-pos (zero-lt-suc n) (up_pos d)) (down_pos e) in
    let pu : 0 < u = mul-pos (down_pos e) (down_pos d) in
    let cross : A % B * c ≡ a % b * u = rw (← scaled_mod A B c pb hc, ea, eb) (scaled_mod a b u hb pu) in
    rw (eqb-suc-zero n, h.0) (round_same binary64 s (A % B) u (a % b) c pu hc cross)

pub some_digits : (v : Float) (s : Bool) (q k c : ℕ) → HasValue v s (q * 2 ^ k) c → 0 < c → is_zero v ≡ false → 0 < q
unfolding is_zero
some_digits v s (suc q) k c h hc z = zero-lt-suc q
some_digits nan s zero k c h hc z = absurd h
some_digits (inf t) s zero k c h hc z = absurd h
some_digits (fin t zero e) s zero k c h hc z = cc
some_digits (fin t (suc m) e) s zero k c h hc z =
    let none : suc m * up e * c ≡ 0 = rw h.1 (simp zero-mul) in
    let some : 0 < suc m * up e * c = mul-pos (mul-pos (zero-lt-suc m) (up_pos e)) hc in
    omega arith

-- ---- back to a Number: digits times a power

product_value :
    (v w : Float) (s t : Bool) (a b c d : ℕ) → HasValue v s a c → HasValue w t b d → 0 < c → 0 < d → mul binary64 v w ≡ round binary64 (unlike s t) (a * b) (c * d)
unfolding mul
product_value nan w s t a b c d h k hc hd = absurd h
product_value (inf z) w s t a b c d h k hc hd = absurd h
product_value (fin z m e) nan s t a b c d h k hc hd = absurd k
product_value (fin z m e) (inf y) s t a b c d h k hc hd = absurd k
product_value (fin z m e) (fin y n g) s t a b c d h k hc hd =
    let u = down e * down g in
    let cross : m * up e * (n * up g) * (c * d) ≡ a * b * u =
    rw (mul-mul-mul_comm (m * up e) (n * up g) c d, h.1, k.1) (mul-mul-mul_comm a (down e) b (down g)) in
    rw (h.0, k.0) (round_same binary64 (unlike s t) (m * up e * (n * up g)) u (a * b) (c * d) (mul-pos (down_pos e) (down_pos g)) (mul-pos hc hd) cross)

-- ---- the bits of a power: a sign, and below it the magnitude m

low_is : (s : Bool) (m : ℕ) → m < 2 ^ 63 → of_bits binary64 (cond s (2 ^ 63) 0 + m) ≡ of_fields binary64 s (m / 2 ^ 52) (m % 2 ^ 52)
low_is true m h =
    let above : (2 ^ 63 + m) % 2 ^ 63 ≡ m = omega arith in
    let below : (2 ^ 63 + m) % 2 ^ 52 ≡ m % 2 ^ 52 = omega arith in
    by_fields (2 ^ 63 + m) ∙ rw (le-leb (2 ^ 63) (2 ^ 63 + m) (omega arith), above, below)
low_is false m h =
    let above : (0 + m) % 2 ^ 63 ≡ m = omega arith in
    by_fields (0 + m) ∙ rw (lt-leb (2 ^ 63) (0 + m) (omega arith), above, zero-add m)

pub power_value : (s : Bool) (k : ℕ) → k ≤ 2046 → HasValue (of_bits binary64 (cond s (2 ^ 63) 0 + cond (ltb k 52) (2 ^ k) ((k - 51) * 2 ^ 52))) s (2 ^ k) (2 ^ 1074)
power_value s k h = go (leb_tells (suc k) 52)
  where
    -- by the fields of the magnitude m
    by_fields_of : (m x t : ℕ) → m < 2 ^ 63 → m / 2 ^ 52 ≡ x → m % 2 ^ 52 ≡ t → (x ≡ 2047 → ⊥) → digits x t * 2 ^ (x - 1) ≡ 2 ^ k
        → HasValue (of_bits binary64 (cond s (2 ^ 63) 0 + m)) s (2 ^ k) (2 ^ 1074)
    by_fields_of m x t g ex et n ek =
        let is : of_bits binary64 (cond s (2 ^ 63) 0 + m) ≡ of_fields binary64 s x t =
        low_is s m g ∙ ap (λ (y : ℕ). of_fields binary64 s y (m % 2 ^ 52)) ex ∙ ap (λ (y : ℕ). of_fields binary64 s x y) et in
        rw (is, ← ek) (fields_value s x t n)

    go : ((ltb k 52 ≡ true) × (suc k ≤ 52)) ⊎ ((ltb k 52 ≡ false) × (52 < suc k))
        → HasValue (of_bits binary64 (cond s (2 ^ 63) 0 + cond (ltb k 52) (2 ^ k) ((k - 51) * 2 ^ 52))) s (2 ^ k) (2 ^ 1074)
    go (inl p) =
        let small : 2 ^ k ≤ 2 ^ 51 = pow_mono {j = 51} (omega arith) in
        rw p.0 (by_fields_of (2 ^ k) 0 (2 ^ k) (omega arith) (omega arith) (omega arith) (λ (e : 0 ≡ 2047). omega arith) (mul-one (2 ^ k)))
    go (inr p) =
        let less : k - 51 - 1 ≡ k - 52 = omega arith in
        let sum : 52 + (k - 52) ≡ k = omega arith in
        let above : eqb (k - 51) 0 ≡ false = grind (arith, nat_tests) in
        rw p.0
        (by_fields_of ((k - 51) * 2 ^ 52) (k - 51) 0 (omega arith) (omega arith) (omega arith) (λ (e : k - 51 ≡ 2047). omega arith)
        (ap (λ (b : Bool). cond b 0 (2 ^ 52 + 0) * 2 ^ (k - 51 - 1)) above ∙ ap (λ (y : ℕ). 2 ^ 52 * 2 ^ y) less
        ∙ sym (pow-add 2 52 (k - 52)) ∙ ap (λ (y : ℕ). 2 ^ y) sum))

-- ---- the two together

-- l digits times the power 2 ^ k, with n's sign s, are what a leaves of b
pub remainder_is :
    (n d : Float) (bits : ℕ) (t : Bool) (a b l k : ℕ) (w : Float) → of_bits binary64 bits ≡ n → HasValue n (leb (2 ^ 63) bits) a (2 ^ 1074)
    → HasValue d t b (2 ^ 1074) → 0 < b → l < 2 ^ 53 → HasValue w (leb (2 ^ 63) bits) (2 ^ k) (2 ^ 1074) → l * 2 ^ k ≡ a % b
    → mul binary64 (of_int binary64 (pos l)) w ≡ number_remainder n d
unfolding of_int
remainder_is n d bits t a b l k w e hn hd hb hl hw left =
    let s = leb (2 ^ 63) bits in
    let whole : l ≤ 2 ^ 53 = omega arith in
    product_value (round binary64 false l 1) w false s l (2 ^ k) 1 (2 ^ 1074) (round_whole binary64 false l whole) hw (zero-lt-suc 0) (pow_pos 1074)
    ∙ rw (one-mul (2 ^ 1074), own s, left, ← rem_value n d s t a b (2 ^ 1074) hn hd hb (pow_pos 1074))
    (rem_is n d (subst (λ (x : Float). T (fits binary64 x)) e (of_bits-fits binary64 bits)))
  where
    own : (q : Bool) → unlike false q ≡ q
    own true = refl
    own false = refl

-- ---- what the code answers before it computes

pub nan_pattern : of_bits binary64 0x7ff8_0000_0000_0000 ≡ nan
unfolding of_bits of_fields
nan_pattern = refl

pub of_unbounded : (n d : Float) → float_is_finite n ≡ false → nan ≡ number_remainder n d
unfolding float_is_finite number_remainder
of_unbounded nan d h = refl
of_unbounded (inf s) d h = refl
of_unbounded (fin s m e) d h = cc

pub by_nan : (n d : Float) → is_nan d ≡ true → nan ≡ number_remainder n d
unfolding is_nan number_remainder
by_nan nan d h = refl
by_nan (inf s) d h = refl
by_nan (fin s m e) nan h = refl
by_nan (fin s m e) (inf t) h = cc
by_nan (fin s m e) (fin t n d) h = cc

pub by_zero : (n d : Float) → is_zero d ≡ true → nan ≡ number_remainder n d
unfolding is_zero number_remainder
by_zero nan d h = refl
by_zero (inf s) d h = refl
by_zero (fin s m e) nan h = cc
by_zero (fin s m e) (inf t) h = cc
by_zero (fin s m e) (fin t n d) h = sym (cond-true (eqb n 0) nan _ h)

pub by_infinity : (n d : Float) → float_is_finite n ≡ true → is_nan d ≡ false → float_is_finite d ≡ false → n ≡ number_remainder n d
unfolding float_is_finite is_nan number_remainder
by_infinity nan d h k g = cc
by_infinity (inf s) d h k g = cc
by_infinity (fin s m e) nan h k g = cc
by_infinity (fin s m e) (inf t) h k g = refl
by_infinity (fin s m e) (fin t n d) h k g = cc

pub ruleset at_once = (nan_pattern, of_unbounded, by_nan, by_zero, by_infinity)
