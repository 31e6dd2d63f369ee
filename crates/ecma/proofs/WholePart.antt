-- The whole part of a stored Number, by the fields of its bits: the sign s, the exponent's field x and the digits t below the leading one.
use Rattle.std.proofs.Common.{◌≡◌, ℕ, zero, suc, ◌+◌, ◌-◌, ◌*◌, ◌/◌, ◌%◌, ◌^◌, ◌<◌, ◌≤◌, Bool, true, false, cond, ◌||◌, eqb, ltb, leb, ◌⊎◌, ℤ, pos, neg_ℤ, nat_abs, sym, refl, ap, ◌∙◌, subst, inl, inr, not-suc-le-zero, lt_of_le_of_lt, le_of_lt, arith, lit<, pow_pos}
use lib.Bits.{and_mask, bit_and, bit_or, or_shifted_r}
use lib.Ieee.{Float, nan, inf, fin, up, down, odd, binary64, of_bits, of_fields}
use lib.Ieee.Digits.{Equals, odd_val}
use lib.Ieee.Exact.{HasValue, odd_sign}
use lib.Ieee.Fits.{down_pos}
use lib.Ieee.Nearest.{div_same}
use lib.Pow.{mod-mod-pow}
use Rattle.std.proofs.lemmas.Nat.{mod_below}
use Rattle.std.proofs.lemmas.Int.{ints}
use Rattle.std.proofs.lemmas.Nat.{field_of}
use Rattle.std.proofs.lemmas.Bool.{ne_eqb}
use Rattle.std.proofs.lemmas.Bool.Decides.{eqb_tells, leb_tells, nat_tests}
use Rattle.ecma.proofs.Shifted.{down_shift, up_shift, shifted_out, no_low_digits}
use Rattle.ecma.specs.Integer.{to_uint32, modulo, truncate}

abbrev pub whole_part : Float → ℕ
whole_part v = nat_abs (truncate v)

of_finite : (s : Bool) (m : ℕ) (e : ℤ) → whole_part (fin s m e) ≡ m * up e / down e
unfolding truncate
of_finite false m e = refl
of_finite true m e = omega (arith, ints)

of_fraction : (v : Float) (a l : ℕ) → Equals v a (2 ^ l) → whole_part v ≡ a / 2 ^ l
of_fraction nan a l h = absurd h
of_fraction (inf s) a l h = absurd h
of_fraction (fin s m e) a l h = of_finite s m e ∙ div_same (m * up e) (down e) a (2 ^ l) (down_pos e) (pow_pos l) h

-- the sign goes with the whole part
abbrev Signed : Bool → Float → Type 0
Signed s v = truncate v ≡ cond s (neg_ℤ (pos (whole_part v))) (pos (whole_part v))

zero_signed : (s : Bool) → pos 0 ≡ cond s (neg_ℤ (pos 0)) (pos 0)
zero_signed true = refl
zero_signed false = refl

value_signed : (s : Bool) (v : Float) (a c : ℕ) → HasValue v s a c → Signed s v
unfolding truncate
value_signed s nan a c h = absurd h
value_signed s (inf t) a c h = absurd h
value_signed s (fin true m e) a c h = subst (λ (b : Bool). Signed b (fin true m e)) h.0 (ap (λ (n : ℕ). neg_ℤ (pos n)) (sym (of_finite true m e)))
value_signed s (fin false m e) a c h = subst (λ (b : Bool). Signed b (fin false m e)) h.0 refl

pub fields_signed : (s : Bool) (x t : ℕ) → Signed s (of_fields binary64 s x t)
unfolding of_fields truncate
fields_signed s zero t = value_signed s (odd 53 s t 0 1074) (t * 2 ^ 0) (2 ^ 1074) (odd_sign 53 s t 0 1074)
fields_signed s (suc x) t = go (eqb (suc x) 2047) (eqb t 0)
  where
    go : (b d : Bool) → Signed s (cond b (cond d (inf s) nan) (odd 53 s (2 ^ 52 + t) x 1074))
    go true true = zero_signed s
    go true false = zero_signed s
    go false d = value_signed s (odd 53 s (2 ^ 52 + t) x 1074) ((2 ^ 52 + t) * 2 ^ x) (2 ^ 1074) (odd_sign 53 s (2 ^ 52 + t) x 1074)

-- ---- the whole part in each range of the exponent

normal : (s : Bool) (x t : ℕ) → (suc x ≡ 2047 → ⊥) → whole_part (of_fields binary64 s (suc x) t) ≡ (2 ^ 52 + t) * 2 ^ x / 2 ^ 1074
unfolding of_fields
normal s x t h =
    rw (ne_eqb (suc x) 2047 h) (of_fraction (odd 53 s (2 ^ 52 + t) x 1074) ((2 ^ 52 + t) * 2 ^ x) 1074 (odd_val 53 s (2 ^ 52 + t) x 1074))

pub below_one : (s : Bool) (x t : ℕ) → x < 1023 → t < 2 ^ 52 → whole_part (of_fields binary64 s x t) ≡ 0
unfolding of_fields
below_one s zero t h g = of_fraction (odd 53 s t 0 1074) (t * 2 ^ 0) 1074 (odd_val 53 s t 0 1074) ∙ shifted_out t 52 0 1074 g (omega arith)
below_one s (suc x) t h g = normal s x t (λ (e : suc x ≡ 2047). omega arith) ∙ shifted_out (2 ^ 52 + t) 53 x 1074 (omega arith) (omega arith)

pub from_one : (s : Bool) (x t : ℕ) → 1023 ≤ x → x ≤ 1075 → whole_part (of_fields binary64 s x t) ≡ (2 ^ 52 + t) / 2 ^ (1075 - x)
from_one s zero t h g = absurd (not-suc-le-zero h)
from_one s (suc x) t h g =
    let e : 1074 - x ≡ 1075 - suc x = omega arith in
    normal s x t (λ (e : suc x ≡ 2047). omega arith) ∙ down_shift (2 ^ 52 + t) x 1074 (omega arith) ∙ ap (λ (k : ℕ). (2 ^ 52 + t) / 2 ^ k) e

pub from_2^53 : (s : Bool) (x t : ℕ) → 1075 ≤ x → x < 2047 → whole_part (of_fields binary64 s x t) ≡ (2 ^ 52 + t) * 2 ^ (x - 1075)
from_2^53 s zero t h g = absurd (not-suc-le-zero h)
from_2^53 s (suc x) t h g =
    let e : x - 1074 ≡ suc x - 1075 = omega arith in
    normal s x t (λ (e : suc x ≡ 2047). omega arith) ∙ up_shift (2 ^ 52 + t) x 1074 (omega arith) ∙ ap (λ (k : ℕ). (2 ^ 52 + t) * 2 ^ k) e

not_finite : (s : Bool) (t : ℕ) → whole_part (of_fields binary64 s 2047 t) ≡ 0
unfolding of_fields truncate
not_finite s t = go (eqb t 0)
  where
    go : (b : Bool) → whole_part (cond b (inf s) nan) ≡ 0
    go true = refl
    go false = refl

pub from_2^84 : (s : Bool) (x t : ℕ) → 1106 < x → x ≤ 2047 → whole_part (of_fields binary64 s x t) % 2 ^ 32 ≡ 0
from_2^84 s x t h g = go (eqb_tells x 2047)
  where
    go : ((eqb x 2047 ≡ true) × (x ≡ 2047)) ⊎ ((eqb x 2047 ≡ false) × (x ≡ 2047 → ⊥)) → whole_part (of_fields binary64 s x t) % 2 ^ 32 ≡ 0
    go (inl k) = rw (k.1, not_finite s t)
    go (inr k) =
        let lt : x < 2047 = grind (arith, k.1) in
        rw (from_2^53 s x t (omega arith) lt) (no_low_digits (2 ^ 52 + t) (x - 1075) 32 (omega arith))

-- ---- by the bits themselves: x is the exponent's field, d the digits with the leading one

abbrev pub field : ℕ → ℕ
field b = b % 2 ^ 63 / 2 ^ 52

pub by_fields : (b : ℕ) → of_bits binary64 b ≡ of_fields binary64 (leb (2 ^ 63) b) (field b) (b % 2 ^ 52)
unfolding of_bits
by_fields b = refl

field_below : (b : ℕ) → field b ≤ 2047
field_below b = omega (arith, field_of b 11 52)

-- what `vanishes` tests
abbrev outside : ℕ → Bool
outside x = ltb x 1023 || ltb 1106 x

pub vanishing : (b x : ℕ) → x ≡ field b → outside x ≡ true → whole_part (of_bits binary64 b) % 2 ^ 32 ≡ 0
vanishing b x e h =
    rw (by_fields b, ← e) (go (leb_tells (suc x) 1023) (leb_tells 1107 x))
  where
    go : ((ltb x 1023 ≡ true) × (suc x ≤ 1023)) ⊎ ((ltb x 1023 ≡ false) × (1023 < suc x)) → ((ltb 1106 x ≡ true) × (1107 ≤ x)) ⊎ ((ltb 1106 x ≡ false) × (x < 1107))
        → whole_part (of_fields binary64 (leb (2 ^ 63) b) x (b % 2 ^ 52)) % 2 ^ 32 ≡ 0
    go (inl p) q = ap (λ (n : ℕ). n % 2 ^ 32) (below_one (leb (2 ^ 63) b) x (b % 2 ^ 52) p.1 (mod_below b (2 ^ 52) (omega arith)))
    go (inr p) (inl q) = from_2^84 (leb (2 ^ 63) b) x (b % 2 ^ 52) q.1 (omega (arith, e, field_below b))
    go (inr p) (inr q) = cc

pub shifted : (b x d w : ℕ) → x ≡ field b → d ≡ 2 ^ 52 + b % 2 ^ 52 → outside x ≡ false
    → w ≡ cond (leb x 1075) (d / 2 ^ (1075 - x)) (d * 2 ^ (x - 1075) % 2 ^ 64) → bit_and w 0xffff_ffff ≡ whole_part (of_bits binary64 b) % 2 ^ 32
shifted b x d w e g h k = and_mask w 32 ∙ ap (λ (n : ℕ). n % 2 ^ 32) k ∙ go (leb_tells x 1075) ∙ ap (λ (v : Float). whole_part v % 2 ^ 32) (sym whole)
  where
    s : Bool
    s = leb (2 ^ 63) b

    t : ℕ
    t = b % 2 ^ 52

    whole : of_bits binary64 b ≡ of_fields binary64 s x t
    whole = by_fields b ∙ ap (λ (y : ℕ). of_fields binary64 s y t) (sym e)

    from : 1023 ≤ x
    from = grind (arith, nat_tests)

    to : x ≤ 1106
    to = grind (arith, nat_tests)

    go : ((leb x 1075 ≡ true) × (x ≤ 1075)) ⊎ ((leb x 1075 ≡ false) × (1075 < x))
        → cond (leb x 1075) (d / 2 ^ (1075 - x)) (d * 2 ^ (x - 1075) % 2 ^ 64) % 2 ^ 32 ≡ whole_part (of_fields binary64 s x t) % 2 ^ 32
    go (inl p) = rw (p.0, g, from_one s x t from p.1)
    go (inr p) =
        rw (p.0, from_2^53 s x t (le_of_lt p.1) (lt_of_le_of_lt to (lit< tt)))
        (mod-mod-pow (d * 2 ^ (x - 1075)) 32 32 ∙ ap (λ (n : ℕ). n * 2 ^ (x - 1075) % 2 ^ 32) g)

-- the fields as masks cut them out
pub field_is : (b : ℕ) → bit_and (b / 2 ^ 52) 2047 ≡ field b
field_is b = and_mask (b / 2 ^ 52) 11 ∙ sym (field_of b 11 52)

pub digits_are : (b : ℕ) → bit_or (bit_and b 4503599627370495) 4503599627370496 ≡ 2 ^ 52 + b % 2 ^ 52
digits_are b = rw (and_mask b 52) (or_shifted_r 1 52 (b % 2 ^ 52) (mod_below b (2 ^ 52) (omega arith)))

-- ---- to_uint32 from the low word of the whole part, and its complement where the sign's bit is set

bits_signed : (b : ℕ) → Signed (leb (2 ^ 63) b) (of_bits binary64 b)
bits_signed b = subst (λ (v : Float). Signed (leb (2 ^ 63) b) v) (sym (by_fields b)) (fields_signed (leb (2 ^ 63) b) (field b) (b % 2 ^ 52))

signed_low : (s : Bool) (n : ℕ) → cond s ((2 ^ 32 - n % 2 ^ 32) % 2 ^ 32) (n % 2 ^ 32) ≡ modulo (cond s (neg_ℤ (pos n)) (pos n)) (2 ^ 32)
unfolding modulo
signed_low true zero = refl
signed_low true (suc n) = omega arith
signed_low false n = refl

pub uint32_is : (b low : ℕ) → low ≡ whole_part (of_bits binary64 b) % 2 ^ 32 → cond (leb (2 ^ 63) b) ((2 ^ 32 - low) % 2 ^ 32) low ≡ to_uint32 (of_bits binary64 b)
unfolding to_uint32
uint32_is b low e =
    ap (λ (n : ℕ). cond (leb (2 ^ 63) b) ((2 ^ 32 - n) % 2 ^ 32) n) e ∙ signed_low (leb (2 ^ 63) b) (whole_part (of_bits binary64 b))
    ∙ sym (ap (λ (z : ℤ). modulo z (2 ^ 32)) (bits_signed b))

pub ruleset low_word = (shifted, vanishing)
