-- a * 2 ^ k / 2 ^ l as one shift, or as nothing; and the low digits of a number that was shifted past them.
use Rattle.std.proofs.Common.{◌≡◌, ℕ, ◌+◌, ◌-◌, ◌*◌, ◌/◌, ◌%◌, ◌^◌, ◌<◌, ◌≤◌, sym, ap, ◌∙◌, lt_of_lt_of_le, mul_assoc, arith, pow_pos, pow_mono, pow-add, shl_lt}
use lib.Pow.{shl-shr}
use native.Mathlib.Nat.{div-eq_of_lt, mul-div-mul_right, mul-mod_left}

pow_split : (k l : ℕ) → k ≤ l → 2 ^ l ≡ 2 ^ (l - k) * 2 ^ k
pow_split k l h = let e : l ≡ l - k + k = omega arith in ap (λ (x : ℕ). 2 ^ x) e ∙ pow-add 2 (l - k) k

pub down_shift : (a k l : ℕ) → k ≤ l → a * 2 ^ k / 2 ^ l ≡ a / 2 ^ (l - k)
down_shift a k l h = ap (λ (x : ℕ). a * 2 ^ k / x) (pow_split k l h) ∙ mul-div-mul_right a (2 ^ (l - k)) (pow_pos k)

pub regroup : (a k l : ℕ) → l ≤ k → a * 2 ^ k ≡ a * 2 ^ (k - l) * 2 ^ l
regroup a k l h = ap (λ (x : ℕ). a * x) (pow_split l k h) ∙ sym (mul_assoc a (2 ^ (k - l)) (2 ^ l))

pub up_shift : (a k l : ℕ) → l ≤ k → a * 2 ^ k / 2 ^ l ≡ a * 2 ^ (k - l)
up_shift a k l h = ap (λ (x : ℕ). x / 2 ^ l) (regroup a k l h) ∙ shl-shr (a * 2 ^ (k - l)) l

pub shifted_out : (a d k l : ℕ) → a < 2 ^ d → d + k ≤ l → a * 2 ^ k / 2 ^ l ≡ 0
shifted_out a d k l h g = div-eq_of_lt (lt_of_lt_of_le (shl_lt d k h) (pow_mono g))

pub no_low_digits : (a k w : ℕ) → w ≤ k → a * 2 ^ k % 2 ^ w ≡ 0
no_low_digits a k w h = ap (λ (x : ℕ). x % 2 ^ w) (regroup a k w h) ∙ mul-mod_left (a * 2 ^ (k - w)) (2 ^ w)
