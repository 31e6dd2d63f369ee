-- What is left of one number by another, each of them digits with a shift.
use Rattle.std.proofs.Common.{◌≡◌, ℕ, ◌+◌, ◌-◌, ◌*◌, ◌%◌, ◌^◌, ◌<◌, ◌≤◌, sym, ap, ◌∙◌, subst, mul_assoc, arith, pow_pos, pow-add, pow_mono, lt_of_lt_of_le, shl_lt}
use lib.Arith.{mod-mul}
use native.Mathlib.Nat.{add-zero, mul-div_cancel, mul-mod_left, mod-eq_of_lt, mul-le-mul_right}
use Rattle.std.proofs.lemmas.Nat.{mul-mod_first}
use Rattle.ecma.proofs.Shifted.{regroup}

-- a factor of both goes through
pub scaled_mod : (a b c : ℕ) → 0 < b → 0 < c → a * c % (b * c) ≡ a % b * c
scaled_mod a b c hb hc = rw (mod-mul (a * c) hb hc, mul-div_cancel a hc, mul-mod_left a c) (add-zero (a % b * c))

-- one more doubling
pub once_more : (rest left i d : ℕ) → rest ≡ left * 2 ^ i % d → rest * 2 % d ≡ left * 2 ^ (i + 1) % d
once_more rest left i d h =
    let twice : left * 2 ^ i * 2 ≡ left * 2 ^ (i + 1) = mul_assoc left (2 ^ i) 2 ∙ ap (λ (x : ℕ). left * x) (sym (pow-add 2 i 1)) in
    rw (h, mul-mod_first (left * 2 ^ i) 2 d, twice)

-- where the dividend has the larger shift
pub larger_shift : (a b p q left : ℕ) → q ≤ p → 0 < b → left ≡ a % b * 2 ^ (p - q) % b → left * 2 ^ q ≡ a * 2 ^ p % (b * 2 ^ q)
larger_shift a b p q left h hb e =
    rw (e, mul-mod_first a (2 ^ (p - q)) b, regroup a p q h, scaled_mod (a * 2 ^ (p - q)) b (2 ^ q) hb (pow_pos q))

-- where the divisor has it, and so a leading digit
pub smaller_shift : (a b p q : ℕ) → p < q → a < 2 ^ 53 → 2 ^ 52 ≤ b → a * 2 ^ p ≡ a * 2 ^ p % (b * 2 ^ q)
smaller_shift a b p q h ha hb =
    let below : a * 2 ^ p < 2 ^ (53 + p) = shl_lt 53 p ha in
    let up : 2 ^ (53 + p) ≤ 2 ^ (52 + q) = pow_mono (omega arith) in
    let reach : 2 ^ (52 + q) ≤ b * 2 ^ q = subst (λ (x : ℕ). x ≤ b * 2 ^ q) (sym (pow-add 2 52 q)) (mul-le-mul_right (2 ^ q) hb) in
    sym (mod-eq_of_lt (lt_of_lt_of_le below (omega arith)))

pub ruleset by_shifts = (larger_shift, smaller_shift)
