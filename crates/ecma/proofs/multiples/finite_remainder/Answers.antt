use lib.Ieee.{Float, binary64, of_bits}
use lib.Ieee.Exact.{HasValue}
use native.Mathlib.Nat.{mul-pos}
use Rattle.std.proofs.Common.{◌*◌, ◌^◌, ℕ, leb, ap, ◌∙◌, sym, subst, pow_pos, Bool, cond, nat_lt, ◌+◌, ◌-◌}
use Rattle.ecma.proofs.ExactRemainder.{power_value, remainder_is, some_digits, stored_value}
use Rattle.ecma.proofs.multiples.finite_remainder.Goals as goal

pub left_over-left-requires-clause-some : goal.left_over-left-requires-clause-some
left_over-left-requires-clause-some c =
    let b = c.of-divisor in
    some_digits c.args.d (leb (2 ^ 63) c.new.result.bits) b.result.digits b.result.shift (2 ^ 1074)
    (stored_value c.args.d c.new.result.bits b.result.digits b.result.shift c.new.ensures.value c.requires.divisor b.ensures.digits b.ensures.shift) (pow_pos 1074) c.requires.some

pub returns : goal.returns
returns c =
    let bits = c.new-dividend.result.bits in
    let a = c.of in
    let b = c.of-divisor in
    let left = c.left_over-left.result in
    let s = leb (2 ^ 63) bits in
    let t = leb (2 ^ 63) c.new.result.bits in
    let dividend = stored_value c.args.n bits a.result.digits a.result.shift c.new-dividend.ensures.value c.requires.dividend a.ensures.digits a.ensures.shift in
    let divisor = stored_value c.args.d c.new.result.bits b.result.digits b.result.shift c.new.ensures.value c.requires.divisor b.ensures.digits b.ensures.shift in
    let some = some_digits c.args.d t b.result.digits b.result.shift (2 ^ 1074) divisor (pow_pos 1074) c.requires.some in
    let bits_of : ℕ = cond (nat_lt left.shift 52) (2 ^ left.shift) ((left.shift - 51) * 2 ^ 52) in
    let signed = ap (λ (q : Bool). of_bits binary64 (cond q (2 ^ 63) 0 + bits_of)) c.is_negative.ensures in
    let power = subst (λ (w : Float). HasValue w s (2 ^ left.shift) (2 ^ 1074)) (sym (c.power.ensures ∙ signed)) (power_value s left.shift left.reach) in
    remainder_is c.args.n c.args.d bits t (a.result.digits * 2 ^ a.result.shift) (b.result.digits * 2 ^ b.result.shift) left.digits left.shift c.power.result c.new-dividend.ensures.value dividend divisor
    (mul-pos some (pow_pos b.result.shift)) left.fits power c.left_over-left.ensures
