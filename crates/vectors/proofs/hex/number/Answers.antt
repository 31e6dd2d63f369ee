-- The digits read so far are a number below 16 to their count, and with those left they make the whole one.
use Rattle.std.proofs.Common.{◌≡◌, ℕ, ◌+◌, ◌*◌, ◌^◌, ◌<◌, ◌≤◌, List, length, get_or, drop, Some, Option, sym, ap, ◌∙◌, arith, pow-add}
use native.Mathlib.Nat.{pow-le-pow_right}
use Rattle.std.proofs.lemmas.List.{at_drop_more}
use Rattle.std.proofs.lemmas.Bool.Decides.{nat_tests}
use Rattle.vectors.specs.Hex.{digit_of, number_after}
use Rattle.std.specs.Option.{option_and_then}
use Rattle.vectors.proofs.hex.number.Goals as goal

small : (b d : ℕ) → Some d ≡ digit_of b → d < 16
small b d e = grind (arith, nat_tests)

-- i digits and one more
room : (n d i : ℕ) → n < 16 ^ i → d < 16 → n * 16 + d < 16 ^ (i + 1)
room n d i h k = omega (arith, pow-add 16 i 1)

sixteen : (n i : ℕ) → n < 16 ^ (i + 1) → i < 16 → n < 2 ^ 64
sixteen n i h k =
    let most : i + 1 ≤ 16 = omega arith in
    let above : 16 ^ (i + 1) ≤ 16 ^ 16 = pow-le-pow_right (omega arith) most in
    omega arith

next : (n i : ℕ) (ds : List ℕ) (o : Option ℕ) → i < length ds → o ≡ digit_of (get_or ds i 0)
    → number_after n (drop i ds) ≡ option_and_then (λ d. number_after (n * 16 + d) (drop (i + 1) ds)) o
next n i ds o h e =
    at_drop_more (number_after n) ds i 0 h ∙ ap (λ (p : Option ℕ). option_and_then (λ d. number_after (n * 16 + d) (drop (i + 1) ds)) p) (sym e)

pub overflow_mul-number : goal.overflow_mul-number
overflow_mul-number c =
    let h : c.loop-byte.byte-index < 16 = omega arith in
    let k : c.loop-byte.number * 16 + 0 < 16 ^ (c.loop-byte.byte-index + 1) = room _ 0 _ c.loop-byte.invariant.0 (omega arith) in
    omega (arith, sixteen _ _ k h)

byte_at : goal.After-from → ℕ
byte_at c = get_or c.args.digits.now c.loop-byte.byte-index 0

read : (c : goal.After-from) → Some c.from.result ≡ digit_of (byte_at c)
unfolding byte_at
read c = ap Some c.from.ensures ∙ c.in_ok-digit.ensures

pub overflow_add-number : goal.overflow_add-number
overflow_add-number c =
    let h : c.loop-byte.byte-index < 16 = omega arith in
    let d : c.from.result < 16 = small (byte_at c) _ (read c) in
    omega (arith, sixteen _ _ (room _ _ _ c.loop-byte.invariant.0 d) h)

pub loop-byte-preserved : goal.loop-byte-preserved
unfolding byte_at
loop-byte-preserved c = (
  room _ _ _ c.loop-byte.invariant.0 (small (byte_at c) _ (read c)),
  sym (next _ _ _ _ c.loop-byte-test.true (read c)) ∙ c.loop-byte.invariant.1,
)
