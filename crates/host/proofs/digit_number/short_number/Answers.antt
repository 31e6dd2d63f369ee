-- The number of 15 digits is below 2 ^ 53.
use Rattle.std.proofs.Common.{◌<◌, ◌^◌, arith, rules}
use Rattle.host.proofs.DigitValue.{below}
use Rattle.host.proofs.digit_number.short_number.Goals as goal

pub int_to_float-result : goal.int_to_float-result
int_to_float-result c =
    let small : c.loop-byte.value < 10 ^ 15 = omega (arith, c.loop-byte.invariant.value, (below c.args.text.now c.loop-byte.byte-index c.loop-byte.invariant.digits (omega arith)).1) in
    search rules
