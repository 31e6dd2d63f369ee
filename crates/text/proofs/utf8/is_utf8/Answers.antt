-- Bytes are a text exactly where what stands after their first sequence is one.
use Rattle.std.proofs.Common.{◌<◌, length, arith}
use Rattle.std.proofs.lemmas.Bool.{false≢true}
use Rattle.std.proofs.lemmas.Bool.Decides.{nat_tests}
use Rattle.text.proofs.Sequences.{no_text, passed}
use Rattle.text.proofs.utf8.is_utf8.Goals as goal

pub returns-in_default : goal.returns-in_default
returns-in_default c =
    let some : 0 < length c.loop-rest.rest.now = grind (arith, nat_tests) in
    (λ no. absurd (false≢true no), λ text. absurd (no_text c.loop-rest.rest.now some c.in_default.ensures.value (c.loop-rest.invariant.parted text)))

pub loop-rest-preserved : goal.loop-rest-preserved
loop-rest-preserved c =
    let past = passed c.loop-rest.rest.now c.in-Some.after.now c.in-Some.ensures.value in
    record { joined = λ u. c.loop-rest.invariant.joined (past.joined u); parted = λ u. past.parted (c.loop-rest.invariant.parted u) }
