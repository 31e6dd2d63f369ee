-- The check of UTF-8 answers as the test does.
use Rattle.std.proofs.Common.{arith}
use Rattle.host.proofs.list.is_text.Goals as goal
use Rattle.std.proofs.lemmas.Bool.Decides.{same_from_decides, nat_tests}
use Rattle.std.proofs.lemmas.Str.{IsUtf8-from_is_utf8, is_utf8-from_IsUtf8}
use Rattle.std.specs.Str.{is_utf8}

pub returns-then-bytes-le-LONGEST : goal.returns-then-bytes-le-LONGEST
returns-then-bytes-le-LONGEST c =
    let bs = c.args.bytes.now in
    let e = same_from_decides c.is_utf8.result (is_utf8 bs) c.is_utf8.ensures (IsUtf8-from_is_utf8 bs, is_utf8-from_IsUtf8 bs) in
    grind (arith, nat_tests)
