-- What is left is a text exactly where the whole is.
use Rattle.std.proofs.Common.{length, IsUtf8}
use Rattle.text.proofs.utf8.is_utf8.Given as goal

abbrev pub invariant-loop-rest : goal.invariant-loop-rest
invariant-loop-rest l = record { joined : IsUtf8 l.rest → IsUtf8 l.bytes; parted : IsUtf8 l.bytes → IsUtf8 l.rest }

abbrev pub decreases-loop-rest : goal.decreases-loop-rest
decreases-loop-rest l = length l.rest
