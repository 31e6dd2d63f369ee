use Rattle.std.proofs.Common.{length}
use Rattle.vectors.proofs.line.Line.text.Given as goal

abbrev pub decreases-loop-byte : goal.decreases-loop-byte
decreases-loop-byte l = length l.self.rest.now
