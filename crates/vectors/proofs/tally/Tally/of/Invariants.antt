use Rattle.std.proofs.Common.{◌+◌, ◌≤◌, length}
use Rattle.vectors.proofs.tally.Tally.of.Given as goal

-- each line has a byte, so the count of lines cannot pass the input's length
abbrev pub invariant-loop-line : goal.invariant-loop-line
invariant-loop-line l = l.tally.lines + length l.line-iterator.rest.now ≤ length l.input
