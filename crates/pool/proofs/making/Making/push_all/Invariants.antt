-- The pieces so far stand behind the texts, and nothing but the mark's bytes changed.
use Rattle.std.proofs.Common.{take}
use Rattle.pool.proofs.Gathering.{So-far}
use Rattle.pool.proofs.making.Making.push_all.Given as goal
use Rattle.pool.specs.Makings.{OnlyBytes}

abbrev pub invariant-loop-piece : goal.invariant-loop-piece
invariant-loop-piece l =
    OnlyBytes l.initial.self l.self
    × So-far l.initial.self.mark.now.rows l.initial.self.start l.rows l.initial.pool (take l.piece-index l.pieces) l.self.mark.now.bytes l.pool
