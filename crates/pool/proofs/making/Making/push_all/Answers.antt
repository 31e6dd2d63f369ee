-- Each piece is one more of those that stand behind the texts, or the first that is missing or does not fit.
use Rattle.std.proofs.Common.{is_some, ap}
use Rattle.pool.proofs.Gathering.{one_more, only_bytes_trans, split, stopped}
use Rattle.pool.proofs.making.Making.push_all.Goals as goal
use Rattle.std.proofs.lemmas.List.{take_more}

pub loop-piece-preserved : goal.loop-piece-preserved
loop-piece-preserved c =
    let before = c.loop-piece.invariant in
    let e = c.push_piece.ensures in (
      only_bytes_trans _ _ _ before.0 e.unchanged,
      one_more _ _ _ _ _ _ _ before.1 _ _ before.0.rows before.0.start _ _ (take_more _ _ _ c.loop-piece-test.true) _ _ _ e.pushed (ap is_some c.in_ok-push_piece.was),
    )

pub returns-in_err-push_piece-clause-gathered : goal.returns-in_err-push_piece-clause-gathered
returns-in_err-push_piece-clause-gathered c =
    let before = c.loop-piece.invariant in
    stopped _ _ _ _ _ _ _ before.1 _ _ before.0.rows before.0.start _ _ _ (split _ _ c.loop-piece-test.true) _ _ _ _ c.push_piece.ensures.pushed c.in_err-push_piece.was c.from_residual.ensures
