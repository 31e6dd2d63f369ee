use Rattle.runs.proofs.laws.folds_are_monotone.Goals as goal
use Rattle.runs.proofs.Monotone.{all_same, fold_below}

pub returns : goal.returns
returns c = λ f g w texts i vs. fold_below f g w texts i vs vs (all_same vs)
