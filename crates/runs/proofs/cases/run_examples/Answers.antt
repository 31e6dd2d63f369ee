use lib.Ieee.{add, eq, is_nan, of_int, lt}
use Rattle.std.proofs.Common.{rules}
use Rattle.ecma.specs.Number.{is_zero}
use Rattle.runs.proofs.cases.run_examples.Goals as goal

pub returns : goal.returns
unfolding add eq is_nan of_int lt is_zero
returns c = search rules
