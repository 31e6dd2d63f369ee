use Rattle.std.proofs.lemmas.Slice.Eq.{strip_prefix_is}
use Rattle.std.proofs.Common.{Some}
use Rattle.vectors.proofs.line.Line.skips.Goals as goal
use Rattle.std.proofs.lemmas.Bool.Decides.{Decides-eqb}

pub returns : goal.returns
returns c = strip_prefix_is Decides-eqb c.args.self.now.rest.now c.args.bytes.now (Some c.in-Some.rest) c.in-Some.ensures.cases
