-- The table is the list of the classes of 0 to 255, which antt computes.
use Rattle.std.proofs.Common.{arith}
use Rattle.std.proofs.lemmas.List.FromFn.{get_or-map-range_with_len}
use Rattle.text.specs.Classes.{class_of}
use Rattle.text.proofs.class.ByteClassFromU8.from.Goals as goal

pub returns : goal.returns
returns c = get_or-map-range_with_len class_of 0 256 c.args.byte c.args.byte _ (omega (arith, c.ranges.byte.fits)) (omega arith)
