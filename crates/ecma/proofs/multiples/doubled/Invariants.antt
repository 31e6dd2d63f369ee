use Rattle.std.proofs.Common.{◌≡◌, ◌*◌, ◌%◌, ◌^◌, ◌<◌}
use Rattle.ecma.proofs.multiples.doubled.Given as goal

abbrev pub invariant-loop-turn : goal.invariant-loop-turn
invariant-loop-turn l = record { value : l.rest ≡ l.left * 2 ^ l._turn % l.divisor; below : l.rest < l.divisor }
