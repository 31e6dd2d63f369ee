use Rattle.std.proofs.Common.{◌≡◌, ◌^◌, ◌<◌, drop}
use Rattle.vectors.specs.Hex.{number, number_after}
use Rattle.vectors.proofs.hex.number.Given as goal

-- what is left of the digits completes the number
abbrev pub invariant-loop-byte : goal.invariant-loop-byte
invariant-loop-byte l = (l.number < 16 ^ l.byte-index) × (number_after l.number (drop l.byte-index l.digits) ≡ number l.digits)
