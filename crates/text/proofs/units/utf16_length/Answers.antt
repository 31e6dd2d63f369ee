-- A byte counts two at most, and the count by bytes is that by characters.
use Rattle.std.proofs.Common.{◌≡◌, ◌-◌, ◌^◌, ◌∙◌, rules, arith}
use Rattle.std.proofs.lemmas.Iterator.{YieldsList-from_slice}
use Rattle.std.proofs.lemmas.Iterator.Adapters.{fits_from_length, at_most_from_yields_List}
use Rattle.text.proofs.Counts.{units_text}
use Rattle.text.specs.Units.{units}
use Rattle.text.proofs.units.utf16_length.Goals as goal

pub sum-requires-clause-fits : goal.sum-requires-clause-fits
sum-requires-clause-fits c =
    fits_from_length _ _ (2 ^ 63 - 1) (2 ^ 64) (at_most_from_yields_List (YieldsList-from_slice c.args.bytes.now cc) (omega arith)) c.map.ensures.closure (omega arith)
    (λ x r q k. search rules)

pub returns-clause-chars : goal.returns-clause-chars
returns-clause-chars c = λ u. let e : c.sum.result ≡ units c.args.bytes.now = search rules in e ∙ units_text c.args.bytes.now u
