use Rattle.std.proofs.Common.{sym, ◌∙◌}
use Rattle.ecma.proofs.comparison.is_loosely_equal.Goals as goal
use Rattle.ecma.proofs.LooseEquality.{from_left, from_right}
use Rattle.ecma.specs.Value.{value_of}

pub returns-in-Some : goal.returns-in-Some
returns-in-Some c =
    c.number_equals.ensures ∙ from_left (λ _. c.args.text_number) (value_of c.args.x) (value_of c.args.y) c.in-Some.n (sym c.in-Some.ensures)

pub returns-in-Some-numeric : goal.returns-in-Some-numeric
returns-in-Some-numeric c =
    c.number_equals-in-Some-numeric.ensures
    ∙ from_right (λ _. c.args.text_number) (value_of c.args.x) (value_of c.args.y) c.in-Some-numeric.n (sym c.in-Some-numeric.ensures)
