use Rattle.std.specs.Prelude.{ℕ, List}
use Rattle.vectors.specs.declared.line.Line.{Line}

-- the bytes that are left of a line
abbrev pub rest_of : Line → List ℕ
rest_of l = l.rest.now
