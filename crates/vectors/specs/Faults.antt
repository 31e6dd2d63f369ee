use Rattle.std.specs.Prelude.{ℕ, List, [], ◌∷◌, Ok, Err, Result}
use Rattle.vectors.specs.declared.judge.Flaw.{Flaw}
use Rattle.vectors.specs.declared.tally.Fault.{Fault}

-- what a line adds to the faults
abbrev pub faults_of : ℕ → Result (Unit {0}) Flaw → List Fault
faults_of n (Ok _) = []
faults_of n (Err f) = record { line = n; flaw = f } ∷ []
