-- What a table over a lent slice holds: an entry for each number below the kind's limit and the slice's length.
use Rattle.std.specs.Prelude.{ℕ, min, cond, List, length, None, Option, nat_lt, slice_set}
use Rattle.std.specs.List.{slice_get}

-- how many numbers name an entry
abbrev pub room : {A : Type 0} → ℕ → List A → ℕ
room limit xs = min limit (length xs)

-- the entry of a number, if it names one
abbrev pub entry : {A : Type 0} → ℕ → List A → ℕ → Option A
entry limit xs n = cond (nat_lt n (room limit xs)) (slice_get xs n) None

-- the entries after a write, which does nothing at a number that names none
abbrev pub written : {A : Type 0} → ℕ → List A → ℕ → A → List A
written limit xs n x = cond (nat_lt n (room limit xs)) (slice_set xs n x) xs
