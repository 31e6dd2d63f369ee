-- A text's length in UTF-16 code units.
use Rattle.std.specs.List.{sum_by}
use Rattle.std.specs.Prelude.{◌≡◌, ℕ, ◌+◌, cond, List, ◌++◌, nat_lt}

-- what a character counts: two where it is past the first 65,536
abbrev pub units_of_char : ℕ → ℕ
units_of_char c = cond (nat_lt c 65536) 1 2

abbrev pub units_of_chars : List ℕ → ℕ
units_of_chars cs = sum_by units_of_char cs

-- what a byte adds: the first byte of a sequence counts for it, two where the sequence has four bytes, and those after it count
-- nothing. So a length is defined of any bytes, and that of a join is the sum.
abbrev pub units_of_byte : ℕ → ℕ
units_of_byte b = cond (nat_lt b 128) 1 (cond (nat_lt b 192) 0 (cond (nat_lt b 240) 1 2))

abbrev pub units : List ℕ → ℕ
units bs = sum_by units_of_byte bs

-- The length of a join is the sum.
abbrev pub JoinAdds : Type 0
JoinAdds = (a b : List ℕ) → units (a ++ b) ≡ units a + units b
