-- What a host promises of its answers.
use Rattle.std.specs.Prelude.{ℕ, ◌≤◌, List, length, IsUtf8}

-- the text of a number has at most 32 bytes, and is UTF-8
pub record Bounded (t : List ℕ) : Type 0 where
  pub short : length t ≤ 32
  pub valid : IsUtf8 t
