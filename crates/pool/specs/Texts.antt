-- Which texts a pool holds. They stand one after another below the mark, and each has a row that says where.
use Rattle.std.specs.Prelude.{◌≡◌, ℕ, ◌+◌, ◌≤◌, min, List, [], ◌∷◌, length, take, drop, IsUtf8}
use Rattle.pool.specs.declared.mark.Mark.{Mark}
use Rattle.pool.specs.declared.row.TextRow.{TextRow}
use Rattle.std.specs.List.{AllByRecursion, concat}
use Rattle.table.specs.Tables.{room}

-- how many bytes, and how many texts, memory of these lengths has room for
abbrev pub bytes_room : List ℕ → ℕ
bytes_room pool = min 65536 (length pool)

abbrev pub rows_room : List TextRow → ℕ
rows_room rows = room 4096 rows

-- the part of a pool that a row names
abbrev pub text_at : List ℕ → TextRow → List ℕ
text_at pool r = take r.len (drop r.start pool)

-- their rows, where the first begins at a
abbrev pub rows_from : ℕ → List (List ℕ) → List TextRow
rows_from a [] = []
rows_from a (t ∷ ts) = record { start = a; len = length t } ∷ rows_from (a + length t) ts

pub record Holds (m : Mark) (rows : List TextRow) (pool : List ℕ) (ts : List (List ℕ)) : Type 0 where
  pub bytes_are : take m.bytes pool ≡ concat ts
  pub rows_are : take m.rows rows ≡ rows_from 0 ts
  pub bytes_fit : m.bytes ≤ bytes_room pool
  pub rows_fit : m.rows ≤ rows_room rows
  pub valid : AllByRecursion IsUtf8 ts
