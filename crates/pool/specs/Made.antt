-- What making a text out of pieces answers and leaves. n rows are in use, and the texts end at b.
use Rattle.std.specs.Prelude.{◌≡◌, ℕ, ◌+◌, Bool, true, cond, ◌&&◌, List, [], ◌∷◌, ◌++◌, length, take, is_some, Some, None, Ok, Err, IsUtf8, Option, Result, nat_le, nat_lt, slice_set}
use Rattle.pool.specs.declared.mark.Mark.{Mark}
use Rattle.pool.specs.declared.piece.Piece.{Piece}
use Rattle.pool.specs.declared.piece.Piece.TheVariants.{Text, Bytes}
use Rattle.pool.specs.declared.row.TextRow.{TextRow}
use Rattle.pool.specs.Pieces.{gathered, present}
use Rattle.pool.specs.Texts.{Holds, bytes_room, rows_room}
use Rattle.std.specs.Option.{option_map, unwrap_or}
use Rattle.std.proofs.Math.Seq.{paste}
use Rattle.std.specs.List.{concat, flat_map, list_all, slice_get}
use Rattle.table.specs.declared.id.Id.{Id}
use Rattle.table.specs.declared.id.Texts.{Texts}
use Rattle.table.specs.declared.refusal.Cause.{Cause}
use Rattle.table.specs.Refusals.{number_of}

-- an answer by its numbers: the text's, if one was made, or the cause's row
abbrev pub told : Result (Option (Id Texts)) Cause → Result (Option ℕ) ℕ
told (Ok o) = Ok (option_map (λ i. i.number) o)
told (Err c) = Err (number_of c)

-- whether all pieces are present, the text that they make, and whether a row is free and the bytes fit
abbrev pub all_here : Mark → List TextRow → List ℕ → List (Option Piece) → Bool
all_here m rows pool ps = present m.rows m.bytes rows pool ps

abbrev pub whole : Mark → List TextRow → List ℕ → List (Option Piece) → List ℕ
whole m rows pool ps = gathered m.rows m.bytes rows pool ps

abbrev pub room : Mark → List TextRow → List ℕ → List (Option Piece) → Bool
room m rows pool ps = nat_le (m.bytes + length (whole m rows pool ps)) (bytes_room pool) && nat_lt m.rows (rows_room rows)

-- A missing piece is answered by no text. Else the text w is made if it fits, and if not that is row 3.
abbrev pub answer : Bool → Bool → ℕ → Result (Option ℕ) ℕ
answer here fits n = cond here (cond fits (Ok (Some n)) (Err 3)) (Ok None)

-- made or not, as `yes` says: the mark, the rows and the pool then. The texts below the mark stay in any case.
pub record Left (yes : Bool) (m : Mark) (rows : List TextRow) (pool w : List ℕ) (m' : Mark) (rows' : List TextRow) (pool' : List ℕ) : Type 0 where
  pub bytes : m'.bytes ≡ cond yes (m.bytes + length w) m.bytes
  pub count : m'.rows ≡ cond yes (m.rows + 1) m.rows
  pub table : rows' ≡ cond yes (slice_set rows m.rows (record { start = m.bytes; len = length w })) rows
  pub written : yes ≡ true → pool' ≡ paste pool m.bytes w (length w)
  pub front : take m.bytes pool' ≡ take m.bytes pool
  pub long : length pool' ≡ length pool

-- ---- the same of a pool that holds the texts ts

abbrev pub piece_in : List (List ℕ) → Option Piece → Option (List ℕ)
piece_in ts None = None
piece_in ts (Some (Text id)) = slice_get ts id.number
piece_in ts (Some (Bytes bytes)) = Some bytes.now

abbrev pub all_in : List (List ℕ) → List (Option Piece) → Bool
all_in ts ps = list_all (λ p. is_some (piece_in ts p)) ps

abbrev pub joined_in : List (List ℕ) → List (Option Piece) → List ℕ
joined_in ts ps = flat_map (λ p. unwrap_or (piece_in ts p) []) ps

-- bytes that are handed in are UTF-8
abbrev pub Valid : Option Piece → Type 0
Valid None = Unit {0}
Valid (Some (Text id)) = Unit {0}
Valid (Some (Bytes bytes)) = IsUtf8 bytes.now

abbrev pub room_in : List (List ℕ) → List TextRow → List ℕ → List (Option Piece) → Bool
room_in ts rows pool ps = nat_le (length (concat ts) + length (joined_in ts ps)) (bytes_room pool) && nat_lt (length ts) (rows_room rows)

pub record MadeOf (ts : List (List ℕ)) (rows : List TextRow) (pool : List ℕ) (ps : List (Option Piece)) (r : Result (Option (Id Texts)) Cause) (m' : Mark) (rows' : List TextRow) (pool' : List ℕ) : Type 0 where
  pub answers : told r ≡ answer (all_in ts ps) (room_in ts rows pool ps) (length ts)
  pub holds : Holds m' rows' pool' (cond (all_in ts ps && room_in ts rows pool ps) (ts ++ joined_in ts ps ∷ []) ts)
