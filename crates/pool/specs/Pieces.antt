-- The pieces that a text is made of, where n rows are in use and the texts end at b.
use Rattle.std.specs.Prelude.{◌≡◌, ℕ, ◌+◌, Bool, true, cond, List, [], length, take, is_some, Some, None, Option, nat_le, nat_lt}
use Rattle.pool.specs.declared.piece.Piece.{Piece}
use Rattle.pool.specs.declared.piece.Piece.TheVariants.{Text, Bytes}
use Rattle.pool.specs.declared.row.TextRow.{TextRow}
use Rattle.pool.specs.Texts.{bytes_room, text_at}
use Rattle.std.specs.List.{flat_map, list_all}
use Rattle.std.specs.Option.{unwrap_or}
use Rattle.std.proofs.Math.Seq.{paste}
use Rattle.table.specs.Tables.{entry}

-- the row of a text that lies among the texts
abbrev pub below : ℕ → Option TextRow → Option TextRow
below b None = None
below b (Some r) = cond (nat_le (r.start + r.len) b) (Some r) None

abbrev pub row_of : ℕ → ℕ → List TextRow → ℕ → Option TextRow
row_of n b rows k = below b (cond (nat_lt k n) (entry 4096 rows k) None)

abbrev pub text_of : List ℕ → Option TextRow → Option (List ℕ)
text_of pool None = None
text_of pool (Some r) = Some (text_at pool r)

-- the bytes of a piece, if it is present: a text of the pool by its number, or bytes that are handed in
abbrev pub piece_bytes : ℕ → ℕ → List TextRow → List ℕ → Option Piece → Option (List ℕ)
piece_bytes n b rows pool None = None
piece_bytes n b rows pool (Some (Text id)) = text_of pool (row_of n b rows id.number)
piece_bytes n b rows pool (Some (Bytes bytes)) = Some bytes.now

-- whether all pieces are present, and their bytes one after another
abbrev pub present : ℕ → ℕ → List TextRow → List ℕ → List (Option Piece) → Bool
present n b rows pool ps = list_all (λ p. is_some (piece_bytes n b rows pool p)) ps

abbrev pub gathered : ℕ → ℕ → List TextRow → List ℕ → List (Option Piece) → List ℕ
gathered n b rows pool ps = flat_map (λ p. unwrap_or (piece_bytes n b rows pool p) []) ps

-- A piece is pushed at the mark b, if it is present and fits: what is answered, and the mark and the pool then.
abbrev pub Pushed : Option (List ℕ) → ℕ → List ℕ → Option (Unit {0}) → ℕ → List ℕ → Type 0
Pushed None b pool r b' pool' = (r ≡ None) × (b' ≡ b) × (pool' ≡ pool)
Pushed (Some t) b pool r b' pool' =
    (is_some r ≡ nat_le (b + length t) (bytes_room pool)) × (b' ≡ cond (is_some r) (b + length t) b) × (pool' ≡ cond (is_some r) (paste pool b t (length t)) pool)

-- All pieces are pushed behind the texts, which end at b: whether they fit, if they are present, and the mark and the pool then. The
-- texts stay in any case.
pub record Gathered (n b : ℕ) (rows : List TextRow) (pool : List ℕ) (ps : List (Option Piece)) (r : Option (Unit {0})) (b' : ℕ) (pool' : List ℕ) : Type 0 where
  pub fit : present n b rows pool ps ≡ true → is_some r ≡ nat_le (b + length (gathered n b rows pool ps)) (bytes_room pool)
  pub mark : is_some r ≡ true → b' ≡ b + length (gathered n b rows pool ps)
  pub bytes : is_some r ≡ true → pool' ≡ paste pool b (gathered n b rows pool ps) (length (gathered n b rows pool ps))
  pub front : take b pool' ≡ take b pool
  pub long : length pool' ≡ length pool
