-- What making a text means to a pool that holds texts: the pieces are theirs, and they stay or become one more.
use Rattle.std.proofs.Common.{◌≡◌, ℕ, zero, suc, ◌+◌, ◌<◌, ◌≤◌, Bool, true, false, cond, ◌&&◌, ltb, leb, List, [], ◌∷◌, ◌++◌, length, is_some, Some, None, IsUtf8, Option, Result, unwrap_or, sym, refl, ◌∙◌, subst, arith}
use Rattle.pool.proofs.Held.{bytes_used, pushed, rows_used, text_named, unmoved}
use Rattle.pool.specs.declared.mark.Mark.{Mark}
use Rattle.pool.specs.declared.piece.Piece.{Piece}
use Rattle.pool.specs.declared.piece.Piece.TheVariants.{Text, Bytes}
use Rattle.pool.specs.declared.row.TextRow.{TextRow}
use Rattle.pool.specs.Made.{Left, MadeOf, Valid, all_here, all_in, answer, joined_in, piece_in, room, room_in, told, whole}
use Rattle.pool.specs.Pieces.{piece_bytes}
use Rattle.pool.specs.Texts.{Holds, bytes_room, rows_room}
use Rattle.std.proofs.lemmas.Str.{IsUtf8-append, IsUtf8-nil}
use Rattle.std.proofs.lemmas.Bool.Decides.{nat_tests}
use Rattle.std.specs.List.{AllByRecursion, flat_map, list_all, slice_get}
use Rattle.table.specs.declared.id.Id.{Id}
use Rattle.table.specs.declared.id.Texts.{Texts}
use Rattle.table.specs.declared.refusal.Cause.{Cause}

utf8_nth : (ts : List (List ℕ)) → AllByRecursion IsUtf8 ts → (k : ℕ) → IsUtf8 (unwrap_or (slice_get ts k) [])
utf8_nth [] a k = IsUtf8-nil
utf8_nth (t ∷ ts) a zero = a.0
utf8_nth (t ∷ ts) a (suc k) = utf8_nth ts a.1 k

utf8_joined : (ts : List (List ℕ)) → AllByRecursion IsUtf8 ts → (ps : List (Option Piece)) → AllByRecursion Valid ps → IsUtf8 (joined_in ts ps)
utf8_joined ts a [] v = IsUtf8-nil
utf8_joined ts a (None ∷ ps) v = utf8_joined ts a ps v.1
utf8_joined ts a (Some (Text id) ∷ ps) v = IsUtf8-append (unwrap_or (slice_get ts id.number) []) (joined_in ts ps) (utf8_nth ts a id.number) (utf8_joined ts a ps v.1)
utf8_joined ts a (Some (Bytes bytes) ∷ ps) v = IsUtf8-append bytes.now (joined_in ts ps) v.0 (utf8_joined ts a ps v.1)

module _ (m : Mark) (rows : List TextRow) (pool : List ℕ) (ts : List (List ℕ)) (h : Holds m rows pool ts) where
  same_piece : (p : Option Piece) → piece_bytes m.rows m.bytes rows pool p ≡ piece_in ts p
  same_piece None = refl
  same_piece (Some (Text id)) = text_named m rows pool ts h id.number
  same_piece (Some (Bytes bytes)) = refl

  same_all : (ps : List (Option Piece)) → all_here m rows pool ps ≡ all_in ts ps
  same_all ps = λ i. list_all (λ p. is_some (same_piece p i)) ps

  same_whole : (ps : List (Option Piece)) → whole m rows pool ps ≡ joined_in ts ps
  same_whole ps = λ i. flat_map (λ p. unwrap_or (same_piece p i) []) ps

  same_room : (ps : List (Option Piece)) → room m rows pool ps ≡ room_in ts rows pool ps
  same_room ps = λ i. leb (sym (bytes_used m rows pool ts h) i + length (same_whole ps i)) (bytes_room pool) && ltb (sym (rows_used m rows pool ts h) i) (rows_room rows)

  pub made_of : (ps : List (Option Piece)) → AllByRecursion Valid ps → (r : Result (Option (Id Texts)) Cause) (m' : Mark) (rows' : List TextRow) (pool' : List ℕ)
      → told r ≡ answer (all_here m rows pool ps) (room m rows pool ps) m.rows → Left (all_here m rows pool ps && room m rows pool ps) m rows pool (whole m rows pool ps) m' rows' pool'
      → MadeOf ts rows pool ps r m' rows' pool'
  made_of ps v r m' rows' pool' told_is left =
      record {
        answers = told_is ∙ (λ i. answer (same_all ps i) (same_room ps i) (sym (rows_used m rows pool ts h) i));
        holds =
            subst (λ (b : Bool). Holds m' rows' pool' (cond b (ts ++ joined_in ts ps ∷ []) ts)) (λ i. same_all ps i && same_room ps i)
            (go (all_here m rows pool ps) (room m rows pool ps) refl left);
      }
    where
      valid : IsUtf8 (joined_in ts ps)
      valid = utf8_joined ts h.valid ps v

      kept : Left false m rows pool (whole m rows pool ps) m' rows' pool' → Holds m' rows' pool' ts
      kept l = subst (λ (rs : List TextRow). Holds m' rs pool' ts) (sym l.table) (unmoved m rows pool ts h m' pool' l.bytes l.count l.front l.long)

      go : (a b : Bool) → room m rows pool ps ≡ b → Left (a && b) m rows pool (whole m rows pool ps) m' rows' pool' → Holds m' rows' pool' (cond (a && b) (ts ++ joined_in ts ps ∷ []) ts)
      go false b e l = kept l
      go true false e l = kept l
      go true true e l =
          let w = whole m rows pool ps in
          let fit : m.bytes + length w ≤ bytes_room pool = grind (arith, nat_tests) in
          let free : m.rows < rows_room rows = grind (arith, nat_tests) in
          let u : IsUtf8 w = subst IsUtf8 (sym (same_whole ps)) valid in
          subst (λ (z : List ℕ). Holds m' rows' pool' (ts ++ z ∷ [])) (same_whole ps) (pushed m rows pool ts h w u fit free m' rows' pool' l.bytes l.count l.table (l.written refl))
