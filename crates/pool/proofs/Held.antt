-- What a pool that holds texts says of its rows and its mark.
use Rattle.std.proofs.Common.{◌≡◌, ℕ, zero, suc, ◌+◌, ◌-◌, ◌<◌, ◌≤◌, true, cond, ltb, leb, List, [], ◌∷◌, ◌++◌, length, take, drop, set, Some, None, IsUtf8, Option, sym, refl, ap, ◌∙◌, le_refl, le_of_suc-le-suc, not-suc-le-zero, zero-add, arith, length-set, length-take}
use Rattle.pool.proofs.Rows.{inside, concat_push, length-rows_from, named, rows_from-push}
use Rattle.pool.specs.declared.mark.Mark.{Mark}
use Rattle.pool.specs.declared.row.TextRow.{TextRow}
use Rattle.pool.specs.Pieces.{below, text_of}
use Rattle.pool.specs.Texts.{Holds, bytes_room, rows_from, rows_room, text_at}
use Rattle.std.proofs.lemmas.List.Edits.{length-paste, take-paste}
use Rattle.std.proofs.ByRecursion.{All-push}
use Rattle.std.proofs.lemmas.List.{drop-take, take_all, take_more_set, take-take}
use Rattle.std.proofs.lemmas.Option.{slice_get_past}
use Rattle.std.proofs.lemmas.Bool.Decides.{nat_tests}
use Rattle.std.specs.Option.{option_map}
use lib.Seq.{paste}
use Rattle.std.specs.List.{concat, slice_get}
use Rattle.table.specs.Tables.{entry}

nth_take : {X : Type 0} (n : ℕ) (xs : List X) (k : ℕ) → k < n → slice_get (take n xs) k ≡ slice_get xs k
nth_take zero xs k h = absurd (not-suc-le-zero h)
nth_take (suc n) [] k h = refl
nth_take (suc n) (x ∷ xs) zero h = refl
nth_take (suc n) (x ∷ xs) (suc k) h = nth_take n xs k (le_of_suc-le-suc h)

-- the row that a number below the count names is that of the rows in use
row_is : (n : ℕ) (rows : List TextRow) (k : ℕ) → n ≤ rows_room rows → cond (ltb k n) (entry 4096 rows k) None ≡ slice_get (take n rows) k
row_is n rows k h = grind (arith, nat_tests, nth_take n rows k, slice_get_past (take n rows) k, length-take n rows)

-- below the mark the pool is the texts
pub below_mark : (pool : List ℕ) (b s l : ℕ) → s + l ≤ b → take l (drop s (take b pool)) ≡ take l (drop s pool)
below_mark pool b s l h =
    let e : b ≡ s + (b - s) = omega arith in
    let k : l ≤ b - s = omega arith in
    ap (λ (n : ℕ). take l (drop s (take n pool))) e ∙ ap (take l) (drop-take s (b - s) pool) ∙ take-take l (b - s) (drop s pool) k

module _ (m : Mark) (rows : List TextRow) (pool : List ℕ) (ts : List (List ℕ)) (h : Holds m rows pool ts) where
  -- the mark is where the texts end
  pub bytes_used : length (concat ts) ≡ m.bytes
  bytes_used = ap length (sym h.bytes_are) ∙ simp length-take (omega (arith, h.bytes_fit))

  found : (k : ℕ) → cond (ltb k m.rows) (entry 4096 rows k) None ≡ slice_get (rows_from 0 ts) k
  found k = row_is m.rows rows k h.rows_fit ∙ ap (λ (rs : List TextRow). slice_get rs k) h.rows_are

  pub no_row : (k : ℕ) → None ≡ cond (ltb k m.rows) (entry 4096 rows k) None → None ≡ slice_get ts k
  no_row k e = ap (option_map (text_at (concat ts))) (e ∙ found k) ∙ named ts 0 [] refl k

  pub row_inside : (k : ℕ) (r : TextRow) → Some r ≡ cond (ltb k m.rows) (entry 4096 rows k) None → r.start + r.len ≤ m.bytes
  row_inside k r e = omega (arith, inside ts 0 k r (sym (e ∙ found k)), bytes_used)

  pub row_text : (k : ℕ) (r : TextRow) → Some r ≡ cond (ltb k m.rows) (entry 4096 rows k) None → Some (text_at pool r) ≡ slice_get ts k
  row_text k r e =
      ap Some (sym (below_mark pool m.bytes r.start r.len (row_inside k r e)) ∙ ap (λ (p : List ℕ). text_at p r) h.bytes_are)
      ∙ ap (option_map (text_at (concat ts))) (e ∙ found k) ∙ named ts 0 [] refl k

  pub row_in_pool : (k : ℕ) (r : TextRow) → Some r ≡ cond (ltb k m.rows) (entry 4096 rows k) None → leb (r.start + r.len) (length pool) ≡ true
  row_in_pool k r e = grind (arith, nat_tests, row_inside k r e, h.bytes_fit)

  -- one text more, written at the mark, with its row behind the others
  pub pushed : (t : List ℕ) → IsUtf8 t → m.bytes + length t ≤ bytes_room pool → m.rows < rows_room rows → (m' : Mark) (rows' : List TextRow) (pool' : List ℕ)
      → m'.bytes ≡ m.bytes + length t → m'.rows ≡ m.rows + 1 → rows' ≡ set rows m.rows (record { start = m.bytes; len = length t }) → pool' ≡ paste pool m.bytes t (length t)
      → Holds m' rows' pool' (ts ++ t ∷ [])
  pushed t u fits free m' rows' pool' eb en er ep =
      let row : TextRow = record { start = m.bytes; len = length t } in
      let room : m.bytes + length t ≤ length pool = omega (arith, fits) in
      let in_pool : m.bytes ≤ length pool = omega arith in
      let in_rows : m.rows < length rows = omega (arith, free) in
      record {
        bytes_are =
            ap (λ (n : ℕ). take n pool') eb ∙ ap (take (m.bytes + length t)) ep
            ∙ take-paste pool m.bytes t (length t) in_pool (le_refl (length t))
            ∙ ap (λ (z : List ℕ). take m.bytes pool ++ z) (take_all (length t) t (le_refl (length t)))
            ∙ ap (λ (z : List ℕ). z ++ t) h.bytes_are ∙ sym (concat_push ts t);
        rows_are =
            ap (λ (n : ℕ). take n rows') en ∙ ap (take (m.rows + 1)) er ∙ take_more_set rows m.rows row in_rows
            ∙ ap (λ (z : List TextRow). z ++ row ∷ []) h.rows_are
            ∙ ap (λ (n : ℕ). rows_from 0 ts ++ record { start = n; len = length t } ∷ []) (sym (zero-add (length (concat ts)) ∙ bytes_used))
            ∙ sym (rows_from-push 0 ts t);
        bytes_fit = omega (arith, eb, fits, ap length ep, length-paste pool m.bytes t (length t) room (le_refl (length t)));
        rows_fit = omega (arith, en, free, ap length er, length-set rows m.rows row);
        valid = All-push IsUtf8 ts t h.valid u;
      }

  -- and the rows in use are the texts'
  pub rows_used : length ts ≡ m.rows
  rows_used = sym (length-rows_from 0 ts) ∙ ap length (sym h.rows_are) ∙ simp length-take (omega (arith, h.rows_fit))

  -- a number names its text, or none
  pub text_named : (k : ℕ) → text_of pool (below m.bytes (cond (ltb k m.rows) (entry 4096 rows k) None)) ≡ slice_get ts k
  text_named k = go (cond (ltb k m.rows) (entry 4096 rows k) None) refl
    where
      go : (o : Option TextRow) → o ≡ cond (ltb k m.rows) (entry 4096 rows k) None → text_of pool (below m.bytes o) ≡ slice_get ts k
      go None e = no_row k e
      go (Some r) e = grind (arith, nat_tests, row_inside k r e, row_text k r e)

  -- where nothing below the mark changed, the same texts are held
  pub unmoved : (m' : Mark) (pool' : List ℕ) → m'.bytes ≡ m.bytes → m'.rows ≡ m.rows → take m.bytes pool' ≡ take m.bytes pool → length pool' ≡ length pool → Holds m' rows pool' ts
  unmoved m' pool' eb en front long =
      record {
        bytes_are = ap (λ (n : ℕ). take n pool') eb ∙ front ∙ h.bytes_are;
        rows_are = ap (λ (n : ℕ). take n rows) en ∙ h.rows_are;
        bytes_fit = omega (arith, eb, long, h.bytes_fit);
        rows_fit = omega (arith, en, h.rows_fit);
        valid = h.valid;
      }
