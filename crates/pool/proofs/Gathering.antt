-- Pieces that are pushed one after another: those so far stand behind the texts, which stay as they are.
use Rattle.std.proofs.Common.{◌≡◌, ℕ, ◌+◌, ◌<◌, ◌≤◌, true, false, cond, ltb, leb, List, [], ◌∷◌, ◌++◌, length, get_or, take, drop, is_some, Some, None, Option, unwrap_or, sym, refl, ap, ◌∙◌, subst, append_assoc, le_refl, add-zero, arith, length-append}
use Rattle.pool.proofs.Held.{below_mark}
use Rattle.pool.specs.declared.making.Making.{Making}
use Rattle.pool.specs.declared.piece.Piece.{Piece}
use Rattle.pool.specs.declared.piece.Piece.TheVariants.{Text, Bytes}
use Rattle.pool.specs.declared.row.TextRow.{TextRow}
use Rattle.pool.specs.Makings.{OnlyBytes}
use Rattle.pool.specs.Pieces.{Gathered, Pushed, below, gathered, piece_bytes, present, text_of}
use Rattle.pool.specs.Texts.{bytes_room}
use Rattle.std.proofs.lemmas.List.Edits.{length-paste, paste_none, paste-paste}
use Rattle.std.proofs.lemmas.Grind.{flat_map-append}
use Rattle.std.proofs.lemmas.List.{drop_more, flat_map_more, length-take-le, take-append-drop, take_at}
use Rattle.std.proofs.lemmas.List.Folds.{list_all-append}
use Rattle.std.proofs.lemmas.Bool.Decides.{nat_tests}
use lib.Seq.{paste}
use Rattle.table.specs.Tables.{entry}

-- after the pieces ps the mark is b' and the pool is pool'
pub record So-far (n b : ℕ) (rows : List TextRow) (pool : List ℕ) (ps : List (Option Piece)) (b' : ℕ) (pool' : List ℕ) : Type 0 where
  pub mark : b' ≡ b + length (gathered n b rows pool ps)
  pub bytes : pool' ≡ paste pool b (gathered n b rows pool ps) (length (gathered n b rows pool ps))
  pub fits : b + length (gathered n b rows pool ps) ≤ bytes_room pool

pub only_bytes_trans : (x y z : Making) → OnlyBytes x y → OnlyBytes y z → OnlyBytes x z
only_bytes_trans x y z e f = record { lent = f.lent ∙ e.lent; start = f.start ∙ e.start; kept = f.kept ∙ e.kept; rows = f.rows ∙ e.rows }

-- ---- the texts stay, and so do the pieces that are texts

front_paste : (pool w : List ℕ) (b l : ℕ) → b ≤ length pool → take b (paste pool b w l) ≡ take b pool
front_paste pool w b l h =
    ap (take b) (append_assoc (take b pool) (take l w) (drop (b + l) pool)) ∙ take_at (take b pool) (take l w ++ drop (b + l) pool) b (length-take-le b pool h)

same_row : (b : ℕ) (x y : List ℕ) → take b x ≡ take b y → (r : Option TextRow) → text_of x (below b r) ≡ text_of y (below b r)
same_row b x y e None = refl
same_row b x y e (Some r) = grind (arith, nat_tests, below_mark x b r.start r.len, below_mark y b r.start r.len, ap (λ (z : List ℕ). take r.len (drop r.start z)) e)

module _ (n b : ℕ) (rows : List TextRow) (pool : List ℕ) where
  same_piece : (x : List ℕ) → take b x ≡ take b pool → (p : Option Piece) → piece_bytes n b rows x p ≡ piece_bytes n b rows pool p
  same_piece x e None = refl
  same_piece x e (Some (Text id)) = same_row b x pool e (cond (ltb id.number n) (entry 4096 rows id.number) None)
  same_piece x e (Some (Bytes bytes)) = refl

  -- and where as many rows are in use, and the texts end at the same byte
  still_piece : (x : List ℕ) → take b x ≡ take b pool → (n' b' : ℕ) → n' ≡ n → b' ≡ b → (p : Option Piece) → piece_bytes n' b' rows x p ≡ piece_bytes n b rows pool p
  still_piece x e n' b' f g p = (λ i. piece_bytes (f i) (g i) rows x p) ∙ same_piece x e p

  gathered-append : (ps qs : List (Option Piece)) → gathered n b rows pool (ps ++ qs) ≡ gathered n b rows pool ps ++ gathered n b rows pool qs
  gathered-append = flat_map-append (λ (p : Option Piece). unwrap_or (piece_bytes n b rows pool p) [])

  present_at : (ps qs : List (Option Piece)) (p : Option Piece) → present n b rows pool (ps ++ p ∷ qs) ≡ true → is_some (piece_bytes n b rows pool p) ≡ true
  present_at ps qs p h = let e = list_all-append (λ (q : Option Piece). is_some (piece_bytes n b rows pool q)) ps (p ∷ qs) in grind (arith, nat_tests)

  -- ---- the loop

  pub none_yet : b ≤ bytes_room pool → So-far n b rows pool [] b pool
  none_yet h = record { mark = sym (add-zero b); bytes = paste_none pool b []; fits = omega arith }

  module _ (ps : List (Option Piece)) (b₁ : ℕ) (pool₁ : List ℕ) (s : So-far n b rows pool ps b₁ pool₁) where
    inside : b ≤ length pool
    inside = omega (arith, s.fits)

    fits_pool : b + length (gathered n b rows pool ps) ≤ length pool
    fits_pool = omega (arith, s.fits)

    pub same_length : length pool₁ ≡ length pool
    same_length = ap length s.bytes ∙ length-paste pool b _ _ fits_pool (le_refl _)

    pub same_front : take b pool₁ ≡ take b pool
    same_front = ap (take b) s.bytes ∙ front_paste pool _ b _ inside

    pub one_more : (n' b' : ℕ) → n' ≡ n → b' ≡ b → (p : Option Piece) (all : List (Option Piece)) → all ≡ ps ++ p ∷ [] → (r : Option (Unit {0})) (b₂ : ℕ) (pool₂ : List ℕ)
        → Pushed (piece_bytes n' b' rows pool₁ p) b₁ pool₁ r b₂ pool₂ → is_some r ≡ true → So-far n b rows pool all b₂ pool₂
    one_more n' b' e f p all a r b₂ pool₂ h some =
        subst (λ (qs : List (Option Piece)). So-far n b rows pool qs b₂ pool₂) (sym a)
        (go (piece_bytes n b rows pool p) refl (subst (λ (t : Option (List ℕ)). Pushed t b₁ pool₁ r b₂ pool₂) (still_piece pool₁ same_front n' b' e f p) h))
      where
        go : (t : Option (List ℕ)) → piece_bytes n b rows pool p ≡ t → Pushed t b₁ pool₁ r b₂ pool₂ → So-far n b rows pool (ps ++ p ∷ []) b₂ pool₂
        go None e k = grind (arith, ap is_some k.0)
        go (Some t) e k =
            let g = gathered n b rows pool ps in
            let more : g ++ t ≡ gathered n b rows pool (ps ++ p ∷ []) =
            (λ i. g ++ unwrap_or (sym e i) []) ∙ flat_map_more (λ (q : Option Piece). unwrap_or (piece_bytes n b rows pool q) []) [] ps p in
            let long : length g + length t ≡ length (gathered n b rows pool (ps ++ p ∷ [])) = sym (length-append g t) ∙ ap length more in
            let room : leb (b₁ + length t) (bytes_room pool₁) ≡ true = sym k.0 ∙ some in
            let fit : b₁ + length t ≤ bytes_room pool₁ = grind (arith, nat_tests) in
            record {
              mark = k.1 ∙ (λ i. cond (some i) (b₁ + length t) b₁) ∙ omega (arith, s.mark, long);
              bytes =
                  k.2 ∙ (λ i. cond (some i) (paste (s.bytes i) (s.mark i) t (length t)) pool₁) ∙ paste-paste pool b g t (length g) (length t) refl refl inside
                  ∙ (λ i. paste pool b (more i) (long i));
              fits = omega (arith, fit, s.mark, long, same_length);
            }

    -- a piece that is missing or does not fit ends it
    pub stopped : (n' b' : ℕ) → n' ≡ n → b' ≡ b → (p : Option Piece) (rest all : List (Option Piece)) → all ≡ ps ++ p ∷ rest → (r o : Option (Unit {0})) (b₂ : ℕ) (pool₂ : List ℕ)
        → Pushed (piece_bytes n' b' rows pool₁ p) b₁ pool₁ r b₂ pool₂ → r ≡ None → o ≡ None → Gathered n b rows pool all o b₂ pool₂
    stopped n' b' same_rows same_end p rest all e r o b₂ pool₂ h is_none o_none =
        subst (λ (q : Option (Unit {0})). Gathered n b rows pool all q b₂ pool₂) (is_none ∙ sym o_none)
        (go (piece_bytes n b rows pool p) refl (subst (λ (t : Option (List ℕ)). Pushed t b₁ pool₁ r b₂ pool₂) (still_piece pool₁ same_front n' b' same_rows same_end p) h))
      where
        none : is_some r ≡ false
        none = ap is_some is_none

        never : {A : Type 0} → is_some r ≡ true → A
        never k = grind arith

        here : present n b rows pool all ≡ true → is_some (piece_bytes n b rows pool p) ≡ true
        here k = present_at ps rest p (sym (ap (present n b rows pool) e) ∙ k)

        go : (t : Option (List ℕ)) → piece_bytes n b rows pool p ≡ t → Pushed t b₁ pool₁ r b₂ pool₂ → Gathered n b rows pool all r b₂ pool₂
        go None f k = record { fit = λ a. grind (arith, here a, ap is_some f); mark = never; bytes = never; front = ap (take b) k.2 ∙ same_front; long = ap length k.2 ∙ same_length }
        go (Some t) f k =
            let g = gathered n b rows pool ps in
            let left = gathered n b rows pool rest in
            let kept : pool₂ ≡ pool₁ = k.2 ∙ (λ i. cond (none i) (paste pool₁ b₁ t (length t)) pool₁) in
            let whole : gathered n b rows pool all ≡ g ++ (t ++ left) = ap (gathered n b rows pool) e ∙ gathered-append ps (p ∷ rest) ∙ (λ i. g ++ (unwrap_or (f i) [] ++ left)) in
            let long : length (gathered n b rows pool all) ≡ length g + (length t + length left) = ap length whole ∙ length-append g (t ++ left) ∙ ap (λ (m : ℕ). length g + m) (length-append t left) in
            let full : leb (b₁ + length t) (bytes_room pool₁) ≡ false = sym k.0 ∙ none in
            record {
              fit = λ a. none ∙ grind (arith, nat_tests, full, s.mark, long, same_length);
              mark = never;
              bytes = never;
              front = ap (take b) kept ∙ same_front;
              long = ap length kept ∙ same_length;
            }

    pub finished : (all : List (Option Piece)) → all ≡ ps → Gathered n b rows pool all (Some tt) b₁ pool₁
    finished all e =
        subst (λ (qs : List (Option Piece)). Gathered n b rows pool qs (Some tt) b₁ pool₁) (sym e)
        (record { fit = λ a. grind (arith, nat_tests, s.fits); mark = λ a. s.mark; bytes = λ a. s.bytes; front = same_front; long = same_length })

-- the pieces before one, it, and those after it
pub split : (ps : List (Option Piece)) (k : ℕ) → k < length ps → ps ≡ take k ps ++ get_or ps k None ∷ drop (k + 1) ps
split ps k h = sym (take-append-drop k ps) ∙ ap (λ (qs : List (Option Piece)). take k ps ++ qs) (drop_more ps k None h)
