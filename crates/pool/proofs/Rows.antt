-- The rows of texts that stand one after another: each names its text, and one text more has its row behind the others.
use Rattle.std.proofs.Common.{◌≡◌, ℕ, zero, suc, ◌+◌, ◌≤◌, List, [], ◌∷◌, ◌++◌, length, take, drop, Some, sym, refl, ap, ◌∙◌, subst, append_assoc, append-nil, add-zero, add_assoc, arith, length-append}
use Rattle.pool.specs.declared.row.TextRow.{TextRow}
use Rattle.pool.specs.Texts.{rows_from, text_at}
use Rattle.std.proofs.lemmas.List.{take_at}
use Rattle.std.specs.Option.{option_map}
use Rattle.std.proofs.lemmas.List.Folds.{concat-append}
use Rattle.std.proofs.Math.Seq.{drop-append_seam}
use Rattle.std.specs.List.{concat, slice_get}

pub length-rows_from : (a : ℕ) (ts : List (List ℕ)) → length (rows_from a ts) ≡ length ts
length-rows_from a [] = refl
length-rows_from a (t ∷ ts) = ap suc (length-rows_from (a + length t) ts)

-- ---- each row names its text: p stands before the texts

between : (p t q : List ℕ) → take (length t) (drop (length p) (p ++ (t ++ q))) ≡ t
between p t q = ap (take (length t)) (drop-append_seam p (t ++ q)) ∙ take_at t q (length t) refl

pub named : (ts : List (List ℕ)) (a : ℕ) (p : List ℕ) → length p ≡ a → (k : ℕ) → option_map (text_at (p ++ concat ts)) (slice_get (rows_from a ts) k) ≡ slice_get ts k
named [] a p e k = refl
named (t ∷ ts) a p e zero = ap Some (subst (λ (n : ℕ). take (length t) (drop n (p ++ (t ++ concat ts))) ≡ t) e (between p t (concat ts)))
named (t ∷ ts) a p e (suc k) =
    subst (λ (z : List ℕ). option_map (text_at z) (slice_get (rows_from (a + length t) ts) k) ≡ slice_get ts k) (append_assoc p t (concat ts))
    (named ts (a + length t) (p ++ t) (length-append p t ∙ ap (λ (n : ℕ). n + length t) e) k)

-- and lies among the texts
pub inside : (ts : List (List ℕ)) (a : ℕ) (k : ℕ) (r : TextRow) → slice_get (rows_from a ts) k ≡ Some r → r.start + r.len ≤ a + length (concat ts)
inside [] a k r e = grind arith
inside (t ∷ ts) a zero r e =
    let s : a ≡ r.start = cc in
    let l : length t ≡ r.len = cc in
    omega (arith, s, l, length-append t (concat ts))
inside (t ∷ ts) a (suc k) r e = omega (arith, inside ts (a + length t) k r e, length-append t (concat ts))

-- ---- one text more

pub concat_push : (ts : List (List ℕ)) (t : List ℕ) → concat (ts ++ t ∷ []) ≡ concat ts ++ t
concat_push ts t = concat-append ts (t ∷ []) ∙ ap (λ (z : List ℕ). concat ts ++ z) (append-nil t)

pub rows_from-push : (a : ℕ) (ts : List (List ℕ)) (t : List ℕ) → rows_from a (ts ++ t ∷ []) ≡ rows_from a ts ++ record { start = a + length (concat ts); len = length t } ∷ []
rows_from-push a [] t = ap (λ (n : ℕ). record { start = n; len = length t } ∷ []) (sym (add-zero a))
rows_from-push a (u ∷ ts) t =
    ap (λ (z : List TextRow). record { start = a; len = length u } ∷ z)
    (rows_from-push (a + length u) ts t
    ∙ ap (λ (n : ℕ). rows_from (a + length u) ts ++ record { start = n; len = length t } ∷ []) (add_assoc a (length u) (length (concat ts)) ∙ ap (λ (n : ℕ). a + n) (sym (length-append u (concat ts)))))
