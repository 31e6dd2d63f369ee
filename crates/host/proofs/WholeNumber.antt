-- The text of a finite number by its whole part n: there is none from 2 ^ 53 on, and below that there is one where n as a float equals the number's size.
use Rattle.std.proofs.Common.{◌≡◌, ℕ, ◌+◌, ◌-◌, ◌*◌, ◌/◌, ◌%◌, ◌^◌, ◌<◌, ◌≤◌, Bool, true, false, cond, ◌&&◌, eqb, leb, ℤ, pos, Some, None, sym, ap, ◌∙◌, div-add-mod', mul-one, mul_right_comm, arith}
use lib.Ieee.{Float, nan, inf, fin, up, down, binary64, eq, of_int, to_unsigned}
use lib.Ieee.Back.{round_whole}
use lib.Ieee.Exact.{HasValue}
use lib.Ieee.Fits.{down_pos}
use native.Mathlib.Nat.{eq_of_mul-eq-mul_right}
use Rattle.std.proofs.Math.Bool.{and-true}
use Rattle.host.specs.DigitHost.{number_text, whole_text}
use Rattle.std.proofs.lemmas.Bool.{and_right, cond-false, le-leb, lt-leb, true≢false}
use Rattle.std.proofs.lemmas.Bool.Decides.{Decides-eqb, Decides-like, same_from_decides}
use Rattle.std.specs.Float.{float_is_finite, is_sign_negative, float_with_sign}

-- n equals M / E where nothing is left over; n as a float is p / D
cross : (n D E M r p : ℕ) → 0 < D → p ≡ n * D → M ≡ n * E + r → (p * E ≡ M * D → r ≡ 0) × (r ≡ 0 → p * E ≡ M * D)
cross n D E M r p h e f =
    let turned : p * E ≡ n * E * D = ap (λ (x : ℕ). x * E) e ∙ mul_right_comm n D E in (
      (λ (k : p * E ≡ M * D). let c : n * E ≡ M = eq_of_mul-eq-mul_right D h (n * E) M (sym turned ∙ k) in omega arith),
      (λ (k : r ≡ 0). let c : n * E ≡ M = omega arith in turned ∙ ap (λ (x : ℕ). x * D) c),
    )

equal_where_whole : (n m : ℕ) (e : ℤ) → n ≤ 2 ^ 53 → n ≡ m * up e / down e → eq (of_int binary64 (pos n)) (fin false m e) ≡ eqb (m * up e % down e) 0
unfolding of_int eq
equal_where_whole n m e small is = go (of_int binary64 (pos n)) (round_whole binary64 false n small)
  where
    go : (x : Float) → HasValue x false n 1 → eq x (fin false m e) ≡ eqb (m * up e % down e) 0
    go nan v = absurd v
    go (inf t) v = absurd v
    go (fin true k d) v = absurd (true≢false v.0)
    go (fin false k d) v =
        let parts : m * up e ≡ n * down e + m * up e % down e = sym (div-add-mod' (m * up e) (down e)) ∙ ap (λ (q : ℕ). q * down e + m * up e % down e) (sym is) in
        let both = cross n (down d) (down e) (m * up e) (m * up e % down e) (k * up d) (down_pos d) (sym (mul-one (k * up d)) ∙ v.1) parts in
        and-true (eqb (k * up d * down e) (m * up e * down d))
        ∙ same_from_decides (eqb (k * up d * down e) (m * up e * down d)) (eqb (m * up e % down e) 0)
        (Decides-like (eqb (k * up d * down e) (m * up e * down d)) both.0 both.1 (Decides-eqb (k * up d * down e) (m * up e * down d)))
        (Decides-eqb (m * up e % down e) 0)

abbrev cut : Float → ℕ
cut x = to_unsigned 64 (float_with_sign false x)

pub text_by_size : (x : Float) → float_is_finite x ≡ true → cut x < 2 ^ 53
    → number_text x ≡ cond (eq (of_int binary64 (pos (cut x))) (float_with_sign false x)) (Some (whole_text (is_sign_negative x) (cut x))) None
unfolding float_is_finite is_sign_negative float_with_sign to_unsigned
text_by_size nan f small = absurd (true≢false (sym f))
text_by_size (inf s) f small = absurd (true≢false (sym f))
text_by_size (fin s m e) f small =
    let whole : cut (fin s m e) ≡ m * up e / down e = omega arith in
    let equal = equal_where_whole (cut (fin s m e)) m e (omega arith) whole in
    let low = le-leb (m * up e / down e) (2 ^ 53 - 1) (omega arith) in
    ap (λ (b : Bool). cond (eqb (m * up e % down e) 0 && b) (Some (whole_text s (m * up e / down e))) None) low
    ∙ ap (λ (b : Bool). cond b (Some (whole_text s (m * up e / down e))) None) (and-true (eqb (m * up e % down e) 0) ∙ sym equal)
    ∙ ap (λ (q : ℕ). cond (eq (of_int binary64 (pos (cut (fin s m e)))) (fin false m e)) (Some (whole_text s q)) None) (sym whole)

pub no_text_from : (x : Float) → float_is_finite x ≡ true → 2 ^ 53 ≤ cut x → number_text x ≡ None
unfolding float_is_finite float_with_sign to_unsigned
no_text_from nan f large = absurd (true≢false (sym f))
no_text_from (inf s) f large = absurd (true≢false (sym f))
no_text_from (fin s m e) f large =
    let past : leb (m * up e / down e) (2 ^ 53 - 1) ≡ false = lt-leb (m * up e / down e) (2 ^ 53 - 1) (omega arith) in
    cond-false _ _ _ (and_right (eqb (m * up e % down e) 0) (leb (m * up e / down e) (2 ^ 53 - 1)) past)
