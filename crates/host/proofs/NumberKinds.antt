-- The text of NaN and of an infinity, by the tests for them, and that any other number is finite.
use Rattle.std.proofs.Common.{◌≡◌, true, false, cond, Some, codes, sym, refl}
use lib.Ieee.{Float, nan, inf, fin, is_nan}
use Rattle.host.specs.DigitHost.{number_text}
use Rattle.std.proofs.lemmas.Bool.{true≢false}
use Rattle.std.specs.Float.{NotNan, float_is_finite, float_is_infinite, is_sign_negative}

pub text_of_nan : (x : Float) → is_nan x ≡ true → number_text x ≡ Some (codes "NaN")
unfolding is_nan
text_of_nan nan h = refl
text_of_nan (inf s) h = absurd (true≢false (sym h))
text_of_nan (fin s m e) h = absurd (true≢false (sym h))

pub text_of_infinite : (x : Float) → float_is_infinite x ≡ true → number_text x ≡ Some (cond (is_sign_negative x) (codes "-Infinity") (codes "Infinity"))
unfolding float_is_infinite is_sign_negative
text_of_infinite nan h = absurd (true≢false (sym h))
text_of_infinite (inf s) h = refl
text_of_infinite (fin s m e) h = absurd (true≢false (sym h))

pub finite_else : (x : Float) → is_nan x ≡ false → float_is_infinite x ≡ false → float_is_finite x ≡ true
unfolding is_nan float_is_infinite float_is_finite
finite_else nan h g = absurd (true≢false h)
finite_else (inf s) h g = absurd (true≢false g)
finite_else (fin s m e) h g = refl

pub not_nan : (x : Float) → float_is_finite x ≡ true → NotNan x
unfolding float_is_finite is_nan
not_nan nan h = absurd (true≢false (sym h))
not_nan (inf s) h = absurd (true≢false (sym h))
not_nan (fin s m e) h = tt
