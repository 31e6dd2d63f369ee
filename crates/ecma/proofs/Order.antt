-- Order, equality and difference of Numbers: `<=` is the opposite of `>` but at NaN, and only a zero equals +0.
use Rattle.std.proofs.Common.{◌≡◌, ℕ, zero, suc, ◌*◌, ◌<◌, Bool, true, false, not, ◌||◌, eqb, ℤ, pos, refl, zero-lt-suc, mul-pos, zero-mul, arith, lit<}
use lib.Ieee.{add, ne, neg, sub, Float, nan, inf, fin, up, down, below, level, lt, le, eq, is_nan, binary64, of_bits}
use lib.Ieee.Fits.{up_pos}
use Rattle.std.proofs.lemmas.Bool.Decides.{nat_tests}
use Rattle.ecma.specs.Number.{is_zero, number_less_than}
use Rattle.ecma.specs.Operators.{is_false}

not_above : (s : Bool) (a : ℕ) (t : Bool) (b : ℕ) → (below s a t b || level s a t b) ≡ not (below t b s a)
not_above false a false b = grind (arith, nat_tests)
not_above false a true b = grind (arith, nat_tests)
not_above true a false b = grind (arith, nat_tests)
not_above true a true b = grind (arith, nat_tests)

pub le_is : (x y : Float) → le x y ≡ is_false (number_less_than y x)
unfolding le lt eq is_nan
le_is nan nan = refl
le_is nan (inf t) = refl
le_is nan (fin t n d) = refl
le_is (inf s) nan = refl
le_is (inf true) (inf true) = refl
le_is (inf true) (inf false) = refl
le_is (inf false) (inf true) = refl
le_is (inf false) (inf false) = refl
le_is (inf true) (fin t n d) = refl
le_is (inf false) (fin t n d) = refl
le_is (fin s m e) nan = refl
le_is (fin s m e) (inf true) = refl
le_is (fin s m e) (inf false) = refl
le_is (fin s m e) (fin t n d) = not_above s (m * up e * down d) t (n * up d * down e)

only_zero : (s : Bool) (m : ℕ) (e : ℤ) → level s (m * up e * 1) false (0 * 1 * down e) ≡ eqb m 0
only_zero true zero e = simp zero-mul
only_zero false zero e = simp zero-mul
only_zero s (suc k) e =
    let p : 0 < suc k * up e * 1 = mul-pos (mul-pos (zero-lt-suc k) (up_pos e)) (lit< tt) in
    simp zero-mul (grind (arith, nat_tests))

-- +0, as the code writes it
pub eq_zero : (x : Float) → eq x (of_bits binary64 0) ≡ is_zero x
unfolding eq is_zero of_bits
eq_zero nan = refl
eq_zero (inf s) = refl
eq_zero (fin s m e) = only_zero s m e

pub sub_is : (x y : Float) → sub binary64 x y ≡ add binary64 x (neg y)
unfolding sub
sub_is x y = refl

-- the literal 1.0, as the code writes it
pub sub_one : (x : Float) → sub binary64 x (of_bits binary64 0x3ff0_0000_0000_0000) ≡ add binary64 x (neg (fin false 1 (pos 0)))
unfolding of_bits sub
sub_one x = refl

pub ne_is : (x y : Float) → ne x y ≡ not (eq x y)
unfolding ne
ne_is x y = refl

pub ruleset derived = (sub_is, ne_is)
