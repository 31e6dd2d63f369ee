-- A Number and its stored bits: each is had from the other, and NaN has one pattern.
use Rattle.std.proofs.Common.{◌≡◌, ◌==◌, not, ℕ, ◌+◌, ◌-◌, ◌*◌, ◌/◌, ◌^◌, Bool, true, false, cond, T, ℤ, Decides, sym, refl, ap, ◌∙◌, subst, mul_right_comm, eqb→eq, eq-eqb}
use lib.Ieee.{Float, nan, inf, fin, up, down, size, binary64, fits, is_nan, of_bits, to_bits}
use lib.Ieee.Bits.{of_bits-fits, of_bits-to_bits, to_bits-of_bits}
use lib.Ieee.Fits.{down_pos}
use lib.Ieee.Nearest.{div_same}
use Rattle.std.proofs.lemmas.Bool.Decides.{Decides-eqb, Decides-like, same_from_decides}
use Rattle.ecma.specs.declared.float_value.FloatValue.{FloatValue}
use Rattle.ecma.specs.Number.{number_same_value}
use Rattle.ecma.specs.Value.{number_of}

pub read_back : (x : Float) → fits binary64 x ≡ true → of_bits binary64 (to_bits binary64 x) ≡ x
read_back x f = of_bits-to_bits binary64 x (subst T (sym f) tt)

-- only NaN is written as a NaN, and that is one pattern
nan_only : (x : Float) → is_nan x ≡ true → to_bits binary64 x ≡ 0x7ff8_0000_0000_0000
unfolding to_bits is_nan
nan_only nan h = refl
nan_only (inf s) h = cc
nan_only (fin s m e) h = cc

pub one_nan : (x : Float) (b : ℕ) → fits binary64 x ≡ true → b ≡ to_bits binary64 x → is_nan (of_bits binary64 b) ≡ true → b ≡ 0x7ff8_0000_0000_0000
one_nan x b f e h = e ∙ nan_only x (sym (ap (λ (n : ℕ). is_nan (of_bits binary64 n)) e ∙ ap is_nan (read_back x f)) ∙ h)

pub ruleset as_stored = (one_nan, read_back)

-- ---- Numbers are the same where their bits are

same_self : (x : Float) → number_same_value x x ≡ true
unfolding number_same_value is_nan
same_self nan = refl
same_self (inf true) = refl
same_self (inf false) = refl
same_self (fin true m e) = eq-eqb (m * up e * down e) (m * up e * down e) refl
same_self (fin false m e) = eq-eqb (m * up e * down e) (m * up e * down e) refl

crossed : (m n p a b : ℕ) → m * b ≡ n * a → m * p * b ≡ n * p * a
crossed m n p a b h = mul_right_comm m p b ∙ ap (λ (x : ℕ). x * p) h ∙ mul_right_comm n a p

same_magnitude : (s : Bool) (m n : ℕ) (e d : ℤ) → m * up e * down d ≡ n * up d * down e → to_bits binary64 (fin s m e) ≡ to_bits binary64 (fin s n d)
unfolding to_bits
same_magnitude s m n e d h =
    ap (λ (k : ℕ). cond s (2 ^ 63) 0 + (size k - 53) * 2 ^ 52 + k / 2 ^ (size k - 53))
    (div_same (m * up e * 2 ^ 1074) (down e) (n * up d * 2 ^ 1074) (down d) (down_pos e) (down_pos d) (crossed (m * up e) (n * up d) (2 ^ 1074) (down e) (down d) h))

same_bits : (x y : Float) → number_same_value x y ≡ true → to_bits binary64 x ≡ to_bits binary64 y
unfolding number_same_value is_nan
same_bits nan nan h = refl
same_bits nan (inf t) h = cc
same_bits nan (fin t n d) h = cc
same_bits (inf s) nan h = cc
same_bits (inf true) (inf true) h = refl
same_bits (inf true) (inf false) h = cc
same_bits (inf false) (inf true) h = cc
same_bits (inf false) (inf false) h = refl
same_bits (inf s) (fin t n d) h = cc
same_bits (fin s m e) nan h = cc
same_bits (fin s m e) (inf t) h = cc
same_bits (fin true m e) (fin true n d) h = same_magnitude true m n e d (eqb→eq (m * up e * down d) (n * up d * down e) (subst T (sym h) tt))
same_bits (fin true m e) (fin false n d) h = cc
same_bits (fin false m e) (fin true n d) h = cc
same_bits (fin false m e) (fin false n d) h = same_magnitude false m n e d (eqb→eq (m * up e * down d) (n * up d * down e) (subst T (sym h) tt))

module _ (x y : Float) (fx : T (fits binary64 x)) (fy : T (fits binary64 y)) where
  from_bits : to_bits binary64 x ≡ to_bits binary64 y → x ≡ y
  from_bits h = sym (of_bits-to_bits binary64 x fx) ∙ ap (of_bits binary64) h ∙ of_bits-to_bits binary64 y fy

  pub same_decides : Decides (number_same_value x y) (x ≡ y)
  same_decides = (λ h. from_bits (same_bits x y h), λ e. subst (λ (z : Float). number_same_value x z ≡ true) e (same_self x))

  -- what `==` on the stored bits a and b says
  pub bits_decide : (a b : ℕ) (r : Bool) → a ≡ to_bits binary64 x → b ≡ to_bits binary64 y → Decides r (a ≡ b) → Decides r (x ≡ y)
  bits_decide a b r ea eb d = Decides-like r from_bits (ap (to_bits binary64)) (rw (ea, eb) at d)

-- the stored bits are those that the Number is written with
stored : (v : FloatValue) → v.bits ≡ to_bits binary64 (number_of v)
stored v = go (is_nan (number_of v)) refl
  where
    go : (n : Bool) → is_nan (number_of v) ≡ n → v.bits ≡ to_bits binary64 (number_of v)
    go true e = v.canonical e ∙ sym (nan_only (number_of v) e)
    go false e = sym (to_bits-of_bits binary64 v.bits v.range (subst (λ (n : Bool). T (not n)) (sym e) tt))

pub values_decide : (v w : FloatValue) → Decides (v.bits == w.bits) (number_of v ≡ number_of w)
values_decide v w = bits_decide _ _ (of_bits-fits binary64 v.bits) (of_bits-fits binary64 w.bits) _ _ _ (stored v) (stored w) (Decides-eqb v.bits w.bits)

pub bits_same : (v w : FloatValue) → (v.bits == w.bits) ≡ number_same_value (number_of v) (number_of w)
bits_same v w =
    same_from_decides (v.bits == w.bits) (number_same_value (number_of v) (number_of w)) (values_decide v w)
    (same_decides (number_of v) (number_of w) (of_bits-fits binary64 v.bits) (of_bits-fits binary64 w.bits))
