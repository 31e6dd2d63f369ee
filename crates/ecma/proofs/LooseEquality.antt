-- IsLooselyEqual with the Number or the Boolean on the right is the same comparison from the left.
use lib.Ieee.{Float, eq, binary64, of_int}
use Rattle.std.proofs.Common.{◌≡◌, ℕ, Bool, true, false, List, Some, None, Option, pos, refl, ap}
use Rattle.std.specs.Int.{from_bool}
use Rattle.std.proofs.lemmas.Float.{floats_per}
use Rattle.std.specs.Option.{option_map}
use Rattle.ecma.specs.Comparison.{is_loosely_equal, to_number, number_equals, numeric_of}
use Rattle.ecma.specs.Value.{Primitive, null, undefined, boolean, number, string}

-- the Number of a Boolean as the code has it
pub number_of_bool : (b : Bool) → of_int binary64 (pos (from_bool b)) ≡ to_number b
unfolding of_int
number_of_bool true = refl
number_of_bool false = refl

module _ (h : List ℕ → Option Float) where
  swapped : (y : Float) (n : Option Float) → option_map (eq y) n ≡ option_map (λ x. eq x y) n
  swapped y None = refl
  swapped y (Some x) = ap Some (floats_per.symm y x)

  -- with the Number, or a Boolean's Number, on the left
  pub from_left : (x y : Primitive) (n : Float) → numeric_of x ≡ Some n → number_equals h n y ≡ is_loosely_equal h x y
  unfolding eq
  from_left null y n e = cc
  from_left undefined y n e = cc
  from_left (boolean a) y n e = cc (go a y)
    where
      go : (a : Bool) (y : Primitive) → number_equals h (to_number a) y ≡ is_loosely_equal h (boolean a) y
      go a null = refl
      go a undefined = refl
      go true (boolean true) = refl
      go true (boolean false) = refl
      go false (boolean true) = refl
      go false (boolean false) = refl
      go a (number y) = refl
      go a (string t) = refl
  from_left (number x) y n e = cc
  from_left (string t) y n e = cc

  -- and on the right
  number_right : (y : Float) (x : Primitive) → number_equals h y x ≡ is_loosely_equal h x (number y)
  number_right y null = refl
  number_right y undefined = refl
  number_right y (boolean b) = ap Some (floats_per.symm y (to_number b))
  number_right y (number x) = ap Some (floats_per.symm y x)
  number_right y (string t) = swapped y (h t)

  boolean_right : (b : Bool) (x : Primitive) → number_equals h (to_number b) x ≡ is_loosely_equal h x (boolean b)
  unfolding eq
  boolean_right b null = refl
  boolean_right b undefined = refl
  boolean_right true (boolean true) = refl
  boolean_right true (boolean false) = refl
  boolean_right false (boolean true) = refl
  boolean_right false (boolean false) = refl
  boolean_right b (number x) = ap Some (floats_per.symm (to_number b) x)
  boolean_right b (string t) = swapped (to_number b) (h t)

  pub from_right : (x y : Primitive) (n : Float) → numeric_of y ≡ Some n → number_equals h n x ≡ is_loosely_equal h x y
  from_right x null n e = cc
  from_right x undefined n e = cc
  from_right x (boolean b) n e = cc (boolean_right b x)
  from_right x (number y) n e = cc (number_right y x)
  from_right x (string t) n e = cc
