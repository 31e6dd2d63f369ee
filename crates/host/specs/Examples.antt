-- Worked examples of the conversions.
use Rattle.std.specs.Prelude.{◌≡◌, true, false, [], ◌∷◌, pos, negsuc, Some, None, codes}
use Rattle.std.specs.Float.{inf, fin}
use Rattle.ecma.specs.Comparison.{is_loosely_equal}
use Rattle.ecma.specs.Value.{boolean, string}
use Rattle.host.specs.DigitHost.{is_name, number_text, text_number}
use Rattle.text.specs.Units.{units}

pub record WorkedExamples : Type 0 where
  -- an a and a character of four bytes
  pub three_units : units (97 ∷ 240 ∷ 159 ∷ 152 ∷ 128 ∷ []) ≡ 3
  pub true_is_the_text_1 : is_loosely_equal text_number (boolean true) (string (codes "1")) ≡ Some true
  -- texts of numbers: both zeros, a whole number, the first that is not written, a half
  pub minus_zero : number_text (fin true 0 (pos 0)) ≡ Some (codes "0")
  pub minus_forty_two : number_text (fin true 21 (pos 1)) ≡ Some (codes "-42")
  pub the_largest : number_text (fin false 9007199254740991 (pos 0)) ≡ Some (codes "9007199254740991")
  pub past_the_largest : number_text (fin false 1 (pos 53)) ≡ None
  pub a_half : number_text (fin false 1 (negsuc 0)) ≡ None
  -- numbers of texts
  pub the_empty_text : text_number [] ≡ Some (fin false 0 (pos 0))
  pub the_text_minus_zero : text_number (codes "-0") ≡ Some (fin true 0 (pos 0))
  pub leading_zeros : text_number (codes "007") ≡ Some (fin false 7 (pos 0))
  pub sixteen_zeros : text_number (codes "0000000000000000") ≡ None
  pub a_sign_alone : text_number (codes "+") ≡ None
  pub a_space : text_number (codes " 1") ≡ None
  pub plus_infinity : text_number (codes "+Infinity") ≡ Some (inf false)
  -- names
  pub no_name : is_name [] ≡ Some false
  pub a_name : is_name (codes "$_a1") ≡ Some true
  pub a_digit_first : is_name (codes "1a") ≡ Some false
  pub a_reserved_word : is_name (codes "await") ≡ Some false
  pub not_reserved : is_name (codes "let") ≡ Some true
  pub not_ascii : is_name (195 ∷ 169 ∷ []) ≡ None
