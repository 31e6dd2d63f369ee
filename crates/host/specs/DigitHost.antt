-- The maps of the digit host: Number::toString, StringToNumber and the names of ECMA-262, each on a part of its ground.
use Rattle.std.specs.Prelude.{ℕ, zero, suc, ◌-◌, ◌*◌, ◌/◌, ◌%◌, ◌^◌, Bool, true, false, cond, not, ◌&&◌, ◌||◌, List, [], ◌∷◌, length, pos, Some, None, codes, decimal, Option, ◌==◌, nat_le, Float}
use Rattle.std.specs.Float.{nan, inf, fin, binary64}
use Rattle.std.specs.Float.Ieee.{up, down, neg, of_int}
use Rattle.std.specs.Char.{is_ascii}
use Rattle.std.specs.List.{list_all, list_any}
use Rattle.std.specs.Str.Parse.{digits_value}
use Rattle.std.specs.Str.{bytes_eq}
use Rattle.text.specs.Classes.{is_digit, is_name_start}

-- ---- the text of a number: NaN, the infinities, and the whole numbers up to 2 ^ 53 - 1 either way

-- both zeros are written 0
abbrev pub whole_text : Bool → ℕ → List ℕ
whole_text s zero = decimal 0
whole_text s (suc n) = cond s (45 ∷ decimal (suc n)) (decimal (suc n))

abbrev pub number_text : Float → Option (List ℕ)
number_text nan = Some (codes "NaN")
number_text (inf s) = Some (cond s (codes "-Infinity") (codes "Infinity"))
number_text (fin s m e) = cond (m * up e % down e == 0 && nat_le (m * up e / down e) (2 ^ 53 - 1)) (Some (whole_text s (m * up e / down e))) None

-- ---- the number of a text: of the empty one, and of an optional sign with 1 to 15 digits or with Infinity

-- n with a sign; a negative zero is -0
abbrev pub signed_number : Bool → ℕ → Float
signed_number s n = cond s (neg (of_int binary64 (pos n))) (of_int binary64 (pos n))

abbrev pub unsigned_text : Bool → List ℕ → Option Float
unsigned_text s t =
    cond (bytes_eq t (codes "Infinity")) (Some (inf s))
    (cond (list_all is_digit t && (nat_le 1 (length t) && nat_le (length t) 15)) (Some (signed_number s (digits_value 10 t))) None)

abbrev pub text_number : List ℕ → Option Float
text_number [] = Some (signed_number false 0)
text_number (b ∷ t) = cond (b == 45) (unsigned_text true t) (cond (b == 43) (unsigned_text false t) (unsigned_text false (b ∷ t)))

-- ---- names: an IdentifierName without escapes that is no ReservedWord, judged of ASCII texts

abbrev pub is_identifier_name : List ℕ → Bool
is_identifier_name [] = false
is_identifier_name (b ∷ t) = is_name_start b && list_all (λ c. is_name_start c || is_digit c) t

abbrev pub reserved_words : List (List ℕ)
reserved_words =
    codes "await" ∷ codes "break" ∷ codes "case" ∷ codes "catch" ∷ codes "class" ∷ codes "const" ∷ codes "continue" ∷ codes "debugger" ∷ codes "default"
    ∷ codes "delete" ∷ codes "do" ∷ codes "else" ∷ codes "enum" ∷ codes "export" ∷ codes "extends" ∷ codes "false" ∷ codes "finally" ∷ codes "for"
    ∷ codes "function" ∷ codes "if" ∷ codes "import" ∷ codes "in" ∷ codes "instanceof" ∷ codes "new" ∷ codes "null" ∷ codes "return" ∷ codes "super"
    ∷ codes "switch" ∷ codes "this" ∷ codes "throw" ∷ codes "true" ∷ codes "try" ∷ codes "typeof" ∷ codes "var" ∷ codes "void" ∷ codes "while"
    ∷ codes "with" ∷ codes "yield" ∷ []

-- whether a text is a ReservedWord
abbrev pub is_reserved : List ℕ → Bool
is_reserved t = list_any (λ w. bytes_eq w t) reserved_words

abbrev pub is_name : List ℕ → Option Bool
is_name t = cond (list_all is_ascii t) (Some (is_identifier_name t && not (is_reserved t))) None
