-- Truth and equality of values: ToBoolean, SameValue, IsStrictlyEqual and IsLooselyEqual of ECMA-262.
use Rattle.std.specs.Float.{fin}
use Rattle.std.specs.Prelude.{◌≡◌, ℕ, Bool, true, false, cond, not, ◌||◌, List, [], ◌∷◌, pos, is_some, Some, None, Option, is_nan, Float}
use Rattle.std.specs.Bool.{beq}
use Rattle.std.specs.Option.{option_flatten, option_map, option_or}
use Rattle.std.specs.Str.{bytes_eq}
use Rattle.ecma.specs.Number.{is_zero, number_equal, number_same_value}
use Rattle.ecma.specs.Value.{Primitive, null, undefined, boolean, number, string, if_boolean, if_number, if_string}

abbrev pub to_boolean : Primitive → Bool
to_boolean null = false
to_boolean undefined = false
to_boolean (boolean b) = b
to_boolean (number x) = not (is_zero x || is_nan x)
to_boolean (string []) = false
to_boolean (string (b ∷ t)) = true

abbrev is_null : Primitive → Bool
is_null null = true
is_null undefined = false
is_null (boolean b) = false
is_null (number x) = false
is_null (string t) = false

abbrev is_undefined : Primitive → Bool
is_undefined null = false
is_undefined undefined = true
is_undefined (boolean b) = false
is_undefined (number x) = false
is_undefined (string t) = false

-- Values of two types are never the same, and never strictly equal. Two strings are equal where their bytes are.
abbrev pub same_value : Primitive → Primitive → Bool
same_value null y = is_null y
same_value undefined y = is_undefined y
same_value (boolean a) y = if_boolean (beq a) false y
same_value (number a) y = if_number (number_same_value a) false y
same_value (string a) y = if_string (bytes_eq a) false y

abbrev pub is_strictly_equal : Primitive → Primitive → Bool
is_strictly_equal null y = is_null y
is_strictly_equal undefined y = is_undefined y
is_strictly_equal (boolean a) y = if_boolean (beq a) false y
is_strictly_equal (number a) y = if_number (number_equal a) false y
is_strictly_equal (string a) y = if_string (bytes_eq a) false y

-- ToNumber of a Boolean: 1 or +0
abbrev pub to_number : Bool → Float
to_number b = cond b (fin false 1 (pos 0)) (fin false 0 (pos 0))

-- IsLooselyEqual of a Number and a value. h is StringToNumber where it is known: there is no answer where it is needed and
-- silent, be the Number NaN or not.
abbrev pub number_equals : (List ℕ → Option Float) → Float → Primitive → Option Bool
number_equals h x null = Some false
number_equals h x undefined = Some false
number_equals h x (boolean b) = Some (number_equal x (to_number b))
number_equals h x (number y) = Some (number_equal x y)
number_equals h x (string t) = option_map (number_equal x) (h t)

-- Null and Undefined equal each other and nothing else. Values of one type are equal strictly. A Boolean goes by its Number, and
-- a String beside a Number by the Number that it stands for.
abbrev pub is_loosely_equal : (List ℕ → Option Float) → Primitive → Primitive → Option Bool
is_loosely_equal h null y = Some (is_null y || is_undefined y)
is_loosely_equal h undefined y = Some (is_null y || is_undefined y)
is_loosely_equal h (boolean a) null = Some false
is_loosely_equal h (boolean a) undefined = Some false
is_loosely_equal h (boolean a) (boolean b) = Some (beq a b)
is_loosely_equal h (boolean a) (number y) = number_equals h (to_number a) (number y)
is_loosely_equal h (boolean a) (string t) = number_equals h (to_number a) (string t)
is_loosely_equal h (number x) y = number_equals h x y
is_loosely_equal h (string t) null = Some false
is_loosely_equal h (string t) undefined = Some false
is_loosely_equal h (string t) (boolean b) = option_map (λ x. number_equal x (to_number b)) (h t)
is_loosely_equal h (string t) (number y) = option_map (λ x. number_equal x y) (h t)
is_loosely_equal h (string t) (string u) = Some (bytes_eq t u)

-- the Number of a Boolean or a Number
abbrev pub numeric_of : Primitive → Option Float
numeric_of null = None
numeric_of undefined = None
numeric_of (boolean b) = Some (to_number b)
numeric_of (number x) = Some x
numeric_of (string t) = None

-- the string whose number x == y asks for, if it asks for one
abbrev pub converted_text : Primitive → Primitive → Option (List ℕ)
converted_text x y =
    option_or (if_string (λ t. cond (is_some (numeric_of y)) (Some t) None) None x) (if_string (λ t. cond (is_some (numeric_of x)) (Some t) None) None y)

-- x == y, for any h, asks h at most for the number of t
abbrev pub AsksOnly : Primitive → Primitive → Option (List ℕ) → Type 0
AsksOnly x y t = (h : List ℕ → Option Float) → is_loosely_equal h x y ≡ is_loosely_equal (λ _. option_flatten (option_map h t)) x y
