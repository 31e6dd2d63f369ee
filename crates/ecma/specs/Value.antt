-- The values that fold: those ECMAScript language values that are no Symbol, BigInt or Object.
-- A Number is a `Float` of lib.Ieee, and a String is the bytes of its UTF-8 text.
use Rattle.std.specs.Float.{binary64}
use Rattle.std.specs.Prelude.{ℕ, Bool, List, from_bits, Float}
use Rattle.ecma.specs.declared.float_value.FloatValue.{FloatValue}
use Rattle.ecma.specs.declared.primitive_value.PrimitiveValue.{PrimitiveValue}
use Rattle.ecma.specs.declared.primitive_value.PrimitiveValue.TheVariants.{Null, Undefined, Boolean, Number, String}

pub data Primitive : Type 0 where
  null : Primitive
  undefined : Primitive
  boolean : Bool → Primitive
  number : Float → Primitive
  string : List ℕ → Primitive

-- the Number that stored bits stand for
abbrev pub number_of : FloatValue → Float
number_of v = from_bits binary64 v.bits

-- the value that the code's enum holds
abbrev pub value_of : PrimitiveValue → Primitive
value_of Null = null
value_of Undefined = undefined
value_of (Boolean b) = boolean b
value_of (Number v) = number (number_of v)
value_of (String t) = string t.now

-- What f gives at a value of the kind that is named, and other at any other kind.
abbrev pub if_boolean : {A : Type 0} → (Bool → A) → A → Primitive → A
if_boolean f other null = other
if_boolean f other undefined = other
if_boolean f other (boolean b) = f b
if_boolean f other (number x) = other
if_boolean f other (string t) = other

abbrev pub if_number : {A : Type 0} → (Float → A) → A → Primitive → A
if_number f other null = other
if_number f other undefined = other
if_number f other (boolean b) = other
if_number f other (number x) = f x
if_number f other (string t) = other

abbrev pub if_string : {A : Type 0} → (List ℕ → A) → A → Primitive → A
if_string f other null = other
if_string f other undefined = other
if_string f other (boolean b) = other
if_string f other (number x) = other
if_string f other (string t) = f t
