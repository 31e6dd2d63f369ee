use Rattle.ecma.specs.Value.{Primitive, null, undefined, boolean, number, string}
use Rattle.vectors.specs.declared.value.Value.{Value}
use Rattle.vectors.specs.declared.value.Value.TheVariants.{Null, Undefined, Boolean, Number, String}

-- the ECMAScript value that a value of a line stands for
abbrev pub meaning_of : Value → Primitive
meaning_of Null = null
meaning_of Undefined = undefined
meaning_of (Boolean b) = boolean b
meaning_of (Number x) = number x
meaning_of (String t) = string t.items
