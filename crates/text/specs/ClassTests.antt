-- What a class says of its bytes.
use Rattle.std.specs.Prelude.{ℕ, Bool, true, false, Some, None, Option}
use Rattle.text.specs.declared.class.ByteClass.{ByteClass}
use Rattle.text.specs.declared.class.ByteClass.TheVariants.{Digit, NameStart, Ascii, Continuation, Lead2, Lead3, Lead4, Never}

-- 0 to 9
abbrev pub digit_class : ByteClass → Bool
digit_class Digit = true
digit_class NameStart = false
digit_class Ascii = false
digit_class Continuation = false
digit_class Lead2 = false
digit_class Lead3 = false
digit_class Lead4 = false
digit_class Never = false

-- what a name can begin with
abbrev pub name_start_class : ByteClass → Bool
name_start_class Digit = false
name_start_class NameStart = true
name_start_class Ascii = false
name_start_class Continuation = false
name_start_class Lead2 = false
name_start_class Lead3 = false
name_start_class Lead4 = false
name_start_class Never = false

-- what can follow in a name
abbrev pub name_part_class : ByteClass → Bool
name_part_class Digit = true
name_part_class NameStart = true
name_part_class Ascii = false
name_part_class Continuation = false
name_part_class Lead2 = false
name_part_class Lead3 = false
name_part_class Lead4 = false
name_part_class Never = false

-- how many bytes the UTF-8 sequence has that the byte begins, if it begins one
abbrev pub sequence_length : ByteClass → Option ℕ
sequence_length Digit = Some 1
sequence_length NameStart = Some 1
sequence_length Ascii = Some 1
sequence_length Continuation = None
sequence_length Lead2 = Some 2
sequence_length Lead3 = Some 3
sequence_length Lead4 = Some 4
sequence_length Never = None
