-- What a byte is: of a name in ASCII, or of a UTF-8 sequence.
use Rattle.std.specs.Prelude.{ℕ, Bool, cond, ◌&&◌, ◌||◌, ◌==◌, nat_le, nat_lt}
use Rattle.text.specs.declared.class.ByteClass.{ByteClass}
use Rattle.text.specs.declared.class.ByteClass.TheVariants.{Digit, NameStart, Ascii, Continuation, Lead2, Lead3, Lead4, Never}

-- 0 to 9
abbrev pub is_digit : ℕ → Bool
is_digit b = nat_le 48 b && nat_le b 57

-- $, _ and the letters
abbrev pub is_name_start : ℕ → Bool
is_name_start b = b == 36 || (b == 95 || ((nat_le 65 b && nat_le b 90) || (nat_le 97 b && nat_le b 122)))

-- C0, C1 and F5 to FF stand in no UTF-8 text.
abbrev pub class_of : ℕ → ByteClass
class_of b =
    cond (is_digit b) Digit
    (cond (is_name_start b) NameStart
    (cond (nat_lt b 128) Ascii
    (cond (nat_lt b 192) Continuation
    (cond (nat_lt b 194) Never
    (cond (nat_lt b 224) Lead2
    (cond (nat_lt b 240) Lead3
    (cond (nat_lt b 245) Lead4 Never)))))))
