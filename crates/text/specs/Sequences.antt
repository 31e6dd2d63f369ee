-- The UTF-8 sequence that bytes begin with.
use Rattle.std.specs.Prelude.{ℕ, Bool, cond, ◌&&◌, List, [], ◌∷◌, Some, None, Option, ◌==◌}
use Rattle.std.specs.Int.{is_in_range}
use Rattle.text.specs.Classes.{class_of}
use Rattle.text.specs.declared.class.ByteClass.{ByteClass}
use Rattle.text.specs.declared.class.ByteClass.TheVariants.{Digit, NameStart, Ascii, Continuation, Lead2, Lead3, Lead4, Never}

abbrev pub is_continuation : ℕ → Bool
is_continuation b = is_in_range 128 191 b

-- After E0 and F0 a lower byte would encode what a shorter sequence does, after ED a higher one a surrogate, and after F4 more than
-- the last character.
abbrev pub is_second : ℕ → ℕ → Bool
is_second lead b =
    cond (lead == 224) (is_in_range 160 191 b)
    (cond (lead == 237) (is_in_range 128 159 b)
    (cond (lead == 240) (is_in_range 144 191 b)
    (cond (lead == 244) (is_in_range 128 143 b) (is_continuation b))))

-- what stands after the first sequence: the class of its first byte, that byte and what follows it are given
abbrev pub after_lead : ByteClass → ℕ → List ℕ → Option (List ℕ)
after_lead Digit a rest = Some rest
after_lead NameStart a rest = Some rest
after_lead Ascii a rest = Some rest
after_lead Continuation a rest = None
after_lead Lead2 a (b ∷ rest) = cond (is_second a b) (Some rest) None
after_lead Lead2 a [] = None
after_lead Lead3 a (b ∷ c ∷ rest) = cond (is_second a b && is_continuation c) (Some rest) None
after_lead Lead3 a (b ∷ []) = None
after_lead Lead3 a [] = None
after_lead Lead4 a (b ∷ c ∷ d ∷ rest) = cond (is_second a b && (is_continuation c && is_continuation d)) (Some rest) None
after_lead Lead4 a (b ∷ c ∷ []) = None
after_lead Lead4 a (b ∷ []) = None
after_lead Lead4 a [] = None
after_lead Never a rest = None

-- what stands after the sequence that bytes begin with; they need not be UTF-8
abbrev pub after_sequence : List ℕ → Option (List ℕ)
after_sequence [] = None
after_sequence (a ∷ rest) = after_lead (class_of a) a rest
