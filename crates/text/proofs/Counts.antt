-- The count of UTF-16 units by bytes: that of a join is the sum, and that of UTF-8 is the count by characters.
use lib.Utf8.{encode, encodes}
use Rattle.std.proofs.Common.{◌≡◌, ℕ, List, [], ◌∷◌, IsUtf8, sym, refl, ap, ◌∙◌, arith}
use Rattle.std.proofs.lemmas.Str.{encodes-chars}
use Rattle.std.proofs.lemmas.List.Sums.{sum_by-append, sum_by-cons}
use Rattle.std.proofs.lemmas.Bool.Decides.{nat_tests}
use Rattle.std.specs.Str.{chars}
use Rattle.text.specs.Units.{JoinAdds, units, units_of_byte, units_of_char, units_of_chars}

pub join_adds : JoinAdds
join_adds = sum_by-append units_of_byte

units_encode : (c : ℕ) → units (encode c) ≡ units_of_char c
unfolding encode
units_encode c = grind (arith, nat_tests)

units_encodes : (cs : List ℕ) → units (encodes cs) ≡ units_of_chars cs
units_encodes [] = refl
units_encodes (c ∷ cs) = omega (arith, join_adds (encode c) (encodes cs), units_encode c, units_encodes cs, sum_by-cons units_of_char c cs)

pub units_text : (bs : List ℕ) → IsUtf8 bs → units bs ≡ units_of_chars (chars bs)
units_text bs u = ap units (sym (encodes-chars bs u)) ∙ units_encodes (chars bs)
