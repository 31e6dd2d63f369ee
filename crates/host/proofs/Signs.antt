-- A text with a minus before it has the number of the text, negated.
use lib.Ieee.{inf, neg}
use Rattle.std.proofs.Common.{◌≡◌, ℕ, Bool, true, false, cond, ◌&&◌, List, length, leb, Some, None, codes, refl}
use Rattle.host.specs.DigitHost.{signed_number, unsigned_text}
use Rattle.std.specs.List.{list_all}
use Rattle.std.specs.Option.{option_map}
use Rattle.std.specs.Str.{bytes_eq}
use Rattle.std.specs.Str.Parse.{digits_value}
use Rattle.text.specs.Classes.{is_digit}

pub negated : (t : List ℕ) → unsigned_text true t ≡ option_map neg (unsigned_text false t)
unfolding neg
negated t = go (bytes_eq t (codes "Infinity")) (list_all is_digit t && (leb 1 (length t) && leb (length t) 15)) (digits_value 10 t)
  where
    go : (infinite short : Bool) (n : ℕ)
        → cond infinite (Some (inf true)) (cond short (Some (signed_number true n)) None) ≡ option_map neg (cond infinite (Some (inf false)) (cond short (Some (signed_number false n)) None))
    go true short n = refl
    go false true n = refl
    go false false n = refl
