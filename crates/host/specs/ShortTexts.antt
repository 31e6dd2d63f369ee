-- Each text of a number has at most 32 bytes, and all of them are ASCII.
use Rattle.std.specs.Prelude.{◌≡◌, ℕ, zero, suc, ◌-◌, ◌*◌, ◌/◌, ◌%◌, ◌^◌, ◌<◌, ◌≤◌, Bool, true, false, ◌&&◌, List, ◌∷◌, length, Some, codes, decimal, ◌==◌, nat_le, Float, Decides, refl}
use Rattle.std.specs.Float.{nan, inf, fin}
use Rattle.std.specs.Float.Ieee.{up, down}
use Rattle.std.proofs.Common.{subst, arith}
use Rattle.host.specs.Answers.{Bounded}
use Rattle.host.specs.DigitHost.{number_text, whole_text}
use Rattle.std.proofs.lemmas.Str.Ascii.{IsAscii-cons}
use Rattle.std.proofs.lemmas.Option.{cond_some}
use Rattle.std.proofs.lemmas.Fmt.{IsAscii-decimal, length-decimal-le}
use Rattle.std.proofs.lemmas.Bool.{and_parts, leb-true}
use Rattle.std.proofs.lemmas.Str.{IsUtf8-from_ascii}
use Rattle.std.proofs.lemmas.Bool.Decides.{Decides-ltb}
use Rattle.std.proofs.ByRecursion.{IsAscii-from_all, All-from_ascii, Decides-by_and}
use Rattle.std.specs.Char.{is_ascii}
use Rattle.std.specs.List.{list_all}
use Rattle.std.specs.Str.{IsAscii}

-- the test of each byte decides whether a text is ASCII
pub all_ascii : (t : List ℕ) → Decides (list_all is_ascii t) (IsAscii t)
all_ascii t =
    let each = Decides-by_and is_ascii (λ b. b < 128) (list_all is_ascii) (λ b. Decides-ltb b 128) refl (λ _ _. refl) t in
    (λ e. IsAscii-from_all t (each.0 e), λ h. each.1 (All-from_ascii t h))

fixed : (t : List ℕ) → nat_le (length t) 32 ≡ true → list_all is_ascii t ≡ true → Bounded t
fixed t h a = record { short = leb-true (length t) 32 h; valid = IsUtf8-from_ascii t ((all_ascii t).0 a) }

digits : (n : ℕ) → n ≤ 2 ^ 53 - 1 → Bounded (decimal n)
digits n h =
    let most = length-decimal-le 16 n (omega arith) (omega arith) (omega arith) in
    record { short = omega arith; valid = IsUtf8-from_ascii (decimal n) (IsAscii-decimal n (omega arith)) }

whole : (s : Bool) (n : ℕ) → n ≤ 2 ^ 53 - 1 → Bounded (whole_text s n)
whole s zero h = digits 0 h
whole false (suc n) h = digits (suc n) h
whole true (suc n) h =
    let most = length-decimal-le 16 (suc n) (omega arith) (omega arith) (omega arith) in
    record { short = omega arith; valid = IsUtf8-from_ascii (45 ∷ decimal (suc n)) (IsAscii-cons 45 (decimal (suc n)) (omega arith) (IsAscii-decimal (suc n) (omega arith))) }

pub short_text : (x : Float) (t : List ℕ) → number_text x ≡ Some t → Bounded t
short_text nan t e = let is : codes "NaN" ≡ t = cc in subst Bounded is (fixed (codes "NaN") refl refl)
short_text (inf true) t e = let is : codes "-Infinity" ≡ t = cc in subst Bounded is (fixed (codes "-Infinity") refl refl)
short_text (inf false) t e = let is : codes "Infinity" ≡ t = cc in subst Bounded is (fixed (codes "Infinity") refl refl)
short_text (fin s m e) t h =
    let g = cond_some (m * up e % down e == 0 && nat_le (m * up e / down e) (2 ^ 53 - 1)) (whole_text s (m * up e / down e)) t h in
    let low = leb-true (m * up e / down e) (2 ^ 53 - 1) (and_parts (m * up e % down e == 0) (nat_le (m * up e / down e) (2 ^ 53 - 1)) g.0).1 in
    subst Bounded g.1 (whole s (m * up e / down e) low)
