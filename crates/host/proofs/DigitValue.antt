-- The number that a text of digits writes, digit by digit: what a digit adds, and how large the number can be.
use Rattle.std.proofs.Common.{◌≡◌, ℕ, ◌+◌, ◌*◌, ◌-◌, ◌^◌, ◌<◌, ◌≤◌, true, List, length, get_or, take, ◌∙◌, rules, arith, length-take}
use Rattle.std.proofs.lemmas.List.Folds.{list_all_more}
use Rattle.std.proofs.lemmas.Int.Digits.{digits_value_more}
use Rattle.std.proofs.lemmas.Str.Parse.{IsNumeralModel, numerals_by_value, tells_digits, digits_value_short}
use Rattle.std.proofs.lemmas.Bool.Decides.{nat_tests}
use Rattle.std.specs.List.{list_all}
use Rattle.std.specs.Str.Parse.{AllDigits, digits_value}
use Rattle.std.specs.Char.{digit_value}
use Rattle.text.specs.Classes.{is_digit}

numerals : IsNumeralModel (λ ds. list_all is_digit ds ≡ true) (digits_value 10)
numerals = numerals_by_value _ (search rules)

pub digit_adds : (b : ℕ) → is_digit b ≡ true → (digit_value b ≡ b - 48) × (digit_value b < 10) × (48 ≤ b)
digit_adds b h = grind (arith, nat_tests)

pub front_below : (t : List ℕ) (i k v : ℕ) → AllDigits 10 (take i t) → v ≡ digits_value 10 (take i t) → i ≤ length t → i ≤ k → v < 10 ^ k
front_below t i k v d is h g =
    rw is (digits_value_short (numerals_by_value (AllDigits 10) tells_digits) (take i t) k d (omega (arith, length-take i t)))

-- before the last of 15 digits, and with it
pub below : (t : List ℕ) (i : ℕ) → list_all is_digit (take i t) ≡ true → length t ≤ 15 → (i < length t → digits_value 10 (take i t) < 10 ^ 14) × (digits_value 10 (take i t) < 10 ^ 15)
below t i d g =
    let short = λ (k : ℕ) (h : length (take i t) ≤ k). digits_value_short numerals (take i t) k d h in
    let e = length-take i t in
    (λ h. short 14 (omega (arith, e)), short 15 (omega (arith, e)))

pub one_more : (t : List ℕ) (i : ℕ) → list_all is_digit (take i t) ≡ true → i < length t → is_digit (get_or t i 0) ≡ true
    → (list_all is_digit (take (i + 1) t) ≡ true) × (digits_value 10 (take (i + 1) t) ≡ digits_value 10 (take i t) * 10 + (get_or t i 0 - 48))
one_more t i d h e =
    (list_all_more is_digit t i 0 h ∙ grind (arith, d, e), digits_value_more 10 t i h ∙ omega (arith, (digit_adds (get_or t i 0) e).0))
