-- The text of a whole number: a minus stands before the digits where the number is negative and not zero.
use Rattle.std.proofs.Common.{◌≡◌, ℕ, zero, suc, Bool, true, false, cond, ◌&&◌, ltb, ◌∷◌, decimal, sym, refl, arith}
use Rattle.host.specs.DigitHost.{whole_text}
use Rattle.std.proofs.lemmas.Bool.{cond-true, lt-ltb}

pub whole_text_lem : (s : Bool) (n : ℕ) → whole_text s n ≡ cond (s && ltb 0 n) (45 ∷ decimal n) (decimal n)
whole_text_lem true zero = refl
whole_text_lem false zero = refl
whole_text_lem true (suc n) = sym (cond-true (ltb 0 (suc n)) (45 ∷ decimal (suc n)) (decimal (suc n)) (lt-ltb 0 (suc n) (omega arith)))
whole_text_lem false (suc n) = refl
