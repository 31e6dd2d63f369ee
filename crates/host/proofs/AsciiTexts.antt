-- What a text's `is_ascii` says of the test of each byte.
use Rattle.std.proofs.Common.{◌≡◌, ℕ, ◌≤◌, true, false, List, length, get_or, ⊎_elim, arith}
use Rattle.host.specs.ShortTexts.{all_ascii}
use Rattle.std.proofs.lemmas.Bool.{cases_lt}
use Rattle.std.proofs.lemmas.Bool.Decides.{nat_tests}
use Rattle.std.proofs.lemmas.List.{get_or_past}
use Rattle.std.proofs.lemmas.List.Folds.{list_all_at}
use Rattle.std.specs.Char.{is_ascii}
use Rattle.std.specs.List.{list_all}
use Rattle.std.specs.Str.{IsAscii}

pub ascii : (t : List ℕ) → IsAscii t → list_all is_ascii t ≡ true
ascii t h = (all_ascii t).1 h

pub not_ascii : (t : List ℕ) (i : ℕ) → 128 ≤ get_or t i 0 → list_all is_ascii t ≡ false
not_ascii t i h = list_all_at is_ascii t i 0 (⊎_elim (λ l. l) (λ l. absurd (omega (arith, get_or_past t i 0 l))) (cases_lt i (length t))) (grind (arith, nat_tests))
