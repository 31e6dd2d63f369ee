-- What holds of the answers of two hosts holds of the answers of the pair.
use Rattle.std.specs.Prelude.{◌≡◌, ℕ, List, Some, None, Option}
use Rattle.std.specs.Option.{option_or}

pub either : (P : List ℕ → Type 0) (a b : Option (List ℕ)) (t : List ℕ) → (a ≡ Some t → P t) → (b ≡ Some t → P t) → option_or a b ≡ Some t → P t
either P None b t p q e = q e
either P (Some x) b t p q e = p e
