-- From two constructors that would be equal anything follows: `clash (cc)` closes such a case.
use Rattle.std.proofs.Common.{◌≡◌, ℕ}

pub clash : {A : Type 0} → ◌≡◌ {A = ℕ} 0 1 → A
clash h = cc
