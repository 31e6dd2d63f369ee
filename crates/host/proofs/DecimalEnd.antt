-- Writing a number's decimal digits into a buffer: those before the last are the digits of n / 10, and the last one goes behind them.
use Rattle.std.proofs.Common.{◌≡◌, ℕ, ◌+◌, ◌/◌, ◌%◌, ◌^◌, ◌<◌, ◌≤◌, List, ◌++◌, length, take, set, decimal, ap, arith}
use Rattle.std.proofs.lemmas.Fmt.{decimal_digit, decimal_step}
use Rattle.std.proofs.lemmas.List.{append_assoc, length_push, take_more_set}

pub length_more : (n : ℕ) → 10 ≤ n → n < 2 ^ 64 → length (decimal n) ≡ length (decimal (n / 10)) + 1
length_more n h f = rw (decimal_step n h f) (length_push _ _)

pub length_one : (n : ℕ) → n < 10 → length (decimal n) ≡ 1
length_one n h = ap length (decimal_digit n h)

pub one_digit : (n start : ℕ) (buffer : List ℕ) → n < 10 → start < length buffer
    → take (start + 1) (set buffer start (48 + n % 10)) ≡ take start buffer ++ decimal n
one_digit n start buffer h room =
    let same : n % 10 ≡ n = omega arith in
    rw (decimal_digit n h, same) (take_more_set buffer start (48 + n) room)

pub last_digit : (n start at : ℕ) (before buffer : List ℕ) → 10 ≤ n → n < 2 ^ 64 → at < length buffer → take at buffer ≡ take start before ++ decimal (n / 10)
    → take (at + 1) (set buffer at (48 + n % 10)) ≡ take start before ++ decimal n
last_digit n start at before buffer h f room e = rw (decimal_step n h f, ← append_assoc, ← e) (take_more_set buffer at (48 + n % 10) room)
