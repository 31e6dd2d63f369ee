-- A row that lies below the text that is made is pushed as the text that it names.
use Rattle.std.proofs.Common.{◌≡◌, ℕ, ◌+◌, ◌≤◌, cond, ◌&&◌, leb, List, length, is_some, Some, None, Option, arith, length-drop, length-take}
use Rattle.pool.specs.declared.row.TextRow.{TextRow}
use Rattle.pool.specs.Pieces.{Pushed, below}
use Rattle.pool.specs.Texts.{bytes_room, text_at}
use Rattle.std.proofs.lemmas.Bool.Decides.{nat_tests}
use lib.Seq.{paste}

pub below_inside : (b : ℕ) (x : Option TextRow) (r : TextRow) → Some r ≡ below b x → r.start + r.len ≤ b
below_inside b None r e = grind (arith, nat_tests)
below_inside b (Some q) r e = grind (arith, nat_tests)

length-text : (pool : List ℕ) (r : TextRow) → r.start + r.len ≤ length pool → length (text_at pool r) ≡ r.len
length-text pool r h = simp (length-take, length-drop) (omega arith)

pub part_pushed : (pool : List ℕ) (s b : ℕ) (r : TextRow) (res : Option (Unit {0})) (b' : ℕ) (pool' : List ℕ) → r.start + r.len ≤ s → s ≤ b
    → is_some res ≡ (leb (r.start + r.len) s && (leb s b && leb (b + r.len) (bytes_room pool))) → b' ≡ cond (is_some res) (b + r.len) b
    → pool' ≡ cond (is_some res) (paste pool b (text_at pool r) r.len) pool → Pushed (Some (text_at pool r)) b pool res b' pool'
part_pushed pool s b r res b' pool' h g test bytes written = (
  grind (arith, nat_tests, length-text pool r),
  grind (arith, nat_tests, length-text pool r),
  grind (arith, nat_tests, length-text pool r),
)
