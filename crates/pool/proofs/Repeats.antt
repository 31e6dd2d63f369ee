-- One step of writing a part of a list again behind it: the part itself stays.
use Rattle.std.proofs.Common.{◌≡◌, ℕ, ◌+◌, ◌<◌, ◌≤◌, List, length, get_or, take, drop, set, arith, length-append, length-drop, length-take}
use Rattle.std.proofs.lemmas.List.Edits.{paste_more}
use Rattle.std.proofs.lemmas.List.{get_or_append_left, get_or-drop, get_or-take}
use lib.Seq.{paste}

pub repeat_more : (d : List ℕ) (from len at i : ℕ) → from + len ≤ at → at + len ≤ length d → i < len
    → set (paste d at (take len (drop from d)) i) (at + i) (get_or (paste d at (take len (drop from d)) i) (from + i) 0) ≡ paste d at (take len (drop from d)) (i + 1)
repeat_more d from len at i h g l =
    let s = take len (drop from d) in
    let same : get_or (paste d at s i) (from + i) 0 ≡ get_or s i 0 = grind (arith, get_or_append_left, get_or-take, get_or-drop, length-append, length-take) in
    rw same (paste_more d at s i 0 (omega arith) (simp (length-take, length-drop) (omega arith)))
