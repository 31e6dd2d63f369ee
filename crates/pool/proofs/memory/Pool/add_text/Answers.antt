-- A text that is kept is one more of those that the pool holds.
use Rattle.std.proofs.Common.{◌≡◌, ◌+◌, true, leb, length, is_some, sym, ◌∙◌, arith}
use Rattle.pool.proofs.Held.{pushed}
use Rattle.pool.proofs.memory.Pool.add_text.Goals as goal
use Rattle.pool.specs.Texts.{bytes_room}
use Rattle.std.proofs.lemmas.Bool.Decides.{nat_tests}

pub returns-clause-held : goal.returns-clause-held
returns-clause-held c ts h e =
    let m = c.args.self.now in
    let text = c.args.text.now in
    let a = c.append.ensures in
    let test = a.test in
    let some : is_some c.append.result ≡ true = sym c.ok_or.ensures.variant ∙ e in
    let fits : leb (m.mark.now.bytes + length text) (bytes_room m.bytes.now) ≡ true = grind (arith, nat_tests) in
    pushed m.mark.now m.rows.now m.bytes.now ts h text (c.is_utf8.ensures.0 c.if-not-is_utf8.false) (grind (arith, nat_tests)) (grind (arith, nat_tests)) _ _ _ (grind (arith, a.bytes)) (grind (arith, a.count)) (grind (arith, a.rows)) (grind (arith, a.pool))
