-- What is answered and left means, to a pool that holds texts, that they stay or become one more.
use Rattle.std.proofs.Common.{rules}
use Rattle.pool.proofs.MadeTexts.{made_of}
use Rattle.pool.proofs.memory.Pool.make_text.Goals as goal

pub returns-clause-held : goal.returns-clause-held
returns-clause-held c ts h v =
    let m = c.args.self.now in
    made_of m.mark.now m.rows.now m.bytes.now ts h c.args.pieces.now v _ _ _ _ (search rules) (search rules)
