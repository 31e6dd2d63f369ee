-- Every piece is present, as `has` says of each.
use Rattle.std.proofs.Common.{rules, tests, Option, is_some}
use Rattle.pool.proofs.making.Making.has_all.Goals as goal
use Rattle.pool.specs.declared.piece.Piece.{Piece}
use Rattle.pool.specs.Pieces.{piece_bytes}
use Rattle.std.proofs.lemmas.Iterator.{YieldsList-from_slice}
use Rattle.std.proofs.lemmas.Iterator.Search.{all_from_yields_List}

pub returns : goal.returns
returns c pool =
    all_from_yields_List (λ (p : Option Piece). is_some (piece_bytes c.args.self.now.mark.now.rows c.args.self.now.start c.args.rows.now pool p)) _ _ _ c.all.ensures.ran
    (YieldsList-from_slice c.args.pieces.now cc) (λ x b q k. search (rules, tests))
