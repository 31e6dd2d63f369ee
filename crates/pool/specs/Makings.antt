-- What pushing bytes leaves of a text that is being put together.
use Rattle.std.specs.Prelude.{◌≡◌}
use Rattle.pool.specs.declared.making.Making.{Making}

-- of two states, the later differs in the bytes of the mark at most
pub record OnlyBytes (old new : Making) : Type 0 where
  pub lent : new.mark.ghost_name ≡ old.mark.ghost_name
  pub start : new.start ≡ old.start
  pub kept : new.kept ≡ old.kept
  pub rows : new.mark.now.rows ≡ old.mark.now.rows
