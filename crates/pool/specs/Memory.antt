-- The memory that a pool is lent.
use Rattle.std.specs.Prelude.{◌≡◌, length}
use Rattle.pool.specs.declared.memory.Pool.{Pool}

-- the same three references, to as many bytes and rows: who lent them finds there what the later state has
pub record SameMemory (old new : Pool) : Type 0 where
  pub mark : new.mark.ghost_name ≡ old.mark.ghost_name
  pub bytes : new.bytes.ghost_name ≡ old.bytes.ghost_name
  pub rows : new.rows.ghost_name ≡ old.rows.ghost_name
  pub bytes_stay : length new.bytes.now ≡ length old.bytes.now
  pub rows_stay : length new.rows.now ≡ length old.rows.now
