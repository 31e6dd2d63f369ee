-- What a refusal says: the number of its cause's row, the stage that refuses, and the part.
use Rattle.std.specs.Prelude.{◌≡◌, ℕ}
use Rattle.table.specs.declared.refusal.Cause.{Cause}
use Rattle.table.specs.declared.refusal.Cause.TheVariants.{TableFull, NotUtf8, TextDoesNotFit, NamesNothing, KindNotTaken, NoTerminal, AssignedTwice, PhiOperands, EdgeBack, UseBeforeDefinition}
use Rattle.table.specs.declared.refusal.Layer.{Layer}
use Rattle.table.specs.declared.refusal.Refusal.{Refusal}
use Rattle.table.specs.declared.refusal.Site.{Site}

abbrev pub number_of : Cause → ℕ
number_of TableFull = 1
number_of NotUtf8 = 2
number_of TextDoesNotFit = 3
number_of NamesNothing = 4
number_of KindNotTaken = 5
number_of NoTerminal = 6
number_of AssignedTwice = 7
number_of PhiOperands = 8
number_of EdgeBack = 9
number_of UseBeforeDefinition = 10

-- r is row n of the table, given by the stage l for the part s
pub record Refuses (n : ℕ) (l : Layer) (s : Site) (r : Refusal) : Type 0 where
  pub row : number_of r.cause ≡ n
  pub layer : r.layer ≡ l
  pub site : r.site ≡ s
