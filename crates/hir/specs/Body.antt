-- A body: a script that was sealed, with what folding it has come to.
use Rattle.std.specs.Prelude.{ℕ, Bool, cond, List, [], map, length, replicate, is_some, Some, None, Option, slice_index_or}
use Rattle.hir.specs.declared.block.BlockKind.TheVariants as kind
use Rattle.hir.specs.declared.parts.Span.{Span}
use Rattle.hir.specs.Graph.{Graph, walked}
use Rattle.hir.specs.Lists.{total}
use Rattle.hir.specs.Places.{successors}
use Rattle.hir.specs.Script.{Binding, Block, Literal, Script, Terminal}
use Rattle.hir.specs.Script.{unreachable, throw, return, goto, if, branch, switch, do_while, while, for, for_of, for_in, logical, ternary, optional, label, sequence, maybe_throw, try, scope, pruned_scope}
use Rattle.std.specs.Option.{unwrap_or}

-- What an identifier is known to hold: a primitive value, or what a global name does; with the span of where it came from.
pub data Constant : Type 0 where
  primitive_constant : Literal → Option Span → Constant
  global_constant : Binding → Option Span → Constant

-- A block **stands** if the entry reached it at the seal and at each tidy since; the others are **set aside**. The **record** of an
-- identifier is the constant that a round found for it, if one did. `sealed_ifs` counts the Ifs at the seal, in all blocks, and
-- `turned_ifs` those that rounds have turned into Gotos.
pub record Body : Type 0 where
  pub texts : List (List ℕ)
  pub parameters : List ℕ
  pub blocks : List (Block Terminal)
  pub predecessors : List (List ℕ)
  pub stands : List Bool
  pub records : List (Option Constant)
  pub sealed_ifs : ℕ
  pub turned_ifs : ℕ

-- ---- reading

-- a number past the last block reads as a block that ends at once
abbrev pub block_at : List (Block Terminal) → ℕ → Block Terminal
block_at blocks b = slice_index_or blocks b (record { kind = kind.Block; phis = []; code = []; terminal = unreachable None })

abbrev pub graph_of : List (Block Terminal) → Graph
graph_of blocks b = successors (block_at blocks b).terminal

-- the bytes of a text by its number
abbrev pub text_at : List (List ℕ) → ℕ → List ℕ
text_at texts t = slice_index_or texts t []

abbrev pub record_at : List (Option Constant) → ℕ → Option Constant
record_at records x = slice_index_or records x None

-- ---- sealing

-- what an If holds, but for its fallthrough
pub record Test : Type 0 where
  pub test : ℕ
  pub consequent : ℕ
  pub alternate : ℕ
  pub span : Option Span

abbrev pub if_of : Terminal → Option Test
if_of (unreachable s) = None
if_of (throw x s) = None
if_of (return x v s) = None
if_of (goto b v s) = None
if_of (if x c a f s) = Some (record { test = x; consequent = c; alternate = a; span = s })
if_of (branch x c a f s) = None
if_of (switch x cs f s) = None
if_of (do_while l t f s) = None
if_of (while t l f s) = None
if_of (for i t u l f s) = None
if_of (for_of i t l f s) = None
if_of (for_in i l f s) = None
if_of (logical o t f s) = None
if_of (ternary t f s) = None
if_of (optional o t f s) = None
if_of (label b f s) = None
if_of (sequence b f s) = None
if_of (maybe_throw c h s) = None
if_of (try b x h f s) = None
if_of (scope f b i s) = None
if_of (pruned_scope f b i s) = None

abbrev pub count_ifs : List (Block Terminal) → ℕ
count_ifs blocks = total (λ B. cond (is_some (if_of B.terminal)) 1 0) blocks

-- in a script that the seal accepts each block has a terminal
abbrev pub closed : Block (Option Terminal) → Block Terminal
closed B = record { kind = B.kind; phis = B.phis; code = B.code; terminal = unwrap_or B.terminal (unreachable None) }

-- The body that an accepted script becomes, where so many identifiers can be recorded: predecessors are listed, blocks that the
-- entry does not reach are set aside, no If is turned, and nothing is recorded.
abbrev pub sealing : ℕ → Script → Body
sealing identifiers s =
    let blocks = map closed s.blocks in
    let found = walked (length blocks) (graph_of blocks) in
    record {
      texts = s.texts;
      parameters = s.parameters;
      blocks = blocks;
      predecessors = found.predecessors;
      stands = found.entered;
      records = replicate identifiers None;
      sealed_ifs = count_ifs blocks;
      turned_ifs = 0;
    }
