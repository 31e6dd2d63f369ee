-- Laws and examples of the seal: at most one refusal, and for each row a draft that is refused beside one that is accepted.
use Rattle.std.specs.Prelude.{◌≡◌, ℕ, true, false, List, [], ◌∷◌, map, Some, None, Option}
use Rattle.hir.specs.Body.{sealing}
use Rattle.hir.specs.declared.block.BlockKind.TheVariants as kind
use Rattle.hir.specs.declared.kinds.GotoVariant.TheVariants as variant
use Rattle.hir.specs.declared.kinds.InstructionKind.TheVariants as instruction
use Rattle.hir.specs.declared.kinds.ReturnVariant.TheVariants as return'
use Rattle.hir.specs.Graph.{walked}
use Rattle.hir.specs.Script.{Block, Instruction, Literal, Phi, Script, Terminal}
use Rattle.hir.specs.Script as script
use Rattle.hir.specs.Script.{load_local, store_local, primitive, goto, if, label, return, try}
use Rattle.hir.specs.Seal.{SealAccepts, SealRefuses, draft_graph}
use Rattle.table.specs.declared.refusal.Cause.{Cause}
use Rattle.table.specs.declared.refusal.Cause.TheVariants as cause
use Rattle.table.specs.declared.refusal.Layer.TheVariants as layer
use Rattle.table.specs.declared.refusal.Refusal.{Refusal}
use Rattle.table.specs.declared.refusal.Site.{Site}
use Rattle.table.specs.declared.refusal.Site.TheVariants as site

-- A draft is refused for one reason at the most, and none that is accepted is refused.
pub record OneRefusal : Type 0 where
  pub one : (room : ℕ) (s : Script) (r q : Refusal) → SealRefuses room s r → SealRefuses room s q → r ≡ q
  pub none_accepted : (room : ℕ) (s : Script) (r : Refusal) → SealAccepts room s → SealRefuses room s r → ⊥

-- ---- writing scripts

abbrev pub is : ℕ → Literal → Instruction
is x l = primitive x l None

abbrev pub load : ℕ → ℕ → Instruction
load x y = load_local x y None

abbrev pub store : ℕ → ℕ → ℕ → Instruction
store x p y = store_local x p instruction.Let y None

abbrev pub block : List Phi → List Instruction → Terminal → Block (Option Terminal)
block φs code t = record { kind = kind.Block; phis = φs; code = code; terminal = Some t }

abbrev pub unfinished : Block (Option Terminal)
unfinished = record { kind = kind.Block; phis = []; code = []; terminal = None }

abbrev pub to_block : ℕ → Terminal
to_block b = goto b variant.Break None

-- to c or a by x; a fallthrough that is never asked for
abbrev pub when : (x c a fallthrough : ℕ) → Terminal
when x c a f = if x c a f None

abbrev pub returning : ℕ → Terminal
returning x = return x return'.Explicit None

abbrev pub phi : ℕ → List (ℕ × ℕ) → Phi
phi x os = record { place = x; operands = map (λ o. record { block = o.0; value = o.1 }) os }

-- a script without texts that has the parameter 0
abbrev pub script_of : List (Block (Option Terminal)) → Script
script_of blocks = record { texts = []; parameters = 0 ∷ []; blocks = blocks }

-- what the seal refuses for
abbrev pub refusal : Cause → Site → Refusal
refusal c s = record { cause = c; layer = layer.Seal; site = s }

-- ---- drafts

-- both ways of an If lead to one block: two successors are named
abbrev pub same_ways : Script
same_ways = script_of (block [] [] (when 0 1 1 1) ∷ block [] [] (returning 0) ∷ [])

-- a fallthrough that names no block, though control never goes there
abbrev pub bad_fallthrough : Script
bad_fallthrough = script_of (block [] [] (label 1 2 None) ∷ block [] [] (returning 0) ∷ [])

abbrev pub good_fallthrough : Script
good_fallthrough = script_of (block [] [] (label 1 1 None) ∷ block [] [] (returning 0) ∷ [])

-- a phi operand that names no block, in a block that is not reached
abbrev pub bad_operand : Script
bad_operand = script_of (block [] [] (returning 0) ∷ block (phi 1 ((2, 0) ∷ []) ∷ []) [] (returning 1) ∷ [])

abbrev pub no_blocks : Script
no_blocks = script_of []

-- a block that is not reached has no terminal
abbrev pub open_block : Script
open_block = script_of (block [] [] (returning 0) ∷ unfinished ∷ [])

-- one instruction writes 1 twice
abbrev pub stored_twice : Script
stored_twice = script_of (block [] (store 1 1 0 ∷ []) (returning 1) ∷ [])

abbrev pub stored_once : Script
stored_once = script_of (block [] (store 1 2 0 ∷ []) (returning 1) ∷ [])

-- the parameter is assigned again, in a block that is not reached
abbrev pub parameter_again : Script
parameter_again = script_of (block [] [] (returning 0) ∷ block [] (is 0 script.null ∷ []) (returning 0) ∷ [])

-- two ways meet in block 3, whose phi takes from both, from one, from one twice, and from another block too
abbrev pub meeting : List (ℕ × ℕ) → Script
meeting os =
    script_of (block [] [] (when 0 1 2 3) ∷ block [] (is 1 script.null ∷ []) (to_block 3) ∷ block [] (is 2 (script.boolean true) ∷ []) (to_block 3) ∷ block (phi 3 os ∷ []) [] (returning 3) ∷ [])

-- a phi in the entry, to which control comes back
abbrev pub entry_phi : Script
entry_phi = script_of (block (phi 1 ((0, 0) ∷ []) ∷ []) [] (to_block 0) ∷ [])

abbrev pub entry_loop : Script
entry_loop = script_of (block [] [] (to_block 0) ∷ [])

-- 0 to 2, 0 to 1, 2 to 1: block 2 leads back to 1, which the path 0, 2 avoids
abbrev pub back_to1 : Script
back_to1 = script_of (block [] [] (when 0 2 1 1) ∷ block [] [] (returning 0) ∷ block [] [] (to_block 1) ∷ [])

-- 0 to 1, 1 to 2, 2 to 1: every path to 2 holds 1
abbrev pub loop : Script
loop = script_of (block [] [] (to_block 1) ∷ block [] [] (when 0 2 3 3) ∷ block [] [] (to_block 1) ∷ block [] [] (returning 0) ∷ [])

-- 0 to 1, 0 to 3, 1 to 2, 2 to 1, 3 to 2: the path 0, 3, 2 avoids 1
abbrev pub two_entries : Script
two_entries = script_of (block [] [] (when 0 1 3 1) ∷ block [] [] (to_block 2) ∷ block [] [] (to_block 1) ∷ block [] [] (to_block 2) ∷ [])

-- 1 is assigned on one of two ways, and used where they meet
abbrev pub one_side : Script
one_side = script_of (block [] [] (when 0 1 2 3) ∷ block [] (is 1 script.null ∷ []) (to_block 3) ∷ block [] [] (to_block 3) ∷ block [] [] (returning 1) ∷ [])

-- an instruction that reads what it writes
abbrev pub reads_itself : Script
reads_itself = script_of (block [] (load 1 1 ∷ []) (returning 1) ∷ [])

-- The operands of a phi are used at the ends of its predecessors: the end of block 1 comes before block 2's instruction.
abbrev pub used_at_end : Script
used_at_end = script_of (block [] [] (when 0 1 2 3) ∷ block [] [] (to_block 3) ∷ block [] (load 5 6 ∷ []) (to_block 3) ∷ block (phi 7 ((1, 8) ∷ (2, 8) ∷ []) ∷ []) [] (returning 7) ∷ [])

-- A phi of a loop takes itself along the edge back.
abbrev pub takes_itself : Script
takes_itself = script_of (block [] [] (to_block 1) ∷ block (phi 1 ((0, 0) ∷ (1, 1) ∷ []) ∷ []) [] (when 1 1 2 2) ∷ block [] [] (returning 1) ∷ [])

-- a Try whose binding nothing else assigns
abbrev pub try_binding : Script
try_binding = script_of (block [] [] (try 1 (Some 4) 2 3 None) ∷ block [] [] (returning 4) ∷ block [] [] (returning 4) ∷ block [] [] (returning 0) ∷ [])

abbrev pub two_bindings : Script
two_bindings = script_of (block [] [] (try 1 (Some 4) 2 2 None) ∷ block [] [] (try 2 (Some 4) 2 2 None) ∷ block [] [] (returning 4) ∷ [])

-- a phi of a block that is not reached takes from whatever it likes, and uses in that block are none
abbrev pub unreached_phi : Script
unreached_phi = script_of (block [] [] (returning 0) ∷ block (phi 1 ((0, 9) ∷ (0, 9) ∷ []) ∷ []) (load 2 9 ∷ []) (returning 8) ∷ [])

-- 0 to 1, 0 to 2, 1 to 2
abbrev pub triangle : Script
triangle = script_of (block [] [] (when 0 1 2 2) ∷ block [] [] (to_block 2) ∷ block [] [] (returning 0) ∷ [])

-- ---- what the seal says to them

-- With room for so many predecessors. Sites are those of docs/REFUSALS.md.
pub record SealExamples : Type 0 where
  -- row 1: two successors are named, be they one block
  pub too_little_room : SealRefuses 1 same_ways (refusal cause.TableFull (site.Terminal 0))
  pub enough_room : SealAccepts 2 same_ways
  -- row 4
  pub fallthrough_names_nothing : SealRefuses 9 bad_fallthrough (refusal cause.NamesNothing (site.Terminal 0))
  pub fallthrough_names_a_block : SealAccepts 9 good_fallthrough
  pub operand_names_nothing : SealRefuses 9 bad_operand (refusal cause.NamesNothing (site.Phi 0))
  -- row 6
  pub no_block : SealRefuses 0 no_blocks (refusal cause.NoTerminal (site.Block 0))
  pub no_terminal : SealRefuses 9 open_block (refusal cause.NoTerminal (site.Terminal 1))
  -- row 7
  pub written_twice : SealRefuses 9 stored_twice (refusal cause.AssignedTwice (site.Instruction 0))
  pub written_once : SealAccepts 0 stored_once
  pub parameter_again_case : SealRefuses 9 parameter_again (refusal cause.AssignedTwice (site.Instruction 0))
  pub bound_twice : SealRefuses 9 two_bindings (refusal cause.AssignedTwice (site.Terminal 1))
  -- row 8
  pub takes_from_both : SealAccepts 4 (meeting ((1, 1) ∷ (2, 2) ∷ []))
  pub order_is_free : SealAccepts 4 (meeting ((2, 2) ∷ (1, 1) ∷ []))
  pub takes_from_one : SealRefuses 4 (meeting ((1, 1) ∷ [])) (refusal cause.PhiOperands (site.Phi 0))
  pub takes_twice : SealRefuses 4 (meeting ((1, 1) ∷ (2, 2) ∷ (1, 1) ∷ [])) (refusal cause.PhiOperands (site.Phi 0))
  pub takes_from_another : SealRefuses 4 (meeting ((1, 1) ∷ (2, 2) ∷ (0, 0) ∷ [])) (refusal cause.PhiOperands (site.Phi 0))
  pub phi_in_the_entry : SealRefuses 9 entry_phi (refusal cause.PhiOperands (site.Phi 0))
  pub back_to_the_entry : SealAccepts 9 entry_loop
  pub not_reached : SealAccepts 9 unreached_phi
  -- row 9
  pub avoided : SealRefuses 9 back_to1 (refusal cause.EdgeBack (site.Terminal 2))
  pub never_avoided : SealAccepts 9 loop
  pub two_ways_into_a_loop : SealRefuses 9 two_entries (refusal cause.EdgeBack (site.Terminal 2))
  -- row 10
  pub assigned_on_one_side : SealRefuses 9 one_side (refusal cause.UseBeforeDefinition (site.Terminal 3))
  pub reads_itself_case : SealRefuses 9 reads_itself (refusal cause.UseBeforeDefinition (site.Instruction 0))
  pub used_at_the_end : SealRefuses 9 used_at_end (refusal cause.UseBeforeDefinition (site.End 1))
  pub takes_itself_case : SealAccepts 9 takes_itself
  pub bound_by_a_try : SealAccepts 9 try_binding
  -- predecessors are listed as the walk finds them, each once
  pub walk_order : (walked 3 (draft_graph triangle)).predecessors ≡ [] ∷ (0 ∷ []) ∷ (1 ∷ 0 ∷ []) ∷ []
  pub listed_once : (sealing 1 same_ways).predecessors ≡ [] ∷ (0 ∷ []) ∷ []
  pub set_aside : (sealing 1 open_block).stands ≡ true ∷ false ∷ []
