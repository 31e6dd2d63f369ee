-- Examples that tell readings of the definitions apart.
use Rattle.std.specs.Prelude.{◌≡◌, ℕ, true, false, List, [], ◌∷◌, pos, Some, None, Err, codes, Option}
use Rattle.std.specs.Float.{nan, fin}
use Rattle.ecma.specs.declared.operators.BinaryOperator.TheVariants as operator
use Rattle.ecma.specs.declared.operators.UpdateOperator.TheVariants as update
use Rattle.ecma.specs.Value as value
use Rattle.hir.specs.Body.{Body, Constant, block_at, global_constant, primitive_constant, record_at, sealing}
use Rattle.hir.specs.declared.block.BlockKind.TheVariants as kind
use Rattle.hir.specs.declared.kinds.OpaqueKind.TheVariants as opaque
use Rattle.hir.specs.declared.parts.Span.{Span}
use Rattle.hir.specs.Examples.{block, is, phi, returning, to_block, when}
use Rattle.hir.specs.Script.{Instruction, Literal, Script, Terminal}
use Rattle.hir.specs.Script as script
use Rattle.hir.specs.Script.{binary, branch, computed_load, load_local, postfix_update, primitive, property_load, switch, template}
use Rattle.runs.specs.Calls.{answer_of, answered, record_of, settled, stage_after, stale}
use Rattle.runs.specs.Cases.{ample, branches_sealed, branches_tidied, digits, int}
use Rattle.runs.specs.Rounds.{Room, phi_constant, round}
use Rattle.runs.specs.Runs.{Answer, World, answers_out, blocks_out, dead_end, gives, opaque_event, plain, returned, run_of}
use Rattle.runs.specs.Tidies.{Elimination, pass, tidy}
use Rattle.table.specs.declared.refusal.Cause.TheVariants as cause
use Rattle.table.specs.declared.refusal.Layer.TheVariants as layer
use Rattle.table.specs.declared.refusal.Site.TheVariants as site

-- ---- rounds, and what they record

abbrev folded : Room → Body → Body
folded room B = (round digits room B).body

abbrev record_in : Body → ℕ → Option Constant
record_in B x = record_at B.records x

abbrev one : Literal
one = script.number (int (pos 1))

abbrev recorded_as : Literal → Option Constant
recorded_as l = Some (primitive_constant l None)

-- a script of one block that returns its parameter 0
abbrev single : List (List ℕ) → List Instruction → Script
single texts code = record { texts = texts; parameters = 0 ∷ []; blocks = block [] code (returning 0) ∷ [] }

-- 0: 1 is 1, Goto 1.  1: phi 2 of 1 and, from itself, 4; phi 3 of 1 and, from itself, 2; 4 is 1; Branch 0 to 1, else 2.  2: Return 3.
abbrev self_loop : Body
self_loop = sealing 5 (record {
  texts = [];
  parameters = 0 ∷ [];
  blocks =
      block [] (is 1 one ∷ []) (to_block 1)
      ∷ block (phi 2 ((0, 1) ∷ (1, 4) ∷ []) ∷ phi 3 ((0, 1) ∷ (1, 2) ∷ []) ∷ []) (is 4 one ∷ []) (branch 0 1 2 2 None)
      ∷ block [] [] (returning 3)
      ∷ [];
})

-- "ab"["length"]
abbrev computed_length : Body
computed_length = sealing 4 (single (codes "ab" ∷ codes "length" ∷ []) (is 1 (script.text 0) ∷ is 2 (script.text 1) ∷ computed_load 3 1 2 None ∷ []))

-- 0: 1 is true, 2 is "a", 3 is "b"; If 1 to 1, else 2.  1: phi 4 of 2; 5 is 2 + 3; Goto 2.  2: Return 0.
abbrev stopping : Body
stopping = sealing 6 (record {
  texts = codes "a" ∷ codes "b" ∷ [];
  parameters = 0 ∷ [];
  blocks =
      block [] (is 1 (script.boolean true) ∷ is 2 (script.text 0) ∷ is 3 (script.text 1) ∷ []) (when 1 1 2 2)
      ∷ block (phi 4 ((0, 2) ∷ []) ∷ []) (binary 5 operator.Addition 2 3 None ∷ []) (to_block 2)
      ∷ block [] [] (returning 0)
      ∷ [];
})

-- room for the two bytes that are there, and none for another; and a full list of texts
abbrev no_bytes : Room
no_bytes = record { bytes = 2; texts = 9 }

abbrev no_rows : Room
no_rows = record { bytes = 9; texts = 2 }

-- `a${1}b${0}a`, of which 0, a parameter, is not known; and the join of two empty texts
abbrev quasi : ℕ → script.Quasi
quasi t = record { raw = t; cooked = Some t }

abbrev missing_piece : Body
missing_piece = sealing 3 (single (codes "a" ∷ codes "b" ∷ []) (is 1 (script.text 0) ∷ template 2 (1 ∷ 0 ∷ []) (quasi 0 ∷ quasi 1 ∷ quasi 0 ∷ []) None ∷ []))

abbrev empty_join : Body
empty_join = sealing 3 (single ([] ∷ [] ∷ []) (is 1 (script.text 0) ∷ binary 2 operator.Addition 1 1 None ∷ []))

-- 1 is NaN; If 1 to 1, else 2; and a Branch that goes the same ways
abbrev on_nan : (ℕ → ℕ → ℕ → ℕ → Terminal) → Body
on_nan t = sealing 2 (record {
  texts = [];
  parameters = 0 ∷ [];
  blocks = block [] (is 1 (script.number nan) ∷ []) (t 1 1 2 2) ∷ block [] [] (returning 0) ∷ block [] [] (returning 0) ∷ [];
})

-- a Sequence block of one literal
abbrev sequence_block : Body
sequence_block = sealing 2 (record {
  texts = [];
  parameters = 0 ∷ [];
  blocks = record { kind = kind.Sequence; phis = []; code = is 1 one ∷ []; terminal = Some (returning 0) } ∷ [];
})

-- 1 is 5 with a span; 2 is 1, loaded, with another span; 3 is 1++, which writes 4
abbrev here : Option Span
here = Some (record { start = 1; end = 2 })

abbrev there : Option Span
there = Some (record { start = 3; end = 4 })

abbrev five : Literal
five = script.number (int (pos 5))

abbrev spans : Body
spans = sealing 5 (single [] (primitive 1 five here ∷ load_local 2 1 there ∷ postfix_update 3 4 update.Increment 1 there ∷ []))

-- ---- tidies

-- 0: 1 is true, 2 is null; If 1 to 1, else 2.  1: 3 is 1; Goto 2.  2: phi 4 of 2 and 3; Return 4.
abbrev lost_edge : Body
lost_edge = sealing 5 (record {
  texts = [];
  parameters = [];
  blocks =
      block [] (is 1 (script.boolean true) ∷ is 2 script.null ∷ []) (when 1 1 2 2)
      ∷ block [] (is 3 one ∷ []) (to_block 2)
      ∷ block (phi 4 ((0, 2) ∷ (1, 3) ∷ []) ∷ []) [] (returning 4)
      ∷ [];
})

-- A loop of two phis: 1: phi 1 of 0, and from 4 of 2.  4: phi 2 of 1 and 1.  Both stand for 0.
abbrev chain : Body
chain = sealing 3 (record {
  texts = [];
  parameters = 0 ∷ [];
  blocks =
      block [] [] (to_block 1)
      ∷ block (phi 1 ((0, 0) ∷ (4, 2) ∷ []) ∷ []) [] (branch 0 2 3 4 None)
      ∷ block [] [] (to_block 4)
      ∷ block [] [] (to_block 4)
      ∷ block (phi 2 ((2, 1) ∷ (3, 1) ∷ []) ∷ []) [] (branch 0 1 5 5 None)
      ∷ block [] [] (returning 2)
      ∷ [];
})

abbrev once_passed : Elimination
once_passed = pass (0 ∷ 1 ∷ 2 ∷ 3 ∷ 4 ∷ 5 ∷ []) (record { blocks = chain.blocks; rewrites = [] })

-- ---- runs

-- texts of numbers and numbers of texts as they please, and every global is undefined
abbrev world : World
world = record { conversions = record { text_of = λ x. []; number_of = λ t. nan }; globals = λ t. plain value.undefined }

abbrev calling : Body
calling = sealing 2 (single [] (script.opaque opaque.CallExpression (0 ∷ []) (1 ∷ []) ∷ []))

abbrev no_cases : Body
no_cases = sealing 1 (record { texts = []; parameters = 0 ∷ []; blocks = block [] [] (switch 0 [] 0 None) ∷ [] })

abbrev parameter_null : List Answer
parameter_null = gives (plain value.null) ∷ []

pub record RunExamples : Type 0 where
  -- Phis are read together: 3 reads what 2 was before, and is recorded a round later.
  pub first_round : record_in (folded ample self_loop) 2 ≡ None
  pub second_round : record_in (folded ample (folded ample self_loop)) 2 ≡ recorded_as one
  pub not_yet : record_in (folded ample (folded ample self_loop)) 3 ≡ None
  pub third_round : record_in (folded ample (folded ample (folded ample self_loop))) 3 ≡ recorded_as one
  -- A computed access becomes a named one, and folds in the next round.
  pub becomes_named : (block_at (folded ample computed_length).blocks 0).code ≡ is 1 (script.text 0) ∷ is 2 (script.text 1) ∷ property_load 3 1 (script.name 1) None ∷ []
  pub nothing_recorded : record_in (folded ample computed_length) 3 ≡ None
  pub then_folds : record_in (folded ample (folded ample computed_length)) 3 ≡ recorded_as (script.number (int (pos 2)))
  -- A stop keeps the turned If and the phi's record of its round, and nothing of the instruction.
  pub stops_there : answer_of stopping (round digits no_bytes stopping) ≡ record { turned = true; stop = Some (record { cause = cause.TextDoesNotFit; layer = layer.Round; site = site.Instruction 3 }) }
  pub if_turned : (block_at (folded no_bytes stopping).blocks 0).terminal ≡ to_block 1
  pub phi_recorded : record_in (folded no_bytes stopping) 4 ≡ recorded_as (script.text 0)
  pub sum_not : record_in (folded no_bytes stopping) 5 ≡ None
  pub no_text : (folded no_bytes stopping).texts ≡ codes "a" ∷ codes "b" ∷ []
  pub stale_then : stage_after stopping (round digits no_bytes stopping) ≡ stale
  pub full_list_stops : (round digits no_rows stopping).stop ≡ Some 3
  pub fits_then : (folded ample stopping).texts ≡ codes "a" ∷ codes "b" ∷ codes "ab" ∷ []
  -- A stop without a turned If leaves the body settled, with what was recorded before it.
  pub empty_stops : (round digits (record { bytes = 0; texts = 2 }) empty_join).stop ≡ Some 1
  pub recorded_before : record_in (folded (record { bytes = 0; texts = 2 }) empty_join) 1 ≡ recorded_as (script.text 0)
  pub still_settled : stage_after empty_join (round digits (record { bytes = 0; texts = 2 }) empty_join) ≡ settled
  -- A missing piece wins over a text that does not fit.
  pub no_stop : (round digits no_bytes missing_piece).stop ≡ None
  pub left_alone : record_in (folded no_bytes missing_piece) 2 ≡ None
  -- NaN is false, and a Branch is never turned.
  pub nan_to_alternate : (block_at (folded ample (on_nan when)).blocks 0).terminal ≡ to_block 2
  pub branch_stays : (folded ample (on_nan (λ x c a f. branch x c a f None))).turned_ifs ≡ 0
  -- The last instruction of a Sequence block is left out.
  pub sequence_skips : record_in (folded ample sequence_block) 1 ≡ None
  -- A load becomes the constant with the constant's span; a postfix update records the old number with its span, and the new one.
  pub load_becomes : (block_at (folded ample spans).blocks 0).code ≡ primitive 1 five here ∷ primitive 2 five here ∷ postfix_update 3 4 update.Increment 1 there ∷ []
  pub old_number : record_in (folded ample spans) 3 ≡ Some (primitive_constant five here)
  pub new_number_case : record_in (folded ample spans) 4 ≡ Some (primitive_constant (script.number (int (pos 6))) there)
  -- The zeros agree at a phi, and the first is recorded with its sign; that is what the law excludes.
  pub first_zero : phi_constant [] (recorded_as (script.number (fin true 0 (pos 0))) ∷ recorded_as (script.number (fin false 0 (pos 0))) ∷ []) ≡ recorded_as (script.number (fin true 0 (pos 0)))
  -- Two ways to write the number 2 agree, and are two values: a script holds each number in the one way that a float is written.
  pub unlike_twos : phi_constant [] (recorded_as (script.number (fin false 2 (pos 0))) ∷ recorded_as (script.number (fin false 1 (pos 1))) ∷ []) ≡ recorded_as (script.number (fin false 2 (pos 0)))
  -- Globals agree by name, whatever text says it.
  pub one_name : phi_constant (codes "g" ∷ codes "g" ∷ []) (Some (global_constant (script.global 0) here) ∷ Some (global_constant (script.module_local 1) there) ∷ []) ≡ Some (global_constant (script.global 0) here)
  -- A predecessor that stands is lost with its edge.
  pub lost : (tidy (folded ample lost_edge)).predecessors ≡ [] ∷ (0 ∷ []) ∷ (1 ∷ []) ∷ []
  pub all_stand : (tidy (folded ample lost_edge)).stands ≡ true ∷ true ∷ true ∷ []
  pub operand_dropped : (block_at (tidy (folded ample lost_edge)).blocks 2).terminal ≡ returning 3
  -- A chain of phis through a loop takes two passes.
  pub one_pass : (block_at once_passed.blocks 5).terminal ≡ returning 1
  pub two_passes : (block_at (tidy chain).blocks 5).terminal ≡ returning 0
  pub no_phis : (block_at (tidy chain).blocks 1).phis ≡ []
  -- An event is told before its answers run out.
  pub told_first : (run_of world parameter_null 9 calling).events ≡ record { kind = opaque_event opaque.CallExpression; values = plain value.null ∷ [] } ∷ []
  pub then_out : (run_of world parameter_null 9 calling).ending ≡ answers_out
  -- No block is entered where none is allowed; and a Return in the last one is a Return.
  pub none_entered : (run_of world parameter_null 0 calling).last ≡ None
  pub none_allowed : (run_of world parameter_null 0 calling).ending ≡ blocks_out
  pub parameters_first : (run_of world [] 0 calling).ending ≡ answers_out
  -- A Switch without cases is a dead end, and takes no answer.
  pub dead_end_case : (run_of world parameter_null 9 no_cases).ending ≡ dead_end
  -- The script with two branches returns "main", before and after.
  pub main_before : (run_of world [] 9 branches_sealed).ending ≡ returned (plain (value.string (codes "main")))
  pub main_after : (run_of world [] 9 branches_tidied).ending ≡ returned (plain (value.string (codes "main")))
  pub last_block : (run_of world [] 9 branches_tidied).last ≡ Some 3
  pub returns_in_the_last : (run_of world [] 3 branches_tidied).ending ≡ returned (plain (value.string (codes "main")))
  pub cut_short : (run_of world [] 2 branches_tidied).ending ≡ blocks_out
  pub cut_at : (run_of world [] 2 branches_tidied).last ≡ Some 1
  -- An identifier without a record is no fault, a number past the last is.
  pub past_the_last : answered calling (record_of 2) ≡ Err (record { cause = cause.NamesNothing; layer = layer.Question; site = site.Asked 2 })
