-- A script: texts, parameters, and blocks in order, the first of which is the entry. Identifiers, blocks and texts go by numbers, each
-- kind from 0 on, and a text's number is its place in the list of texts.
use Rattle.std.specs.Prelude.{ℕ, Bool, List, Option, Float}
use Rattle.ecma.specs.declared.operators.BinaryOperator.{BinaryOperator}
use Rattle.ecma.specs.declared.operators.UnaryOperator.{UnaryOperator}
use Rattle.ecma.specs.declared.operators.UpdateOperator.{UpdateOperator}
use Rattle.hir.specs.declared.block.BlockKind.{BlockKind}
use Rattle.hir.specs.declared.kinds.GotoVariant.{GotoVariant}
use Rattle.hir.specs.declared.kinds.InstructionKind.{InstructionKind}
use Rattle.hir.specs.declared.kinds.LogicalOperator.{LogicalOperator}
use Rattle.hir.specs.declared.kinds.OpaqueKind.{OpaqueKind}
use Rattle.hir.specs.declared.kinds.ReturnVariant.{ReturnVariant}
use Rattle.hir.specs.declared.parts.Span.{Span}

-- ---- what instructions hold

-- a primitive value whose text goes by its number
pub data Literal : Type 0 where
  null : Literal
  undefined : Literal
  boolean : Bool → Literal
  number : Float → Literal
  text : ℕ → Literal

-- a property's key: a text, or a Number
pub data Property : Type 0 where
  name : ℕ → Property
  index : Float → Property

-- what a name outside of the script is bound to: texts for the name, the module and the name in the module
pub data Binding : Type 0 where
  import_default : (name module' : ℕ) → Binding
  import_specifier : (name module' imported : ℕ) → Binding
  import_namespace : (name module' : ℕ) → Binding
  module_local : (name : ℕ) → Binding
  global : (name : ℕ) → Binding

-- a fixed part of a template; it is not cooked where it has an invalid escape
pub record Quasi : Type 0 where
  pub raw : ℕ
  pub cooked : Option ℕ

-- what a memoized value depends on: an identifier, marked if it is constant, or a global's name
pub data Dependency : Type 0 where
  named_local : (value : ℕ) (constant : Bool) → Dependency
  global_name : (name : ℕ) → Dependency

-- The first number is the identifier that the instruction assigns. An opaque one has what it reads and what it writes.
pub data Instruction : Type 0 where
  load_local : (lvalue place : ℕ) → Option Span → Instruction
  store_local : (lvalue place : ℕ) → InstructionKind → (value : ℕ) → Option Span → Instruction
  primitive : (lvalue : ℕ) → Literal → Option Span → Instruction
  binary : (lvalue : ℕ) → BinaryOperator → (left right : ℕ) → Option Span → Instruction
  unary : (lvalue : ℕ) → UnaryOperator → (value : ℕ) → Option Span → Instruction
  property_store : (lvalue object : ℕ) → Property → (value : ℕ) → Option Span → Instruction
  property_load : (lvalue object : ℕ) → Property → Option Span → Instruction
  computed_store : (lvalue object property value : ℕ) → Option Span → Instruction
  computed_load : (lvalue object property : ℕ) → Option Span → Instruction
  load_global : (lvalue : ℕ) → Binding → Option Span → Instruction
  template : (lvalue : ℕ) (subexprs : List ℕ) → List Quasi → Option Span → Instruction
  prefix_update : (lvalue place : ℕ) → UpdateOperator → (value : ℕ) → Option Span → Instruction
  postfix_update : (lvalue place : ℕ) → UpdateOperator → (value : ℕ) → Option Span → Instruction
  start_memoize : (lvalue memo : ℕ) → Option (List Dependency) → (invalid : Bool) → Option Span → Instruction
  opaque : OpaqueKind → (operands written : List ℕ) → Instruction

-- ---- what blocks hold

-- the identifier whose value a phi takes, come from a predecessor
pub record Operand : Type 0 where
  pub block : ℕ
  pub value : ℕ

-- the identifier that it assigns, and its operands in order
pub record Phi : Type 0 where
  pub place : ℕ
  pub operands : List Operand

-- the default case has no test
pub record Case : Type 0 where
  pub test : Option ℕ
  pub block : ℕ

pub data Terminal : Type 0 where
  unreachable : Option Span → Terminal
  throw : (value : ℕ) → Option Span → Terminal
  return : (value : ℕ) → ReturnVariant → Option Span → Terminal
  goto : (block : ℕ) → GotoVariant → Option Span → Terminal
  if : (test consequent alternate fallthrough : ℕ) → Option Span → Terminal
  branch : (test consequent alternate fallthrough : ℕ) → Option Span → Terminal
  switch : (test : ℕ) → List Case → (fallthrough : ℕ) → Option Span → Terminal
  do_while : (loop test fallthrough : ℕ) → Option Span → Terminal
  while : (test loop fallthrough : ℕ) → Option Span → Terminal
  for : (init test : ℕ) → (update : Option ℕ) → (loop fallthrough : ℕ) → Option Span → Terminal
  for_of : (init test loop fallthrough : ℕ) → Option Span → Terminal
  for_in : (init loop fallthrough : ℕ) → Option Span → Terminal
  logical : LogicalOperator → (test fallthrough : ℕ) → Option Span → Terminal
  ternary : (test fallthrough : ℕ) → Option Span → Terminal
  optional : Bool → (test fallthrough : ℕ) → Option Span → Terminal
  label : (block fallthrough : ℕ) → Option Span → Terminal
  sequence : (block fallthrough : ℕ) → Option Span → Terminal
  maybe_throw : (continuation : ℕ) → (handler : Option ℕ) → Option Span → Terminal
  try : (block : ℕ) → (binding : Option ℕ) → (handler fallthrough : ℕ) → Option Span → Terminal
  scope : (fallthrough block scope' : ℕ) → Option Span → Terminal
  pruned_scope : (fallthrough block scope' : ℕ) → Option Span → Terminal

-- T is how the block ends: in a draft perhaps a terminal, in a body always one
pub record Block (T : Type 0) : Type 0 where
  pub kind : BlockKind
  pub phis : List Phi
  pub code : List Instruction
  pub terminal : T

pub record Script : Type 0 where
  pub texts : List (List ℕ)
  pub parameters : List ℕ
  pub blocks : List (Block (Option Terminal))
