-- Runs of a body: the events that it tells, the assignments that it makes, where it was last, and how it ended.
use Rattle.std.specs.Prelude.{ℕ, zero, suc, Bool, cond, List, [], ◌∷◌, map, reverse, length, Some, None, Option, ◌==◌, nat_lt, slice_index, slice_index_or, Float}
use Rattle.ecma.specs.Comparison.{to_boolean}
use Rattle.ecma.specs.declared.operators.BinaryOperator.{BinaryOperator}
use Rattle.ecma.specs.declared.operators.UnaryOperator.{UnaryOperator}
use Rattle.ecma.specs.declared.operators.UpdateOperator.{UpdateOperator}
use Rattle.ecma.specs.Value.{Primitive}
use Rattle.ecma.specs.Value as value
use Rattle.hir.specs.Body.{Body, block_at, text_at}
use Rattle.hir.specs.declared.kinds.OpaqueKind.{OpaqueKind}
use Rattle.hir.specs.Lists.{listed}
use Rattle.hir.specs.Places.{binding_name, reads, terminal_writes, writes}
use Rattle.hir.specs.Script.{Block, Instruction, Operand, Phi, Terminal}
use Rattle.hir.specs.Script.{load_local, store_local, primitive, binary, unary, property_store, property_load, computed_store, computed_load, load_global, template, prefix_update, postfix_update, start_memoize, opaque}
use Rattle.hir.specs.Script.{unreachable, throw, return, goto, if, branch, switch, do_while, while, for, for_of, for_in, logical, ternary, optional, label, sequence, maybe_throw, try, scope, pruned_scope}
use Rattle.runs.specs.Folds.{Total, always, bind, fold, key_value, length_fold, literal_value, updated}

-- ---- what a run is given, and what comes of it

-- a primitive value, or another (an object, say), of which only a number that tells it apart and its truth are known
pub data Value : Type 0 where
  plain : Primitive → Value
  other : (number : ℕ) → (truth : Bool) → Value

-- what the outside answers: a value, or a choice among successors, counted from 0
pub data Answer : Type 0 where
  gives : Value → Answer
  chooses : ℕ → Answer

-- What converts, and the value of each global name, which stay the same during a run.
pub record World : Type 0 where
  pub conversions : Total
  pub globals : List ℕ → Value

-- what kind of thing happened; getting and putting are one kind each, computed or not
pub data EventKind : Type 0 where
  get : EventKind
  put : EventKind
  memoize : EventKind
  binary_event : BinaryOperator → EventKind
  unary_event : UnaryOperator → EventKind
  prefix_event : UpdateOperator → EventKind
  postfix_event : UpdateOperator → EventKind
  template_event : EventKind
  opaque_event : OpaqueKind → EventKind

-- what the outside is told: the kind, and the values in order
pub record Event : Type 0 where
  pub kind : EventKind
  pub values : List Value

pub record Assignment : Type 0 where
  pub place : ℕ
  pub value' : Value

pub data Ending : Type 0 where
  returned : Value → Ending
  thrown : Value → Ending
  at_unreachable : Ending
  -- a terminal that leads nowhere and is no Return, Throw or Unreachable
  dead_end : Ending
  -- as many blocks were entered as were allowed
  blocks_out : Ending
  answers_out : Ending
  -- a choice where a value was due, or a value or too large a choice where a choice was
  unfit : Ending

pub record Run : Type 0 where
  pub events : List Event
  pub assignments : List Assignment
  -- the block that was entered last, if any
  pub last : Option ℕ
  pub ending : Ending

-- ---- values

abbrev pub truth : Value → Bool
truth (plain v) = to_boolean v
truth (other n b) = b

abbrev pub primitive_in : Value → Option Primitive
primitive_in (plain v) = Some v
primitive_in (other n b) = None

abbrev pub undefined_value : Value
undefined_value = plain value.undefined

-- ---- one instruction

-- What an instruction comes to, from the values that it reads: values for what it writes, or an event, upon which the outside gives
-- them.
pub data Meaning : Type 0 where
  computes : List Value → Meaning
  tells : EventKind → List Value → Meaning

abbrev pub at : List Value → ℕ → Value
at vs k = slice_index_or vs k undefined_value

-- one value if it could be computed, and else the event
abbrev pub or_tells : Option Primitive → EventKind → List Value → Meaning
or_tells None k vs = tells k vs
or_tells (Some v) k vs = computes (plain v ∷ [])

abbrev pub getting : (object key : Value) → Meaning
getting o k = or_tells (length_fold (primitive_in o) (primitive_in k)) get (o ∷ k ∷ [])

-- the instruction's own value and the written place's, by the Number before, or else the event
abbrev pub updating : (Value → Value → List Value) → EventKind → Value → Option Float → Meaning
updating both k v None = tells k (v ∷ [])
updating both k v (Some x) = computes (both v (plain (value.number x)))

abbrev pub meaning : World → List (List ℕ) → Instruction → List Value → Meaning
meaning w texts (load_local x y s) vs = computes (at vs 0 ∷ [])
meaning w texts (store_local x p k y s) vs = computes (at vs 0 ∷ at vs 0 ∷ [])
meaning w texts (primitive x l s) vs = computes (plain (literal_value texts l) ∷ [])
meaning w texts (binary x o y z s) vs = or_tells (fold (always w.conversions) texts (binary x o y z s) (map primitive_in vs)) (binary_event o) vs
meaning w texts (unary x o y s) vs = or_tells (fold (always w.conversions) texts (unary x o y s) (map primitive_in vs)) (unary_event o) vs
meaning w texts (property_store x o p v s) vs = tells put (at vs 0 ∷ plain (key_value texts p) ∷ at vs 1 ∷ [])
meaning w texts (property_load x o p s) vs = getting (at vs 0) (plain (key_value texts p))
meaning w texts (computed_store x o p v s) vs = tells put (at vs 0 ∷ at vs 1 ∷ at vs 2 ∷ [])
meaning w texts (computed_load x o p s) vs = getting (at vs 0) (at vs 1)
meaning w texts (load_global x b s) vs = computes (w.globals (text_at texts (binding_name b)) ∷ [])
meaning w texts (template x ys qs s) vs = or_tells (fold (always w.conversions) texts (template x ys qs s) (map primitive_in vs)) template_event vs
meaning w texts (prefix_update x p o y s) vs = updating (λ old new. new ∷ new ∷ []) (prefix_event o) (at vs 0) (bind (primitive_in (at vs 0)) (updated o))
meaning w texts (postfix_update x p o y s) vs = updating (λ old new. old ∷ new ∷ []) (postfix_event o) (at vs 0) (bind (primitive_in (at vs 0)) (updated o))
meaning w texts (start_memoize x m ds i s) vs = tells memoize vs
meaning w texts (opaque k ys xs) vs = tells (opaque_event k) vs

-- ---- the state of a run

-- assignments and events, the last first, and the answers that are left
pub record State : Type 0 where
  pub assignments : List Assignment
  pub events : List Event
  pub answers : List Answer

abbrev pub state : List Assignment → List Event → List Answer → State
state t es a = record { assignments = t; events = es; answers = a }

-- An identifier has the value that was assigned last. (What is sealed is never read before it is assigned.)
abbrev pub value_of : List Assignment → ℕ → Value
value_of [] x = undefined_value
value_of (a ∷ t) x = cond (a.place == x) a.value' (value_of t x)

abbrev pub assigned : ℕ → Value → Assignment
assigned x v = record { place = x; value' = v }

abbrev pub assigning : List ℕ → List Value → List Assignment → List Assignment
assigning [] vs t = t
assigning (x ∷ xs) [] t = t
assigning (x ∷ xs) (v ∷ vs) t = assigning xs vs (assigned x v ∷ t)

-- ---- steps

pub data Flow : Type 0 where
  goes_on : State → Flow
  ends : Ending → State → Flow

-- the outside gives a value for each place, in order
abbrev pub taking : List ℕ → List Answer → List Assignment → List Event → Flow
taking [] answers t es = goes_on (state t es answers)
taking (x ∷ xs) [] t es = ends answers_out (state t es [])
taking (x ∷ xs) (gives v ∷ answers) t es = taking xs answers (assigned x v ∷ t) es
taking (x ∷ xs) (chooses k ∷ answers) t es = ends unfit (state t es (chooses k ∷ answers))

-- An event is told before its answers are taken.
abbrev pub performed : List ℕ → Meaning → State → Flow
performed xs (computes vs) s = goes_on (state (assigning xs vs s.assignments) s.events s.answers)
performed xs (tells k vs) s = taking xs s.answers s.assignments (record { kind = k; values = vs } ∷ s.events)

abbrev pub executed : World → List (List ℕ) → Instruction → State → Flow
executed w texts i s = performed (writes i) (meaning w texts i (map (value_of s.assignments) (reads i))) s

abbrev pub and_then : Flow → (State → Flow) → Flow
and_then (goes_on s) f = f s
and_then (ends e s) f = ends e s

abbrev pub executed_all : World → List (List ℕ) → List Instruction → State → Flow
executed_all w texts [] s = goes_on s
executed_all w texts (i ∷ is) s = and_then (executed w texts i s) (executed_all w texts is)

-- the value that a phi takes, come from a block
abbrev pub operand_from : ℕ → List Operand → Option ℕ
operand_from b [] = None
operand_from b (o ∷ os) = cond (o.block == b) (Some o.value) (operand_from b os)

abbrev pub value_if : List Assignment → Option ℕ → Value
value_if t None = undefined_value
value_if t (Some y) = value_of t y

abbrev pub phi_value : Option ℕ → List Assignment → Phi → Value
phi_value from t φ = value_if t (bind from (λ b. operand_from b φ.operands))

-- All phis of a block are read before one is assigned.
abbrev pub phis_assigned : Option ℕ → List Phi → List Assignment → List Assignment
phis_assigned from φs t = assigning (map (λ φ. φ.place) φs) (map (phi_value from t) φs) t

-- ---- terminals

-- where a terminal leads: to a block, to one that the outside chooses, or nowhere
pub data Turn : Type 0 where
  jumps : ℕ → Turn
  forks : List ℕ → Turn
  stops : Ending → Turn

abbrev pub switching : List ℕ → Turn
switching [] = stops dead_end
switching (b ∷ bs) = forks (b ∷ bs)

abbrev pub turn_of : Terminal → (ℕ → Value) → Turn
turn_of (unreachable s) v = stops at_unreachable
turn_of (throw x s) v = stops (thrown (v x))
turn_of (return x k s) v = stops (returned (v x))
turn_of (goto b k s) v = jumps b
turn_of (if x c a f s) v = jumps (cond (truth (v x)) c a)
turn_of (branch x c a f s) v = jumps (cond (truth (v x)) c a)
turn_of (switch x cs f s) v = switching (map (λ c. c.block) cs)
turn_of (do_while l t f s) v = jumps l
turn_of (while t l f s) v = jumps t
turn_of (for i t u l f s) v = jumps i
turn_of (for_of i t l f s) v = jumps i
turn_of (for_in i l f s) v = jumps i
turn_of (logical o t f s) v = jumps t
turn_of (ternary t f s) v = jumps t
turn_of (optional o t f s) v = jumps t
turn_of (label b f s) v = jumps b
turn_of (sequence b f s) v = jumps b
turn_of (maybe_throw c h s) v = forks (c ∷ listed h)
turn_of (try b x h f s) v = jumps b
turn_of (scope f b i s) v = jumps b
turn_of (pruned_scope f b i s) v = jumps b

-- a block is left for another, or the run ends in it
pub data Exit : Type 0 where
  leaves : ℕ → State → Exit
  halts : Ending → State → Exit

abbrev pub choosing : List ℕ → List Answer → List Assignment → List Event → Exit
choosing bs [] t es = halts answers_out (state t es [])
choosing bs (gives v ∷ answers) t es = halts unfit (state t es (gives v ∷ answers))
choosing bs (chooses k ∷ answers) t es = cond (nat_lt k (length bs)) (leaves (slice_index bs k) (state t es answers)) (halts unfit (state t es (chooses k ∷ answers)))

abbrev pub taken : Turn → State → Exit
taken (jumps b) s = leaves b s
taken (forks bs) s = choosing bs s.answers s.assignments s.events
taken (stops e) s = halts e s

abbrev pub turned_by : Terminal → Flow → Exit
turned_by t (goes_on s) = taken (turn_of t (value_of s.assignments)) s
turned_by t (ends e s) = halts e s

-- the outside assigns a Try's binding, and then control goes on
abbrev pub exited : Terminal → State → Exit
exited t s = turned_by t (taking (terminal_writes t) s.answers s.assignments s.events)

-- ---- runs

abbrev pub exited_by : Terminal → Flow → Exit
exited_by t (goes_on s) = exited t s
exited_by t (ends e s) = halts e s

-- a block, come from another
abbrev pub block_run : World → List (List ℕ) → Option ℕ → Block Terminal → State → Exit
block_run w texts from B s =
    exited_by B.terminal (executed_all w texts B.code (state (phis_assigned from B.phis s.assignments) s.events s.answers))

abbrev pub finished : Ending → Option ℕ → State → Run
finished e last s = record { events = reverse s.events; assignments = reverse s.assignments; last = last; ending = e }

abbrev pub continued : (ℕ → State → Run) → ℕ → Exit → Run
continued go b (leaves c s) = go c s
continued go b (halts e s) = finished e (Some b) s

-- at most n more blocks are entered, the first of them b
abbrev pub run_from : World → List (List ℕ) → List (Block Terminal) → (n : ℕ) → (from : Option ℕ) → (b : ℕ) → State → Run
run_from w texts blocks zero from b s = finished blocks_out from s
run_from w texts blocks (suc n) from b s = continued (run_from w texts blocks n (Some b)) b (block_run w texts from (block_at blocks b) s)

abbrev pub started : World → List (List ℕ) → List (Block Terminal) → ℕ → Flow → Run
started w texts blocks n (goes_on s) = run_from w texts blocks n None 0 s
started w texts blocks n (ends e s) = finished e None s

-- A run of at most n blocks: the outside gives the parameters, and then the entry is entered.
abbrev pub run_of : World → List Answer → ℕ → Body → Run
run_of w answers n B = started w B.texts B.blocks n (taking B.parameters answers [] [])
