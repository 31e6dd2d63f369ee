-- A round: through the standing blocks in order, it records what is known to be constant, folds instructions, and turns Ifs whose test is
-- known. It **stops** at an instruction whose text does not fit, with exactly the steps before that instruction done.
use Rattle.std.specs.Prelude.{ℕ, suc, ◌+◌, Bool, true, false, cond, ◌&&◌, ◌||◌, List, [], ◌∷◌, ◌++◌, map, length, take, pos, is_some, Some, None, Option, nat_le, nat_lt, slice_set, Float}
use Rattle.std.specs.Float.{fin}
use Rattle.ecma.specs.Comparison.{is_strictly_equal, same_value, to_boolean}
use Rattle.ecma.specs.Value.{Primitive}
use Rattle.ecma.specs.Value as value
use Rattle.hir.specs.Body.{Body, Constant, Test, block_at, global_constant, if_of, primitive_constant, record_at, text_at}
use Rattle.hir.specs.declared.block.BlockKind.{BlockKind}
use Rattle.hir.specs.declared.block.BlockKind.TheVariants as kind
use Rattle.hir.specs.declared.kinds.GotoVariant.TheVariants as variant
use Rattle.hir.specs.declared.parts.Span.{Span}
use Rattle.hir.specs.Lists.{all, any, mod_at, total}
use Rattle.hir.specs.Places.{binding_name}
use Rattle.hir.specs.Script.{Block, Dependency, Instruction, Literal, Phi, Property, Terminal}
use Rattle.hir.specs.Script.{null, undefined, boolean, number, text}
use Rattle.hir.specs.Script.{name, index}
use Rattle.hir.specs.Script.{named_local, global_name}
use Rattle.hir.specs.Script.{goto}
use Rattle.hir.specs.Script.{load_local, store_local, primitive, binary, unary, property_store, property_load, computed_store, computed_load, load_global, template, prefix_update, postfix_update, start_memoize, opaque}
use Rattle.runs.specs.Folds.{Conversions, bind, fold, literal_value, updated}
use Rattle.std.specs.Option.{option_map}
use Rattle.std.specs.Str.{bytes_eq}

-- ---- what a round is given

-- what a host means: two conversions, and whether a text is a valid name, each where it answers
pub record HostMeaning : Type 0 where
  pub conversions : Conversions
  pub names : List ℕ → Option Bool

-- how many bytes all texts together may have, and how many texts there may be
pub record Room : Type 0 where
  pub bytes : ℕ
  pub texts : ℕ

abbrev pub fits : Room → List (List ℕ) → List ℕ → Bool
fits room texts t = nat_le (total length texts + length t) room.bytes && nat_lt (length texts) room.texts

-- ---- what is known

-- the value of a constant, unless it is a global's
abbrev pub constant_value : List (List ℕ) → Constant → Option Primitive
constant_value texts (primitive_constant l s) = Some (literal_value texts l)
constant_value texts (global_constant b s) = None

-- the value that an identifier is recorded with, if that is a primitive
abbrev pub known : Body → ℕ → Option Primitive
known B x = bind (record_at B.records x) (constant_value B.texts)

abbrev pub literal_of : Constant → Option Literal
literal_of (primitive_constant l s) = Some l
literal_of (global_constant b s) = None

-- what is to be recorded, for which identifier
pub record Finding : Type 0 where
  pub place : ℕ
  pub constant : Constant

abbrev pub finding : ℕ → Constant → Finding
finding x c = record { place = x; constant = c }

abbrev pub recorded : List Finding → List (Option Constant) → List (Option Constant)
recorded [] records = records
recorded (f ∷ fs) records = recorded fs (slice_set records f.place (Some f.constant))

-- ---- the parts of a body that a round changes

abbrev pub with_records : List (Option Constant) → Body → Body
with_records records B = record {
  texts = B.texts;
  parameters = B.parameters;
  blocks = B.blocks;
  predecessors = B.predecessors;
  stands = B.stands;
  records = records;
  sealed_ifs = B.sealed_ifs;
  turned_ifs = B.turned_ifs;
}

abbrev pub with_text : List ℕ → Body → Body
with_text t B = record {
  texts = B.texts ++ t ∷ [];
  parameters = B.parameters;
  blocks = B.blocks;
  predecessors = B.predecessors;
  stands = B.stands;
  records = B.records;
  sealed_ifs = B.sealed_ifs;
  turned_ifs = B.turned_ifs;
}

abbrev pub with_blocks : List (Block Terminal) → Body → Body
with_blocks blocks B = record {
  texts = B.texts;
  parameters = B.parameters;
  blocks = blocks;
  predecessors = B.predecessors;
  stands = B.stands;
  records = B.records;
  sealed_ifs = B.sealed_ifs;
  turned_ifs = B.turned_ifs;
}

abbrev pub with_turned : Body → Body
with_turned B = record {
  texts = B.texts;
  parameters = B.parameters;
  blocks = B.blocks;
  predecessors = B.predecessors;
  stands = B.stands;
  records = B.records;
  sealed_ifs = B.sealed_ifs;
  turned_ifs = suc B.turned_ifs;
}

abbrev pub with_code : List Instruction → Block Terminal → Block Terminal
with_code code B = record { kind = B.kind; phis = B.phis; code = code; terminal = B.terminal }

abbrev pub with_terminal : Terminal → Block Terminal → Block Terminal
with_terminal t B = record { kind = B.kind; phis = B.phis; code = B.code; terminal = t }

-- instruction k of block b becomes j
abbrev pub replaced : ℕ → ℕ → Instruction → Body → Body
replaced b k j B = with_blocks (mod_at (λ C. with_code (slice_set C.code k j) C) b B.blocks) B

-- ---- step: the phis of a block

-- strictly equal primitives, or globals of one name
abbrev pub agree : List (List ℕ) → Constant → Constant → Bool
agree texts (primitive_constant l s) (primitive_constant m t) = is_strictly_equal (literal_value texts l) (literal_value texts m)
agree texts (primitive_constant l s) (global_constant c t) = false
agree texts (global_constant b s) (primitive_constant m t) = false
agree texts (global_constant b s) (global_constant c t) = bytes_eq (text_at texts (binding_name b)) (text_at texts (binding_name c))

abbrev pub agrees_with : List (List ℕ) → Constant → Option Constant → Bool
agrees_with texts c None = false
agrees_with texts c (Some d) = agree texts c d

-- of the operands' records: the first, if all are recorded and the others agree with it
abbrev pub phi_constant : List (List ℕ) → List (Option Constant) → Option Constant
phi_constant texts [] = None
phi_constant texts (None ∷ rs) = None
phi_constant texts (Some c ∷ rs) = cond (all (agrees_with texts c) rs) (Some c) None

abbrev pub operand_records : Body → Phi → List (Option Constant)
operand_records B φ = map (λ o. record_at B.records o.value) φ.operands

abbrev pub finding_if : ℕ → Option Constant → List Finding
finding_if x None = []
finding_if x (Some c) = finding x c ∷ []

abbrev pub phi_findings : Body → List Phi → List Finding
phi_findings B [] = []
phi_findings B (φ ∷ φs) = finding_if φ.place (phi_constant B.texts (operand_records B φ)) ++ phi_findings B φs

-- All phis are read, and then recorded.
abbrev pub phis_recorded : ℕ → Body → Body
phis_recorded b B = with_records (recorded (phi_findings B (block_at B.blocks b).phis) B.records) B

-- ---- step: one instruction

-- What an instruction comes to: it stays and nothing is recorded; or something is recorded, and it becomes another, or stays; or it
-- folds to a value, is recorded as it, and becomes a primitive with it and its own span.
pub data Evaluation : Type 0 where
  left : Evaluation
  found : List Finding → Instruction → Evaluation
  folded : (lvalue : ℕ) → Option Span → Primitive → Evaluation

abbrev pub folded_or : ℕ → Option Span → Option Primitive → Evaluation
folded_or x s None = left
folded_or x s (Some v) = folded x s v

-- an instruction that loads a constant
abbrev pub loading : ℕ → Constant → Instruction
loading x (primitive_constant l s) = primitive x l s
loading x (global_constant b s) = load_global x b s

-- the key that a recorded literal is as a property: a Number, or a text that is a valid name
abbrev pub property_of : HostMeaning → List (List ℕ) → Literal → Option Property
property_of host texts null = None
property_of host texts undefined = None
property_of host texts (boolean b) = None
property_of host texts (number x) = Some (index x)
property_of host texts (text t) = bind (host.names (text_at texts t)) (λ valid. cond valid (Some (name t)) None)

abbrev pub property_at : HostMeaning → Body → ℕ → Option Property
property_at host B x = bind (bind (record_at B.records x) literal_of) (property_of host B.texts)

abbrev pub becomes : Option Instruction → Evaluation
becomes None = left
becomes (Some j) = found [] j

-- a dependency on an identifier that is recorded as a primitive is marked constant
abbrev pub marked : Body → Dependency → Dependency
marked B (named_local x c) = named_local x (c || is_some (known B x))
marked B (global_name t) = global_name t

-- Updates of a Number: the written place has the new one; the instruction the new one, or the old one as it was recorded.
abbrev pub new_number : Option Span → Float → Constant
new_number s x = primitive_constant (number x) s

abbrev pub updating : Option Float → (Float → List Finding) → Instruction → Evaluation
updating None fs i = left
updating (Some x) fs i = found (fs x) i

abbrev pub carrying : Option Constant → (Constant → List Finding) → (Constant → Instruction) → Evaluation
carrying None fs i = left
carrying (Some c) fs i = found (fs c) (i c)

abbrev pub evaluation : HostMeaning → Body → Instruction → Evaluation
evaluation host B (load_local x y s) = carrying (record_at B.records y) (λ c. finding x c ∷ []) (loading x)
evaluation host B (store_local x p k y s) = carrying (record_at B.records y) (λ c. finding p c ∷ finding x c ∷ []) (λ c. store_local x p k y s)
evaluation host B (primitive x l s) = found (finding x (primitive_constant l s) ∷ []) (primitive x l s)
evaluation host B (binary x o y z s) = folded_or x s (fold host.conversions B.texts (binary x o y z s) (known B y ∷ known B z ∷ []))
evaluation host B (unary x o y s) = folded_or x s (fold host.conversions B.texts (unary x o y s) (known B y ∷ []))
evaluation host B (property_store x o p v s) = left
evaluation host B (property_load x o p s) = folded_or x s (fold host.conversions B.texts (property_load x o p s) (known B o ∷ []))
evaluation host B (computed_store x o p v s) = becomes (option_map (λ key. property_store x o key v s) (property_at host B p))
evaluation host B (computed_load x o p s) = becomes (option_map (λ key. property_load x o key s) (property_at host B p))
evaluation host B (load_global x b s) = found (finding x (global_constant b s) ∷ []) (load_global x b s)
evaluation host B (template x ys qs s) = folded_or x s (fold host.conversions B.texts (template x ys qs s) (map (known B) ys))
evaluation host B (prefix_update x p o y s) =
    updating (bind (known B y) (updated o)) (λ n. finding p (new_number s n) ∷ finding x (new_number s n) ∷ []) (prefix_update x p o y s)
evaluation host B (postfix_update x p o y s) =
    updating (bind (known B y) (updated o)) (λ n. finding p (new_number s n) ∷ finding_if x (record_at B.records y)) (postfix_update x p o y s)
evaluation host B (start_memoize x m ds i s) = found [] (start_memoize x m (option_map (map (marked B)) ds) i s)
evaluation host B (opaque k ys xs) = left

-- Where a round is: the body so far, and the number of the instruction at which it stopped, if it did.
pub record Progress : Type 0 where
  pub body : Body
  pub stop : Option ℕ

abbrev pub going_on : Body → Progress
going_on B = record { body = B; stop = None }

-- x is recorded as the literal, and its instruction, k of block b, becomes it
abbrev pub settled_as : ℕ → ℕ → ℕ → Option Span → Literal → Body → Body
settled_as b k x s l B = with_records (slice_set B.records x (Some (primitive_constant l s))) (replaced b k (primitive x l s) B)

-- A text that comes of a fold is added behind the others, if it fits; else the round stops, at instruction n.
abbrev pub folded_to : Room → (n b k x : ℕ) → Option Span → Primitive → Body → Progress
folded_to room n b k x s value.null B = going_on (settled_as b k x s null B)
folded_to room n b k x s value.undefined B = going_on (settled_as b k x s undefined B)
folded_to room n b k x s (value.boolean c) B = going_on (settled_as b k x s (boolean c) B)
folded_to room n b k x s (value.number f) B = going_on (settled_as b k x s (number f) B)
folded_to room n b k x s (value.string t) B =
    cond (fits room B.texts t)
    (going_on (settled_as b k x s (text (length B.texts)) (with_text t B)))
    (record { body = B; stop = Some n })

abbrev pub applied : Room → (n b k : ℕ) → Evaluation → Body → Progress
applied room n b k left B = going_on B
applied room n b k (found fs j) B = going_on (with_records (recorded fs B.records) (replaced b k j B))
applied room n b k (folded x s v) B = folded_to room n b k x s v B

-- instruction i, which is k of block b and number n of all
abbrev pub evaluated : HostMeaning → Room → (n b k : ℕ) → Instruction → Body → Progress
evaluated host room n b k i B = applied room n b k (evaluation host B i) B

-- ---- step: a terminal

-- An If whose test is recorded as a primitive becomes a Goto to the branch that its truth takes.
abbrev pub goto_of : Test → Primitive → Terminal
goto_of t v = goto (cond (to_boolean v) t.consequent t.alternate) variant.Break t.span

abbrev pub turning : Body → Terminal → Option Terminal
turning B t = bind (if_of t) (λ test. option_map (goto_of test) (known B test.test))

abbrev pub turned_to : ℕ → Option Terminal → Body → Body
turned_to b None B = B
turned_to b (Some t) B = with_turned (with_blocks (mod_at (with_terminal t) b B.blocks) B)

abbrev pub turned : ℕ → Body → Body
turned b B = turned_to b (turning B (block_at B.blocks b).terminal) B

-- ---- blocks, and the round

abbrev pub resumed : (Body → Progress) → Body → Option ℕ → Progress
resumed f B None = f B
resumed f B (Some n) = record { body = B; stop = Some n }

abbrev pub unless_stopped : (Body → Progress) → Progress → Progress
unless_stopped f p = resumed f p.body p.stop

-- the instructions from k on, the first of which is number n
abbrev pub code_evaluated : HostMeaning → Room → (n b k : ℕ) → List Instruction → Progress → Progress
code_evaluated host room n b k [] p = p
code_evaluated host room n b k (i ∷ is) p = code_evaluated host room (suc n) b (suc k) is (unless_stopped (evaluated host room n b k i) p)

abbrev pub all_but_last : {A : Type 0} → List A → List A
all_but_last [] = []
all_but_last (x ∷ []) = []
all_but_last (x ∷ y ∷ ys) = x ∷ all_but_last (y ∷ ys)

-- The last instruction of a Sequence block is left out.
abbrev pub evaluated_code : BlockKind → List Instruction → List Instruction
evaluated_code kind.Block is = is
evaluated_code kind.Value is = is
evaluated_code kind.Loop is = is
evaluated_code kind.Sequence is = all_but_last is
evaluated_code kind.Catch is = is

-- how many instructions stand before block b
abbrev pub first_number : List (Block Terminal) → ℕ → ℕ
first_number blocks b = total (λ C. length C.code) (take b blocks)

-- the phis of block b, and then its instructions
abbrev pub contents_folded : HostMeaning → Room → ℕ → Body → Progress
contents_folded host room b B =
    let C = block_at B.blocks b in
    code_evaluated host room (first_number B.blocks b) b 0 (evaluated_code C.kind C.code) (going_on (phis_recorded b B))

abbrev pub block_folded : HostMeaning → Room → ℕ → Progress → Progress
block_folded host room b p = unless_stopped (λ B. going_on (turned b B)) (unless_stopped (contents_folded host room b) p)

abbrev pub blocks_folded : HostMeaning → Room → List ℕ → Progress → Progress
blocks_folded host room [] p = p
blocks_folded host room (b ∷ bs) p = blocks_folded host room bs (block_folded host room b p)

-- the numbers of the blocks that stand, in order
abbrev pub standing_from : ℕ → List Bool → List ℕ
standing_from b [] = []
standing_from b (s ∷ ss) = cond s (b ∷ standing_from (suc b) ss) (standing_from (suc b) ss)

abbrev pub standing : Body → List ℕ
standing B = standing_from 0 B.stands

abbrev pub round : HostMeaning → Room → Body → Progress
round host room B = blocks_folded host room (standing B) (going_on B)

-- ---- zeros of both signs at one phi

abbrev pub is_same : Primitive → Option Primitive → Bool
is_same v None = false
is_same v (Some u) = same_value u v

abbrev pub is_recorded_as : List (List ℕ) → Primitive → Option Constant → Bool
is_recorded_as texts v r = is_same v (bind r (constant_value texts))

-- one operand is recorded as 0 and another as -0
abbrev pub has_both_zeros : Body → Phi → Bool
has_both_zeros B φ =
    any (is_recorded_as B.texts (value.number (fin false 0 (pos 0)))) (operand_records B φ)
    && any (is_recorded_as B.texts (value.number (fin true 0 (pos 0)))) (operand_records B φ)

-- at a phi of block b, unless the round has stopped
abbrev pub both_zeros_at : ℕ → Body → Option ℕ → Bool
both_zeros_at b B None = any (has_both_zeros B) (block_at B.blocks b).phis
both_zeros_at b B (Some n) = false

abbrev pub both_zeros_in : HostMeaning → Room → List ℕ → Progress → Bool
both_zeros_in host room [] p = false
both_zeros_in host room (b ∷ bs) p = both_zeros_at b p.body p.stop || both_zeros_in host room bs (block_folded host room b p)

-- the round met recorded zeros of both signs at one phi that it read
abbrev pub meets_both_zeros : HostMeaning → Room → Body → Bool
meets_both_zeros host room B = both_zeros_in host room (standing B) (going_on B)
