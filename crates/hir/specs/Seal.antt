-- When the seal refuses a draft, and what for. Each cause has its faults, at parts of the draft. Where several causes apply, the one with
-- the smallest row number is given, at the first part where it applies, in block order. Names, terminals and assignments count in all
-- blocks; phis, edges and uses only in those that a path from the entry reaches.
use Rattle.std.specs.Prelude.{◌≡◌, ℕ, suc, ◌+◌, ◌<◌, Bool, true, false, not, ◌&&◌, ◌||◌, nat_lt, ◌⊎◌, List, [], ◌∷◌, ◌++◌, map, length, Some, None, IsUtf8, Option, ◌==◌, nat_eq, nat_le, slice_index_or}
use Rattle.std.specs.Float.{binary64}
use Rattle.std.specs.Float.Ieee.{fits}
use Rattle.hir.specs.declared.block.BlockKind.TheVariants as kind
use Rattle.hir.specs.Graph.{Graph, Path, Walk, walked}
use Rattle.hir.specs.Lists.{Mem, all, any, distinct, flat_map, has, keep, numbered, total}
use Rattle.hir.specs.Places.{blocks_named, numbers_held, reads, successors, terminal_reads, terminal_writes, texts_named, writes}
use Rattle.hir.specs.Script.{Block, Instruction, Phi, Script, Terminal}
use Rattle.std.specs.List.{AllByRecursion}
use Rattle.table.specs.declared.refusal.Cause.{Cause}
use Rattle.table.specs.declared.refusal.Cause.TheVariants.{TableFull, NotUtf8, TextDoesNotFit, NamesNothing, KindNotTaken, NoTerminal, AssignedTwice, PhiOperands, EdgeBack, UseBeforeDefinition}
use Rattle.table.specs.declared.refusal.Layer.TheVariants as layer
use Rattle.table.specs.declared.refusal.Refusal.{Refusal}
use Rattle.table.specs.declared.refusal.Site.{Site}
use Rattle.table.specs.declared.refusal.Site.TheVariants as site
use Rattle.table.specs.Refusals.{Refuses, number_of}

-- ---- the parts of a draft, in block order

-- Parameters come first; in a block its phis, its instructions, its terminal, and its end, where the operands of the phis behind it are
-- used. Phis and instructions are numbered through all blocks. An instruction has those before it in its block. The last
-- part is the place of a further block.
pub data Part : Type 0 where
  parameter : (number x : ℕ) → Part
  phi : (block number : ℕ) → Phi → Part
  instruction : (block number : ℕ) → (before : List Instruction) → Instruction → Part
  terminal : (block : ℕ) → Option Terminal → Part
  end : (block : ℕ) → Part
  further : (block : ℕ) → Part

abbrev pub instruction_parts : ℕ → ℕ → List Instruction → List Instruction → List Part
instruction_parts b n before [] = []
instruction_parts b n before (i ∷ is) = instruction b n before i ∷ instruction_parts b (suc n) (before ++ i ∷ []) is

-- block b, where so many phis and instructions stand before it
abbrev pub block_parts : (b phis instructions : ℕ) → List (Block (Option Terminal)) → List Part
block_parts b p i [] = further b ∷ []
block_parts b p i (B ∷ Bs) =
    numbered (phi b) p B.phis ++ instruction_parts b i [] B.code
    ++ terminal b B.terminal ∷ end b ∷ block_parts (suc b) (p + length B.phis) (i + length B.code) Bs

abbrev pub parts : Script → List Part
parts s = numbered parameter 0 s.parameters ++ block_parts 0 0 0 s.blocks

abbrev pub site_of : Part → Site
site_of (parameter n x) = site.Parameter n
site_of (phi b n φ) = site.Phi n
site_of (instruction b n before i) = site.Instruction n
site_of (terminal b t) = site.Terminal b
site_of (end b) = site.End b
site_of (further b) = site.Block b

-- ---- what a part names and assigns

abbrev pub leads : Option Terminal → List ℕ
leads None = []
leads (Some t) = successors t

abbrev pub asks : Option Terminal → List ℕ
asks None = []
asks (Some t) = terminal_reads t

abbrev pub binds : Option Terminal → List ℕ
binds None = []
binds (Some t) = terminal_writes t

abbrev pub names : Option Terminal → List ℕ
names None = []
names (Some t) = blocks_named t

abbrev pub successors_of : Part → List ℕ
successors_of (parameter n x) = []
successors_of (phi b n φ) = []
successors_of (instruction b n before i) = []
successors_of (terminal b t) = leads t
successors_of (end b) = []
successors_of (further b) = []

abbrev pub blocks_of : Part → List ℕ
blocks_of (parameter n x) = []
blocks_of (phi b n φ) = map (λ o. o.block) φ.operands
blocks_of (instruction b n before i) = []
blocks_of (terminal b t) = names t
blocks_of (end b) = []
blocks_of (further b) = []

-- The outside assigns parameters, and a Try's binding at the Try.
abbrev pub assigned_by : Part → List ℕ
assigned_by (parameter n x) = x ∷ []
assigned_by (phi b n φ) = φ.place ∷ []
assigned_by (instruction b n before i) = writes i
assigned_by (terminal b t) = binds t
assigned_by (end b) = []
assigned_by (further b) = []

abbrev pub lacks_terminal : Part → Bool
lacks_terminal (parameter n x) = false
lacks_terminal (phi b n φ) = false
lacks_terminal (instruction b n before i) = false
lacks_terminal (terminal b None) = true
lacks_terminal (terminal b (Some t)) = false
lacks_terminal (end b) = false
-- there is no block at all
lacks_terminal (further b) = b == 0

-- ---- paths through a draft

abbrev pub draft_block : Script → ℕ → Block (Option Terminal)
draft_block s b = slice_index_or s.blocks b (record { kind = kind.Block; phis = []; code = []; terminal = None })

abbrev pub draft_graph : Script → Graph
draft_graph s b = leads (draft_block s b).terminal

abbrev pub draft_walk : Script → Walk
draft_walk s = walked (length s.blocks) (draft_graph s)

-- the identifiers that are assigned along a path, the last block first, and before it
abbrev pub assigned_in : Block (Option Terminal) → List ℕ
assigned_in B = map (λ φ. φ.place) B.phis ++ flat_map writes B.code ++ binds B.terminal

abbrev pub assigned_along : Script → List ℕ → List ℕ
assigned_along s [] = s.parameters
assigned_along s (b ∷ h) = assigned_in (draft_block s b) ++ assigned_along s h

-- those that are assigned in block b before the instructions after `before`
abbrev pub assigned_before : Script → ℕ → List Instruction → List ℕ → List ℕ
assigned_before s b before h = map (λ φ. φ.place) (draft_block s b).phis ++ flat_map writes before ++ assigned_along s h

-- the identifiers that the phis of block c take from block b
abbrev pub taken_from : ℕ → Block (Option Terminal) → List ℕ
taken_from b C = flat_map (λ φ. map (λ o. o.value) (keep (λ o. nat_eq o.block b) φ.operands)) C.phis

-- Some path to block b meets a use of an identifier that is not assigned on it by then: xs are used where those of `by h` are assigned.
abbrev pub Unassigned : Script → ℕ → List ℕ → (List ℕ → List ℕ) → Type 0
Unassigned s b xs by = (h : List ℕ) × Path (draft_graph s) (b ∷ h) × ((x : ℕ) × Mem x xs × (Mem x (by h) → ⊥))

-- ---- faults

-- a phi takes from each predecessor once, and from no other block
abbrev pub takes_from : List ℕ → Phi → Bool
takes_from predecessors φ =
    let from = map (λ o. o.block) φ.operands in
    distinct from && (all (λ b. has b predecessors) from && all (λ b. has b from) predecessors)

abbrev pub PhiFault : Script → Part → Type 0
PhiFault s (parameter n x) = ⊥
PhiFault s (phi b n φ) =
    (slice_index_or (draft_walk s).entered b false && (b == 0 || not (takes_from (slice_index_or (draft_walk s).predecessors b []) φ))) ≡ true
PhiFault s (instruction b n before i) = ⊥
PhiFault s (terminal b t) = ⊥
PhiFault s (end b) = ⊥
PhiFault s (further b) = ⊥

-- block b leads to an earlier block that some path to b avoids
abbrev pub EdgeFault : Script → Part → Type 0
EdgeFault s (parameter n x) = ⊥
EdgeFault s (phi b n φ) = ⊥
EdgeFault s (instruction b n before i) = ⊥
EdgeFault s (terminal b t) =
    (h : List ℕ) × Path (draft_graph s) (b ∷ h) × ((c : ℕ) × (c < b) × Mem c (leads t) × (Mem c (b ∷ h) → ⊥))
EdgeFault s (end b) = ⊥
EdgeFault s (further b) = ⊥

abbrev pub UseFault : Script → Part → Type 0
UseFault s (parameter n x) = ⊥
UseFault s (phi b n φ) = ⊥
UseFault s (instruction b n before i) = Unassigned s b (reads i) (assigned_before s b before)
UseFault s (terminal b t) = Unassigned s b (asks t) (assigned_before s b (draft_block s b).code)
UseFault s (end b) = Unassigned s b (flat_map (λ c. taken_from b (draft_block s c)) (draft_graph s b)) (λ h. assigned_along s (b ∷ h))
UseFault s (further b) = ⊥

-- A cause applies at a part, where `earlier` are the parts before it. `room` is how many predecessors there is memory for. Text that is
-- not UTF-8, text that does not fit and kinds that are not taken have been refused before.
abbrev pub Fault : (room : ℕ) → Script → Cause → Part → (earlier : List Part) → Type 0
Fault room s TableFull p earlier = nat_lt room (total (λ q. length (successors_of q)) (p ∷ earlier)) ≡ true
Fault room s NotUtf8 p earlier = ⊥
Fault room s TextDoesNotFit p earlier = ⊥
Fault room s NamesNothing p earlier = any (λ b. nat_le (length s.blocks) b) (blocks_of p) ≡ true
Fault room s KindNotTaken p earlier = ⊥
Fault room s NoTerminal p earlier = lacks_terminal p ≡ true
Fault room s AssignedTwice p earlier = distinct (flat_map assigned_by (p ∷ earlier)) ≡ false
Fault room s PhiOperands p earlier = PhiFault s p
Fault room s EdgeBack p earlier = EdgeFault s p
Fault room s UseBeforeDefinition p earlier = UseFault s p

-- ---- which refusal is given

abbrev pub causes : List Cause
causes = TableFull ∷ NotUtf8 ∷ TextDoesNotFit ∷ NamesNothing ∷ KindNotTaken ∷ NoTerminal ∷ AssignedTwice ∷ PhiOperands ∷ EdgeBack ∷ UseBeforeDefinition ∷ []

-- the cause applies at no part
abbrev pub Free : ℕ → Script → Cause → (earlier parts : List Part) → Type 0
Free room s c earlier [] = Unit {0}
Free room s c earlier (p ∷ ps) = (Fault room s c p earlier → ⊥) × Free room s c (p ∷ earlier) ps

-- r is the refusal for this cause at the first part where it applies
abbrev pub First : ℕ → Script → Cause → (earlier parts : List Part) → Refusal → Type 0
First room s c earlier [] r = ⊥
First room s c earlier (p ∷ ps) r =
    (Fault room s c p earlier × Refuses (number_of c) layer.Seal (site_of p) r)
    ⊎ ((Fault room s c p earlier → ⊥) × First room s c (p ∷ earlier) ps r)

-- r is the refusal for the first of the causes that applies
abbrev pub FirstCause : ℕ → Script → List Cause → Refusal → Type 0
FirstCause room s [] r = ⊥
FirstCause room s (c ∷ cs) r = First room s c [] (parts s) r ⊎ (Free room s c [] (parts s) × FirstCause room s cs r)

abbrev pub SealRefuses : ℕ → Script → Refusal → Type 0
SealRefuses room s r = FirstCause room s causes r

abbrev pub SealAccepts : ℕ → Script → Type 0
SealAccepts room s = AllByRecursion (λ c. Free room s c [] (parts s)) causes

-- ---- what adding lets in

abbrev pub identifiers_of : Part → List ℕ
identifiers_of (parameter n x) = x ∷ []
identifiers_of (phi b n φ) = φ.place ∷ map (λ o. o.value) φ.operands
identifiers_of (instruction b n before i) = reads i ++ writes i
identifiers_of (terminal b t) = asks t ++ binds t
identifiers_of (end b) = []
identifiers_of (further b) = []

-- Texts are UTF-8, and every identifier and text that is named is there, where there are so many identifiers. Every Number is one that a
-- 64-bit float holds, in the one form in which it is written there (`fits`), so that equal Numbers are one but for the zeros.
pub record Drafted (identifiers : ℕ) (s : Script) : Type 0 where
  pub valid : AllByRecursion IsUtf8 s.texts
  pub identified : all (λ x. nat_lt x identifiers) (flat_map identifiers_of (parts s)) ≡ true
  pub named : all (λ t. nat_lt t (length s.texts)) (flat_map (λ B. flat_map texts_named B.code) s.blocks) ≡ true
  pub floats : all (fits binary64) (flat_map (λ B. flat_map numbers_held B.code) s.blocks) ≡ true
