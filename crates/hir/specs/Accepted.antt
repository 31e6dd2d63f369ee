-- What it says of a script that the seal accepts it. Later proofs cite these facts, and not the rows.
use Rattle.std.specs.Prelude.{◌≡◌, ℕ, ◌+◌, ◌<◌, ◌≤◌, true, List, [], ◌∷◌, ◌++◌, map, length, Some}
use Rattle.hir.specs.Graph.{Graph, Path, Reached}
use Rattle.hir.specs.Lists.{Mem, count, distinct, total}
use Rattle.hir.specs.Places.{reads}
use Rattle.hir.specs.Script.{Instruction, Phi, Script, Terminal}
use Rattle.hir.specs.Seal.{SealAccepts, asks, assigned_along, assigned_before, assigned_in, draft_block, draft_graph, taken_from}

-- a is a predecessor of b: it is reached, and leads there
abbrev pub Precedes : Graph → ℕ → ℕ → Type 0
Precedes g a b = Reached g a × Mem b (g a)

-- A path on which each step goes to a later block.
abbrev pub Forward : List ℕ → Type 0
Forward [] = Unit {0}
Forward (b ∷ []) = Unit {0}
Forward (b ∷ a ∷ h) = (a < b) × Forward (a ∷ h)

-- A phi takes one operand from each predecessor of its block, and none from another block.
pub record TakesEach (g : Graph) (b : ℕ) (φ : Phi) : Type 0 where
  pub once : distinct (map (λ o. o.block) φ.operands) ≡ true
  pub only : (a : ℕ) → Mem a (map (λ o. o.block) φ.operands) → Precedes g a b
  pub each : (a : ℕ) → Precedes g a b → Mem a (map (λ o. o.block) φ.operands)

pub record Accepted (s : Script) : Type 0 where
  -- there is an entry, each block has a terminal, and control stays among the blocks
  pub entry : 0 < length s.blocks
  pub ended : (b : ℕ) → b < length s.blocks → (t : Terminal) × ((draft_block s b).terminal ≡ Some t)
  pub within : (a b : ℕ) → Mem b (draft_graph s a) → b < length s.blocks
  -- each identifier is assigned at one position at the most
  pub assigned_once : (x : ℕ) → count x s.parameters + total (λ B. count x (assigned_in B)) s.blocks ≤ 1
  pub no_entry_phi : (draft_block s 0).phis ≡ []
  pub phis : (b : ℕ) → Reached (draft_graph s) b → (φ : Phi) → Mem φ (draft_block s b).phis → TakesEach (draft_graph s) b φ
  -- on every path what is used has been assigned
  pub code_used : (b : ℕ) (h : List ℕ) → Path (draft_graph s) (b ∷ h) → (before : List Instruction) (i : Instruction) (after : List Instruction)
      → (draft_block s b).code ≡ before ++ i ∷ after → (x : ℕ) → Mem x (reads i) → Mem x (assigned_before s b before h)
  pub terminal_used : (b : ℕ) (h : List ℕ) → Path (draft_graph s) (b ∷ h) → (x : ℕ) → Mem x (asks (draft_block s b).terminal)
      → Mem x (assigned_before s b (draft_block s b).code h)
  pub end_used : (a : ℕ) (h : List ℕ) → Path (draft_graph s) (a ∷ h) → (b : ℕ) → Mem b (draft_graph s a) → (x : ℕ) → Mem x (taken_from a (draft_block s b))
      → Mem x (assigned_along s (a ∷ h))
  -- an edge to an earlier block leads to one that every path to its source holds, so every reached block is reached by going forward
  pub back : (b : ℕ) (h : List ℕ) → Path (draft_graph s) (b ∷ h) → (c : ℕ) → Mem c (draft_graph s b) → c < b → Mem c (b ∷ h)
  pub forward : (b : ℕ) → Reached (draft_graph s) b → (h : List ℕ) × Path (draft_graph s) (b ∷ h) × Forward (b ∷ h)

abbrev pub Acceptance : Type 0
Acceptance = (room : ℕ) (s : Script) → SealAccepts room s → Accepted s
