-- What the proof keeps of a body's blocks: each identifier is assigned once, on every path before its uses; and what is known is justified
-- by the instruction or phi that assigns it.
use Rattle.std.proofs.Common.{◌≡◌, ℕ, ◌+◌, ◌≤◌, List, [], ◌∷◌, ◌++◌, map, Some, None, Option, refl, append_assoc}
use Rattle.hir.specs.Body.{block_at, graph_of}
use Rattle.hir.specs.Graph.{Path}
use Rattle.hir.specs.Lists.{Mem, count, flat_map, total}
use Rattle.hir.specs.Places.{reads, terminal_reads, terminal_writes, writes}
use Rattle.hir.specs.Script.{Block, Instruction, Phi, Terminal}
use Rattle.runs.proofs.Senses.{Known, Knowledge}
use Rattle.runs.proofs.Yields.{yields}
use Rattle.runs.specs.Folds.{Conversions}
use Rattle.runs.specs.Runs.{operand_from}

pub flat_append : {A B : Type 0} (f : A → List B) (xs ys : List A) → flat_map f (xs ++ ys) ≡ flat_map f xs ++ flat_map f ys
flat_append f [] ys = refl
flat_append f (x ∷ xs) ys = simp (flat_append f xs ys, append_assoc)

-- ---- what is assigned

abbrev pub phi_places : Block Terminal → List ℕ
phi_places B = map (λ φ. φ.place) B.phis

abbrev pub assigned_in : Block Terminal → List ℕ
assigned_in B = phi_places B ++ flat_map writes B.code ++ terminal_writes B.terminal

-- along a path, the last block first, after the parameters ps
abbrev pub assigned_on : List ℕ → List (Block Terminal) → List ℕ → List ℕ
assigned_on ps Bs [] = ps
assigned_on ps Bs (b ∷ h) = assigned_in (block_at Bs b) ++ assigned_on ps Bs h

-- in block b after some instructions
abbrev pub assigned_by : List ℕ → List (Block Terminal) → ℕ → List Instruction → List ℕ → List ℕ
assigned_by ps Bs b before h = phi_places (block_at Bs b) ++ flat_map writes before ++ assigned_on ps Bs h

pub record Valid (ps : List ℕ) (Bs : List (Block Terminal)) : Type 0 where
  pub once : (x : ℕ) → count x ps + total (λ B. count x (assigned_in B)) Bs ≤ 1
  pub clean : (block_at Bs 0).phis ≡ []
  pub code_used : (b : ℕ) (h : List ℕ) → Path (graph_of Bs) (b ∷ h) → (before : List Instruction) (i : Instruction) (after : List Instruction)
      → (block_at Bs b).code ≡ before ++ i ∷ after → (x : ℕ) → Mem x (reads i) → Mem x (assigned_by ps Bs b before h)
  pub terminal_used : (b : ℕ) (h : List ℕ) → Path (graph_of Bs) (b ∷ h) → (x : ℕ) → Mem x (terminal_reads (block_at Bs b).terminal)
      → Mem x (assigned_by ps Bs b (block_at Bs b).code h)
  pub named : (a : ℕ) (h : List ℕ) → Path (graph_of Bs) (a ∷ h) → (b : ℕ) → Mem b (graph_of Bs a) → (φ : Phi) → Mem φ (block_at Bs b).phis
      → (y : ℕ) × (operand_from a φ.operands ≡ Some y) × Mem y (assigned_on ps Bs (a ∷ h))

-- ---- what is known

-- what is known of each place is what is yielded for it
abbrev pub Justified : Knowledge → List ℕ → List (Option Known) → Type 0
Justified κ [] ys = Unit {0}
Justified κ (x ∷ xs) [] = ⊥
Justified κ (x ∷ xs) (y ∷ ys) = ((k : Known) → κ x ≡ Some k → y ≡ Some k) × Justified κ xs ys

pub record Just (c : Conversions) (T : List (List ℕ)) (κ : Knowledge) (ps : List ℕ) (Bs : List (Block Terminal)) : Type 0 where
  -- nothing is known of what the outside assigns
  pub outside : (x : ℕ) → Mem x ps → κ x ≡ None
  pub bound : (b x : ℕ) → Mem x (terminal_writes (block_at Bs b).terminal) → κ x ≡ None
  -- a phi is known as each of its operands is
  pub joined : (b : ℕ) (φ : Phi) → Mem φ (block_at Bs b).phis → (k : Known) → κ φ.place ≡ Some k → (o : _) → Mem o φ.operands → κ o.value ≡ Some k
  pub coded : (b : ℕ) (i : Instruction) → Mem i (block_at Bs b).code → Justified κ (writes i) (yields c T κ i)
