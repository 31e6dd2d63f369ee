-- Where the parts of a draft stand: each phi, instruction, terminal and end of each block is one of them.
use Rattle.std.proofs.Common.{◌≡◌, ℕ, zero, suc, ◌+◌, ◌<◌, List, [], ◌∷◌, ◌++◌, length, get_or, Option, None, refl, ap, inl, inr, append_assoc, append-nil, add-zero, zero-add, arith}
use Rattle.hir.specs.declared.block.BlockKind.TheVariants as kind
use Rattle.std.proofs.lemmas.Bool.{cases_lt}
use Rattle.std.proofs.lemmas.List.{get_or_past}
use Rattle.hir.proofs.Members.{mem_left, mem_right}
use Rattle.hir.specs.Lists.{Mem, numbered}
use Rattle.hir.specs.Script.{Block, Instruction, Phi, Script, Terminal}
use Rattle.hir.specs.Seal.{Fault, Free, Part, block_parts, draft_block, end, instruction, instruction_parts, parameter, parts, phi, terminal}
use Rattle.table.specs.declared.refusal.Cause.{Cause}

-- a cause that applies nowhere does not apply at a part, whatever is before it
pub free_at : (room : ℕ) (s : Script) (c : Cause) (e ps : List Part) → Free room s c e ps → (p : Part) → Mem p ps → (earlier : List Part) × (Fault room s c p earlier → ⊥)
free_at room s c e [] f p m = absurd m
free_at room s c e (q ∷ ps) f p (inl h) = (e, rw h f.0)
free_at room s c e (q ∷ ps) f p (inr m) = free_at room s c (q ∷ e) ps f.1 p m

-- ---- in a block

mem-numbered : (f : ℕ → Phi → Part) (a : ℕ) (φ : Phi) (φs : List Phi) → Mem φ φs → (n : ℕ) × Mem (f n φ) (numbered f a φs)
mem-numbered f a φ [] m = absurd m
mem-numbered f a φ (ψ ∷ φs) (inl e) = (a, inl (ap (f a) e))
mem-numbered f a φ (ψ ∷ φs) (inr m) = let r = mem-numbered f (suc a) φ φs m in (r.0, inr r.1)

mem_instruction : (b n : ℕ) (front before : List Instruction) (i : Instruction) (after is : List Instruction) → is ≡ before ++ i ∷ after
    → (k : ℕ) × Mem (instruction b k (front ++ before) i) (instruction_parts b n front is)
mem_instruction b n front [] i after is e = (n, rw (e, append-nil front) (inl refl))
mem_instruction b n front (j ∷ before) i after is e =
    let r = mem_instruction b (suc n) (front ++ j ∷ []) before i after (before ++ i ∷ after) refl in
    (r.0, rw e (inr (rw (append_assoc front (j ∷ []) before) at r.1)))

-- the parts of block b among all, which begin at block a
abbrev pub Stands : ℕ → Block (Option Terminal) → List Part → Type 0
Stands b B ps =
    ((φ : Phi) → Mem φ B.phis → (n : ℕ) × Mem (phi b n φ) ps)
    × ((before : List Instruction) (i : Instruction) (after : List Instruction) → B.code ≡ before ++ i ∷ after → (n : ℕ) × Mem (instruction b n before i) ps)
    × Mem (terminal b B.terminal) ps
    × Mem (end b) ps

-- in more parts
stands_in : (b : ℕ) (B : Block (Option Terminal)) (ps qs : List Part) → ((q : Part) → Mem q ps → Mem q qs) → Stands b B ps → Stands b B qs
stands_in b B ps qs more st =
    ((λ φ m. let r = st.0 φ m in (r.0, more _ r.1)), (λ before i after h. let r = st.1 before i after h in (r.0, more _ r.1)), more _ st.2, more _ st.3)

block_stands : (a p i b : ℕ) (Bs : List (Block (Option Terminal))) → b < length Bs → (d : Block (Option Terminal)) → Stands (a + b) (get_or Bs b d) (block_parts a p i Bs)
block_stands a p i b [] l d = absurd (omega arith)
block_stands a p i zero (B ∷ Bs) l d =
    let front = numbered (phi a) p B.phis in
    let code = instruction_parts a i [] B.code in
    let rest = terminal a B.terminal ∷ end a ∷ block_parts (suc a) (p + length B.phis) (i + length B.code) Bs in
    rw (add-zero a) (
      (λ φ m. let r = mem-numbered (phi a) p φ B.phis m in (r.0, mem_left _ (front ++ code) rest (mem_left _ front code r.1))),
      (λ before j after h. let r = mem_instruction a i [] before j after B.code h in (r.0, mem_left _ (front ++ code) rest (mem_right _ front code r.1))),
      mem_right _ (front ++ code) rest (inl refl),
      mem_right _ (front ++ code) rest (inr (inl refl)),
    )
block_stands a p i (suc b) (B ∷ Bs) l d =
    let front = numbered (phi a) p B.phis ++ instruction_parts a i [] B.code in
    let tail = block_parts (suc a) (p + length B.phis) (i + length B.code) Bs in
    let next : a + suc b ≡ suc a + b = omega arith in
    rw next
    (stands_in (suc a + b) (get_or Bs b d) tail (front ++ terminal a B.terminal ∷ end a ∷ tail) (λ q m. mem_right q front (terminal a B.terminal ∷ end a ∷ tail) (inr (inr m)))
    (block_stands (suc a) (p + length B.phis) (i + length B.code) b Bs (omega arith) d))

-- each part of block b is a part of the draft
pub stands : (s : Script) (b : ℕ) → b < length s.blocks → Stands b (draft_block s b) (parts s)
stands s b l =
    let rest = block_parts 0 0 0 s.blocks in
    let st : Stands (0 + b) (draft_block s b) rest = block_stands 0 0 0 b s.blocks l _ in
    stands_in b (draft_block s b) rest (parts s) (λ q m. mem_right q (numbered parameter 0 s.parameters) rest m) (rw (zero-add b) at st)

-- where a block has something that the blank one past the last lacks, it is one of the draft's
pub inhabited : {A : Type 0} (s : Script) (b : ℕ) (f : Block (Option Terminal) → List A) (x : A)
    → f (record { kind = kind.Block; phis = []; code = []; terminal = None }) ≡ [] → Mem x (f (draft_block s b)) → b < length s.blocks
inhabited s b f x none m = elim (cases_lt b (length s.blocks)) [ inl l ↦ l | inr l ↦ absurd (rw none at (rw (get_or_past s.blocks b _ l) at m)) ]
