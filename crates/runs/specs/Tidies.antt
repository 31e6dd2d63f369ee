-- A tidy: predecessors are listed again, blocks that the entry no longer reaches are set aside, phi operands of lost predecessors are
-- dropped, and redundant phis are eliminated. Blocks that are set aside are left as they were.
use Rattle.std.specs.Prelude.{ℕ, zero, suc, cond, not, List, [], ◌∷◌, map, length, Some, None, Option, ◌==◌, nat_eq, slice_index_or}
use Rattle.hir.specs.Body.{Body, block_at, graph_of}
use Rattle.hir.specs.Graph.{walked}
use Rattle.hir.specs.Lists.{all, has, keep, mod_at, total}
use Rattle.hir.specs.Renaming.{renamed_instruction, renamed_terminal}
use Rattle.hir.specs.Script.{Block, Phi, Terminal}
use Rattle.runs.specs.Rounds.{standing_from}

-- ---- operands of lost predecessors

-- a block's phis with the operands of its predecessors alone
abbrev pub pruned : List ℕ → Block Terminal → Block Terminal
pruned predecessors B = record {
  kind = B.kind;
  phis = map (λ φ. record { place = φ.place; operands = keep (λ o. has o.block predecessors) φ.operands }) B.phis;
  code = B.code;
  terminal = B.terminal;
}

abbrev pub pruned_all : List ℕ → List (List ℕ) → List (Block Terminal) → List (Block Terminal)
pruned_all [] predecessors blocks = blocks
pruned_all (b ∷ bs) predecessors blocks = pruned_all bs predecessors (mod_at (pruned (slice_index_or predecessors b [])) b blocks)

-- ---- redundant phis

-- which identifier stands for one whose phi was eliminated
pub record Rewrite : Type 0 where
  pub old : ℕ
  pub new : ℕ

abbrev pub rewritten : List Rewrite → ℕ → ℕ
rewritten [] x = x
rewritten (r ∷ rs) x = cond (r.old == x) r.new (rewritten rs x)

abbrev pub rewritten_phi : List Rewrite → Phi → Phi
rewritten_phi rs φ = record {
  place = φ.place;
  operands = map (λ o. record { block = o.block; value = rewritten rs o.value }) φ.operands;
}

abbrev pub only_one : List ℕ → Option ℕ
only_one [] = None
only_one (y ∷ ys) = cond (all (nat_eq y) ys) (Some y) None

-- A phi is redundant if its operands, itself left out, are one identifier: that one.
abbrev pub redundant_for : Phi → Option ℕ
redundant_for φ = only_one (keep (λ y. not (y == φ.place)) (map (λ o. o.value) φ.operands))

-- what is left of phis, and the rewrites then
pub record Phis : Type 0 where
  pub kept : List Phi
  pub rewrites : List Rewrite

abbrev pub with_phi : Phi → Phis → Phis
with_phi φ p = record { kept = φ ∷ p.kept; rewrites = p.rewrites }

-- φ is eliminated in favour of another, or kept; then the others, with the rewrites so far
abbrev pub phi_tidied : Phi → Option ℕ → (List Rewrite → Phis) → List Rewrite → Phis
phi_tidied φ None others rs = with_phi φ (others rs)
phi_tidied φ (Some y) others rs = others (record { old = φ.place; new = y } ∷ rs)

-- Each phi is rewritten before it is looked at, so that the rewrites of those before it in its block count.
abbrev pub phis_tidied : List Phi → List Rewrite → Phis
phis_tidied [] rs = record { kept = []; rewrites = rs }
phis_tidied (φ ∷ φs) rs = phi_tidied (rewritten_phi rs φ) (redundant_for (rewritten_phi rs φ)) (phis_tidied φs) rs

pub record Elimination : Type 0 where
  pub blocks : List (Block Terminal)
  pub rewrites : List Rewrite

abbrev pub rewritten_block : Phis → Block Terminal → Block Terminal
rewritten_block p B = record {
  kind = B.kind;
  phis = p.kept;
  code = map (renamed_instruction (rewritten p.rewrites)) B.code;
  terminal = renamed_terminal (rewritten p.rewrites) B.terminal;
}

-- the phis of a block, then what its instructions and its terminal read
abbrev pub block_tidied : ℕ → Elimination → Elimination
block_tidied b e =
    let phis = phis_tidied (block_at e.blocks b).phis e.rewrites in
    record { blocks = mod_at (rewritten_block phis) b e.blocks; rewrites = phis.rewrites }

abbrev pub pass : List ℕ → Elimination → Elimination
pass [] e = e
pass (b ∷ bs) e = pass bs (block_tidied b e)

-- passes over the blocks bs until one eliminates nothing, and at most so many
abbrev pub passes : ℕ → List ℕ → Elimination → Elimination
passes zero bs e = e
passes (suc most) bs e =
    let after = pass bs e in
    let more = passes most bs after in
    cond (length after.rewrites == length e.rewrites) after more

-- Each pass but the last eliminates a phi.
abbrev pub eliminated : List ℕ → List (Block Terminal) → List (Block Terminal)
eliminated bs blocks = (passes (suc (total (λ B. length B.phis) blocks)) bs (record { blocks = blocks; rewrites = [] })).blocks

-- ---- the tidy

abbrev pub tidy : Body → Body
tidy B =
    let found = walked (length B.blocks) (graph_of B.blocks) in
    let bs = standing_from 0 found.entered in
    record {
      texts = B.texts;
      parameters = B.parameters;
      blocks = eliminated bs (pruned_all bs found.predecessors B.blocks);
      predecessors = found.predecessors;
      stands = found.entered;
      records = B.records;
      sealed_ifs = B.sealed_ifs;
      turned_ifs = B.turned_ifs;
    }
