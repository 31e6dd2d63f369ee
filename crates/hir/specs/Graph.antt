-- Blocks as a graph: how many there are, and where each leads. Paths from the entry, which is block 0, and the predecessors of each
-- block in the order in which a depth-first walk finds them.
use Rattle.std.specs.Prelude.{ℕ, zero, suc, Bool, true, false, cond, List, [], ◌∷◌, ◌++◌, replicate, slice_index_or, slice_set}
use Rattle.hir.specs.Lists.{Mem, has, mod_at}

-- where each block leads, in order
abbrev pub Graph : Type 0
Graph = ℕ → List ℕ

-- a path from the entry to its first element: the last block stands first
pub data Path (g : Graph) : List ℕ → Type 0 where
  entry : Path g (0 ∷ [])
  along : {a b : ℕ} {h : List ℕ} → Path g (a ∷ h) → Mem b (g a) → Path g (b ∷ a ∷ h)

-- some path leads to b
abbrev pub Reached : Graph → ℕ → Type 0
Reached g b = (h : List ℕ) × Path g (b ∷ h)

-- ---- the walk from the entry: into each successor in order, before the next one

-- which blocks have been entered, and the predecessors that were found of each
pub record Walk : Type 0 where
  pub entered : List Bool
  pub predecessors : List (List ℕ)

-- a is noted as a predecessor of b, once
abbrev pub noted : ℕ → ℕ → Walk → Walk
noted a b w = record {
  entered = w.entered;
  predecessors = mod_at (λ found. cond (has a found) found (found ++ a ∷ [])) b w.predecessors;
}

abbrev pub enter : ℕ → Walk → Walk
enter b w = record { entered = slice_set w.entered b true; predecessors = w.predecessors }

-- from a into each of the blocks bs, where `go` walks on from a block that is entered for the first time
abbrev pub each : (ℕ → Walk → Walk) → ℕ → List ℕ → Walk → Walk
each go a [] w = w
each go a (b ∷ bs) w =
    let next = noted a b w in
    let fresh = go b (enter b next) in
    each go a bs (cond (slice_index_or w.entered b false) next fresh)

-- No walk is deeper than there are blocks, since each step down enters a new one.
abbrev pub walk : Graph → ℕ → ℕ → Walk → Walk
walk g zero a w = w
walk g (suc depth) a w = each (walk g depth) a (g a) w

abbrev pub walked : ℕ → Graph → Walk
walked n g = walk g n 0 (enter 0 (record { entered = replicate n false; predecessors = replicate n [] }))
