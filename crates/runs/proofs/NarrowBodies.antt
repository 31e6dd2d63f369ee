-- A body stays valid where its blocks assign what they did, read no more and lead no further.
use Rattle.std.proofs.Common.{◌≡◌, ℕ, suc, List, [], ◌∷◌, ◌++◌, length, refl, ap, ◌∙◌, arith}
use Rattle.hir.specs.Body.{block_at, graph_of}
use Rattle.hir.specs.Graph.{Path, along, entry}
use Rattle.hir.specs.Lists.{Mem, count, flat_map, total}
use Rattle.hir.specs.Places.{reads, successors, terminal_reads, terminal_writes, writes}
use Rattle.hir.specs.Script.{Block, Instruction, Terminal}
use Rattle.std.specs.List.{AllZip}
use Rattle.runs.proofs.Monotone.{zip_self}
use Rattle.runs.proofs.ValidBodies.{Valid, assigned_in, assigned_on}

pub record NarrowStep (i j : Instruction) : Type 0 where
  pub writing : writes j ≡ writes i
  pub reading : (x : ℕ) → Mem x (reads j) → Mem x (reads i)

abbrev pub NarrowCode : List Instruction → List Instruction → Type 0
NarrowCode is js = AllZip NarrowStep is js

pub record NarrowBlock (B C : Block Terminal) : Type 0 where
  pub same_phis : C.phis ≡ B.phis
  pub code : NarrowCode B.code C.code
  pub binding : terminal_writes C.terminal ≡ terminal_writes B.terminal
  pub asking : (x : ℕ) → Mem x (terminal_reads C.terminal) → Mem x (terminal_reads B.terminal)
  pub leading : (a : ℕ) → Mem a (successors C.terminal) → Mem a (successors B.terminal)

pub same_step : (i : Instruction) → NarrowStep i i
same_step i = record { writing = refl; reading = λ x m. m }

pub same_code : (is : List Instruction) → NarrowCode is is
same_code is = zip_self NarrowStep same_step is

pub same_block : (B : Block Terminal) → NarrowBlock B B
same_block B = record { same_phis = refl; code = same_code B.code; binding = refl; asking = λ x m. m; leading = λ a m. m }

code_writes : (is js : List Instruction) → NarrowCode is js → flat_map writes js ≡ flat_map writes is
code_writes [] [] n = refl
code_writes (i ∷ is) (j ∷ js) n = rw (n.0.writing, code_writes is js n.1)
code_writes is js n = absurd n

-- an instruction of the narrower code, and the one in its place
split_code : (is before : List Instruction) (j : Instruction) (after : List Instruction) → NarrowCode is (before ++ j ∷ after)
    → (front : List Instruction) × (i : Instruction) × (back : List Instruction) × (is ≡ front ++ i ∷ back) × NarrowStep i j × (flat_map writes before ≡ flat_map writes front)
split_code [] [] j after n = absurd n
split_code [] (k ∷ before) j after n = absurd n
split_code (i ∷ is) [] j after n = ([], i, is, refl, n.0, refl)
split_code (i ∷ is) (k ∷ before) j after n =
    let r = split_code is before j after n.1 in
    (i ∷ r.0, r.1, r.2, cc r.3, r.4, rw (n.0.writing, r.5))

pub total_same : (f : Block Terminal → ℕ) (Bs Cs : List (Block Terminal)) → length Cs ≡ length Bs → ((b : ℕ) → f (block_at Cs b) ≡ f (block_at Bs b)) → total f Cs ≡ total f Bs
total_same f [] [] l e = refl
total_same f (B ∷ Bs) (C ∷ Cs) l e = omega (arith, total_same f Bs Cs (omega arith) (λ b. e (suc b)), e 0)
total_same f Bs Cs l e = absurd (omega arith)

module _ (ps : List ℕ) (Bs Cs : List (Block Terminal)) (long : length Cs ≡ length Bs) (narrow : (b : ℕ) → NarrowBlock (block_at Bs b) (block_at Cs b)) where
  pub assigned_same : (b : ℕ) → assigned_in (block_at Cs b) ≡ assigned_in (block_at Bs b)
  assigned_same b = rw ((narrow b).same_phis, code_writes (block_at Bs b).code (block_at Cs b).code (narrow b).code, (narrow b).binding)

  on_same : (h : List ℕ) → assigned_on ps Cs h ≡ assigned_on ps Bs h
  on_same [] = refl
  on_same (b ∷ h) = rw (assigned_same b, on_same h)

  pub path_wider : (h : List ℕ) → Path (graph_of Cs) h → Path (graph_of Bs) h
  path_wider h entry = entry
  path_wider h (along {a = a} {b = b} {h = g} p m) = along (path_wider (a ∷ g) p) ((narrow a).leading b m)

  pub narrowed : Valid ps Bs → Valid ps Cs
  narrowed v = record {
    once = λ x. omega (arith, total_same (λ B. count x (assigned_in B)) Bs Cs long (λ b. ap (count x) (assigned_same b)), v.once x);
    clean = (narrow 0).same_phis ∙ v.clean;
    code_used = λ b h p before j after e x m.
        (let n = split_code (block_at Bs b).code before j after (rw e at (narrow b).code) in
        rw ((narrow b).same_phis, n.5, on_same h) (v.code_used b h (path_wider (b ∷ h) p) n.0 n.1 n.2 n.3 x (n.4.reading x m)));
    terminal_used = λ b h p x m.
        rw ((narrow b).same_phis, code_writes (block_at Bs b).code (block_at Cs b).code (narrow b).code, on_same h) (v.terminal_used b h (path_wider (b ∷ h) p) x ((narrow b).asking x m));
    named = λ a h p b edge φ m.
        (let r = v.named a h (path_wider (a ∷ h) p) b ((narrow a).leading b edge) φ (rw (narrow b).same_phis at m) in
        (r.0, r.1, rw (on_same (a ∷ h)) r.2));
  }
