-- In an accepted draft each identifier is assigned at one position at the most.
use Rattle.std.proofs.Common.{◌≡◌, ℕ, suc, ◌+◌, ◌≤◌, List, [], ◌∷◌, ◌++◌, map, length, Option, refl, arith}
use Rattle.hir.proofs.Members.{count-append, distinct-count}
use Rattle.hir.specs.Lists.{count, flat_map, numbered, total}
use Rattle.hir.specs.Places.{writes}
use Rattle.hir.specs.Script.{Block, Instruction, Script, Terminal}
use Rattle.hir.specs.Seal.{Free, Part, assigned_by, assigned_in, block_parts, instruction_parts, parameter, parts, phi}
use Rattle.std.proofs.lemmas.Bool.{true_from_ne_false}
use Rattle.std.proofs.lemmas.Grind.{common_steps}
use Rattle.std.proofs.lemmas.List.{map-id}
use Rattle.std.proofs.lemmas.List.Recursion.{is_sum_by}
use Rattle.table.specs.declared.refusal.Cause.TheVariants.{AssignedTwice}

-- ---- sums of counts

total-append : {A : Type 0} (f : A → ℕ) (xs ys : List A) → total f (xs ++ ys) ≡ total f xs + total f ys
total-append f xs ys = grind (arith, common_steps, is_sum_by (total f) f refl (λ _ _. refl))

count-flat : {A : Type 0} (x : ℕ) (f : A → List ℕ) (xs : List A) → count x (flat_map f xs) ≡ total (λ a. count x (f a)) xs
count-flat x f [] = refl
count-flat x f (a ∷ xs) = omega (arith, count-flat x f xs, count-append x (f a) (flat_map f xs))

module _ (x : ℕ) where
  abbrev at : Part → ℕ
  at p = count x (assigned_by p)

  -- parts that each assign one identifier
  numbered_at : {A : Type 0} (f : ℕ → A → Part) (place : A → ℕ) → ((n : ℕ) (a : A) → assigned_by (f n a) ≡ place a ∷ []) → (n : ℕ) (ys : List A)
      → total at (numbered f n ys) ≡ count x (map place ys)
  numbered_at f place one n [] = refl
  numbered_at f place one n (y ∷ ys) = let ih = numbered_at f place one (suc n) ys in rw (one n y) (omega arith)

  code_at : (b n : ℕ) (before is : List Instruction) → total at (instruction_parts b n before is) ≡ count x (flat_map writes is)
  code_at b n before [] = refl
  code_at b n before (i ∷ is) = omega (arith, code_at b (suc n) (before ++ i ∷ []) is, count-append x (writes i) (flat_map writes is))

  blocks_at : (b p i : ℕ) (Bs : List (Block (Option Terminal))) → total at (block_parts b p i Bs) ≡ total (λ B. count x (assigned_in B)) Bs
  blocks_at b p i [] = refl
  blocks_at b p i (B ∷ Bs) =
      let phis = numbered_at (phi b) (λ φ. φ.place) (λ n φ. refl) p B.phis in
      let code = code_at b i [] B.code in
      let ih = blocks_at (suc b) (p + length B.phis) (i + length B.code) Bs in
      grind (arith, total-append at, count-append x)

  -- ps and the parts before them assign x once at the most, since at each part all assignments so far are distinct
  once : (room : ℕ) (s : Script) (e ps : List Part) → total at e ≤ 1 → Free room s AssignedTwice e ps → total at ps + total at e ≤ 1
  once room s e [] l f = omega arith
  once room s e (p ∷ ps) l f =
      grind (arith, distinct-count x (flat_map assigned_by (p ∷ e)), true_from_ne_false, count-flat x assigned_by (p ∷ e), once room s (p ∷ e) ps)

pub assigned_once : (room : ℕ) (s : Script) → Free room s AssignedTwice [] (parts s) → (x : ℕ) → count x s.parameters + total (λ B. count x (assigned_in B)) s.blocks ≤ 1
assigned_once room s f x =
    let own = rw (map-id s.parameters) at (numbered_at x parameter (λ y. y) (λ n y. refl) 0 s.parameters) in
    let all = total-append (at x) (numbered parameter 0 s.parameters) (block_parts 0 0 0 s.blocks) in
    omega (arith, once x room s [] (parts s) (omega arith) f, own, all, blocks_at x 0 0 0 s.blocks)
