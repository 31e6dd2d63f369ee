-- In a valid body an identifier is assigned at one position: by one phi, one instruction, or from outside.
use Rattle.std.proofs.Common.{◌≡◌, ℕ, zero, suc, ◌+◌, ◌≤◌, List, [], ◌∷◌, ◌++◌, refl, ap, inl, inr, arith}
use Rattle.hir.proofs.Members.{count-append, mem-count}
use Rattle.hir.specs.Body.{block_at}
use Rattle.hir.specs.Lists.{Mem, count, flat_map, total}
use Rattle.hir.specs.Places.{terminal_writes, writes}
use Rattle.hir.specs.Script.{Block, Instruction, Terminal}
use Rattle.runs.proofs.ValidBodies.{Valid, assigned_in, flat_append, phi_places}
use Rattle.std.proofs.lemmas.Bool.{cases_eq}

total_one : (f : Block Terminal → ℕ) → f (block_at [] 0) ≡ 0 → (Bs : List (Block Terminal)) (b : ℕ) → f (block_at Bs b) ≤ total f Bs
total_one f z [] b = omega arith
total_one f z (B ∷ Bs) zero = omega arith
total_one f z (B ∷ Bs) (suc b) = omega (arith, total_one f z Bs b)

total_two : (f : Block Terminal → ℕ) → f (block_at [] 0) ≡ 0 → (Bs : List (Block Terminal)) (b c : ℕ) → (b ≡ c → ⊥) → f (block_at Bs b) + f (block_at Bs c) ≤ total f Bs
total_two f z [] b c n = omega arith
total_two f z (B ∷ Bs) zero zero n = absurd (n refl)
total_two f z (B ∷ Bs) zero (suc c) n = omega (arith, total_one f z Bs c)
total_two f z (B ∷ Bs) (suc b) zero n = omega (arith, total_one f z Bs b)
total_two f z (B ∷ Bs) (suc b) (suc c) n = omega (arith, total_two f z Bs b c (λ e. n (ap suc e)))

module _ (ps : List ℕ) (Bs : List (Block Terminal)) (valid : Valid ps Bs) where
  -- how often x is assigned from outside and in a block, part by part
  parts : (x b : ℕ) → count x ps + (count x (phi_places (block_at Bs b)) + (count x (flat_map writes (block_at Bs b).code) + count x (terminal_writes (block_at Bs b).terminal))) ≤ 1
  parts x b =
      omega (arith, count-append, total_one (λ B. count x (assigned_in B)) refl Bs b, valid.once x)

  pub one_block : (x b c : ℕ) → Mem x (assigned_in (block_at Bs b)) → Mem x (assigned_in (block_at Bs c)) → b ≡ c
  one_block x b c m n =
      elim (cases_eq b c) [
        | inl e ↦ e
        | inr ne ↦ absurd (omega (arith, mem-count, total_two (λ B. count x (assigned_in B)) refl Bs b c ne, valid.once x))
      ]

  pub not_outside : (x b : ℕ) → Mem x ps → Mem x (assigned_in (block_at Bs b)) → ⊥
  not_outside x b m n =
      omega (arith, mem-count, count-append, parts x b)

  -- where an instruction writes x, nothing else of its block does
  pub one_instruction : (x b : ℕ) (before : List Instruction) (i : Instruction) (after : List Instruction) → (block_at Bs b).code ≡ before ++ i ∷ after → Mem x (writes i)
      → (Mem x (phi_places (block_at Bs b)) → ⊥) × (Mem x (flat_map writes before) → ⊥) × (Mem x (flat_map writes after) → ⊥) × (Mem x (terminal_writes (block_at Bs b).terminal) → ⊥)
  one_instruction x b before i after e m =
      let p = parts x b in
      let f : flat_map writes (block_at Bs b).code ≡ flat_map writes before ++ (writes i ++ flat_map writes after) = rw (e, flat_append writes before (i ∷ after)) in
      let g = ap (count x) f in
      ((λ n. omega (arith, mem-count, count-append)), (λ n. omega (arith, mem-count, count-append)), (λ n. omega (arith, mem-count, count-append)), (λ n. omega (arith, mem-count, count-append)))

  -- a phi's place is written by no instruction of its block, nor by its terminal
  pub no_writer : (x b : ℕ) → Mem x (phi_places (block_at Bs b)) → (Mem x (flat_map writes (block_at Bs b).code) → ⊥) × (Mem x (terminal_writes (block_at Bs b).terminal) → ⊥)
  no_writer x b m =
      let p = parts x b in
      ((λ n. omega (arith, mem-count)), (λ n. omega (arith, mem-count)))

  -- no two phis of a block have one place
  pub one_phi : (x b : ℕ) → count x (phi_places (block_at Bs b)) ≤ 1
  one_phi x b = omega (arith, parts x b)
