-- What every step of a round keeps, a whole round keeps.
use Rattle.std.proofs.Common.{◌∙◌, ◌≡◌, ℕ, zero, suc, false, List, [], ◌∷◌, ◌++◌, drop, set, Some, None, Option, sym, refl, append-nil, le_refl, drop-set-lt, add-one}
use Rattle.ecma.specs.Value.{Primitive}
use Rattle.ecma.specs.Value as value
use Rattle.hir.specs.Body.{Body, Constant, block_at}
use Rattle.hir.specs.declared.block.BlockKind.{BlockKind}
use Rattle.hir.specs.declared.block.BlockKind.TheVariants as kind
use Rattle.hir.specs.declared.parts.Span.{Span}
use Rattle.hir.specs.Lists.{any, mod_at}
use Rattle.hir.specs.Script.{Block, Instruction, Terminal}
use Rattle.runs.specs.Rounds.{Evaluation, HostMeaning, Progress, Room, all_but_last, applied, block_folded, blocks_folded, both_zeros_in, code_evaluated, contents_folded, evaluated, evaluated_code, evaluation, fits, folded_to, going_on, replaced, with_records, with_text, has_both_zeros, meets_both_zeros, phis_recorded, resumed, round, standing, turned, with_code}
use Rattle.runs.specs.Rounds.{left, found, folded}
use Rattle.std.proofs.lemmas.Bool.{cond_both, or_from, or_parts}
use Rattle.std.proofs.lemmas.List.{drop-drop}
use Rattle.std.specs.List.{AllByRecursion}

-- ---- reading a block of which one was changed

pub at_changed : (f : Block Terminal → Block Terminal) (b : ℕ) (Bs : List (Block Terminal)) → f (block_at [] 0) ≡ block_at [] 0
    → block_at (mod_at f b Bs) b ≡ f (block_at Bs b)
at_changed f b [] e = sym e
at_changed f zero (B ∷ Bs) e = refl
at_changed f (suc b) (B ∷ Bs) e = at_changed f b Bs e

abbrev pub code_of : Body → ℕ → List Instruction
code_of B b = (block_at B.blocks b).code

drop_more : {A : Type 0} (k : ℕ) (xs : List A) (x : A) (ys : List A) → drop k xs ≡ x ∷ ys → drop (suc k) xs ≡ ys
drop_more k xs x ys e = rw (← add-one k, ← drop-drop 1 k xs, e)

-- ---- an instruction's step

-- What an added text keeps, and new records with another instruction in the place of k, the whole step keeps.
module _ (room : Room) (n b k : ℕ) (P : Body → Type 0) (text_added : (t : List ℕ) (B : Body) → P B → P (with_text t B))
    (changed : (records : List (Option Constant)) (j : Instruction) (B : Body) → P B → P (with_records records (replaced b k j B))) where
  folded_keeps : (x : ℕ) (s : Option Span) (v : Primitive) (B : Body) → P B → P (folded_to room n b k x s v B).body
  folded_keeps x s (value.string t) B p = cond_both (fits room B.texts t) _ _ (λ (q : Progress). P q.body) (λ e. changed _ _ (with_text t B) (text_added t B p)) (λ e. p)
  folded_keeps x s v B p = changed _ _ B p

  pub applied_keeps : (e : Evaluation) (B : Body) → P B → P (applied room n b k e B).body
  applied_keeps left B p = p
  applied_keeps (found fs j) B p = changed _ j B p
  applied_keeps (folded x s v) B p = folded_keeps x s v B p

-- ---- it changes no later instruction of its block

replaced_rest : (b k : ℕ) (j : Instruction) (Bs : List (Block Terminal))
    → drop (suc k) (block_at (mod_at (λ C. with_code (set C.code k j) C) b Bs) b).code ≡ drop (suc k) (block_at Bs b).code
replaced_rest b k j Bs = rw (at_changed _ b Bs refl) (drop-set-lt (suc k) (block_at Bs b).code k j (le_refl (suc k)))

applied_rest : (room : Room) (n b k : ℕ) (B : Body) (e : Evaluation) → drop (suc k) (code_of (applied room n b k e B).body b) ≡ drop (suc k) (code_of B b)
applied_rest room n b k B e =
    applied_keeps room n b k (λ C. drop (suc k) (code_of C b) ≡ drop (suc k) (code_of B b)) (λ t C p. p) (λ records j C p. replaced_rest b k j C.blocks ∙ p) e B refl

-- ---- the instructions that are evaluated are the first of the block

but_last : (is : List Instruction) → (tail : List Instruction) × (is ≡ all_but_last is ++ tail)
but_last [] = ([], refl)
but_last (i ∷ []) = (i ∷ [], refl)
but_last (i ∷ j ∷ is) = let r = but_last (j ∷ is) in (r.0, cc r.1)

evaluated_first : (g : BlockKind) (is : List Instruction) → (tail : List Instruction) × (is ≡ evaluated_code g is ++ tail)
evaluated_first kind.Sequence is = but_last is
evaluated_first g is = ([], sym (append-nil is))

-- ---- steps, blocks, rounds

-- P holds of a body, and each step keeps it, in blocks of which Q holds.
module _ (host : HostMeaning) (room : Room) (P : Body → Type 0) (Q : ℕ → Type 0)
    (phis : (b : ℕ) (B : Body) → Q b → any (has_both_zeros B) (block_at B.blocks b).phis ≡ false → P B → P (phis_recorded b B))
    (code : (n b k : ℕ) (i : Instruction) (rest : List Instruction) (B : Body) → Q b → drop k (code_of B b) ≡ i ∷ rest → P B → P (evaluated host room n b k i B).body)
    (turn : (b : ℕ) (B : Body) → Q b → P B → P (turned b B)) where
  code_steps : (b : ℕ) → Q b → (n k : ℕ) (is tail : List Instruction) (B : Body) (stop : Option ℕ) → P B → drop k (code_of B b) ≡ is ++ tail
      → P (code_evaluated host room n b k is (record { body = B; stop = stop })).body
  code_steps b q n k [] tail B stop p e = p
  code_steps b q n k (i ∷ is) tail B None p e =
      let after = evaluated host room n b k i B in
      code_steps b q (suc n) (suc k) is tail after.body after.stop (code n b k i (is ++ tail) B q e p)
      (rw (applied_rest room n b k B (evaluation host B i)) (drop_more k (code_of B b) i (is ++ tail) e))
  code_steps b q n k (i ∷ is) tail B (Some m) p e = code_steps b q (suc n) (suc k) is tail B (Some m) p (drop_more k (code_of B b) i (is ++ tail) e)

  block_steps : (b : ℕ) → Q b → (B : Body) (stop : Option ℕ) → both_zeros_in host room (b ∷ []) (record { body = B; stop = stop }) ≡ false → P B
      → P (block_folded host room b (record { body = B; stop = stop })).body
  block_steps b q B (Some m) z p = p
  block_steps b q B None z p = by contents.stop
    where
      contents : Progress
      contents = contents_folded host room b B

      first : (tail : List Instruction) × (code_of B b ≡ evaluated_code (block_at B.blocks b).kind (code_of B b) ++ tail)
      first = evaluated_first (block_at B.blocks b).kind (code_of B b)

      done : P contents.body
      done = code_steps b q _ 0 _ first.0 (phis_recorded b B) None (phis b B q (or_parts _ _ z).0 p) first.1

      by : (stop : Option ℕ) → P (resumed (λ B. going_on (turned b B)) contents.body stop).body
      by None = turn b contents.body q done
      by (Some m) = done

  blocks_steps : (bs : List ℕ) → AllByRecursion Q bs → (p : Progress) → both_zeros_in host room bs p ≡ false → P p.body → P (blocks_folded host room bs p).body
  blocks_steps [] q p z h = h
  blocks_steps (b ∷ bs) q p z h =
      blocks_steps bs q.1 (block_folded host room b p) (or_parts _ _ z).1
      (block_steps b q.0 p.body p.stop (or_from _ _ (or_parts _ _ z).0 refl) h)

  pub round_keeps : (B : Body) → AllByRecursion Q (standing B) → meets_both_zeros host room B ≡ false → P B → P (round host room B).body
  round_keeps B q z h = blocks_steps (standing B) q (going_on B) z h
