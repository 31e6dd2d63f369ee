-- The Ifs of all blocks and those that were turned are together those that were sealed.
use Rattle.std.proofs.lemmas.Bool.{cond_both}
use Rattle.std.proofs.lemmas.List.Elements.{recursion_from_All}
use Rattle.std.proofs.Common.{◌≡◌, ℕ, zero, suc, ◌+◌, ◌≤◌, eqb, List, [], ◌∷◌, length, get_or, set, is_some, Some, None, Option, refl, ◌∙◌, add-zero, arith}
use Rattle.hir.specs.Body.{Body, Test, block_at, count_ifs, graph_of, if_of, sealing}
use Rattle.hir.specs.Graph.{walked}
use Rattle.hir.specs.Lists.{mod_at, total}
use Rattle.hir.specs.Renaming.{renamed_terminal}
use Rattle.hir.specs.Script.{Block, Script, Terminal}
use Rattle.runs.proofs.RoundSteps.{applied_keeps, round_keeps}
use Rattle.runs.specs.Calls.{Calls, Last, Stage, asking, begun, rounded, tidying}
use Rattle.runs.specs.Folds.{bind}
use Rattle.runs.specs.Rounds.{Evaluation, HostMeaning, Room, applied, evaluation, goto_of, known, standing, standing_from, turned, turned_to, with_code, with_terminal}
use Rattle.runs.specs.Tidies.{Elimination, block_tidied, eliminated, pass, passes, pruned, pruned_all, tidy}
use Rattle.std.specs.Option.{option_map}

pub record Counted (B : Body) : Type 0 where
  pub all : count_ifs B.blocks + B.turned_ifs ≡ B.sealed_ifs

-- ---- changes of one block

count_same : (f : Block Terminal → Block Terminal) → ((C : Block Terminal) → is_some (if_of (f C).terminal) ≡ is_some (if_of C.terminal))
    → (b : ℕ) (Bs : List (Block Terminal)) → count_ifs (mod_at f b Bs) ≡ count_ifs Bs
count_same f e b [] = refl
count_same f e zero (B ∷ Bs) = rw (e B)
count_same f e (suc b) (B ∷ Bs) = rw (count_same f e b Bs)

count-turned : (t : Terminal) → if_of t ≡ None → (b : ℕ) (Bs : List (Block Terminal)) (test : Test) → if_of (block_at Bs b).terminal ≡ Some test
    → suc (count_ifs (mod_at (with_terminal t) b Bs)) ≡ count_ifs Bs
count-turned t n b [] test e = cc
count-turned t n zero (B ∷ Bs) test e = rw (n, e) (omega arith)
count-turned t n (suc b) (B ∷ Bs) test e = omega (arith, count-turned t n b Bs test e)

-- ---- rounds

applied_counted : (room : Room) (n b k : ℕ) (B : Body) (c : Counted B) (e : Evaluation) → Counted (applied room n b k e B).body
applied_counted room n b k B c e =
    applied_keeps room n b k Counted (λ t C p. record { all = p.all })
    (λ records j C p. record { all = rw (count_same (λ D. with_code (set D.code k j) D) (λ D. refl) b C.blocks) p.all }) e B c

turned_counted : (b : ℕ) (B : Body) → Counted B → Counted (turned b B)
turned_counted b B c = by (if_of (block_at B.blocks b).terminal) refl
  where
    by : (o : Option Test) → if_of (block_at B.blocks b).terminal ≡ o → Counted (turned_to b (bind o (λ test. option_map (goto_of test) (known B test.test))) B)
    by None e = c
    by (Some test) e =
        elim (known B test.test) as (λ v. Counted (turned_to b (option_map (goto_of test) v) B)) [
          | None ↦ c
          | Some v ↦ record { all = omega (arith, count-turned (goto_of test v) refl b B.blocks test e) }
        ]

-- ---- tidies

renamed_if : (f : ℕ → ℕ) (t : Terminal) → is_some (if_of (renamed_terminal f t)) ≡ is_some (if_of t)
renamed_if f t = grind arith

pruned_count : (bs : List ℕ) (ps : List (List ℕ)) (Bs : List (Block Terminal)) → count_ifs (pruned_all bs ps Bs) ≡ count_ifs Bs
pruned_count [] ps Bs = refl
pruned_count (b ∷ bs) ps Bs = pruned_count bs ps (mod_at (pruned (get_or ps b [])) b Bs) ∙ count_same (pruned (get_or ps b [])) (λ C. refl) b Bs

pass_count : (bs : List ℕ) (e : Elimination) → count_ifs (pass bs e).blocks ≡ count_ifs e.blocks
pass_count [] e = refl
pass_count (b ∷ bs) e = pass_count bs (block_tidied b e) ∙ count_same _ (λ C. renamed_if _ C.terminal) b e.blocks

passes_count : (most : ℕ) (bs : List ℕ) (e : Elimination) → count_ifs (passes most bs e).blocks ≡ count_ifs e.blocks
passes_count zero bs e = refl
passes_count (suc most) bs e =
    cond_both (eqb (length (pass bs e).rewrites) (length e.rewrites)) _ _ (λ (r : Elimination). count_ifs r.blocks ≡ count_ifs e.blocks)
    (λ h. pass_count bs e) (λ h. passes_count most bs (pass bs e) ∙ pass_count bs e)

tidy_counted : (B : Body) → Counted B → Counted (tidy B)
tidy_counted B c =
    let found = walked (length B.blocks) (graph_of B.blocks) in
    let bs = standing_from 0 found.entered in
    let Bs = pruned_all bs found.predecessors B.blocks in
    let same : count_ifs (eliminated bs Bs) ≡ count_ifs B.blocks = passes_count (suc (total (λ C. length C.phis) Bs)) bs (record { blocks = Bs; rewrites = [] }) ∙ pruned_count bs found.predecessors B.blocks in
    record { all = rw same c.all }

-- ---- all calls

calls_counted : (host : HostMeaning) (start : Body) → Counted start → (g : Stage) (now : Body) (l : Last) → Calls host start g now l → Counted now
calls_counted host start c g now l begun = c
calls_counted host start c g now l (rounded {B = B} {l = k} room cs z) =
    round_keeps host room Counted (λ b. Unit {0}) (λ b C q z p. record { all = p.all }) (λ n b k i rest C q e p. applied_counted room n b k C p (evaluation host C i))
    (λ b C q p. turned_counted b C p) B (recursion_from_All (λ b. Unit {0}) (standing B) (λ k b l. tt)) z (calls_counted host start c _ B k cs)
calls_counted host start c g now l (tidying {g = h} {B = B} {l = k} cs) = tidy_counted B (calls_counted host start c h B k cs)
calls_counted host start c g now l (asking {g = h} {B = B} {l = k} q cs) = calls_counted host start c h B k cs

pub turned_within : (identifiers : ℕ) (s : Script) (host : HostMeaning) (g : Stage) (now : Body) (l : Last)
    → Calls host (sealing identifiers s) g now l → now.turned_ifs ≤ now.sealed_ifs
turned_within identifiers s host g now l cs =
    omega (arith, (calls_counted host (sealing identifiers s) (record { all = add-zero _ }) g now l cs).all)
