-- A draft is accepted, or refused at a part, where lists of what every path brings are checked edge by edge.
use Rattle.std.proofs.Common.{◌≡◌, ℕ, Bool, true, false, not, ◌&&◌, ◌||◌, eqb, ltb, leb, List, [], ◌∷◌, ◌++◌, map, length, get_or, reverse, refl, inl, inr, arith}
use mathlib.Core.List.{reverse_aux}
use Rattle.hir.proofs.Members.{all_has, all_mem, has-mem, mem_left, mem_right}
use Rattle.hir.proofs.Standing.{inhabited}
use Rattle.hir.specs.Examples.{refusal}
use Rattle.hir.specs.Graph.{Path, along, entry}
use Rattle.hir.specs.Lists.{Mem, all, any, distinct, flat_map, has, total}
use Rattle.hir.specs.Places.{reads, writes}
use Rattle.hir.specs.Script.{Instruction, Script}
use Rattle.hir.specs.Seal.{Fault, First, FirstCause, Free, Part, SealAccepts, Unassigned, asks, assigned_along, assigned_by, assigned_in, blocks_of, causes, draft_block, draft_graph, draft_walk, lacks_terminal, leads, parts, site_of, successors_of, taken_from, takes_from}
use Rattle.hir.specs.Seal.{phi, instruction, terminal, end}
use Rattle.std.proofs.lemmas.Bool.Decides.{nat_tests}
use Rattle.std.proofs.lemmas.Bool.{agree_below, agree_below_at, and_parts, eqb-true, or_cases}
use Rattle.std.specs.List.{AllByRecursion}
use Rattle.table.specs.declared.refusal.Cause.{Cause}
use Rattle.table.specs.declared.refusal.Cause.TheVariants.{TableFull, NamesNothing, NoTerminal, AssignedTwice, PhiOperands, EdgeBack, UseBeforeDefinition}

-- For each block: identifiers that are assigned before it on every path, and blocks that every path to it holds.
pub record Certificate : Type 0 where
  pub assigned : List (List ℕ)
  pub held : List (List ℕ)

abbrev pub assigned_at : Certificate → ℕ → List ℕ
assigned_at k b = get_or k.assigned b []

abbrev pub held_at : Certificate → ℕ → List ℕ
held_at k b = get_or k.held b []

-- ---- what every path brings

-- what block b has, or `done` holds
abbrev brings : Certificate → ℕ → List ℕ → ℕ → Bool
brings k b done x = has x (assigned_at k b) || has x done

abbrev holds : Certificate → ℕ → ℕ → ℕ → Bool
holds k a b d = eqb d b || has d (held_at k a)

-- each list is part of what the block before it has and adds, and the entry's has nothing but what is there at the start
abbrev pub linked : Certificate → Script → Bool
linked k s =
    (all (λ x. has x s.parameters) (assigned_at k 0) && all (λ d. eqb d 0) (held_at k 0))
    && agree_below (λ a. all (λ b. all (brings k a (assigned_in (draft_block s a))) (assigned_at k b) && all (holds k a b) (held_at k b)) (draft_graph s a)) (λ a. true) (length s.blocks)

-- ---- a test for each cause at each part, which passes where there is no fault

abbrev done_before : Script → ℕ → List Instruction → List ℕ
done_before s b before = map (λ φ. φ.place) (draft_block s b).phis ++ flat_map writes before

abbrev pub tested : ℕ → Certificate → Script → Cause → Part → List Part → Bool
tested room k s TableFull p earlier = not (ltb room (total (λ q. length (successors_of q)) (p ∷ earlier)))
tested room k s NamesNothing p earlier = not (any (λ b. leb (length s.blocks) b) (blocks_of p))
tested room k s NoTerminal p earlier = not (lacks_terminal p)
tested room k s AssignedTwice p earlier = distinct (flat_map assigned_by (p ∷ earlier))
tested room k s PhiOperands (phi b n φ) earlier =
    not (get_or (draft_walk s).entered b false && (eqb b 0 || not (takes_from (get_or (draft_walk s).predecessors b []) φ)))
tested room k s EdgeBack (terminal b t) earlier = all (λ c. leb b c || has c (held_at k b)) (leads t)
tested room k s UseBeforeDefinition (instruction b n before i) earlier = all (brings k b (done_before s b before)) (reads i)
tested room k s UseBeforeDefinition (terminal b t) earlier = all (brings k b (done_before s b (draft_block s b).code)) (asks t)
tested room k s UseBeforeDefinition (end b) earlier = all (brings k b (assigned_in (draft_block s b))) (flat_map (λ c. taken_from b (draft_block s c)) (draft_graph s b))
tested room k s c p earlier = true

abbrev pub tested_all : ℕ → Certificate → Script → Cause → (earlier ps : List Part) → Bool
tested_all room k s c earlier [] = true
tested_all room k s c earlier (p ∷ ps) = tested room k s c p earlier && tested_all room k s c (p ∷ earlier) ps

abbrev pub tested_causes : ℕ → Certificate → Script → List Cause → Bool
tested_causes room k s cs = all (λ c. tested_all room k s c [] (parts s)) cs

-- ---- what passes is free of faults

module _ (room : ℕ) (k : Certificate) (s : Script) (ok : linked k s ≡ true) where
  edge_linked : (a b : ℕ) → Mem b (draft_graph s a) → (all (brings k a (assigned_in (draft_block s a))) (assigned_at k b) ≡ true) × (all (holds k a b) (held_at k b) ≡ true)
  edge_linked a b m =
      let inside = inhabited s a (λ B. leads B.terminal) b refl m in
      and_parts _ _ (all_mem _ b (draft_graph s a) (agree_below_at _ (λ c. true) (length s.blocks) a (and_parts _ _ ok).1 inside) m)

  brought : (b : ℕ) (h done : List ℕ) (x : ℕ) → (Mem x (assigned_at k b) → Mem x (assigned_along s h)) → brings k b done x ≡ true → Mem x (done ++ assigned_along s h)
  brought b h done x on e = elim (or_cases _ _ e) [ inl t ↦ mem_right x done _ (on (has-mem x _ t)) | inr t ↦ mem_left x done _ (has-mem x done t) ]

  -- what the certificate says to be assigned before the last block of a path is assigned along what leads to it
  assigned_on : (b : ℕ) (h : List ℕ) → Path (draft_graph s) (b ∷ h) → (x : ℕ) → Mem x (assigned_at k b) → Mem x (assigned_along s h)
  assigned_on b h entry x m = all_has x (assigned_at k 0) s.parameters (and_parts _ _ (and_parts _ _ ok).0).0 m
  assigned_on b h (along {a = a} {b = c} {h = g} w e) x m =
      brought a g (assigned_in (draft_block s a)) x (assigned_on a g w x) (all_mem _ x (assigned_at k b) (edge_linked a b e).0 m)

  held_on : (b : ℕ) (h : List ℕ) → Path (draft_graph s) (b ∷ h) → (d : ℕ) → Mem d (held_at k b) → Mem d (b ∷ h)
  held_on b h entry d m = inl (eqb-true d 0 (all_mem _ d (held_at k 0) (and_parts _ _ (and_parts _ _ ok).0).1 m))
  held_on b h (along {a = a} {b = c} {h = g} w e) d m =
      let held = all_mem (holds k a b) d (held_at k b) (edge_linked a b e).1 m in grind (arith, nat_tests, has-mem, held_on a g w)

  uses_sound : (b : ℕ) (done xs : List ℕ) → all (brings k b done) xs ≡ true → Unassigned s b xs (λ h. done ++ assigned_along s h) → ⊥
  uses_sound b done xs e (h, w, (x, m, not_in)) = not_in (brought b h done x (assigned_on b h w x) (all_mem _ x xs e m))

  sound : (c : Cause) (p : Part) (earlier : List Part) → tested room k s c p earlier ≡ true → Fault room s c p earlier → ⊥
  sound EdgeBack (terminal b t) earlier e (h, w, (c, l, m, not_in)) =
      let held = all_mem (λ d. leb b d || has d (held_at k b)) c (leads t) e m in grind (arith, nat_tests, has-mem, held_on b h w)
  sound UseBeforeDefinition (instruction b n before i) earlier e f = uses_sound b (done_before s b before) (reads i) e f
  sound UseBeforeDefinition (terminal b t) earlier e f = uses_sound b (done_before s b (draft_block s b).code) (asks t) e f
  sound UseBeforeDefinition (end b) earlier e f = uses_sound b (assigned_in (draft_block s b)) _ e f
  sound c p earlier e f = grind arith

  -- ---- all parts, all causes

  free_by : (c : Cause) (earlier ps : List Part) → tested_all room k s c earlier ps ≡ true → Free room s c earlier ps
  free_by c earlier [] e = tt
  free_by c earlier (p ∷ ps) e = (sound c p earlier (and_parts _ _ e).0, free_by c (p ∷ earlier) ps (and_parts _ _ e).1)

  all_free : (cs : List Cause) → tested_causes room k s cs ≡ true → AllByRecursion (λ c. Free room s c [] (parts s)) cs
  all_free [] e = tt
  all_free (c ∷ cs) e = (free_by c [] (parts s) (and_parts _ _ e).0, all_free cs (and_parts _ _ e).1)

  pub accepted : tested_causes room k s causes ≡ true → SealAccepts room s
  accepted e = all_free causes e

  first_by : (c : Cause) (earlier front : List Part) (p : Part) (rest : List Part) → tested_all room k s c earlier front ≡ true
      → Fault room s c p (reverse_aux front earlier) → First room s c earlier (front ++ p ∷ rest) (refusal c (site_of p))
  first_by c earlier [] p rest e f = inl (f, record { row = refl; layer = refl; site = refl })
  first_by c earlier (q ∷ front) p rest e f =
      inr (sound c q earlier (and_parts _ _ e).0, first_by c (q ∷ earlier) front p rest (and_parts _ _ e).1 f)

  -- causes before c apply nowhere, c applies at p, and at no part in front of it
  pub refused : (higher : List Cause) (c : Cause) (lower : List Cause) (front : List Part) (p : Part) (rest : List Part)
      → tested_causes room k s higher ≡ true → tested_all room k s c [] front ≡ true → parts s ≡ front ++ p ∷ rest
      → Fault room s c p (reverse front) → FirstCause room s (higher ++ c ∷ lower) (refusal c (site_of p))
  refused [] c lower front p rest h e is f = inl (rw is (first_by c [] front p rest e f))
  refused (d ∷ higher) c lower front p rest h e is f =
      inr (free_by d [] (parts s) (and_parts _ _ h).0, refused higher c lower front p rest (and_parts _ _ h).1 e is f)
