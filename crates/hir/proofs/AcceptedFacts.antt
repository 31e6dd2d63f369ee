-- What it says of a script that the seal accepts it.
use Rattle.std.proofs.Common.{◌≡◌, ℕ, ◌<◌, Bool, true, false, eqb, leb, List, [], ◌∷◌, map, length, get_or, Some, Option, sym, refl, subst, inl, inr, arith}
use Rattle.hir.proofs.AssignedOnce.{assigned_once}
use Rattle.hir.proofs.Members.{all_has, mem-flat, mem_left, mem_right, not_missing}
use Rattle.hir.proofs.Standing.{free_at, inhabited, stands}
use Rattle.hir.proofs.Walks.{Entered, found_precedes, precedes_found, reached_entered}
use Rattle.hir.specs.Accepted.{Accepted, Forward, TakesEach}
use Rattle.hir.specs.Graph.{Graph, Path, Reached, along, entry}
use Rattle.hir.specs.Lists.{Mem, all, any, distinct, has, numbered}
use Rattle.hir.specs.Script.{Phi, Script, Terminal}
use Rattle.hir.specs.Seal.{Fault, Part, SealAccepts, Unassigned, asks, draft_block, draft_graph, draft_walk, further, leads, names, parameter, parts, takes_from, terminal}
use Rattle.std.proofs.lemmas.List.{nil_from_length}
use Rattle.std.proofs.lemmas.Bool.{and_parts, cases_order, false_from_ne_true, leb-false, true≢false}
use Rattle.table.specs.declared.refusal.Cause.{Cause}
use Rattle.table.specs.declared.refusal.Cause.TheVariants.{TableFull, EdgeBack, NamesNothing, NoTerminal, PhiOperands, UseBeforeDefinition}

-- ---- blocks by their numbers

any_not : (p : ℕ → Bool) (x : ℕ) (xs : List ℕ) → any p xs ≡ false → Mem x xs → p x ≡ false
any_not p x [] e m = absurd m
any_not p x (y ∷ ys) e m = grind (arith, any_not p x ys)

-- from a number past the last block nothing leads on
edge_inside : (s : Script) (a b : ℕ) → Mem b (draft_graph s a) → a < length s.blocks
edge_inside s a b m = inhabited s a (λ B. leads B.terminal) b refl m

-- a successor is a block that the terminal names
leads_named : (o : Option Terminal) (b : ℕ) → Mem b (leads o) → Mem b (names o)
leads_named o b m = grind (arith, mem_left)

-- ---- paths that only go forward

module _ (g : Graph) (back : (b : ℕ) (h : List ℕ) → Path g (b ∷ h) → (c : ℕ) → Mem c (g b) → c < b → Mem c (b ∷ h)) where
  abbrev Ahead : ℕ → Type 0
  Ahead b = (h : List ℕ) × Path g (b ∷ h) × Forward (b ∷ h)

  cut : (a : ℕ) (h : List ℕ) → Path g (a ∷ h) → Forward (a ∷ h) → (b : ℕ) → Mem b (a ∷ h) → Ahead b
  cut a h p f b (inl e) = subst Ahead (sym e) (h, p, f)
  cut a h entry f b (inr m) = absurd m
  cut a h (along {a = c} {b = d} {h = k} q n) f b (inr m) = cut c k q f.1 b m

  goes_forward : (b : ℕ) (h : List ℕ) → Path g (b ∷ h) → Ahead b
  goes_forward b h entry = ([], entry, tt)
  goes_forward b h (along {a = a} {b = d} {h = j} w m) =
      let ih = goes_forward a j w in
      elim (cases_order a b) [
        | inl e ↦ subst Ahead e ih
        | inr (inl l) ↦ (a ∷ ih.0, along ih.1 m, (l, ih.2))
        | inr (inr l) ↦ cut a ih.0 ih.1 ih.2 b (back a ih.0 ih.1 b m l)
      ]

-- ---- the facts, one by one

module _ (room : ℕ) (s : Script) (ok : SealAccepts room s) where
  abbrev g : Graph
  g = draft_graph s

  -- no cause applies at a part
  never : (c : Cause) (p : Part) → Mem p (parts s) → (earlier : List Part) × (Fault room s c p earlier → ⊥)
  never TableFull p m = free_at room s TableFull [] (parts s) (search ok) p m
  never c p m = free_at room s c [] (parts s) (search ok) p m

  has_entry : 0 < length s.blocks
  has_entry = grind (arith, never NoTerminal (further 0), mem_right (further 0) (numbered parameter 0 s.parameters), nil_from_length s.blocks)

  has_terminal : (b : ℕ) → b < length s.blocks → (t : Terminal) × ((draft_block s b).terminal ≡ Some t)
  has_terminal b l = let f = (never NoTerminal _ (stands s b l).2).1 in grind arith

  inside : (a b : ℕ) → Mem b (g a) → b < length s.blocks
  inside a b m =
      let f = never NamesNothing (terminal a (draft_block s a).terminal) (stands s a (edge_inside s a b m)).2 in
      let named = leads_named (draft_block s a).terminal b m in
      leb-false (length s.blocks) b (any_not (λ c. leb (length s.blocks) c) b _ (false_from_ne_true _ f.1) named)

  entered : (b : ℕ) → Reached g b → Entered (draft_walk s) b
  entered b r = reached_entered (length s.blocks) g inside has_entry b r

  -- a phi of a reached block is none of the entry, and takes from the predecessors that the walk finds
  phi_fits : (b : ℕ) → Reached g b → (φ : Phi) → Mem φ (draft_block s b).phis
      → (eqb b 0 ≡ false) × (takes_from (get_or (draft_walk s).predecessors b []) φ ≡ true)
  phi_fits b r φ m =
      let at = (stands s b (inhabited s b (λ B. B.phis) φ refl m)).0 φ m in
      grind (arith, (never PhiOperands _ at.1).1, entered b r)

  entry_clean : (draft_block s 0).phis ≡ []
  entry_clean = by (draft_block s 0).phis (λ φ m. true≢false (phi_fits 0 ([], entry) φ m).0)
    where
      by : (φs : List Phi) → ((φ : Phi) → Mem φ φs → ⊥) → φs ≡ []
      by [] f = refl
      by (φ ∷ φs) f = absurd (f φ (inl refl))

  takes_each : (b : ℕ) → Reached g b → (φ : Phi) → Mem φ (draft_block s b).phis → TakesEach g b φ
  takes_each b r φ m =
      let from = map (λ o. o.block) φ.operands in
      let preds = get_or (draft_walk s).predecessors b [] in
      let f = and_parts (distinct from) _ (phi_fits b r φ m).1 in
      let h = and_parts (all (λ a. has a preds) from) (all (λ a. has a from) preds) f.1 in
      record {
        once = f.0;
        only = λ a k. found_precedes (length s.blocks) g inside has_entry a b (all_has a from preds h.0 k);
        each = λ a p. all_has a preds from h.1 (precedes_found (length s.blocks) g inside has_entry a b p);
      }

  -- ---- uses

  assigned : (b : ℕ) (xs : List ℕ) (by : List ℕ → List ℕ) → (Unassigned s b xs by → ⊥) → (h : List ℕ) → Path g (b ∷ h) → (x : ℕ) → Mem x xs → Mem x (by h)
  assigned b xs by f h w x m = not_missing x (by h) (λ k. f (h, w, (x, m, k)))

  returns_to : (b : ℕ) (h : List ℕ) → Path g (b ∷ h) → (c : ℕ) → Mem c (g b) → c < b → Mem c (b ∷ h)
  returns_to b h w c m l =
      let f = never EdgeBack (terminal b (draft_block s b).terminal) (stands s b (edge_inside s b c m)).2 in
      not_missing c (b ∷ h) (λ k. f.1 (h, w, (c, l, m, k)))

  pub accepted : Accepted s
  accepted =
      record {
        entry = has_entry;
        ended = has_terminal;
        within = inside;
        assigned_once = assigned_once room s (search ok);
        no_entry_phi = entry_clean;
        phis = takes_each;
        code_used = λ b h w before i after e x m.
            (let at = (stands s b (inhabited s b (λ B. B.code) i refl (rw e (mem_right i before (i ∷ after) (inl refl))))).1 before i after e in
            assigned b _ _ (never UseBeforeDefinition _ at.1).1 h w x m);
        terminal_used = λ b h w x m.
            assigned b _ _ (never UseBeforeDefinition _ (stands s b (inhabited s b (λ B. asks B.terminal) x refl m)).2).1 h w x m;
        end_used = λ a h w b e x m.
            assigned a _ _ (never UseBeforeDefinition _ (stands s a (edge_inside s a b e)).3).1 h w x (mem-flat _ b x (g a) e m);
        back = returns_to;
        forward = λ b r. goes_forward g returns_to b r.0 r.1;
      }
