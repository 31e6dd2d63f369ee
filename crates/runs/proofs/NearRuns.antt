-- A run of a valid body is true to what is justly known; and another body, whose blocks come to the same wherever that holds, runs the same.
use Rattle.std.proofs.Common.{◌≡◌, ℕ, zero, suc, ◌<◌, eqb, ltb, ◌⊎◌, List, [], ◌∷◌, ◌++◌, map, length, get_or, Some, None, Option, sym, refl, ◌∙◌, inl, inr, append_assoc, append-nil, arith}
use mathlib.Core.List.{reverse_aux}
use Rattle.hir.proofs.Members.{mem_left, mem_right, mem_split}
use Rattle.hir.specs.Body.{block_at, graph_of}
use Rattle.hir.specs.Graph.{Path, along, entry}
use Rattle.hir.specs.Lists.{Mem, flat_map}
use Rattle.hir.specs.Places.{reads, successors, terminal_reads, terminal_writes, writes}
use Rattle.hir.specs.Script.{Block, Instruction, Operand, Phi, Terminal}
use Rattle.runs.proofs.Senses.{Computes, Fitting, Has, Known, Knowledge, True, assigning_has, assigning_true, in_world, true_look, true_more}
use Rattle.runs.proofs.ValidBodies.{Just, Justified, Valid, assigned_by, assigned_on, flat_append, phi_places}
use Rattle.std.specs.List.{AllZip}
use Rattle.runs.proofs.Yields.{Means, Nothing, means, yields}
use Rattle.runs.specs.Folds.{Conversions, Within, always}
use Rattle.runs.specs.Runs.{Answer, Assignment, Ending, Event, Exit, Flow, Meaning, State, Turn, Value, World, and_then, assigned, block_run, blocks_out, chooses, choosing, computes, continued, ends, executed, executed_all, exited, exited_by, finished, forks, gives, goes_on, halts, jumps, leaves, meaning, operand_from, performed, phi_value, phis_assigned, run_from, started, state, stops, taken, taking, tells, turn_of, turned_by, value_of}
use Rattle.std.proofs.lemmas.Bool.{cases_cond, cond_both, ltb-true}

-- ---- steps that keep a trace true

-- nothing is known of these
abbrev Unknown : Knowledge → List ℕ → Type 0
Unknown κ xs = (x : ℕ) → Mem x xs → κ x ≡ None

pub none_some : {A B : Type 0} (o : Option A) (k : A) → o ≡ None → o ≡ Some k → B
none_some o k e f = cc

-- a flow whose trace is true, and has xs if it goes on
abbrev Fine : World → Knowledge → List ℕ → Flow → Type 0
Fine w κ xs (goes_on s) = True w κ s.assignments × Has s.assignments xs
Fine w κ xs (ends e s) = True w κ s.assignments

fine_then : (w : World) (κ : Knowledge) (xs : List ℕ) (f : Flow) (R : Flow → Type 0) → Fine w κ xs f
    → ((u : State) → True w κ u.assignments → Has u.assignments xs → R (goes_on u)) → ((e : Ending) (u : State) → True w κ u.assignments → R (ends e u)) → R f
fine_then w κ xs (goes_on u) R h on out = on u h.0 h.1
fine_then w κ xs (ends e u) R h on out = out e u h

-- what stands in the second of three lists is moved to the front
moved : (x : ℕ) (P X A : List ℕ) → Mem x (P ++ X ++ A) → Mem x (X ++ (P ++ A))
moved x P X A m = let k = mem_split x (P ++ X) A m in grind (arith, mem_split x P X, mem_left, mem_right)

taking_fine : (w : World) (κ : Knowledge) (xs : List ℕ) (answers : List Answer) (t : List Assignment) (es : List Event) (D : List ℕ)
    → Unknown κ xs → True w κ t → Has t D → Fine w κ (xs ++ D) (taking xs answers t es)
taking_fine w κ [] answers t es D u tr h = (tr, h)
taking_fine w κ (x ∷ xs) [] t es D u tr h = tr
taking_fine w κ (x ∷ xs) (gives v ∷ answers) t es D u tr h =
    fine_then w κ (xs ++ x ∷ D) (taking xs answers (assigned x v ∷ t) es) (Fine w κ (x ∷ xs ++ D))
    (taking_fine w κ xs answers (assigned x v ∷ t) es (x ∷ D) (λ y m. u y (inr m)) (true_more w κ x v t tr (λ k e. cc (u x (inl refl)))) (λ y m. elim m [ inl e ↦ inl e | inr k ↦ inr (h y k) ]))
    (λ s trs hs. (trs, (λ y m. hs y (moved y (x ∷ []) xs D m)))) (λ e s trs. trs)
taking_fine w κ (x ∷ xs) (chooses k ∷ answers) t es D u tr h = tr

just_fits : (w : World) (κ : Knowledge) (xs : List ℕ) (ys : List (Option Known)) (vs : List Value) → Justified κ xs ys → Computes w ys vs → Fitting w κ xs vs
just_fits w κ [] ys vs j c = tt
just_fits w κ (x ∷ xs) [] vs j c = absurd j
just_fits w κ (x ∷ xs) (y ∷ ys) [] j c = absurd c
just_fits w κ (x ∷ xs) (y ∷ ys) (v ∷ vs) j c = ((λ k e. c.0 k (j.0 k e)), just_fits w κ xs ys vs j.1 c.1)

just_unknown : (κ : Knowledge) (xs : List ℕ) (ys : List (Option Known)) → Justified κ xs ys → Nothing ys → Unknown κ xs
just_unknown κ [] ys j n x m = absurd m
just_unknown κ (z ∷ xs) [] j n x m = absurd j
just_unknown κ (z ∷ xs) (y ∷ ys) j n x (inl e) = rw e (grind (arith, j.0, n.0))
just_unknown κ (z ∷ xs) (y ∷ ys) j n x (inr m) = just_unknown κ xs ys j.1 n.1 x m

performed_fine : (w : World) (κ : Knowledge) (xs : List ℕ) (ys : List (Option Known)) (g : Meaning) (s : State) (D : List ℕ)
    → Justified κ xs ys → Means w ys g → True w κ s.assignments → Has s.assignments D → Fine w κ (xs ++ D) (performed xs g s)
performed_fine w κ xs ys (computes vs) s D j m tr h =
    let f = just_fits w κ xs ys vs j m in (
      assigning_true w κ xs vs s.assignments f tr,
      (λ x k. assigning_has w κ xs vs s.assignments f x (grind (arith, mem_split x xs D k, h x))),
    )
performed_fine w κ xs ys (tells e vs) s D j m tr h = taking_fine w κ xs s.answers s.assignments _ D (just_unknown κ xs ys j m) tr h

-- ---- terminals lead to their successors

abbrev Leads : Terminal → Turn → Type 0
Leads t (jumps b) = Mem b (successors t)
Leads t (forks bs) = (b : ℕ) → Mem b bs → Mem b (successors t)
Leads t (stops e) = Unit {0}

turn_leads : (t : Terminal) (v : ℕ → Value) → Leads t (turn_of t v)
turn_leads t v = grind arith

-- ---- bodies that come to the same

-- j comes to what i does, wherever the trace is true and what i reads has been assigned
pub record Alike (w : World) (κ : Knowledge) (T T' : List (List ℕ)) (i j : Instruction) : Type 0 where
  pub writing : writes j ≡ writes i
  pub meant : (t : List Assignment) → True w κ t → Has t (reads i) → meaning w T' j (map (value_of t) (reads j)) ≡ meaning w T i (map (value_of t) (reads i))

abbrev pub NearCode : World → Knowledge → (T T' : List (List ℕ)) → List Instruction → List Instruction → Type 0
NearCode w κ T T' is js = AllZip (Alike w κ T T') is js

pub record NearBlock (w : World) (κ : Knowledge) (T T' : List (List ℕ)) (B C : Block Terminal) : Type 0 where
  pub same_phis : C.phis ≡ B.phis
  pub near_code : NearCode w κ T T' B.code C.code
  pub binding : terminal_writes C.terminal ≡ terminal_writes B.terminal
  pub turning : (t : List Assignment) → True w κ t → Has t (terminal_reads B.terminal) → turn_of C.terminal (value_of t) ≡ turn_of B.terminal (value_of t)

get-mem : (bs : List ℕ) (k : ℕ) → k < length bs → Mem (get_or bs k 0) bs
get-mem [] k l = absurd (omega arith)
get-mem (b ∷ bs) zero l = inl refl
get-mem (b ∷ bs) (suc k) l = inr (get-mem bs k (omega arith))

mem-reverse : {A : Type 0} (a : A) (xs ys : List A) → Mem a (reverse_aux xs ys) → Mem a xs ⊎ Mem a ys
mem-reverse a [] ys m = inr m
mem-reverse a (x ∷ xs) ys m = let k = mem-reverse a xs (x ∷ ys) m in grind arith

module _ (w : World) (c : Conversions) (agree : Within c (always w.conversions)) (κ : Knowledge) (T T' : List (List ℕ)) (ps : List ℕ) (Bs Cs : List (Block Terminal))
    (valid : Valid ps Bs) (just : Just c T κ ps Bs) (near : (b : ℕ) → NearBlock w κ T T' (block_at Bs b) (block_at Cs b)) where
  module _ (b : ℕ) (h : List ℕ) (path : Path (graph_of Bs) (b ∷ h)) where
    -- the instructions after `before`
    code_near : (before is js : List Instruction) → (block_at Bs b).code ≡ before ++ is → NearCode w κ T T' is js → (s : State)
        → True w κ s.assignments → Has s.assignments (assigned_by ps Bs b before h)
        → (executed_all w T' js s ≡ executed_all w T is s) × Fine w κ (assigned_by ps Bs b (before ++ is) h) (executed_all w T is s)
    code_near before [] [] e n s tr hs = (refl, (tr, rw (append-nil before) hs))
    code_near before [] (j ∷ js) e n s tr hs = absurd n
    code_near before (i ∷ is) [] e n s tr hs = absurd n
    code_near before (i ∷ is) (j ∷ js) e n s tr hs =
        let D = assigned_by ps Bs b before h in
        let has_reads : Has s.assignments (reads i) = (λ x m. hs x (valid.code_used b h path before i is e x m)) in
        let same : executed w T' j s ≡ executed w T i s = rw (n.0.writing, n.0.meant s.assignments tr has_reads) in
        let m = means w c agree κ s.assignments tr T i has_reads in
        let at : Mem i (block_at Bs b).code = rw e (mem_right i before (i ∷ is) (inl refl)) in
        let fine = performed_fine w κ (writes i) (yields c T κ i) (meaning w T i (map (value_of s.assignments) (reads i))) s D (just.coded b i at) m tr hs in
        let next : (block_at Bs b).code ≡ (before ++ i ∷ []) ++ is = e ∙ sym (append_assoc before (i ∷ []) is) in
        let on =
        fine_then w κ (writes i ++ D) (executed w T i s)
        (λ (f : Flow). (and_then f (executed_all w T' js) ≡ and_then f (executed_all w T is)) × Fine w κ (assigned_by ps Bs b (before ++ i ∷ is) h) (and_then f (executed_all w T is)))
        fine (λ u tru hu. rw (← append_assoc before (i ∷ []) is) (code_near (before ++ i ∷ []) is js next n.1 u tru (λ x m. hu x (more x m)))) (λ e u tru. (refl, tru)) in
        (rw same on.0, on.1)
      where
        more : (x : ℕ) → Mem x (assigned_by ps Bs b (before ++ i ∷ []) h) → Mem x (writes i ++ assigned_by ps Bs b before h)
        more x m =
            let P = phi_places (block_at Bs b) in
            moved x (P ++ flat_map writes before) (writes i) (assigned_on ps Bs h)
            (rw (append_assoc P (flat_map writes before) (writes i), ← append-nil (writes i), ← flat_append writes before (i ∷ [])) m)

    -- ---- the terminal

    -- an exit whose trace is true; where it leads on, along an edge, all that the block assigns has been assigned
    abbrev Out : Exit → Type 0
    Out (leaves a s) = Mem a (graph_of Bs b) × True w κ s.assignments × Has s.assignments (assigned_on ps Bs (b ∷ h))
    Out (halts e s) = True w κ s.assignments

    taken_out : (t : Turn) → Leads (block_at Bs b).terminal t → (s : State) → True w κ s.assignments → Has s.assignments (assigned_on ps Bs (b ∷ h)) → Out (taken t s)
    taken_out (jumps a) l s tr hs = (l, tr, hs)
    taken_out (stops e) l s tr hs = tr
    taken_out (forks bs) l s tr hs = by s.answers
      where
        by : (answers : List Answer) → Out (choosing bs answers s.assignments s.events)
        by (chooses k ∷ answers) = cond_both (ltb k (length bs)) _ _ Out (λ e. (l (get_or bs k 0) (get-mem bs k (ltb-true k (length bs) e)), tr, hs)) (λ e. tr)
        by answers = tr

    exited_near : (u : Terminal) → terminal_writes u ≡ terminal_writes (block_at Bs b).terminal
        → ((t : List Assignment) → True w κ t → Has t (terminal_reads (block_at Bs b).terminal) → turn_of u (value_of t) ≡ turn_of (block_at Bs b).terminal (value_of t))
        → (s : State) → True w κ s.assignments → Has s.assignments (assigned_by ps Bs b (block_at Bs b).code h)
        → (exited u s ≡ exited (block_at Bs b).terminal s) × Out (exited (block_at Bs b).terminal s)
    exited_near u e turns s tr hs =
        let t = (block_at Bs b).terminal in
        let flow = taking (terminal_writes t) s.answers s.assignments s.events in
        let fine = taking_fine w κ (terminal_writes t) s.answers s.assignments s.events (assigned_by ps Bs b (block_at Bs b).code h) (λ x m. just.bound b x m) tr hs in
        let on =
        fine_then w κ _ flow (λ (f : Flow). (turned_by u f ≡ turned_by t f) × Out (turned_by t f)) fine
        (λ v trv hv. (
          rw (turns v.assignments trv (λ x m. hv x (mem_right x (terminal_writes t) _ (valid.terminal_used b h path x m)))),
          taken_out (turn_of t (value_of v.assignments)) (turn_leads t (value_of v.assignments)) v trv
              (λ x m. hv x (moved x (phi_places (block_at Bs b) ++ flat_map writes (block_at Bs b).code) (terminal_writes t) (assigned_on ps Bs h) m)),
        ))
        (λ e v trv. (refl, trv)) in
        (rw e on.0, on.1)

  -- ---- phis

  abbrev coming_from : List ℕ → Option ℕ
  coming_from [] = None
  coming_from (a ∷ h) = Some a

  operand_mem : (a : ℕ) (os : List Operand) (y : ℕ) → operand_from a os ≡ Some y → (o : Operand) × Mem o os × (o.value ≡ y)
  operand_mem a [] y e = cc
  operand_mem a (o ∷ os) y e =
      elim (cases_cond (eqb o.block a) (Some o.value) (operand_from a os) (Some y) (sym e)) [ inl h ↦ (o, inl refl, cc h) | inr h ↦ (let r = operand_mem a os y (sym h) in (r.0, inr r.1, r.2)) ]

  phi_fits : (b : ℕ) (h : List ℕ) → Path (graph_of Bs) (b ∷ h) → (t : List Assignment) → True w κ t → Has t (assigned_on ps Bs h) → (φ : Phi) → Mem φ (block_at Bs b).phis
      → (k : Known) → κ φ.place ≡ Some k → phi_value (coming_from h) t φ ≡ in_world w k
  phi_fits b h entry t tr hs φ m k e = absurd (rw valid.clean at m)
  phi_fits b h (along {a = a} {b = d} {h = g} p edge) t tr hs φ m k e =
      let n = valid.named a g p b edge φ m in
      let o = operand_mem a φ.operands n.0 n.1 in
      let known : κ n.0 ≡ Some k = rw o.2 at (just.joined b φ m k e o.0 o.1) in
      rw n.1 (true_look w κ t n.0 k tr (hs n.0 n.2) known)

  phis_fit : (from : Option ℕ) (t : List Assignment) (φs : List Phi) → ((φ : Phi) → Mem φ φs → (k : Known) → κ φ.place ≡ Some k → phi_value from t φ ≡ in_world w k)
      → Fitting w κ (map (λ φ. φ.place) φs) (map (phi_value from t) φs)
  phis_fit from t [] f = tt
  phis_fit from t (φ ∷ φs) f = (f φ (inl refl), phis_fit from t φs (λ ψ m. f ψ (inr m)))

  -- ---- blocks

  block_near : (b : ℕ) (h : List ℕ) (p : Path (graph_of Bs) (b ∷ h)) (s : State) → True w κ s.assignments → Has s.assignments (assigned_on ps Bs h)
      → (block_run w T' (coming_from h) (block_at Cs b) s ≡ block_run w T (coming_from h) (block_at Bs b) s) × Out b h p (block_run w T (coming_from h) (block_at Bs b) s)
  block_near b h p s tr hs =
      let B = block_at Bs b in
      let C = block_at Cs b in
      let t = phis_assigned (coming_from h) B.phis s.assignments in
      let fit = phis_fit (coming_from h) s.assignments B.phis (λ φ m k e. phi_fits b h p s.assignments tr hs φ m k e) in
      let begin = state t s.events s.answers in
      let code = code_near b h p [] B.code C.code refl (near b).near_code begin (assigning_true w κ (phi_places B) (map (phi_value (coming_from h) s.assignments) B.phis) s.assignments fit tr)
      (λ x m. assigning_has w κ (phi_places B) _ s.assignments fit x (grind (arith, mem_split x (phi_places B) (assigned_on ps Bs h) (rw append-nil at m), hs x))) in
      let on =
      fine_then w κ _ (executed_all w T B.code begin) (λ (f : Flow). (exited_by C.terminal f ≡ exited_by B.terminal f) × Out b h p (exited_by B.terminal f)) code.1
      (λ v trv hv. exited_near b h p C.terminal (near b).binding (near b).turning v trv hv) (λ e v trv. (refl, trv)) in
      (rw ((near b).same_phis, code.0) on.0, on.1)

  -- ---- runs

  finished_true : (e : Ending) (l : Option ℕ) (s : State) → True w κ s.assignments → True w κ (finished e l s).assignments
  finished_true e l s tr a m k h = tr a (grind (arith, mem-reverse a s.assignments [] m)) k h

  run_near : (n b : ℕ) (h : List ℕ) → Path (graph_of Bs) (b ∷ h) → (s : State) → True w κ s.assignments → Has s.assignments (assigned_on ps Bs h)
      → (run_from w T' Cs n (coming_from h) b s ≡ run_from w T Bs n (coming_from h) b s) × True w κ (run_from w T Bs n (coming_from h) b s).assignments
  run_near zero b h p s tr hs = (refl, finished_true blocks_out (coming_from h) s tr)
  run_near (suc n) b h p s tr hs =
      let blocks = block_near b h p s tr hs in
      let on = on_exit (block_run w T (coming_from h) (block_at Bs b) s) blocks.1 (λ a q u tru hu. run_near n a (b ∷ h) q u tru hu) in
      (rw blocks.0 on.0, on.1)
    where
      on_exit : (x : Exit) → Out b h p x
          → ((a : ℕ) → Path (graph_of Bs) (a ∷ b ∷ h) → (u : State) → True w κ u.assignments → Has u.assignments (assigned_on ps Bs (b ∷ h))
          → (run_from w T' Cs n (Some b) a u ≡ run_from w T Bs n (Some b) a u) × True w κ (run_from w T Bs n (Some b) a u).assignments)
          → (continued (run_from w T' Cs n (Some b)) b x ≡ continued (run_from w T Bs n (Some b)) b x) × True w κ (continued (run_from w T Bs n (Some b)) b x).assignments
      on_exit (leaves a u) out rec = rec a (along p out.0) u out.1 out.2
      on_exit (halts e u) out rec = (refl, finished_true e (Some b) u out)

  pub runs_near : (answers : List Answer) (n : ℕ)
      → (started w T' Cs n (taking ps answers [] []) ≡ started w T Bs n (taking ps answers [] [])) × True w κ (started w T Bs n (taking ps answers [] [])).assignments
  runs_near answers n =
      fine_then w κ (ps ++ []) (taking ps answers [] []) (λ (f : Flow). (started w T' Cs n f ≡ started w T Bs n f) × True w κ (started w T Bs n f).assignments)
      (taking_fine w κ ps answers [] [] [] just.outside (λ a m k e. absurd m) (λ x m. absurd m))
      (λ s tr hs. run_near n 0 [] entry s tr (λ x m. hs x (mem_left x ps [] m))) (λ e s tr. (refl, finished_true e None s tr))
