-- The walk enters exactly the blocks that some path reaches, and lists as a block's predecessors exactly those reached that lead to it.
use Rattle.std.proofs.Common.{◌≡◌, ℕ, zero, suc, ◌+◌, ◌<◌, ◌≤◌, Bool, true, false, cond, ◌⊎◌, List, [], ◌∷◌, ◌++◌, length, get_or, set, replicate, refl, ap, ◌∙◌, inl, inr, le_trans, le_refl, arith, length-set}
use Rattle.hir.proofs.Members.{has-mem, mem_left, mem_right, mem_split}
use Rattle.hir.specs.Accepted.{Precedes}
use Rattle.hir.specs.Graph.{Graph, Reached, Walk, along, each, enter, entry, noted, walk, walked}
use Rattle.hir.specs.Lists.{Mem, has, mod_at}
use Rattle.std.proofs.lemmas.Bool.{both_ways, cases_eq, cases_lt}
use Rattle.std.proofs.lemmas.List.{get_or-replicate, get_or_past, set_past, get_or-set_other, get_or-set_same, length-replicate}
use Rattle.std.proofs.lemmas.List.Sums.{count_by-le-length, sum_by-set}
use Rattle.std.specs.List.{count_by}

abbrev pub Entered : Walk → ℕ → Type 0
Entered w b = get_or w.entered b false ≡ true

abbrev pub found : Walk → ℕ → List ℕ
found w b = get_or w.predecessors b []

-- how many blocks have been entered
abbrev trues : List Bool → ℕ
trues bs = count_by (λ b. b) bs

-- ---- entering a block

set_keeps : (bs : List Bool) (b c : ℕ) → get_or bs c false ≡ true → get_or (set bs b true) c false ≡ true
set_keeps bs b c e = grind (arith, get_or-set_same, get_or-set_other, set_past, cases_eq c b, cases_lt b (length bs))

set_only : (bs : List Bool) (b c : ℕ) → get_or (set bs b true) c false ≡ true → (get_or bs c false ≡ true) ⊎ (c ≡ b)
set_only bs b c e = elim (cases_eq c b) [ inl h ↦ inr h | inr h ↦ inl (rw (get_or-set_other bs b c true false h) at e) ]

set_trues : (bs : List Bool) (b : ℕ) → b < length bs → get_or bs b false ≡ false → trues (set bs b true) ≡ suc (trues bs)
set_trues bs b l e = let set = rw e at (sum_by-set (λ (x : Bool). cond {A = ℕ} x 1 0) bs b true false l) in omega arith

-- ---- noting a predecessor

abbrev added : ℕ → List ℕ → List ℕ
added a xs = cond (has a xs) xs (xs ++ a ∷ [])

mod_has : (a b : ℕ) (ps : List (List ℕ)) → b < length ps → Mem a (get_or (mod_at (added a) b ps) b [])
mod_has a b [] l = absurd (omega arith)
mod_has a zero (p ∷ ps) l = grind (arith, has-mem, mem_right)
mod_has a (suc b) (p ∷ ps) l = mod_has a b ps (omega arith)

mod_keeps : (a b c x : ℕ) (ps : List (List ℕ)) → Mem x (get_or ps c []) → Mem x (get_or (mod_at (added a) b ps) c [])
mod_keeps a b c x [] m = m
mod_keeps a zero zero x (p ∷ ps) m = grind (arith, mem_left)
mod_keeps a (suc b) (suc c) x (p ∷ ps) m = mod_keeps a b c x ps m
mod_keeps a b c x ps m = m

mod_only : (a b c x : ℕ) (ps : List (List ℕ)) → Mem x (get_or (mod_at (added a) b ps) c []) → Mem x (get_or ps c []) ⊎ ((x ≡ a) × (c ≡ b))
mod_only a b c x [] m = inl m
mod_only a zero zero x (p ∷ ps) m = grind (arith, mem_split x p (a ∷ []))
mod_only a (suc b) (suc c) x (p ∷ ps) m = elim (mod_only a b c x ps m) [ inl h ↦ inl h | inr h ↦ inr (h.0, ap suc h.1) ]
mod_only a b c x ps m = inl m

mod_length : (f : List ℕ → List ℕ) (b : ℕ) (ps : List (List ℕ)) → length (mod_at f b ps) ≡ length ps
mod_length f zero (p ∷ ps) = refl
mod_length f (suc b) (p ∷ ps) = ap suc (mod_length f b ps)
mod_length f b [] = refl

-- ---- what every walk keeps

module _ (n : ℕ) (g : Graph) (inside : (a b : ℕ) → Mem b (g a) → b < n) where
  record Right (w : Walk) : Type 0 where
    many : length w.entered ≡ n
    lists : length w.predecessors ≡ n
    reached : (b : ℕ) → Entered w b → Reached g b
    leads : (a b : ℕ) → Mem a (found w b) → Precedes g a b

  -- w' comes after w
  record Grew (w w' : Walk) : Type 0 where
    entered : (b : ℕ) → Entered w b → Entered w' b
    noted' : (a b : ℕ) → Mem a (found w b) → Mem a (found w' b)
    more : trues w.entered ≤ trues w'.entered

  -- the edge from a to b has been noted, and b entered
  abbrev Followed : Walk → ℕ → ℕ → Type 0
  Followed w a b = Mem a (found w b) × Entered w b

  -- all edges from a have been followed
  abbrev Done : Walk → ℕ → Type 0
  Done w a = (b : ℕ) → Mem b (g a) → Followed w a b

  -- what was entered since w is done
  abbrev Since : Walk → Walk → Type 0
  Since w w' = (c : ℕ) → Entered w' c → Entered w c ⊎ Done w' c

  same : (w : Walk) → Grew w w
  same w = record { entered = λ b e. e; noted' = λ a b m. m; more = le_refl _ }

  grew : (u v w : Walk) → Grew u v → Grew v w → Grew u w
  grew u v w p q = search (p.entered, q.entered, p.noted', q.noted', p.more, q.more, le_trans)

  followed_later : (v w : Walk) → Grew v w → (a b : ℕ) → Followed v a b → Followed w a b
  followed_later v w p a b f = (p.noted' a b f.0, p.entered b f.1)

  note_right : (a b : ℕ) (w : Walk) → Reached g a → Mem b (g a) → Right w → Right (noted a b w)
  note_right a b w ra m r = record {
    many = r.many;
    lists = mod_length (added a) b w.predecessors ∙ r.lists;
    reached = r.reached;
    leads = λ x c k. grind (arith, mod_only a b c x w.predecessors k, r.leads x c, ra, m);
  }

  note_grew : (a b : ℕ) (w : Walk) → Grew w (noted a b w)
  note_grew a b w = record { entered = λ c e. e; noted' = λ x c m. mod_keeps a b c x w.predecessors m; more = le_refl _ }

  enter_right : (b : ℕ) (w : Walk) → Reached g b → Right w → Right (enter b w)
  enter_right b w rb r = record {
    many = length-set w.entered b true ∙ r.many;
    lists = r.lists;
    reached = λ c e. elim (set_only w.entered b c e) [ inl h ↦ r.reached c h | inr h ↦ rw h rb ];
    leads = r.leads;
  }

  enter_grew : (b : ℕ) (w : Walk) → Right w → b < n → get_or w.entered b false ≡ false → Grew w (enter b w)
  enter_grew b w r l e =
      let t = set_trues w.entered b (rw r.many l) e in
      record { entered = λ c h. set_keeps w.entered b c h; noted' = λ a c m. m; more = omega arith }

  -- ---- the walk

  -- what a walk comes to that has followed the edges from a to each of bs
  record Walked (a : ℕ) (bs : List ℕ) (w w' : Walk) : Type 0 where
    right : Right w'
    grown : Grew w w'
    since : Since w w'
    done : (b : ℕ) → Mem b bs → Followed w' a b

  joined : (a b : ℕ) (bs : List ℕ) (u v w : Walk) → Walked a (b ∷ []) u v → Walked a bs v w → Walked a (b ∷ bs) u w
  joined a b bs u v w p q = record {
    right = q.right;
    grown = grew u v w p.grown q.grown;
    since = λ c e. elim (q.since c e) [
      | inl h ↦ elim (p.since c h) [ inl k ↦ inl k | inr k ↦ inr (λ x m. followed_later v w q.grown c x (k x m)) ]
      | inr h ↦ inr h
    ];
    done = λ c m. elim m [ inl e ↦ rw e (followed_later v w q.grown a b (p.done b (inl refl))) | inr k ↦ q.done c k ];
  }

  abbrev Goes : (ℕ → Walk → Walk) → ℕ → Type 0
  Goes go d = (a : ℕ) (w : Walk) → Right w → Reached g a → n < d + trues w.entered → Walked a (g a) w (go a w)

  module _ (go : ℕ → Walk → Walk) (d : ℕ) (ok : Goes go d) (a : ℕ) (ra : Reached g a) where
    abbrev stepped : ℕ → Walk → Bool → Walk
    stepped b w entered = cond entered (noted a b w) (go b (enter b (noted a b w)))

    edge_walked : (b : ℕ) → Mem b (g a) → (w : Walk) → Right w → n < suc d + trues w.entered → (c : Bool) → get_or w.entered b false ≡ c
        → Walked a (b ∷ []) w (stepped b w c)
    edge_walked b m w r f true e = record {
      right = note_right a b w ra m r;
      grown = note_grew a b w;
      since = λ c h. inl h;
      done = λ c k. grind (arith, mod_has a b w.predecessors (rw r.lists (inside a b m)), e);
    }
    edge_walked b m w r f false e =
        let l : b < n = inside a b m in
        let rb : Reached g b = (a ∷ ra.0, along ra.1 m) in
        let next = noted a b w in
        let r' = note_right a b w ra m r in
        let ent = enter b next in
        let t = set_trues w.entered b (rw r.many l) e in
        let on = ok b ent (enter_right b next rb r') rb (omega arith) in
        let at : Followed ent a b = (mod_has a b w.predecessors (rw r.lists l), get_or-set_same w.entered b true false (rw r.many l)) in
        record {
          right = on.right;
          grown = grew w ent (go b ent) (grew w next ent (note_grew a b w) (enter_grew b next r' l e)) on.grown;
          since = λ c h. grind (arith, on.since c h, set_only w.entered b c, on.done);
          done = λ c k. grind (arith, followed_later ent (go b ent) on.grown a b at);
        }

    each_walked : (bs : List ℕ) → ((b : ℕ) → Mem b bs → Mem b (g a)) → (w : Walk) → Right w → n < suc d + trues w.entered → Walked a bs w (each go a bs w)
    each_walked [] sub w r f = record { right = r; grown = same w; since = λ c e. inl e; done = λ b m. absurd m }
    each_walked (b ∷ bs) sub w r f =
        let v = stepped b w (get_or w.entered b false) in
        let s = edge_walked b (sub b (inl refl)) w r f (get_or w.entered b false) refl in
        let m = s.grown.more in
        joined a b bs w v (each go a bs v) s (each_walked bs (λ c k. sub c (inr k)) v s.right (omega arith))

  walk_walked : (d a : ℕ) (w : Walk) → Right w → Reached g a → n < d + trues w.entered → Walked a (g a) w (walk g d a w)
  walk_walked zero a w r ra f = let t = count_by-le-length (λ b. b) w.entered in let l = r.many in absurd (omega arith)
  walk_walked (suc d) a w r ra f = each_walked (walk g d) d (walk_walked d) a ra (g a) (λ b m. m) w r f

  -- ---- all of it

  abbrev blank : Walk
  blank = record { entered = replicate n false; predecessors = replicate n [] }

  blank_reads : {A : Type 0} (k b : ℕ) (x : A) → get_or (replicate k x) b x ≡ x
  blank_reads k b x = grind (arith, get_or-replicate, get_or_past, length-replicate, cases_lt b k)

  module _ (some : 0 < n) where
    begun : Right (enter 0 blank)
    begun =
        enter_right 0 blank ([], entry) (record {
          many = length-replicate n false;
          lists = length-replicate n [];
          reached = λ b e. absurd (both_ways _ (blank_reads n b false) e);
          leads = λ a b m. absurd (rw (blank_reads {A = List ℕ} n b []) at m);
        })

    all_walked : Walked 0 (g 0) (enter 0 blank) (walked n g)
    all_walked =
        let t = set_trues (replicate n false) 0 (rw (length-replicate n false) some) (blank_reads n 0 false) in
        walk_walked n 0 (enter 0 blank) begun ([], entry) (omega arith)

    every_done : (c : ℕ) → Entered (walked n g) c → Done (walked n g) c
    every_done c e = grind (arith, all_walked.since c e, set_only (replicate n false) 0 c, blank_reads n c false, all_walked.done)

    pub entered_reached : (b : ℕ) → Entered (walked n g) b → Reached g b
    entered_reached b e = all_walked.right.reached b e

    pub reached_entered : (b : ℕ) → Reached g b → Entered (walked n g) b
    reached_entered b (h, entry) = all_walked.grown.entered 0 (get_or-set_same (replicate n false) 0 true false (rw (length-replicate n false) some))
    reached_entered b (h, along {a = a} {b = c} {h = k} w m) = (every_done a (reached_entered a (k, w)) b m).1

    pub found_precedes : (a b : ℕ) → Mem a (found (walked n g) b) → Precedes g a b
    found_precedes a b m = all_walked.right.leads a b m

    pub precedes_found : (a b : ℕ) → Precedes g a b → Mem a (found (walked n g) b)
    precedes_found a b p = (every_done a (reached_entered a p.0) b p.1).0

    pub walked_long : (length (walked n g).entered ≡ n) × (length (walked n g).predecessors ≡ n)
    walked_long = (all_walked.right.many, all_walked.right.lists)
