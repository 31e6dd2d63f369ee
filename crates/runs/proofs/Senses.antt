-- What records say of the values in a run: a trace is true to them, and what was assigned is looked up as recorded.
use Rattle.std.proofs.Common.{◌≡◌, ℕ, ◌⊎◌, List, [], ◌∷◌, map, Some, Option, sym, refl, inl, inr, arith}
use Rattle.ecma.specs.Value.{Primitive}
use Rattle.hir.specs.Body.{Constant, global_constant, primitive_constant, record_at, text_at}
use Rattle.hir.specs.Lists.{Mem}
use Rattle.hir.specs.Places.{binding_name}
use Rattle.runs.specs.Folds.{literal_value}
use Rattle.runs.specs.Runs.{Assignment, Value, World, assigned, assigning, plain, value_of}
use Rattle.std.proofs.lemmas.Bool.{cases_eq, eq-eqb, ne_eqb}
use Rattle.std.specs.Option.{option_map}

-- what a constant says, without numbers of texts: a primitive value, or the value of a global name
pub data Known : Type 0 where
  prim : Primitive → Known
  glob : List ℕ → Known

abbrev pub sense : List (List ℕ) → Constant → Known
sense texts (primitive_constant l s) = prim (literal_value texts l)
sense texts (global_constant b s) = glob (text_at texts (binding_name b))

-- what is known of each identifier
abbrev pub Knowledge : Type 0
Knowledge = ℕ → Option Known

abbrev pub knowledge : List (List ℕ) → List (Option Constant) → Knowledge
knowledge texts records x = option_map (sense texts) (record_at records x)

abbrev pub in_world : World → Known → Value
in_world w (prim v) = plain v
in_world w (glob n) = w.globals n

-- ---- traces

abbrev pub places : List Assignment → List ℕ
places t = map (λ a. a.place) t

-- every assignment of what is known gave it that value
abbrev pub True : World → Knowledge → List Assignment → Type 0
True w κ t = (a : Assignment) → Mem a t → (k : Known) → κ a.place ≡ Some k → a.value' ≡ in_world w k

-- all of xs have been assigned
abbrev pub Has : List Assignment → List ℕ → Type 0
Has t xs = (x : ℕ) → Mem x xs → Mem x (places t)

pub true_look : (w : World) (κ : Knowledge) (t : List Assignment) (x : ℕ) (k : Known) → True w κ t → Mem x (places t) → κ x ≡ Some k → value_of t x ≡ in_world w k
true_look w κ [] x k tr m e = absurd m
true_look w κ (a ∷ t) x k tr m e =
    elim (cases_eq a.place x) [
      | inl h ↦ rw (eq-eqb a.place x h) (tr a (inl refl) k (rw h e))
      | inr n ↦ rw (ne_eqb a.place x n) (true_look w κ t x k (λ b q. tr b (inr q)) (elim m [ inl h ↦ absurd (n (sym h)) | inr h ↦ h ]) e)
    ]

pub true_more : (w : World) (κ : Knowledge) (x : ℕ) (v : Value) (t : List Assignment) → True w κ t → ((k : Known) → κ x ≡ Some k → v ≡ in_world w k) → True w κ (assigned x v ∷ t)
true_more w κ x v t tr f a (inl e) k h = rw e (f k (rw e at h))
true_more w κ x v t tr f a (inr m) k h = tr a m k h

-- ---- assigning values in order

-- the values are what is known, where something is
abbrev pub Computes : World → List (Option Known) → List Value → Type 0
Computes w [] vs = Unit {0}
Computes w (y ∷ ys) [] = ⊥
Computes w (y ∷ ys) (v ∷ vs) = ((k : Known) → y ≡ Some k → v ≡ in_world w k) × Computes w ys vs

-- each known place gets its value
abbrev pub Fitting : World → Knowledge → List ℕ → List Value → Type 0
Fitting w κ xs vs = Computes w (map κ xs) vs

pub assigning_true : (w : World) (κ : Knowledge) (xs : List ℕ) (vs : List Value) (t : List Assignment) → Fitting w κ xs vs → True w κ t → True w κ (assigning xs vs t)
assigning_true w κ [] vs t f tr = tr
assigning_true w κ (x ∷ xs) [] t f tr = absurd f
assigning_true w κ (x ∷ xs) (v ∷ vs) t f tr = assigning_true w κ xs vs (assigned x v ∷ t) f.1 (true_more w κ x v t tr f.0)

pub assigning_has : (w : World) (κ : Knowledge) (xs : List ℕ) (vs : List Value) (t : List Assignment) → Fitting w κ xs vs → (x : ℕ) → Mem x xs ⊎ Mem x (places t) → Mem x (places (assigning xs vs t))
assigning_has w κ [] vs t f x m = grind arith
assigning_has w κ (y ∷ xs) [] t f x m = absurd f
assigning_has w κ (y ∷ xs) (v ∷ vs) t f x m = assigning_has w κ xs vs (assigned y v ∷ t) f.1 x (grind arith)
