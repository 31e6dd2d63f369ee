-- What an instruction gives by what is known of what it reads, and that it gives just that in every run that is true to it.
use lib.Ieee.{Float}
use Rattle.std.proofs.Common.{◌≡◌, ℕ, List, [], ◌∷◌, map, Some, None, Option, refl, ap, ◌∙◌, subst, inl, inr, arith}
use Rattle.ecma.specs.declared.operators.UpdateOperator.{UpdateOperator}
use Rattle.ecma.specs.Value.{Primitive}
use Rattle.ecma.specs.Value as value
use Rattle.hir.specs.Body.{text_at}
use Rattle.hir.specs.Lists.{Mem}
use Rattle.hir.specs.Places.{binding_name, reads}
use Rattle.hir.specs.Script.{Instruction}
use Rattle.hir.specs.Script.{load_local, store_local, primitive, binary, unary, property_load, computed_load, load_global, template, prefix_update, postfix_update, opaque}
use Rattle.runs.proofs.Monotone.{AllBelow, Below, bind_below, fold_below, mapped_below, maps_below, within_self}
use Rattle.runs.proofs.Senses.{Computes, Has, Known, Knowledge, True, glob, in_world, prim, true_look}
use Rattle.runs.specs.Folds.{Conversions, Within, always, bind, fold, key_value, length_fold, literal_value, updated}
use Rattle.runs.specs.Runs.{Assignment, EventKind, Meaning, Value, World, computes, meaning, or_tells, plain, primitive_in, tells, updating, value_of}
use Rattle.std.proofs.lemmas.Option.{same_Some}
use Rattle.std.specs.Option.{option_map}

abbrev pub prim_of : Known → Option Primitive
prim_of (prim v) = Some v
prim_of (glob n) = None

abbrev pub prim_at : Knowledge → ℕ → Option Primitive
prim_at κ y = bind (κ y) prim_of

-- the Number after an update, and what the place had before it, if that is a Number
abbrev pub new_at : Knowledge → UpdateOperator → ℕ → Option Known
new_at κ o y = bind (bind (prim_at κ y) (updated o)) (λ x. Some (prim (value.number x)))

abbrev pub old_at : Knowledge → UpdateOperator → ℕ → Option Known
old_at κ o y = bind (bind (prim_at κ y) (updated o)) (λ x. κ y)

-- what else folds gives what it folds to; the others give nothing
abbrev pub yields : Conversions → List (List ℕ) → Knowledge → Instruction → List (Option Known)
yields c T κ (load_local x y s) = κ y ∷ []
yields c T κ (store_local x p k y s) = κ y ∷ κ y ∷ []
yields c T κ (primitive x l s) = Some (prim (literal_value T l)) ∷ []
yields c T κ (load_global x b s) = Some (glob (text_at T (binding_name b))) ∷ []
yields c T κ (prefix_update x p o y s) = new_at κ o y ∷ new_at κ o y ∷ []
yields c T κ (postfix_update x p o y s) = old_at κ o y ∷ new_at κ o y ∷ []
yields c T κ (opaque k ys xs) = map (λ x. None) xs
yields c T κ i = option_map prim (fold c T i (map (prim_at κ) (reads i))) ∷ []

-- ---- more knowledge yields more

abbrev pub More : Knowledge → Knowledge → Type 0
More κ μ = (x : ℕ) → Below (κ x) (μ x)

module _ (κ μ : Knowledge) (m : More κ μ) where
  prim_more : (y : ℕ) → Below (prim_at κ y) (prim_at μ y)
  prim_more y = bind_below (κ y) (μ y) prim_of prim_of (m y) (λ x k e. e)

  updated_more : (o : UpdateOperator) (y : ℕ) → Below (bind (prim_at κ y) (updated o)) (bind (prim_at μ y) (updated o))
  updated_more o y = bind_below _ _ _ _ (prim_more y) (λ x k e. e)

  new_more : (o : UpdateOperator) (y : ℕ) → Below (new_at κ o y) (new_at μ o y)
  new_more o y = bind_below _ _ _ _ (updated_more o y) (λ x k e. e)

  old_more : (o : UpdateOperator) (y : ℕ) → Below (old_at κ o y) (old_at μ o y)
  old_more o y = bind_below _ _ _ _ (updated_more o y) (λ x. m y)

  fold_more : (c : Conversions) (T : List (List ℕ)) (i : Instruction) → Below (option_map prim (fold c T i (map (prim_at κ) (reads i)))) (option_map prim (fold c T i (map (prim_at μ) (reads i))))
  fold_more c T i = mapped_below prim _ _ (fold_below c c (within_self c) T i (map (prim_at κ) (reads i)) (map (prim_at μ) (reads i)) (maps_below (prim_at κ) (prim_at μ) prim_more (reads i)))

  pub yields_more : (c : Conversions) (T : List (List ℕ)) (i : Instruction) → AllBelow (yields c T κ i) (yields c T μ i)
  yields_more c T (load_local x y s) = (m y, tt)
  yields_more c T (store_local x p k y s) = (m y, (m y, tt))
  yields_more c T (primitive x l s) = ((λ k e. e), tt)
  yields_more c T (load_global x b s) = ((λ k e. e), tt)
  yields_more c T (prefix_update x p o y s) = (new_more o y, (new_more o y, tt))
  yields_more c T (postfix_update x p o y s) = (old_more o y, (new_more o y, tt))
  yields_more c T (opaque k ys xs) = maps_below _ _ (λ x k e. e) xs
  yields_more c T i = (fold_more c T i, tt)

-- ---- and a run computes it

abbrev pub Nothing : List (Option Known) → Type 0
Nothing [] = Unit {0}
Nothing (y ∷ ys) = (y ≡ None) × Nothing ys

-- a meaning gives what is yielded; where it tells an event, nothing is
abbrev pub Means : World → List (Option Known) → Meaning → Type 0
Means w ys (computes vs) = Computes w ys vs
Means w ys (tells k vs) = Nothing ys

module _ (w : World) (c : Conversions) (agree : Within c (always w.conversions)) (κ : Knowledge) (t : List Assignment) (tr : True w κ t) where
  look : (y : ℕ) → Mem y (map (λ a. a.place) t) → (k : Known) → κ y ≡ Some k → value_of t y ≡ in_world w k
  look y m k e = true_look w κ t y k tr m e

  -- a value that is known to be a primitive is one in the run
  prim_look : (y : ℕ) → Mem y (map (λ a. a.place) t) → Below (prim_at κ y) (primitive_in (value_of t y))
  prim_look y m = by (κ y) refl
    where
      by : (o : Option Known) → κ y ≡ o → Below (bind o prim_of) (primitive_in (value_of t y))
      by None e v h = cc
      by (Some (prim u)) e v h = ap primitive_in (look y m (prim u) e) ∙ h
      by (Some (glob n)) e v h = cc

  prims_look : (ys : List ℕ) → Has t ys → AllBelow (map (prim_at κ) ys) (map primitive_in (map (value_of t) ys))
  prims_look [] h = tt
  prims_look (y ∷ ys) h = (prim_look y (h y (inl refl)), prims_look ys (λ x m. h x (inr m)))

  told : (y r : Option Primitive) (k : EventKind) (vs : List Value) → Below y r → Means w (option_map prim y ∷ []) (or_tells r k vs)
  told None None k vs b = (refl, tt)
  told None (Some v) k vs b = ((λ j e. cc), tt)
  told (Some u) None k vs b = (cc (b u refl), tt)
  told (Some u) (Some v) k vs b = ((λ j e. ap plain (same_Some v u (b u refl)) ∙ ap (in_world w) (same_Some (prim u) j e)), tt)

  folds : (T : List (List ℕ)) (i : Instruction) → Has t (reads i) → Below (fold c T i (map (prim_at κ) (reads i))) (fold (always w.conversions) T i (map primitive_in (map (value_of t) (reads i))))
  folds T i h = fold_below c (always w.conversions) agree T i _ _ (prims_look (reads i) h)

  getting_as : (T : List (List ℕ)) (x o : ℕ) (p : _) (s : _) (v : Value) → fold (always w.conversions) T (property_load x o p s) (primitive_in v ∷ []) ≡ length_fold (primitive_in v) (Some (key_value T p))
  getting_as T x o p s v = grind arith

  -- an update, by what is known of the place and by what a run has there
  updates : (o : UpdateOperator) (y : ℕ) → Has t (y ∷ []) → Below (bind (prim_at κ y) (updated o)) (bind (primitive_in (value_of t y)) (updated o))
  updates o y h = bind_below _ _ _ _ (prim_look y (h y (inl refl))) (λ x k e. e)

  nothing : (xs : List ℕ) → Nothing (map (λ x. None) xs)
  nothing [] = tt
  nothing (x ∷ xs) = (refl, nothing xs)

  updates_mean : (f : Value → Value → Value) (first : Float → Option Known) (k : EventKind) (v : Value) (n r : Option Float) → Below n r
      → ((x : Float) (j : Known) → first x ≡ Some j → f v (plain (value.number x)) ≡ in_world w j)
      → Means w (bind n first ∷ bind n (λ x. Some (prim (value.number x))) ∷ []) (updating (λ old new. f old new ∷ new ∷ []) k v r)
  updates_mean f first k v None None b g = (refl, (refl, tt))
  updates_mean f first k v None (Some z) b g = ((λ j e. cc), ((λ j e. cc), tt))
  updates_mean f first k v (Some x) None b g = (cc (b x refl), (cc (b x refl), tt))
  updates_mean f first k v (Some x) (Some z) b g =
      let same = same_Some z x (b x refl) in
      ((λ j e. rw same (g x j e)), ((λ j e. rw same (ap (in_world w) (same_Some (prim (value.number x)) j e))), tt))

  -- What is yielded is what the instruction comes to in a run, where all that it reads has been assigned.
  pub means : (T : List (List ℕ)) (i : Instruction) → Has t (reads i) → Means w (yields c T κ i) (meaning w T i (map (value_of t) (reads i)))
  means T (load_local x y s) h = (look y (h y (inl refl)), tt)
  means T (store_local x p k y s) h = (look y (h y (inl refl)), (look y (h y (inl refl)), tt))
  means T (primitive x l s) h = ((λ k e. ap (in_world w) (same_Some (prim (literal_value T l)) k e)), tt)
  means T (binary x o y z s) h = told _ _ _ _ (folds T (binary x o y z s) h)
  means T (unary x o y s) h = told _ _ _ _ (folds T (unary x o y s) h)
  means T (property_load x o p s) h =
      told _ _ _ _ (subst (λ (r : Option Primitive). Below (fold c T (property_load x o p s) (map (prim_at κ) (o ∷ []))) r) (getting_as T x o p s (value_of t o)) (folds T (property_load x o p s) h))
  means T (computed_load x o p s) h = told None (length_fold (primitive_in (value_of t o)) (primitive_in (value_of t p))) _ _ (λ v e. cc)
  means T (load_global x b s) h = ((λ k e. ap (in_world w) (same_Some (glob (text_at T (binding_name b))) k e)), tt)
  means T (template x ys qs s) h = told _ _ _ _ (folds T (template x ys qs s) h)
  means T (prefix_update x p o y s) h = updates_mean (λ old new. new) _ _ _ _ _ (updates o y h) (λ x j e. ap (in_world w) (same_Some (prim (value.number x)) j e))
  means T (postfix_update x p o y s) h = updates_mean (λ old new. old) (λ x. κ y) _ _ _ _ (updates o y h) (λ x. look y (h y (inl refl)))
  means T (opaque k ys xs) h = nothing xs
  means T i h = (refl, tt)
