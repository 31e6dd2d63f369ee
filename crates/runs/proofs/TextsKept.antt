-- Texts are only added behind the others, so what names the texts that were there means what it meant.
use Rattle.std.proofs.Common.{◌≡◌, ℕ, List, [], ◌∷◌, map, Some, None, Option, refl, ap, inl, inr}
use Rattle.ecma.specs.Value.{Primitive}
use Rattle.hir.proofs.Members.{mem_left, mem_right}
use Rattle.hir.specs.Body.{Constant, global_constant, primitive_constant, text_at}
use Rattle.hir.specs.Lists.{Mem, flat_map, listed}
use Rattle.hir.specs.Places.{binding_name, binding_texts, literal_texts, property_texts, texts_named}
use Rattle.hir.specs.Script.{Binding, Instruction, Literal, Property, Quasi}
use Rattle.hir.specs.Script.{import_default}
use Rattle.hir.specs.Script.{text}
use Rattle.hir.specs.Script.{name, index}
use Rattle.hir.specs.Script.{primitive, property_store, property_load, load_global, template}
use Rattle.runs.proofs.Senses.{Knowledge, glob, prim, sense}
use Rattle.runs.proofs.Yields.{prim_at, yields}
use Rattle.runs.specs.Folds.{Conversions, always, cooked_texts, fold, key_value, literal_value}
use Rattle.runs.specs.Runs.{Value, World, meaning, primitive_in}
use Rattle.std.specs.Option.{option_map}

-- the texts of these numbers are the same
abbrev pub SameTexts : List (List ℕ) → List (List ℕ) → List ℕ → Type 0
SameTexts T T' ts = (t : ℕ) → Mem t ts → text_at T' t ≡ text_at T t

-- A number below `length T` names the same text in `T ++ U` by std's `get_or_append_left`, and `length T` the text that is added by `get_or_push`.

-- ---- what instructions hold

abbrev pub constant_texts : Constant → List ℕ
constant_texts (primitive_constant l s) = literal_texts l
constant_texts (global_constant b s) = binding_texts b

literal_same : (T T' : List (List ℕ)) (l : Literal) → SameTexts T T' (literal_texts l) → literal_value T' l ≡ literal_value T l
literal_same T T' (text t) e = rw (e t (inl refl))
literal_same T T' l e = refl

key_same : (T T' : List (List ℕ)) (p : Property) → SameTexts T T' (property_texts p) → key_value T' p ≡ key_value T p
key_same T T' (name t) e = rw (e t (inl refl))
key_same T T' (index x) e = refl

binding_same : (T T' : List (List ℕ)) (b : Binding) → SameTexts T T' (binding_texts b) → text_at T' (binding_name b) ≡ text_at T (binding_name b)
binding_same T T' (import_default n m) e = e n (inl refl)
binding_same T T' b e = e (binding_name b) (inl refl)

cooked_same : (T T' : List (List ℕ)) (qs : List Quasi) → SameTexts T T' (flat_map (λ q. q.raw ∷ listed q.cooked) qs) → cooked_texts T' qs ≡ cooked_texts T qs
cooked_same T T' [] e = refl
cooked_same T T' (q ∷ qs) e =
    let one : option_map (text_at T') q.cooked ≡ option_map (text_at T) q.cooked = by q.cooked (λ t m. e t (mem_left t (q.raw ∷ listed q.cooked) _ (inr m))) in
    let rest = cooked_same T T' qs (λ t m. e t (mem_right t (q.raw ∷ listed q.cooked) _ m)) in
    rw (one, rest)
  where
    by : (o : Option ℕ) → SameTexts T T' (listed o) → option_map (text_at T') o ≡ option_map (text_at T) o
    by None f = refl
    by (Some t) f = rw (f t (inl refl))

pub sense_same : (T T' : List (List ℕ)) (c : Constant) → SameTexts T T' (constant_texts c) → sense T' c ≡ sense T c
sense_same T T' (primitive_constant l s) e = ap prim (literal_same T T' l e)
sense_same T T' (global_constant b s) e = ap glob (binding_same T T' b e)

-- ---- instructions

module _ (c : Conversions) (T T' : List (List ℕ)) where
  fold_same : (i : Instruction) → SameTexts T T' (texts_named i) → (vs : List (Option Primitive)) → fold c T' i vs ≡ fold c T i vs
  fold_same (property_load x o p s) e vs = rw (key_same T T' p e)
  fold_same (template x ys qs s) e vs = rw (cooked_same T T' qs e)
  fold_same i e vs = refl

  pub yields_same : (κ : Knowledge) (i : Instruction) → SameTexts T T' (texts_named i) → yields c T' κ i ≡ yields c T κ i
  yields_same κ (primitive x l s) e = rw (literal_same T T' l e)
  yields_same κ (property_load x o p s) e = rw (fold_same (property_load x o p s) e (map (prim_at κ) (o ∷ [])))
  yields_same κ (load_global x b s) e = rw (binding_same T T' b e)
  yields_same κ (template x ys qs s) e = rw (fold_same (template x ys qs s) e (map (prim_at κ) ys))
  yields_same κ i e = refl

pub meaning_same : (w : World) (T T' : List (List ℕ)) (i : Instruction) → SameTexts T T' (texts_named i) → (vs : List Value) → meaning w T' i vs ≡ meaning w T i vs
meaning_same w T T' (primitive x l s) e vs = rw (literal_same T T' l e)
meaning_same w T T' (property_store x o p v s) e vs = rw (key_same T T' p e)
meaning_same w T T' (property_load x o p s) e vs = rw (key_same T T' p e)
meaning_same w T T' (load_global x b s) e vs = rw (binding_same T T' b e)
meaning_same w T T' (template x ys qs s) e vs = rw (fold_same (always w.conversions) T T' (template x ys qs s) e (map primitive_in vs))
meaning_same w T T' i e vs = refl
