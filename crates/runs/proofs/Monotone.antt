-- What folds with fewer answers, or with fewer values known, folds to the same with more.
use Rattle.std.proofs.Common.{arith, ◌≡◌, ℕ, suc, Bool, cond, ◌||◌, eqb, List, [], ◌∷◌, map, length, Some, None, Option, refl}
use lib.Ieee.{Float}
use Rattle.ecma.specs.Comparison.{is_loosely_equal}
use Rattle.ecma.specs.declared.operators.BinaryOperator.{BinaryOperator}
use Rattle.ecma.specs.declared.operators.BinaryOperator.TheVariants.{Equality, Inequality}
use Rattle.ecma.specs.Operators.{binary_fold}
use Rattle.ecma.specs.Value.{Primitive, boolean, number, string}
use Rattle.hir.specs.Script.{Instruction}
use Rattle.hir.specs.Script.{binary, unary, property_load, template}
use Rattle.runs.specs.Folds.{Conversions, Within, alternately, at_both, at_first, bind, cooked_texts, fold, is_empty, join_all, piece_text, template_fold}
use Rattle.std.proofs.lemmas.List.Elements.{length_all_zip}
use Rattle.std.specs.List.{AllZip}
use Rattle.std.specs.Option.{option_map}

-- q has what p has, if p has anything
abbrev pub Below : {A : Type 0} → Option A → Option A → Type 0
Below {A} p q = (x : A) → p ≡ Some x → q ≡ Some x

-- place by place
abbrev pub AllBelow : {A : Type 0} → List (Option A) → List (Option A) → Type 0
AllBelow ps qs = AllZip (λ p q. Below p q) ps qs

pub zip_self : {A : Type 0} (R : A → A → Type 0) → ((x : A) → R x x) → (xs : List A) → AllZip R xs xs
zip_self R h [] = tt
zip_self R h (x ∷ xs) = (h x, zip_self R h xs)

pub all_same : {A : Type 0} (ps : List (Option A)) → AllBelow ps ps
all_same ps = zip_self _ (λ p x e. e) ps

pub maps_below : {A B : Type 0} (f g : A → Option B) → ((x : A) → Below (f x) (g x)) → (xs : List A) → AllBelow (map f xs) (map g xs)
maps_below f g h [] = tt
maps_below f g h (x ∷ xs) = (h x, maps_below f g h xs)

pub mapped_below : {A B : Type 0} (f : A → B) (p q : Option A) → Below p q → Below (option_map f p) (option_map f q)
mapped_below f None q b y e = cc
mapped_below f (Some x) q b y e = rw (b x refl) e

pub bind_below : {A B : Type 0} (p q : Option A) (f g : A → Option B) → Below p q → ((x : A) → Below (f x) (g x)) → Below (bind p f) (bind q g)
bind_below None q f g b h y e = cc
bind_below (Some x) q f g b h y e = rw (b x refl) (h x y e)

-- ---- operators

module _ (h g : List ℕ → Option Float) (more : (t : List ℕ) → Below (h t) (g t)) where
  equal_below : (x y : Primitive) → Below (is_loosely_equal h x y) (is_loosely_equal g x y)
  equal_below (boolean a) (string t) b e = mapped_below _ (h t) (g t) (more t) b e
  equal_below (number x) (string t) b e = mapped_below _ (h t) (g t) (more t) b e
  equal_below (string t) (boolean c) b e = mapped_below _ (h t) (g t) (more t) b e
  equal_below (string t) (number y) b e = mapped_below _ (h t) (g t) (more t) b e
  equal_below x y b e = e

  binary_below : (o : BinaryOperator) (x y : Primitive) → Below (binary_fold h o x y) (binary_fold g o x y)
  binary_below Equality x y v e = mapped_below _ _ _ (equal_below x y) v e
  binary_below Inequality x y v e = mapped_below _ _ _ (equal_below x y) v e
  binary_below o x y v e = e

firsts_below : (us vs : List (Option Primitive)) (f g : Primitive → Option Primitive) → AllBelow us vs → ((x : Primitive) → Below (f x) (g x)) → Below (at_first us f) (at_first vs g)
firsts_below [] [] f g b h v e = e
firsts_below (p ∷ ps) (q ∷ qs) f g b h v e = bind_below p q f g b.0 h v e
firsts_below us vs f g b h v e = absurd b

boths_below : (us vs : List (Option Primitive)) (f g : Primitive → Primitive → Option Primitive) → AllBelow us vs → ((x y : Primitive) → Below (f x y) (g x y)) → Below (at_both us f) (at_both vs g)
boths_below [] [] f g b h v e = e
boths_below (p ∷ ps) (q ∷ qs) f g b h v e = bind_below p q _ _ b.0 (λ x. firsts_below ps qs (f x) (g x) b.1 (h x)) v e
boths_below us vs f g b h v e = absurd b

-- ---- templates

alternately_below : (qs ps rs : List (Option (List ℕ))) → AllBelow ps rs → AllBelow (alternately qs ps) (alternately qs rs)
alternately_below [] ps rs b = b
alternately_below (q ∷ qs) [] [] b = all_same (q ∷ qs)
alternately_below (q ∷ qs) (p ∷ ps) (r ∷ rs) b = ((λ x e. e), (b.0, alternately_below qs ps rs b.1))
alternately_below (q ∷ qs) ps rs b = absurd b

join_below : (ps qs : List (Option (List ℕ))) → AllBelow ps qs → Below (join_all ps) (join_all qs)
join_below [] [] b t e = e
join_below (None ∷ ps) (q ∷ qs) b t e = cc
join_below (Some u ∷ ps) (q ∷ qs) b t e = rw (b.0 u refl) (mapped_below _ (join_all ps) (join_all qs) (join_below ps qs b.1) t e)
join_below ps qs b t e = absurd b

empty_below : (ps qs : List (Option (List ℕ))) → AllBelow ps qs → is_empty ps ≡ is_empty qs
empty_below [] [] b = refl
empty_below (p ∷ ps) (q ∷ qs) b = refl
empty_below ps qs b = absurd b

cond_below : (b : Bool) (p q : Option (List ℕ)) → Below p q → Below (cond b p None) (cond b q None)
cond_below b p q m t e = grind (arith, m)

template_below : (qs ps rs : List (Option (List ℕ))) → AllBelow ps rs → Below (template_fold qs ps) (template_fold qs rs)
template_below qs ps rs b =
    rw (← empty_below ps rs b, ← length_all_zip _ ps rs b) (cond_below (is_empty ps || eqb (length qs) (suc (length ps))) _ _ (join_below (alternately qs ps) (alternately qs rs) (alternately_below qs ps rs b)))

-- ---- instructions

pub within_self : (c : Conversions) → Within c c
within_self c = record { texts = λ x t e. e; numbers = λ t x e. e }

-- d answers what c does, and perhaps more
module _ (c d : Conversions) (w : Within c d) where
  piece_below : (v : Primitive) → Below (piece_text c v) (piece_text d v)
  piece_below (number x) t e = w.texts x t e
  piece_below v t e = e

  pieces_below : (us vs : List (Option Primitive)) → AllBelow us vs → AllBelow (map (λ v. bind v (piece_text c)) us) (map (λ v. bind v (piece_text d)) vs)
  pieces_below [] [] b = tt
  pieces_below (p ∷ ps) (q ∷ qs) b = (bind_below p q _ _ b.0 piece_below, pieces_below ps qs b.1)
  pieces_below us vs b = absurd b

  pub fold_below : (texts : List (List ℕ)) (i : Instruction) (us vs : List (Option Primitive)) → AllBelow us vs → Below (fold c texts i us) (fold d texts i vs)
  fold_below texts (binary x o y z s) us vs b v e = boths_below us vs _ _ b (binary_below c.number_of d.number_of w.numbers o) v e
  fold_below texts (unary x o y s) us vs b v e = firsts_below us vs _ _ b (λ x v e. e) v e
  fold_below texts (property_load x o p s) us vs b v e = firsts_below us vs _ _ b (λ x v e. e) v e
  fold_below texts (template x ys qs s) us vs b v e = mapped_below _ _ _ (template_below (cooked_texts texts qs) _ _ (pieces_below us vs b)) v e
  fold_below texts i us vs b v e = e
