-- Members of lists: as facts, as tests, and counted.
use Rattle.std.proofs.Common.{◌≡◌, ℕ, ◌+◌, ◌≤◌, Bool, true, false, cond, eqb, ◌⊎◌, List, [], ◌∷◌, ◌++◌, map, refl, ap, inl, inr, arith}
use Rattle.hir.specs.Lists.{Mem, all, count, distinct, flat_map, has, keep}
use Rattle.std.proofs.lemmas.Bool.{cases_Bool, eqb-true, false≢true, or_cases, or_parts}
use Rattle.std.proofs.lemmas.Bool.Decides.{nat_tests}
use Rattle.std.proofs.lemmas.Grind.{common_steps}
use Rattle.std.proofs.lemmas.List.Recursion.{is_sum_by}

-- ---- tests

pub has-mem : (x : ℕ) (xs : List ℕ) → has x xs ≡ true → Mem x xs
has-mem x [] e = absurd (false≢true e)
has-mem x (y ∷ ys) e = elim (or_cases (eqb x y) (has x ys) e) [ inl h ↦ inl (eqb-true x y h) | inr h ↦ inr (has-mem x ys h) ]

pub mem-has : (x : ℕ) (xs : List ℕ) → Mem x xs → has x xs ≡ true
mem-has x [] m = absurd m
mem-has x (y ∷ ys) m = grind (arith, nat_tests, mem-has x ys)

pub lacks : (x : ℕ) (xs : List ℕ) → has x xs ≡ false → Mem x xs → ⊥
lacks x [] e m = m
lacks x (y ∷ ys) e m = grind (arith, nat_tests, lacks x ys)

-- a number stands in a list, or does not
pub member : (x : ℕ) (xs : List ℕ) → Mem x xs ⊎ (Mem x xs → ⊥)
member x xs = elim (cases_Bool (has x xs)) [ inl e ↦ inl (has-mem x xs e) | inr e ↦ inr (lacks x xs e) ]

pub not_missing : (x : ℕ) (xs : List ℕ) → ((Mem x xs → ⊥) → ⊥) → Mem x xs
not_missing x xs f = elim (member x xs) [ inl m ↦ m | inr n ↦ absurd (f n) ]

pub all_mem : {A : Type 0} (p : A → Bool) (x : A) (xs : List A) → all p xs ≡ true → Mem x xs → p x ≡ true
all_mem p x [] e m = absurd m
all_mem p x (y ∷ ys) e m = grind (arith, all_mem p x ys)

pub all_has : (x : ℕ) (xs ys : List ℕ) → all (λ c. has c ys) xs ≡ true → Mem x xs → Mem x ys
all_has x xs ys e m = has-mem x ys (all_mem (λ c. has c ys) x xs e m)

-- ---- lists joined and mapped

pub mem_right : {A : Type 0} (x : A) (xs ys : List A) → Mem x ys → Mem x (xs ++ ys)
mem_right x [] ys m = m
mem_right x (z ∷ xs) ys m = inr (mem_right x xs ys m)

pub mem_left : {A : Type 0} (x : A) (xs ys : List A) → Mem x xs → Mem x (xs ++ ys)
mem_left x [] ys m = absurd m
mem_left x (z ∷ xs) ys m = grind (arith, mem_left x xs ys)

pub mem_split : {A : Type 0} (x : A) (xs ys : List A) → Mem x (xs ++ ys) → Mem x xs ⊎ Mem x ys
mem_split x [] ys m = inr m
mem_split x (z ∷ xs) ys m = grind (arith, mem_split x xs ys)

pub mem-map : {A B : Type 0} (f : A → B) (x : A) (xs : List A) → Mem x xs → Mem (f x) (map f xs)
mem-map f x [] m = absurd m
mem-map f x (z ∷ xs) (inl e) = inl (ap f e)
mem-map f x (z ∷ xs) (inr m) = inr (mem-map f x xs m)

pub map-mem : {A B : Type 0} (f : A → B) (y : B) (xs : List A) → Mem y (map f xs) → (x : A) × Mem x xs × (y ≡ f x)
map-mem f y [] m = absurd m
map-mem f y (z ∷ xs) (inl e) = (z, inl refl, e)
map-mem f y (z ∷ xs) (inr m) = let r = map-mem f y xs m in (r.0, inr r.1, r.2)

pub mem-flat : {A B : Type 0} (f : A → List B) (x : A) (y : B) (xs : List A) → Mem x xs → Mem y (f x) → Mem y (flat_map f xs)
mem-flat f x y [] m h = absurd m
mem-flat f x y (z ∷ xs) m h = grind (arith, mem_left, mem_right, mem-flat f x y xs)

pub flat-mem : {A B : Type 0} (f : A → List B) (y : B) (xs : List A) → Mem y (flat_map f xs) → (x : A) × Mem x xs × Mem y (f x)
flat-mem f y [] m = absurd m
flat-mem f y (z ∷ xs) m = elim (mem_split y (f z) (flat_map f xs) m) [ inl h ↦ (z, inl refl, h) | inr h ↦ (let r = flat-mem f y xs h in (r.0, inr r.1, r.2)) ]

pub mem-keep : {A : Type 0} (p : A → Bool) (x : A) (xs : List A) → Mem x xs → p x ≡ true → Mem x (keep p xs)
mem-keep p x [] m e = absurd m
mem-keep p x (z ∷ xs) m e = grind (arith, mem-keep p x xs)

pub keep-mem : {A : Type 0} (p : A → Bool) (x : A) (xs : List A) → Mem x (keep p xs) → Mem x xs × (p x ≡ true)
keep-mem p x [] m = absurd m
keep-mem p x (z ∷ xs) m = grind (arith, keep-mem p x xs)

-- ---- counted

pub count-append : (x : ℕ) (xs ys : List ℕ) → count x (xs ++ ys) ≡ count x xs + count x ys
count-append x xs ys = grind (arith, common_steps, is_sum_by (count x) (λ y. cond (eqb x y) 1 0) refl (λ _ _. refl))

pub mem-count : (x : ℕ) (xs : List ℕ) → Mem x xs → 1 ≤ count x xs
mem-count x [] m = absurd m
mem-count x (y ∷ xs) m = grind (arith, nat_tests, mem-count x xs)

pub count_none : (x : ℕ) (xs : List ℕ) → has x xs ≡ false → count x xs ≡ 0
count_none x [] e = refl
count_none x (y ∷ xs) e = let o = or_parts (eqb x y) (has x xs) e in rw (o.0, count_none x xs o.1)

-- what is distinct has each number once at the most
pub distinct-count : (x : ℕ) (xs : List ℕ) → distinct xs ≡ true → count x xs ≤ 1
distinct-count x [] e = omega arith
distinct-count x (y ∷ xs) e = grind (arith, nat_tests, count_none, distinct-count x xs)
