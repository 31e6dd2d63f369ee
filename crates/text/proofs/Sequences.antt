-- Where bytes begin with a sequence it is a text, and where they begin with none they begin with no character.
use Rattle.std.proofs.Common.{◌≡◌, ℕ, ◌+◌, ◌-◌, ◌*◌, ◌<◌, ◌≤◌, Bool, true, false, cond, ◌&&◌, ◌⊎◌, List, [], ◌∷◌, ◌++◌, length, get_or, take, Some, None, IsUtf8, Decides, Option, refl, sym, subst, ⊎_elim, arith}
use Rattle.std.proofs.lemmas.Bool.{false≢true}
use Rattle.std.proofs.lemmas.Bool.Decides.{nat_tests, Decides-and}
use Rattle.std.proofs.lemmas.List.{length-append, drop_at, take_at}
use Rattle.std.proofs.lemmas.Str.{IsUtf8-append, IsUtf8-drop, IsUtf8-nil, IsCharBoundary-from_take}
use Rattle.std.proofs.str.Faults.{Ranged, no_char, valid_to, not_text}
use Rattle.std.proofs.str.Laws.{Follows}
use Rattle.std.proofs.str.Valid.{of_one, of_two, of_three, of_four}
use Rattle.std.specs.Str.{StartsWithNoChar}
use Rattle.text.specs.Classes.{class_of}
use Rattle.text.specs.declared.class.ByteClass.{ByteClass}
use Rattle.text.specs.declared.class.ByteClass.TheVariants.{Digit, NameStart, Ascii, Continuation, Lead2, Lead3, Lead4, Never}
use Rattle.text.specs.Sequences.{after_lead, after_sequence, is_continuation, is_second}

-- a text of one byte at least that the rest follows, or no character
abbrev pub Begins : List ℕ → Option (List ℕ) → Type 0
Begins bs None = StartsWithNoChar bs
Begins bs (Some rest) = (text : List ℕ) × (0 < length text) × IsUtf8 text × (bs ≡ text ++ rest)

continues : (b : ℕ) → Decides (is_continuation b) (Follows b)
continues b = (λ e. grind (arith, nat_tests), λ f. grind (arith, nat_tests))

-- what the second byte is after the first of a sequence of two, three and four; `high` has the bits of both
in_two : (a b : ℕ) → (194 ≤ a) × (a < 224) → Decides (is_second a b) (Follows b)
in_two a b h = (λ e. grind (arith, nat_tests), λ f. grind (arith, nat_tests))

abbrev Three : ℕ → ℕ → Type 0
Three a b = let high = (a - 224) * 64 + (b - 128) in Follows b × (32 ≤ high) × ((high < 864) ⊎ (896 ≤ high))

in_three : (a b : ℕ) → (224 ≤ a) × (a < 240) → Decides (is_second a b) (Three a b)
in_three a b h = (λ e. grind (arith, nat_tests), λ f. grind (arith, nat_tests))

abbrev Four : ℕ → ℕ → Type 0
Four a b = let high = (a - 240) * 64 + (b - 128) in Follows b × (16 ≤ high) × (high < 272)

in_four : (a b : ℕ) → (240 ≤ a) × (a < 245) → Decides (is_second a b) (Four a b)
in_four a b h = (λ e. grind (arith, nat_tests), λ f. grind (arith, nat_tests))

-- what holds of the bytes wherever a character begins them
abbrev Ranges : List ℕ → Type 0
Ranges bs = Ranged (length bs - 0) (get_or bs 0 0) (get_or bs 1 0) (get_or bs 2 0) (get_or bs 3 0)

-- P, which the test decides, makes what stands before the rest a text, and holds wherever a character begins
by_test : {P : Type 0} (bs rest : List ℕ) (t : Bool) → Decides t P → (P → Begins bs (Some rest)) → (Ranges bs → P) → Begins bs (cond t (Some rest) None)
by_test bs rest true says makes had = makes (says.0 refl)
by_test bs rest false says makes had = no_char bs 0 (λ r. false≢true (says.1 (had r)))

one : (a : ℕ) (rest : List ℕ) → a < 128 → Begins (a ∷ rest) (Some rest)
one a rest low = (a ∷ [], omega arith, of_one (a ∷ rest) 0 (omega arith) low, refl)

two : (a : ℕ) (rest : List ℕ) → (194 ≤ a) × (a < 224) → Begins (a ∷ rest) (after_lead Lead2 a rest)
two a [] lead = no_char (a ∷ []) 0 (λ r. omega (arith, r.second (omega arith)))
two a (b ∷ rest) lead =
    let bs = a ∷ b ∷ rest in
    by_test bs rest (is_second a b) (in_two a b lead)
    (λ f. (a ∷ b ∷ [], omega arith, of_two bs 0 (omega arith) lead f, refl))
    (λ r. (r.second (omega arith)).2)

three : (a : ℕ) (rest : List ℕ) → (224 ≤ a) × (a < 240) → Begins (a ∷ rest) (after_lead Lead3 a rest)
three a [] lead = no_char (a ∷ []) 0 (λ r. omega (arith, r.third (omega arith)))
three a (b ∷ []) lead = no_char (a ∷ b ∷ []) 0 (λ r. omega (arith, r.third (omega arith)))
three a (b ∷ c ∷ rest) lead =
    let bs = a ∷ b ∷ c ∷ rest in
    by_test bs rest (is_second a b && is_continuation c)
    (Decides-and (is_second a b) (is_continuation c) (in_three a b lead) (continues c))
    (λ f. (a ∷ b ∷ c ∷ [], omega arith, of_three bs 0 (omega arith) lead f.0.0 f.1 (omega arith) (grind arith), refl))
    (λ r. let high = r.in_three (omega arith) (omega arith) in (((r.second (omega arith)).2, high.0, high.1), (r.third (omega arith)).1))

four : (a : ℕ) (rest : List ℕ) → (240 ≤ a) × (a < 245) → Begins (a ∷ rest) (after_lead Lead4 a rest)
four a [] lead = no_char (a ∷ []) 0 (λ r. omega (arith, r.fourth (omega arith)))
four a (b ∷ []) lead = no_char (a ∷ b ∷ []) 0 (λ r. omega (arith, r.fourth (omega arith)))
four a (b ∷ c ∷ []) lead = no_char (a ∷ b ∷ c ∷ []) 0 (λ r. omega (arith, r.fourth (omega arith)))
four a (b ∷ c ∷ d ∷ rest) lead =
    let bs = a ∷ b ∷ c ∷ d ∷ rest in
    let last = Decides-and (is_continuation c) (is_continuation d) (continues c) (continues d) in
    by_test bs rest (is_second a b && (is_continuation c && is_continuation d))
    (Decides-and (is_second a b) (is_continuation c && is_continuation d) (in_four a b lead) last)
    (λ f. (a ∷ b ∷ c ∷ d ∷ [], omega arith, of_four bs 0 (omega arith) (omega arith) f.0.0 f.1.0 f.1.1 (f.0.1, f.0.2), refl))
    (λ r. let end = r.fourth (omega arith) in (((r.second (omega arith)).2, end.2.0, end.2.1), ((r.third (omega arith)).1, end.1)))

by_class : (k : ByteClass) (a : ℕ) (rest : List ℕ) → class_of a ≡ k → Begins (a ∷ rest) (after_lead k a rest)
by_class Digit a rest h = one a rest (grind (arith, nat_tests))
by_class NameStart a rest h = one a rest (grind (arith, nat_tests))
by_class Ascii a rest h = one a rest (grind (arith, nat_tests))
by_class Continuation a rest h =
    let low : (128 ≤ a) × (a < 192) = grind (arith, nat_tests) in no_char (a ∷ rest) 0 (λ r. omega (arith, r.second (omega arith)))
by_class Lead2 a rest h = two a rest (grind (arith, nat_tests))
by_class Lead3 a rest h = three a rest (grind (arith, nat_tests))
by_class Lead4 a rest h = four a rest (grind (arith, nat_tests))
by_class Never a rest h =
    let off : (192 ≤ a) × ((a < 194) ⊎ (245 ≤ a)) = grind (arith, nat_tests) in
    no_char (a ∷ rest) 0
    (λ r. ⊎_elim (λ low. omega (arith, r.second (omega arith))) (λ high. omega (arith, r.fourth (omega arith))) off.1)

pub begins : (a : ℕ) (bs : List ℕ) → Begins (a ∷ bs) (after_sequence (a ∷ bs))
begins a bs = by_class (class_of a) a bs refl

-- bytes that begin with no sequence are no text
pub no_text : (bs : List ℕ) → 0 < length bs → None ≡ after_sequence bs → IsUtf8 bs → ⊥
no_text [] some e u = omega arith
no_text (a ∷ bs) some e u =
    not_text (a ∷ bs) 0 (valid_to (a ∷ bs) 0 some IsUtf8-nil (subst (Begins (a ∷ bs)) (sym e) (begins a bs))) u

-- the rest is a text exactly where the whole is
pub record Passed (bs rest : List ℕ) : Type 0 where
  pub joined : IsUtf8 rest → IsUtf8 bs
  pub parted : IsUtf8 bs → IsUtf8 rest

past_text : (bs text rest : List ℕ) → IsUtf8 text → bs ≡ text ++ rest → Passed bs rest
past_text bs text rest u e = record {
  joined = λ v. subst IsUtf8 (sym e) (IsUtf8-append text rest u v);
  parted = λ v.
      let front : IsUtf8 (take (length text) (text ++ rest)) = subst IsUtf8 (sym (take_at text rest (length text) refl)) u in
      let place = IsCharBoundary-from_take (text ++ rest) (length text) (subst IsUtf8 e v) (omega (arith, length-append text rest)) front in
      subst IsUtf8 (drop_at text rest (length text) refl) (IsUtf8-drop (text ++ rest) (length text) (subst IsUtf8 e v) place);
}

pub passed : (bs rest : List ℕ) → Some rest ≡ after_sequence bs → Passed bs rest
passed [] rest e = cc
passed (a ∷ bs) rest e = let b = subst (Begins (a ∷ bs)) (sym e) (begins a bs) in past_text (a ∷ bs) b.0 rest b.2 b.3
