-- Every text that is listed for a number is bounded.
use Rattle.std.specs.Prelude.{◌≡◌, ℕ, Bool, true, cond, ◌&&◌, List, [], ◌∷◌, Some, Float}
use Rattle.std.proofs.Common.{sym, ap, ◌∙◌, subst, ⊎_elim, arith}
use Rattle.ecma.specs.Number.{number_same_value}
use Rattle.host.specs.Answers.{Bounded}
use Rattle.host.specs.declared.list.TextEntry.{TextEntry}
use Rattle.host.specs.ListHost.{can_be_number_text, listed_text}
use Rattle.std.proofs.lemmas.Bool.{cases_Bool, and_parts, leb-true}
use Rattle.std.proofs.lemmas.Str.{IsUtf8-from_is_utf8}
use Rattle.std.specs.List.{find}
use Rattle.std.specs.Option.{option_map}

-- what holds at each entry that passes holds of the answer
pub of_answer :
    {A B : Type 0} (p : A → Bool) (f : A → B) (P : B → Type 0) → ((x : A) → p x ≡ true → P (f x))
    → (xs : List A) (y : B) → option_map f (find p xs) ≡ Some y → P y
of_answer p f P h [] y e = let z : ◌≡◌ {A = ℕ} 0 1 = cc in absurd (omega arith)
of_answer p f P h (x ∷ xs) y e =
    let F = λ (b : Bool). option_map f (cond b (Some x) (find p xs)) in
    ⊎_elim
    (λ t. let s = sym (ap F t) ∙ e in let k : f x ≡ y = cc in subst P k (h x t))
    (λ u. of_answer p f P h xs y (sym (ap F u) ∙ e))
    (cases_Bool (p x))

pub listed_bounded : (es : List TextEntry) (x : Float) (t : List ℕ) → listed_text es x ≡ Some t → Bounded t
listed_bounded es x t e =
    of_answer (λ (s : TextEntry). number_same_value x s.number && can_be_number_text s.text.now) (λ (s : TextEntry). s.text.now) Bounded
    (λ s h. let p = and_parts _ _ (and_parts _ _ h).1 in record { short = leb-true _ _ p.0; valid = IsUtf8-from_is_utf8 s.text.now p.1 })
    es t e
