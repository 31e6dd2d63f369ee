-- A draft is refused for one reason at the most, and none that is accepted is refused.
use Rattle.std.proofs.Common.{◌≡◌, ℕ, ◌-◌, List, [], ◌∷◌, get_or, sym, refl, ap, ◌∙◌, arith}
use Rattle.hir.specs.Examples.{OneRefusal}
use Rattle.hir.specs.Script.{Script}
use Rattle.hir.specs.Seal.{First, FirstCause, Free, Part, causes, parts, site_of}
use Rattle.std.specs.List.{AllByRecursion}
use Rattle.table.specs.declared.refusal.Cause.{Cause}
use Rattle.table.specs.declared.refusal.Cause.TheVariants.{TableFull}
use Rattle.table.specs.declared.refusal.Layer.{Layer}
use Rattle.table.specs.declared.refusal.Layer.TheVariants as layer
use Rattle.table.specs.declared.refusal.Refusal.{Refusal}
use Rattle.table.specs.declared.refusal.Site.{Site}
use Rattle.table.specs.Refusals.{Refuses, number_of}

-- a cause by its row
abbrev pub cause_at : ℕ → Cause
cause_at n = get_or causes (n - 1) TableFull

cause_at-number : (c : Cause) → cause_at (number_of c) ≡ c
cause_at-number TableFull = refl
cause_at-number c = refl

same_cause : (a b : Cause) → number_of a ≡ number_of b → a ≡ b
same_cause a b e = sym (cause_at-number a) ∙ ap cause_at e ∙ cause_at-number b

same_refusal : (n : ℕ) (l : Layer) (s : Site) (r q : Refusal) → Refuses n l s r → Refuses n l s q → r ≡ q
same_refusal n l s r q a b = grind (arith, same_cause r.cause q.cause (a.row ∙ sym b.row))

first_one : (room : ℕ) (s : Script) (c : Cause) (e ps : List Part) (r q : Refusal) → First room s c e ps r → First room s c e ps q → r ≡ q
first_one room s c e [] r q f g = absurd f
first_one room s c e (p ∷ ps) r q f g = grind (arith, same_refusal (number_of c) layer.Seal (site_of p) r q, first_one room s c (p ∷ e) ps r q)

free_first : (room : ℕ) (s : Script) (c : Cause) (e ps : List Part) (r : Refusal) → Free room s c e ps → First room s c e ps r → ⊥
free_first room s c e [] r f g = g
free_first room s c e (p ∷ ps) r f g = grind (arith, free_first room s c (p ∷ e) ps r)

pub cause_one : (room : ℕ) (s : Script) (cs : List Cause) (r q : Refusal) → FirstCause room s cs r → FirstCause room s cs q → r ≡ q
cause_one room s [] r q f g = absurd f
cause_one room s (c ∷ cs) r q f g = grind (arith, first_one room s c [] (parts s) r q, free_first room s c [] (parts s), cause_one room s cs r q)

pub free_cause : (room : ℕ) (s : Script) (cs : List Cause) (r : Refusal) → AllByRecursion (λ c. Free room s c [] (parts s)) cs → FirstCause room s cs r → ⊥
free_cause room s [] r a f = f
free_cause room s (c ∷ cs) r a f = grind (arith, free_first room s c [] (parts s) r, free_cause room s cs r)

pub one_refusal : OneRefusal
one_refusal = record { one = λ room s r q f g. cause_one room s causes r q f g; none_accepted = λ room s r a f. free_cause room s causes r a f }
