-- `whole` is `front` and the rest, so it is the join just where the rest is `back`.
use Rattle.std.proofs.Common.{◌≡◌, ◌++◌, ℕ, List, Bor, Some, None, Option, Decides, sym, ap, ◌∙◌}
use Rattle.std.proofs.lemmas.Slice.Eq.{bytes_eq-Decides, strip_prefix_is}
use Rattle.std.proofs.lemmas.List.{append_cancel_left}
use Rattle.std.proofs.lemmas.Bool.{false≢true}
use Rattle.std.proofs.lemmas.Bool.Decides.{Decides-at, Decides-like, Decides-eqb}
use Rattle.std.specs.Option.{MatchOption, option_eq}
use Rattle.std.specs.Str.{bytes_eq}
use Rattle.vectors.proofs.judge.is_join.Goals as goal

cut : (whole front : List ℕ) (back : Bor (List ℕ)) (o : Option (Bor (List ℕ)))
    → MatchOption o ((rest : List ℕ) → whole ≡ front ++ rest → ⊥) (λ rest. whole ≡ front ++ rest.now)
    → Decides (option_eq (λ a b. bytes_eq a.now b.now) o (Some back)) (front ++ back.now ≡ whole)
cut whole front back None apart = (λ e. absurd (false≢true e), λ e. absurd (apart back.now (sym e)))
cut whole front back (Some rest) parts =
    Decides-like (bytes_eq rest.now back.now)
    (λ e. ap (λ t. front ++ t) (sym e) ∙ sym parts)
    (λ e. sym (append_cancel_left front _ _ (e ∙ parts)))
    (bytes_eq-Decides rest.now back.now)

pub returns : goal.returns
returns c =
    Decides-at c.eq.result _ c.eq.ensures
    (cut c.args.whole.now c.args.front.now c.args.back c.strip_prefix.result
    (strip_prefix_is Decides-eqb c.args.whole.now c.args.front.now c.strip_prefix.result c.strip_prefix.ensures.cases))
