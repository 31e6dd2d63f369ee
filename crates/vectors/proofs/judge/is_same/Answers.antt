-- The equality of optional values says whether they mean the same.
use Rattle.std.proofs.Common.{◌≡◌, Some, None, Option, Decides, refl, ap}
use Rattle.std.proofs.lemmas.Bool.Decides.{Decides-at, Decides-like}
use Rattle.std.specs.Option.{option_eq, option_map}
use Rattle.ecma.proofs.Sameness.{one_then_same, same_then_one}
use Rattle.ecma.specs.contracts.primitive_value.PrimitiveValuePartialEq.TheImpl.{ghosts}
use Rattle.ecma.specs.declared.primitive_value.PrimitiveValue.{PrimitiveValue}
use Rattle.ecma.specs.Value.{value_of}
use Rattle.vectors.proofs.judge.is_same.Goals as goal

both : (x y : Option PrimitiveValue) → Decides (option_eq ghosts.eq x y) (option_map value_of x ≡ option_map value_of y)
both None None = (λ h. refl, λ e. refl)
both None (Some y) = (λ h. cc, λ e. cc)
both (Some x) None = (λ h. cc, λ e. cc)
both (Some x) (Some y) = Decides-like (ghosts.eq x y) (ap Some) (λ e. cc) (same_then_one x y, one_then_same x y)

pub returns : goal.returns
returns c = Decides-at c.eq.result _ c.eq.ensures (both c.args.found c.args.expected)
