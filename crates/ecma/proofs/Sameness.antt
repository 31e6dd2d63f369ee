-- For two values the derived equality is SameValue, and says whether they are one. So does strict equality for those that are no Numbers.
use Rattle.std.proofs.Common.{◌≡◌, true, false, Decides, refl, ap}
use Rattle.std.proofs.lemmas.Bool.Decides.{Decides-like}
use Rattle.std.proofs.lemmas.Slice.Eq.{bytes_eq-Decides}
use Rattle.std.specs.Str.{bytes_eq}
use Rattle.ecma.proofs.Stored.{bits_same, values_decide}
use Rattle.ecma.specs.Comparison.{is_strictly_equal, same_value}
use Rattle.ecma.specs.contracts.primitive_value.PrimitiveValuePartialEq.TheImpl.{ghosts}
use Rattle.ecma.specs.declared.float_value.FloatValue.{FloatValue}
use Rattle.ecma.specs.declared.primitive_value.PrimitiveValue.{PrimitiveValue}
use Rattle.ecma.specs.declared.primitive_value.PrimitiveValue.TheVariants.{Null, Undefined, Boolean, Number, String}
use Rattle.ecma.specs.Value.{Primitive, null, undefined, boolean, number, string, value_of}

abbrev Same : PrimitiveValue → PrimitiveValue → Type 0
Same x y = (ghosts.eq x y ≡ same_value (value_of x) (value_of y)) × Decides (ghosts.eq x y) (value_of x ≡ value_of y)

same : (x y : PrimitiveValue) → Same x y
same Null Null = (refl, (λ h. refl, λ e. refl))
same Null Undefined = (refl, (λ h. cc, λ e. cc))
same Null (Boolean b) = (refl, (λ h. cc, λ e. cc))
same Null (Number w) = (refl, (λ h. cc, λ e. cc))
same Null (String t) = (refl, (λ h. cc, λ e. cc))
same Undefined Null = (refl, (λ h. cc, λ e. cc))
same Undefined Undefined = (refl, (λ h. refl, λ e. refl))
same Undefined (Boolean b) = (refl, (λ h. cc, λ e. cc))
same Undefined (Number w) = (refl, (λ h. cc, λ e. cc))
same Undefined (String t) = (refl, (λ h. cc, λ e. cc))
same (Boolean a) Null = (refl, (λ h. cc, λ e. cc))
same (Boolean a) Undefined = (refl, (λ h. cc, λ e. cc))
same (Boolean true) (Boolean true) = (refl, (λ h. refl, λ e. refl))
same (Boolean true) (Boolean false) = (refl, (λ h. cc, λ e. cc))
same (Boolean false) (Boolean true) = (refl, (λ h. cc, λ e. cc))
same (Boolean false) (Boolean false) = (refl, (λ h. refl, λ e. refl))
same (Boolean a) (Number w) = (refl, (λ h. cc, λ e. cc))
same (Boolean a) (String t) = (refl, (λ h. cc, λ e. cc))
same (Number v) Null = (refl, (λ h. cc, λ e. cc))
same (Number v) Undefined = (refl, (λ h. cc, λ e. cc))
same (Number v) (Boolean b) = (refl, (λ h. cc, λ e. cc))
same (Number v) (Number w) = (bits_same v w, Decides-like (ghosts.eq (Number v) (Number w)) (ap number) (λ e. cc) (values_decide v w))
same (Number v) (String t) = (refl, (λ h. cc, λ e. cc))
same (String s) Null = (refl, (λ h. cc, λ e. cc))
same (String s) Undefined = (refl, (λ h. cc, λ e. cc))
same (String s) (Boolean b) = (refl, (λ h. cc, λ e. cc))
same (String s) (Number w) = (refl, (λ h. cc, λ e. cc))
same (String s) (String t) = (refl, Decides-like (ghosts.eq (String s) (String t)) (ap string) (λ e. cc) (bytes_eq-Decides s.now t.now))

pub same_is : (x y : PrimitiveValue) → ghosts.eq x y ≡ same_value (value_of x) (value_of y)
same_is x y = (same x y).0

pub same_then_one : (x y : PrimitiveValue) → ghosts.eq x y ≡ true → value_of x ≡ value_of y
same_then_one x y = (same x y).1.0

pub one_then_same : (x y : PrimitiveValue) → value_of x ≡ value_of y → ghosts.eq x y ≡ true
one_then_same x y = (same x y).1.1

abbrev Strictly : Primitive → Primitive → Type 0
Strictly x y = (is_strictly_equal x y ≡ same_value x y) × Decides (is_strictly_equal x y) (x ≡ y)

-- y is any Primitive, also one that no PrimitiveValue stores
pub no_number_same : (x : PrimitiveValue) → ((n : FloatValue) → x ≡ Number n → ⊥) → (y : Primitive) → Strictly (value_of x) y
no_number_same Null h null = (refl, (λ h. refl, λ e. refl))
no_number_same Undefined h undefined = (refl, (λ h. refl, λ e. refl))
no_number_same (Boolean true) h (boolean true) = (refl, (λ h. refl, λ e. refl))
no_number_same (Boolean false) h (boolean false) = (refl, (λ h. refl, λ e. refl))
no_number_same (Number n) h y = absurd (h n refl)
no_number_same (String t) h (string u) = (refl, Decides-like (bytes_eq t.now u) (ap string) (λ e. cc) (bytes_eq-Decides t.now u))
no_number_same x h y = (refl, (λ e. cc, λ e. cc))

pub ruleset sameness = (same_is, same_then_one, one_then_same)
