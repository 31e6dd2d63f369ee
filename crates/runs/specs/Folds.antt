-- What can be computed from primitive values: one definition, used by rounds with a host's answers and by runs with total conversions.
use Rattle.std.specs.Prelude.{◌≡◌, ℕ, suc, Bool, true, false, cond, ◌||◌, List, [], ◌∷◌, ◌++◌, map, length, pos, Some, None, codes, Option, ◌==◌, Float}
use Rattle.ecma.specs.declared.operators.UpdateOperator.{UpdateOperator}
use Rattle.ecma.specs.Number.{number_for}
use Rattle.ecma.specs.Operators.{binary_fold, unary_fold, update_fold}
use Rattle.ecma.specs.Value.{Primitive, if_number, if_string}
use Rattle.ecma.specs.Value as value
use Rattle.hir.specs.Body.{text_at}
use Rattle.hir.specs.Script.{Instruction, Literal, Property, Quasi}
use Rattle.hir.specs.Script.{null, undefined, boolean, number, text}
use Rattle.hir.specs.Script.{name, index}
use Rattle.hir.specs.Script.{load_local, store_local, primitive, binary, unary, property_store, property_load, computed_store, computed_load, load_global, template, prefix_update, postfix_update, start_memoize, opaque}
use Rattle.std.specs.Option.{option_map}
use Rattle.std.specs.Str.{bytes_eq}
use Rattle.text.specs.Units.{units}

-- ---- conversions

-- the text of a number and the number of a text, where there is an answer
pub record Conversions : Type 0 where
  pub text_of : Float → Option (List ℕ)
  pub number_of : List ℕ → Option Float

-- d answers what c does, and perhaps more
pub record Within (c d : Conversions) : Type 0 where
  pub texts : (x : Float) (t : List ℕ) → c.text_of x ≡ Some t → d.text_of x ≡ Some t
  pub numbers : (t : List ℕ) (x : Float) → c.number_of t ≡ Some x → d.number_of t ≡ Some x

-- conversions that always answer, as those of a run do
pub record Total : Type 0 where
  pub text_of : Float → List ℕ
  pub number_of : List ℕ → Float

abbrev pub always : Total → Conversions
always t = record { text_of = λ x. Some (t.text_of x); number_of = λ s. Some (t.number_of s) }

-- ---- values of what a script holds

abbrev pub literal_value : List (List ℕ) → Literal → Primitive
literal_value texts null = value.null
literal_value texts undefined = value.undefined
literal_value texts (boolean b) = value.boolean b
literal_value texts (number x) = value.number x
literal_value texts (text t) = value.string (text_at texts t)

abbrev pub key_value : List (List ℕ) → Property → Primitive
key_value texts (name t) = value.string (text_at texts t)
key_value texts (index x) = value.number x

-- ---- folds

abbrev pub bind : {A B : Type 0} → Option A → (A → Option B) → Option B
bind None f = None
bind (Some x) f = f x

-- the `length` of a text, in UTF-16 code units
abbrev pub length_fold : Option Primitive → Option Primitive → Option Primitive
length_fold object key =
    bind object (if_string (λ t. bind key (if_string (λ k. cond (bytes_eq k (codes "length")) (Some (value.number (number_for (pos (units t))))) None) None)) None)

-- how a value is written in a template; Undefined is not
abbrev pub piece_text : Conversions → Primitive → Option (List ℕ)
piece_text c value.null = Some (codes "null")
piece_text c value.undefined = None
piece_text c (value.boolean b) = Some (cond b (codes "true") (codes "false"))
piece_text c (value.number x) = c.text_of x
piece_text c (value.string t) = Some t

-- one of the first, one of the second, and so on
abbrev pub alternately : {A : Type 0} → List A → List A → List A
alternately [] ps = ps
alternately (q ∷ qs) [] = q ∷ qs
alternately (q ∷ qs) (p ∷ ps) = q ∷ p ∷ alternately qs ps

-- the texts one after another, if all are there
abbrev pub join_all : List (Option (List ℕ)) → Option (List ℕ)
join_all [] = Some []
join_all (None ∷ ts) = None
join_all (Some t ∷ ts) = option_map (λ rest. t ++ rest) (join_all ts)

abbrev pub is_empty : {A : Type 0} → List A → Bool
is_empty [] = true
is_empty (x ∷ xs) = false

-- Without subexpressions all quasis are joined; with them there is one quasi more. All must be cooked, and each piece must be there.
abbrev pub template_fold : (quasis pieces : List (Option (List ℕ))) → Option (List ℕ)
template_fold qs ps = cond (is_empty ps || length qs == suc (length ps)) (join_all (alternately qs ps)) None

abbrev pub cooked_texts : List (List ℕ) → List Quasi → List (Option (List ℕ))
cooked_texts texts qs = map (λ q. option_map (text_at texts) q.cooked) qs

-- f at what stands first, and at what stands first and second
abbrev pub at_first : List (Option Primitive) → (Primitive → Option Primitive) → Option Primitive
at_first [] f = None
at_first (v ∷ vs) f = bind v f

abbrev pub at_both : List (Option Primitive) → (Primitive → Primitive → Option Primitive) → Option Primitive
at_both [] f = None
at_both (v ∷ vs) f = bind v (λ x. at_first vs (f x))

-- What an operator, a property's load or a template gives, where the values of what it reads are known as primitive or not. The others
-- compute nothing by themselves.
abbrev pub fold : Conversions → List (List ℕ) → Instruction → List (Option Primitive) → Option Primitive
fold c texts (load_local x y s) vs = None
fold c texts (store_local x p k y s) vs = None
fold c texts (primitive x l s) vs = None
fold c texts (binary x o y z s) vs = at_both vs (binary_fold c.number_of o)
fold c texts (unary x o y s) vs = at_first vs (unary_fold o)
fold c texts (property_store x o p v s) vs = None
fold c texts (property_load x o p s) vs = at_first vs (λ object. length_fold (Some object) (Some (key_value texts p)))
fold c texts (computed_store x o p v s) vs = None
fold c texts (computed_load x o p s) vs = None
fold c texts (load_global x b s) vs = None
fold c texts (template x ys qs s) vs = option_map value.string (template_fold (cooked_texts texts qs) (map (λ v. bind v (piece_text c)) vs))
fold c texts (prefix_update x p o y s) vs = None
fold c texts (postfix_update x p o y s) vs = None
fold c texts (start_memoize x m ds i s) vs = None
fold c texts (opaque k ys xs) vs = None

-- the Number that an update of a Number leaves
abbrev pub updated : UpdateOperator → Primitive → Option Float
updated o v = if_number (λ x. Some (update_fold o x)) None v

-- What folds with fewer answers folds to the same with more.
abbrev pub FoldsAreMonotone : Type 0
FoldsAreMonotone =
    (c d : Conversions) → Within c d → (texts : List (List ℕ)) (i : Instruction) (vs : List (Option Primitive)) (v : Primitive)
    → fold c texts i vs ≡ Some v → fold d texts i vs ≡ Some v
