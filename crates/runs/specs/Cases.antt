-- Eight worked cases, from operators to a whole script.
use Rattle.std.specs.Prelude.{◌≡◌, ℕ, true, false, List, [], ◌∷◌, ℤ, pos, negsuc, Some, None, codes, Option, Float}
use Rattle.std.specs.Float.{nan, fin}
use Rattle.ecma.specs.declared.operators.BinaryOperator.TheVariants as operator
use Rattle.ecma.specs.Number.{number_for}
use Rattle.ecma.specs.Operators.{binary_fold}
use Rattle.ecma.specs.Value as value
use Rattle.hir.specs.Body.{Body, block_at, primitive_constant, sealing}
use Rattle.hir.specs.Examples.{block, is, phi, returning, to_block, when}
use Rattle.hir.specs.Script.{Script}
use Rattle.hir.specs.Script as script
use Rattle.hir.specs.Script.{binary}
use Rattle.hir.specs.Seal.{SealAccepts}
use Rattle.host.specs.DigitHost.{is_name, number_text, text_number}
use Rattle.runs.specs.Folds.{length_fold}
use Rattle.runs.specs.Rounds.{HostMeaning, Room, phi_constant, round}
use Rattle.runs.specs.Tidies.{tidy}

-- ---- writing scripts

abbrev pub digits : HostMeaning
digits = record { conversions = record { text_of = number_text; number_of = text_number }; names = is_name }

abbrev pub ample : Room
ample = record { bytes = 65536; texts = 4096 }

abbrev pub int : ℤ → Float
int z = number_for z

-- ---- the script with two branches

-- 0: 0 is 8, 1 is 6, 2 is 0 > 1, If 2 to 1, else 2.  1: 3 is "main", Goto 3.  2: 4 is "branch", Goto 3.  3: phi 5 of 3 and 4, Return 5.
abbrev pub two_branches : Script
two_branches = record {
  texts = codes "main" ∷ codes "branch" ∷ [];
  parameters = [];
  blocks =
      block [] (is 0 (script.number (int (pos 8))) ∷ is 1 (script.number (int (pos 6))) ∷ binary 2 operator.GreaterThan 0 1 None ∷ []) (when 2 1 2 3)
      ∷ block [] (is 3 (script.text 0) ∷ []) (to_block 3)
      ∷ block [] (is 4 (script.text 1) ∷ []) (to_block 3)
      ∷ block (phi 5 ((1, 3) ∷ (2, 4) ∷ []) ∷ []) [] (returning 5)
      ∷ [];
}

abbrev pub branches_sealed : Body
branches_sealed = sealing 6 two_branches

abbrev pub branches_folded : Body
branches_folded = (round digits ample branches_sealed).body

abbrev pub branches_tidied : Body
branches_tidied = tidy branches_folded

-- ---- the cases

abbrev no_numbers : List ℕ → Option Float
no_numbers t = None

pub record EightCases : Type 0 where
  -- 1: -1 >>> 0
  pub unsigned : binary_fold no_numbers operator.ShiftRightZeroFill (value.number (int (negsuc 0))) (value.number (int (pos 0))) ≡ Some (value.number (int (pos 4294967295)))
  -- 2: 2147483648 | 0
  pub wrapping : binary_fold no_numbers operator.BitwiseOR (value.number (int (pos 2147483648))) (value.number (int (pos 0))) ≡ Some (value.number (int (negsuc 2147483647)))
  -- 3: -1 % 1
  pub negative_zero : binary_fold no_numbers operator.Remainder (value.number (int (negsuc 0))) (value.number (int (pos 1))) ≡ Some (value.number (fin true 0 (pos 0)))
  -- 4: null == 0
  pub null_and_zero : binary_fold no_numbers operator.Equality value.null (value.number (int (pos 0))) ≡ Some (value.boolean false)
  -- 5: true == "1", with the digit host
  pub true_and_one : binary_fold text_number operator.Equality (value.boolean true) (value.string (codes "1")) ≡ Some (value.boolean true)
  -- 6: the length of 61 F0 9F 98 80
  pub three_units : length_fold (Some (value.string (97 ∷ 240 ∷ 159 ∷ 152 ∷ 128 ∷ []))) (Some (value.string (codes "length"))) ≡ Some (value.number (int (pos 3)))
  -- 7: a phi of one NaN, and of two
  pub one_nan : phi_constant [] (Some (primitive_constant (script.number nan) None) ∷ []) ≡ Some (primitive_constant (script.number nan) None)
  pub two_nans : phi_constant [] (Some (primitive_constant (script.number nan) None) ∷ Some (primitive_constant (script.number nan) None) ∷ []) ≡ None
  -- 8: the seal accepts the script with two branches; the round turns the If, and the tidy sets block 2 aside and leaves Return 3
  pub accepted : SealAccepts 4 two_branches
  pub turned : (block_at branches_folded.blocks 0).terminal ≡ to_block 1
  pub one_turned : branches_folded.turned_ifs ≡ 1
  pub aside : branches_tidied.stands ≡ true ∷ true ∷ false ∷ true ∷ []
  pub returned : (block_at branches_tidied.blocks 3).terminal ≡ returning 3
  pub no_phi_left : (block_at branches_tidied.blocks 3).phis ≡ []
