use lib.Count.{count_trailing_zeros}
use lib.Ieee.{climb, eq, neg, odd, of_int, round, size, span, units}
use Rattle.std.proofs.Common.{refl}
use Rattle.host.proofs.examples.worked_examples.Goals as goal
use Rattle.std.specs.Fmt.{digits}

pub returns : goal.returns
unfolding count_trailing_zeros digits climb eq neg odd of_int round size span units
returns c =
    record {
      three_units = refl;
      true_is_the_text_1 = refl;
      minus_zero = refl;
      minus_forty_two = refl;
      the_largest = refl;
      past_the_largest = refl;
      a_half = refl;
      the_empty_text = refl;
      the_text_minus_zero = refl;
      leading_zeros = refl;
      sixteen_zeros = refl;
      a_sign_alone = refl;
      a_space = refl;
      plus_infinity = refl;
      no_name = refl;
      a_name = refl;
      a_digit_first = refl;
      a_reserved_word = refl;
      not_reserved = refl;
      not_ascii = refl;
    }
