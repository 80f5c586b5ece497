use Rattle.std.proofs.Common.{arith}
use Rattle.ace_grammar.proofs.Digits.OneByOne.{digit_fits, one_more_digit, goes_on, breaks_off, is_done}
use Rattle.ace_grammar.proofs.fields.number_of.Goals as goal

pub overflow_mul-number : goal.overflow_mul-number
overflow_mul-number c = omega (arith, digit_fits c.loop-byte.number c.loop-byte.byte-index c.loop-byte.invariant.below (omega arith))

pub overflow_add-number : goal.overflow_add-number
overflow_add-number c =
    omega (arith, digit_fits c.loop-byte.number c.loop-byte.byte-index c.loop-byte.invariant.below (omega arith), c.in_ok-digit_of.ensures.below)

pub returns-in_err-digit_of : goal.returns-in_err-digit_of
returns-in_err-digit_of c =
    rw c.from_residual.ensures (breaks_off _ _ _ _ c.loop-byte-test.true c.in_err-digit_of.ensures.value c.loop-byte.invariant.told)

pub loop-byte-preserved : goal.loop-byte-preserved
loop-byte-preserved c = record {
  below = rw c.from.ensures (one_more_digit _ _ _ c.loop-byte.invariant.below c.in_ok-digit_of.ensures.below);
  told = rw c.from.ensures (goes_on _ _ _ _ _ c.loop-byte-test.true c.in_ok-digit_of.ensures.value c.loop-byte.invariant.told);
}

pub returns : goal.returns
returns c = is_done _ _ _ _ c.loop-byte-test.false c.loop-byte.invariant.told
