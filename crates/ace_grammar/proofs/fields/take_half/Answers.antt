use Rattle.std.proofs.Common.{◌-◌, ◌^◌, arith, refl, sym, ◌∙◌, ap, Some, None}
use Rattle.ace_grammar.proofs.Digits.WordHalves.{in_range, too_short}
use Rattle.ace_grammar.specs.Fields.{digits_onto}
use Rattle.ace_grammar.proofs.fields.take_half.Goals as goal

pub returns-then-bytes-lt16 : goal.returns-then-bytes-lt16
returns-then-bytes-lt16 c = sym (too_short 16 _ c.args.bytes.now c.if-bytes-lt16.true)

pub returns-in_err-number : goal.returns-in_err-number
returns-in_err-number c =
    rw (c.from_residual.ensures, in_range 16 (2 ^ 64 - 1) c.args.bytes.now c.if-bytes-lt16.false (omega arith) None (ap (digits_onto 0) (sym c.split_at.ensures.front) ∙ sym c.in_err-number.ensures)) refl

pub returns : goal.returns
returns c =
    rw (c.split_at.ensures.back, in_range 16 (2 ^ 64 - 1) c.args.bytes.now c.if-bytes-lt16.false (omega arith) (Some c.in_ok-number.number) (ap (digits_onto 0) (sym c.split_at.ensures.front) ∙ sym c.in_ok-number.ensures)) refl
