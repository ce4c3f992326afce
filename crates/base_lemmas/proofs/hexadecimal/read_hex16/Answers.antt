use Rattle.std.proofs.Common.{◌≡◌, ◌<◌, ap, length, arith, ◌∙◌}
use Rattle.std.proofs.lemmas.Grind.{pow_more}
use Rattle.base_lemmas.proofs.HexDigits.{digit_read, digits_fit, hex16_from_digits, length-hex16_of, not_hex16_at}
use Rattle.base_lemmas.proofs.hexadecimal.read_hex16.Goals as goal

pub returns-then-text-ne-DIGITS-clause-none : goal.returns-then-text-ne-DIGITS-clause-none
returns-then-text-ne-DIGITS-clause-none c = λ n low same.
    c.if-text-ne-DIGITS.true (ap length same ∙ length-hex16_of n)

pub overflow_mul-number : goal.overflow_mul-number
overflow_mul-number c = omega (arith, digits_fit c.loop-digit.digit-index (omega arith))

pub overflow_add-number : goal.overflow_add-number
overflow_add-number c = omega (arith, digits_fit c.loop-digit.digit-index (omega arith), c.in_ok-number.ensures.some.0)

pub returns-in_err-number-clause-none : goal.returns-in_err-number-clause-none
returns-in_err-number-clause-none c =
    let none = rw c.as_bytes-digit-items.ensures.value at c.in_err-number.ensures.none in
    let within : c.loop-digit.digit-index < 16 = omega arith in
    rw c.from_residual.ensures (λ n low. not_hex16_at c.loop-digit.digit-index n c.args.text.now within none)

pub loop-digit-preserved : goal.loop-digit-preserved
loop-digit-preserved c =
    let is = rw c.as_bytes-digit-items.ensures.value at c.in_ok-number.ensures.some.1 in
    let digit : c.in_ok-number.field-0 < 16 = c.in_ok-number.ensures.some.0 in
    let within : c.loop-digit.digit-index < length c.args.text.now = omega arith in
    record {
      size = c.loop-digit.invariant.size;
      read = digit_read c.loop-digit.digit-index c.loop-digit.number c.in_ok-number.field-0 c.args.text.now within digit is c.loop-digit.invariant.read;
      low = rw pow_more (omega arith);
    }

pub returns-clause-found : goal.returns-clause-found
returns-clause-found c =
    let all : c.loop-digit.digit-index ≡ 16 = omega arith in
    (omega arith, hex16_from_digits c.loop-digit.digit-index c.loop-digit.number c.args.text.now all c.loop-digit.invariant.size c.loop-digit.invariant.read)
