use Rattle.std.proofs.Common.{◌≡◌, ◌++◌, length, length-append, ap, subst, arith}
use Rattle.std.specs.Str.Parse.{AllDigits}
use Rattle.logic_values.proofs.Values.{trailing_shorter}
use Rattle.logic_values.proofs.numeral.significant.Goals as goal

pub overflow_sub-trailing : goal.overflow_sub-trailing
overflow_sub-trailing c =
    let e = ap length c.without_trailing_zeros.ensures in
    let kept = length-append c.without_trailing_zeros.result.0.now c.without_trailing_zeros.result.1.now in
    let all = length-append c.whole-whole.result.now c.fraction-fraction.result.now in
    omega (arith, e, kept, all, trailing_shorter (c.whole-whole.result.now ++ c.fraction-fraction.result.now))

pub returns-clause-tested : goal.returns-clause-tested
returns-clause-tested c = (subst (AllDigits 10) c.whole-whole.ensures.value c.whole-whole.ensures.digits, subst (AllDigits 10) c.fraction-fraction.ensures.value c.fraction-fraction.ensures.digits)
