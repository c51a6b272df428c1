use Rattle.std.proofs.Common.{◌≡◌, ◌∙◌}
use Rattle.logic_values.proofs.Kept.{is_normal}
use Rattle.logic_values.proofs.Zeros.{some_there}
use Rattle.logic_values.proofs.numeral.number.Goals as goal

pub invariant_of-result-in-Some-zeros : goal.invariant_of-result-in-Some-zeros
invariant_of-result-in-Some-zeros c = record {
  normal = is_normal c.args.negative c.args.numeral.now.whole c.args.numeral.now.fraction c.in-Some.digits.items c.in-Some-zeros.zeros
      c.significant-trailing.ensures.tested.0 c.significant-trailing.ensures.tested.1
      (c.in-Some.ensures.digits ∙ c.significant-trailing.ensures.digits)
      (some_there c.in-Some.digits.items c.is_empty.result c.if-is_empty.false c.is_empty.ensures);
}
