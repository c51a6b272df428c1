use Rattle.std.proofs.Common.{◌≡◌, ◌++◌, List, ℕ, [], sym, ap, ap₂, ◌∙◌, append-nil}
use Rattle.logic_values.specs.Decimal.{without_trailing_zeros}
use Rattle.logic_values.proofs.digits.without_trailing_zeros.Goals as goal
use Rattle.logic_values.proofs.Zeros.{none_there, some_there, trailing_none, trailing_some}

pub returns-then-is_empty : goal.returns-then-is_empty
returns-then-is_empty c =
    let none = none_there c.before_zeros-tail.result.now c.is_empty.result c.if-is_empty.true c.is_empty.ensures in
    ap (λ (l : List ℕ). c.before_zeros.result.now ++ l) none ∙ append-nil c.before_zeros.result.now ∙ c.before_zeros.ensures
    ∙ sym (trailing_none c.args.head.now c.args.tail.now (sym c.before_zeros-tail.ensures ∙ none))

pub returns-else-is_empty : goal.returns-else-is_empty
returns-else-is_empty c =
    ap (λ (l : List ℕ). c.args.head.now ++ l) c.before_zeros-tail.ensures
    ∙ sym (trailing_some c.args.head.now c.args.tail.now (λ e. some_there c.before_zeros-tail.result.now c.is_empty.result c.if-is_empty.false c.is_empty.ensures (c.before_zeros-tail.ensures ∙ e)))
