use Rattle.std.proofs.Common.{◌≡◌, ◌++◌, List, ℕ, [], sym, ap, ap₂, ◌∙◌}
use Rattle.logic_values.specs.Decimal.{without_leading_zeros}
use Rattle.logic_values.proofs.digits.without_leading_zeros.Goals as goal
use Rattle.logic_values.proofs.Zeros.{leading_none, leading_some, none_there, some_there}

pub returns-then-is_empty : goal.returns-then-is_empty
returns-then-is_empty c =
    let none = none_there c.after_zeros-head.result.now c.is_empty.result c.if-is_empty.true c.is_empty.ensures in
    ap (λ (l : List ℕ). l ++ c.after_zeros.result.now) none ∙ c.after_zeros.ensures ∙ sym (leading_none c.args.head.now c.args.tail.now (sym c.after_zeros-head.ensures ∙ none))

pub returns-else-is_empty : goal.returns-else-is_empty
returns-else-is_empty c =
    ap (λ (l : List ℕ). l ++ c.args.tail.now) c.after_zeros-head.ensures
    ∙ sym (leading_some c.args.head.now c.args.tail.now (λ e. some_there c.after_zeros-head.result.now c.is_empty.result c.if-is_empty.false c.is_empty.ensures (c.after_zeros-head.ensures ∙ e)))
