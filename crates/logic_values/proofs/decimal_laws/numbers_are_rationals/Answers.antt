use Rattle.logic_values.proofs.Rationals.{order_of_rationals}
use Rattle.logic_values.proofs.decimal_laws.numbers_are_rationals.Goals as goal

pub returns : goal.returns
returns c = order_of_rationals
