-- Where the others have nothing left, the base has.
use Rattle.std.proofs.Common.{◌≡◌, ⊎_elim, arith, ap, get_or}
use Rattle.std.proofs.lemmas.Bool.{cases_eq}
use Rattle.transport_plan.proofs.Numbers.{some_left}
use Rattle.transport_plan.proofs.stretches.other.Goals as goal

pub returns-clause-there : goal.returns-clause-there
returns-clause-there c = λ some.
    let left = some_left c.args.row.now some in
    ⊎_elim
    (λ (same : left.0 ≡ c.args.base). omega (arith, left.2, ap (λ w. get_or c.args.row.now w 0) same))
    (λ (not : left.0 ≡ c.args.base → ⊥). absurd (omega (arith, left.2, c.loop-name.invariant (left.0) (omega (arith, left.1)) not)))
    (cases_eq (left.0) c.args.base)
