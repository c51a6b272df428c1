use Rattle.std.proofs.Common.{Ok, refl}
use Rattle.ramp.proofs.Kept.{never_lost, totals}
use Rattle.ramp.proofs.Tallied.{plans_recorded, recording}
use Rattle.ramp.proofs.laws.nobody_falls_back.Goals as goal

pub returns-clause-kept : goal.returns-clause-kept
returns-clause-kept c = λ name key site m flags place requests recorded answers of some is at forbids plans.
    never_lost key site (recording recorded of) name flags m place requests answers some is at forbids (plans_recorded c.tallies_plan_as_books.ensures.asks recorded of (Ok flags) m requests answers plans)

pub returns-clause-totals : goal.returns-clause-totals
returns-clause-totals c = λ key site m flags place requests recorded answers of some is at plans.
    totals key site (recording recorded of) flags m place requests answers _ refl some is at (plans_recorded c.tallies_plan_as_books.ensures.asks recorded of (Ok flags) m requests answers plans)
