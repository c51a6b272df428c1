use Rattle.ramp.proofs.Tallied.{plans_there, refused_after_there, tells_there}
use Rattle.ramp.proofs.laws.tallies_ramp_as_books.Goals as goal

pub returns-clause-planned : goal.returns-clause-planned
returns-clause-planned c = λ s m requests book t answers of plans. plans_there c.tallies_plan_as_books.ensures.asks book t of.counts s m requests answers plans

pub returns-clause-refused : goal.returns-clause-refused
returns-clause-refused c = λ s m requests book t e of apart is.
    record { before = is.before; refused = refused_after_there c.tallies_plan_as_books.ensures.asks book t of.counts s m requests is.before e.fault apart is.refused; number = is.number }

pub returns-clause-told : goal.returns-clause-told
returns-clause-told c = λ s refine requests book t answers told of other is. tells_there c.tallies_plan_as_books.ensures.asks book t of.counts s refine requests answers told other is
