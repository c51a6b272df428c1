-- What is asked of what was recorded, and so what is drawn: how many inputs fall on each point, of a book as of a tally.
use Rattle.std.specs.Prelude.{ℕ, List, Option, Result, Ok}
use Rattle.book_core.specs.Counts.{counts_of}
use Rattle.bucket_core.specs.Rule.{total_weight}
use Rattle.flag_defs.specs.Document.{Definitions}
use Rattle.flagops_files.specs.Question.{Question}
use Rattle.flagops_ramps.specs.Ramp.{recorded}
use Rattle.plan_text.specs.Answer.{Answer}
use Rattle.price_core.specs.Request.{Asked}
use Rattle.ramp.specs.Ramp.{Recorded, in_book, in_tally, Standing}
use Rattle.rollout.specs.Lawful.{Problem, and_then, problem_asked, problem_of}
use Rattle.rollout.specs.Refined.{refining_checked}
use Rattle.rollout.specs.CheckedTally.{TallyProblem, tally_problem_asked, tally_problem_of, with_counts}
use Rattle.rollout.specs.declared.fault.RolloutFault.{RolloutFault}
use Rattle.rollout.specs.declared.refining.Refining.{Refining}

-- what is asked of inputs, by how many of them fall on each point of the rule that is planned on
abbrev pub counted : Problem → TallyProblem
counted p = with_counts p (counts_of p.inputs (total_weight p.old))

abbrev pub by_counts : Result Problem RolloutFault → Result TallyProblem RolloutFault
by_counts asked = and_then asked (λ p. Ok (counted p))

-- what a request asks of what was recorded, or its first refusal
abbrev pub asked_on : Refining → Definitions → List ℕ → Recorded → Result TallyProblem RolloutFault
asked_on refining flags request (in_book book) = by_counts (problem_of refining flags request book)
asked_on refining flags request (in_tally t) = tally_problem_of refining flags request t

-- the same of a request that was read
abbrev pub asked_by : Refining → Definitions → Asked → Recorded → Result TallyProblem RolloutFault
asked_by refining flags asked (in_book book) = by_counts (problem_asked refining flags asked book)
asked_by refining flags asked (in_tally t) = tally_problem_asked refining flags asked t

-- what is asked that an answer to a question is checked against
abbrev pub asked_over : Option ℕ → Answer → Question → Result TallyProblem RolloutFault
asked_over refine answer q = asked_on (refining_checked refine answer) q.flags q.request (recorded q.evidence)

-- what is asked that the answer to a step is checked against, of the flags that the step stands on
abbrev pub step_asked : Standing → Option ℕ → Answer → List ℕ → Recorded → Result TallyProblem RolloutFault
step_asked standing refine answer request held = and_then standing (λ flags. asked_on (refining_checked refine answer) flags request held)
