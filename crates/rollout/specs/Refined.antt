-- What a request asks, by the factor of its refinement.
use Rattle.std.specs.Prelude.{ℕ, List, Option, Some, None, Result}
use Rattle.book_core.specs.Book.{Contents}
use Rattle.flag_defs.specs.Document.{Definitions}
use Rattle.plan_text.specs.Answer.{Answer}
use Rattle.rollout.specs.Lawful.{Problem, problem_of}
use Rattle.rollout.specs.Verified.{refining_for}
use Rattle.rollout.specs.declared.fault.RolloutFault.{RolloutFault}
use Rattle.rollout.specs.declared.refining.Refining.{Refining}
use Rattle.rollout.specs.declared.refining.Refining.TheVariants.{Times}

-- on the site's rule refined by a factor
abbrev pub problem_refined : ℕ → Definitions → List ℕ → Contents → Result Problem RolloutFault
problem_refined m = problem_of (Times m)

-- how the rule is refined that an answer is checked against: by the factor that is given, or else as the answer tells
abbrev pub refining_checked : Option ℕ → Answer → Refining
refining_checked None answer = refining_for answer
refining_checked (Some m) answer = Times m

-- what an answer is checked against: the rule refined by the factor that is given, or else as the answer tells
abbrev pub problem_checked : Option ℕ → Answer → Definitions → List ℕ → Contents → Result Problem RolloutFault
problem_checked refine answer = problem_of (refining_checked refine answer)
