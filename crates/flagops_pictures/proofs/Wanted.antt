-- What is told where a picture has no memory.
use Rattle.std.proofs.Common.{ℕ, List, Option, Result, Ok, Err, refl}
use Rattle.flag_defs.specs.Document.{Definitions}
use Rattle.flagops_files.specs.declared.evidence.Evidence.{Evidence}
use Rattle.flagops_files.specs.declared.evidence.Evidence.TheVariants.{Book, Tally}
use Rattle.flagops_rollouts.specs.Verify.{IsToldOn, tally_problem_checked}
use Rattle.plan_text.specs.Answer.{Answer}
use Rattle.rollout.specs.Lawful.{Problem}
use Rattle.rollout.specs.Refined.{problem_checked}
use Rattle.rollout.specs.CheckedTally.{IsTallyOutcome, TallyProblem}
use Rattle.rollout.specs.Verified.{IsOutcome}
use Rattle.rollout.specs.declared.fault.RolloutFault.{RolloutFault}
use Rattle.rollout.specs.declared.fault.RolloutFault.TheVariants.{WantOfMemory}
use Rattle.rollout.specs.declared.verify_fault.VerifyFault.TheVariants.{Request}

of_book : (asked : Result Problem RolloutFault) (answer : Answer) → IsOutcome asked answer (Err (Request WantOfMemory))
of_book (Ok p) answer = refl
of_book (Err f) answer = λ other. absurd (other refl)

of_tally : (asked : Result TallyProblem RolloutFault) (answer : Answer) → IsTallyOutcome asked answer (Err (Request WantOfMemory))
of_tally (Ok p) answer = refl
of_tally (Err f) answer = λ other. absurd (other refl)

-- want of memory may come of every check
pub want_told : (refine : Option ℕ) (answer : Answer) (flags : Definitions) (request : List ℕ) (evidence : Evidence) → IsToldOn refine answer flags request evidence (Err (Request WantOfMemory))
want_told refine answer flags request (Book book) = of_book (problem_checked refine answer flags request book) answer
want_told refine answer flags request (Tally t) = of_tally (tally_problem_checked refine answer flags request t) answer
