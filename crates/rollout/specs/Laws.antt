-- What the laws say: each planned answer is told as valid, unless memory ran out, and a rule that is put at a site changes no more than
-- what chooses otherwise.
use Rattle.std.specs.Prelude.{◌≡◌, ℕ, List, None, Some, Ok}
use Rattle.flag_defs.specs.Document.{Definitions}
use Rattle.book_core.specs.Book.{Contents}
use Rattle.bucket_core.specs.Rule.{Entries, IsRuleTotal, total_weight}
use Rattle.flag_defs.specs.Flags.{AreFlags}
use Rattle.transport_core.specs.Certificate.{DualPrices}
use Rattle.plan_text.specs.Answer.{Answer, emit}
use Rattle.rollout.specs.Lawful.{Problem}
use Rattle.rollout.specs.Plan.{IsPlan}
use Rattle.rollout.specs.Applied.{applied}
use Rattle.rollout.specs.Change.{IsLocal}
use Rattle.rollout.specs.Refined.{problem_refined, problem_checked}
use Rattle.rollout.specs.Verified.{IsOutcome, IsValid, Told}

-- what is planned on the rule itself
abbrev pub PlansAreValid : Type 0
PlansAreValid =
    (flags : Definitions) (request : List ℕ) (book : Contents) (p : Problem) (answer : Answer) (told : Told)
    → problem_refined 1 flags request book ≡ Ok p → IsPlan p answer
    → IsOutcome (problem_checked None answer flags request book) answer told → IsValid told

-- what is planned on the rule refined by a factor, and is verified with the same factor
abbrev pub RefinedPlansAreValid : Type 0
RefinedPlansAreValid =
    (m : ℕ) (flags : Definitions) (request : List ℕ) (book : Contents) (p : Problem) (answer : Answer) (told : Told)
    → problem_refined m flags request book ≡ Ok p → IsPlan p answer
    → IsOutcome (problem_checked (Some m) answer flags request book) answer told → IsValid told

-- a rule that was planned so, also where no factor is given, since its total tells it
abbrev pub RefinedRulesAreValid : Type 0
RefinedRulesAreValid =
    (m : ℕ) (flags : Definitions) (request : List ℕ) (book : Contents) (p : Problem) (rule : Entries) (c : DualPrices) (told : Told)
    → problem_refined m flags request book ≡ Ok p → IsPlan p (emit rule c)
    → IsOutcome (problem_checked None (emit rule c) flags request book) (emit rule c) told → IsValid told

-- the flags in which a rule was put at a site
abbrev pub AppliedIsLocal : Type 0
AppliedIsLocal =
    (flags : Definitions) (key : List ℕ) (site : ℕ) (rule : Entries) (after : Definitions)
    → AreFlags flags → IsRuleTotal (total_weight rule) → applied flags key site rule ≡ Ok after → IsLocal flags key site rule after
