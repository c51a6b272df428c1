-- What a person is told of a rule that has finer points than its site: the totals of later requests are as many times as large.
use Rattle.std.specs.Prelude.{◌≡◌, ◌++◌, ◌/◌, ◌%◌, ℕ, nat_eq, nat_lt, Bool, true, false, List, [], codes, decimal, if◌then◌else◌, Option, Some, None, Result, Ok, Err}
use Rattle.std.specs.Map.{lookup}
use Rattle.std.specs.Str.{bytes_eq}
use Rattle.bucket_core.specs.Reading.{rule_of_entries}
use Rattle.bucket_core.specs.Rule.{Entries, total_weight}
use Rattle.bucket_core.specs.declared.fault.RuleFault.{RuleFault}
use Rattle.flag_defs.specs.Document.{Definitions}
use Rattle.file_diagnostics.specs.Named.{quoted}
use Rattle.plan_text.specs.Answer.{Answer, emit, none_exists}
use Rattle.plan_text.specs.PlanFile.{answer_of}
use Rattle.price_core.specs.Request.{Asked}
use Rattle.flagops_rollouts.specs.Beside.{Part, part_if}
use Rattle.flagops_rollouts.specs.Doubts.{IsLonger}
use Rattle.flagops_rollouts.specs.Standing.{entries_in}
use Rattle.flagops_shell.specs.declared.refused.Remark.{Remark}

-- how many times so many points others are: 1 where they are no multiple
abbrev pub times : ℕ → ℕ → ℕ
times before after = if nat_eq (after % before) 0 then after / before else 1

abbrev pub times_of : Result Entries RuleFault → ℕ → ℕ
times_of (Ok before) total = times (total_weight before) total
times_of (Err e) total = 1

abbrev pub times_that : Option Entries → ℕ → ℕ
times_that None total = 1
times_that (Some entries) total = times_of (rule_of_entries entries) total

-- how many times the points of the rule at a site a rule of a total has
abbrev pub times_at : Definitions → List ℕ → ℕ → ℕ → ℕ
times_at flags key site total = times_that (entries_in site (lookup (bytes_eq key) flags)) total

-- how many times the points of the rule at the site that is asked for the rule of an answer has
abbrev pub times_asked : Definitions → Option Asked → Answer → ℕ
times_asked flags None answer = 1
times_asked flags (Some asked) (emit rule c) = times_at flags asked.flag asked.site (total_weight rule)
times_asked flags (Some asked) (none_exists kind names) = 1

-- an answer is a rule, by a factor above 1
abbrev pub is_finer : ℕ → Answer → Bool
is_finer m (emit rule c) = nat_lt 1 m
is_finer m (none_exists kind names) = false

-- how many points the rule has, and how many the site's had
unfoldable pub finer_text : ℕ → ℕ → List ℕ
finer_text m total =
    codes ": with --refine "
    ++ (decimal m ++ (codes " the rule has " ++ (decimal total ++ (codes " points where it had " ++ (decimal (total / m) ++ (codes ":\n  later requests ask totals that sum to " ++ (decimal total ++ codes "\n")))))))

-- the same as a note on the request
unfoldable pub finer_line : List ℕ → ℕ → ℕ → List ℕ
finer_line request m total = codes "note: " ++ (quoted request ++ finer_text m total)

abbrev pub IsFinerLine : List ℕ → ℕ → ℕ → List ℕ → Type 0
IsFinerLine request m total line = line ≡ finer_line request m total

-- what is told of a rule of so many points, by a factor, and of the rule of an answer
abbrev pub finer_part : List ℕ → ℕ → ℕ → List Part
finer_part path m total = part_if (nat_lt 1 m) (IsFinerLine path m total)

abbrev pub finer_parts : List ℕ → ℕ → Answer → List Part
finer_parts path m (emit rule c) = finer_part path m (total_weight rule)
finer_parts path m (none_exists kind names) = []

-- lines have the line of an answer that is a rule in finer points
unfoldable pub TellsFiner : List ℕ → ℕ → Answer → List ℕ → Type 0
TellsFiner request m (emit rule c) lines = nat_lt 1 m ≡ true → (before after : List ℕ) × (lines ≡ before ++ (finer_line request m (total_weight rule) ++ after))
TellsFiner request m (none_exists kind names) lines = Unit {0}

-- and of the answer that a text holds
unfoldable pub TellsFinerOf : List ℕ → ℕ → List ℕ → List ℕ → Type 0
TellsFinerOf request m text lines = (answer : Answer) × (answer_of text ≡ Ok answer) × TellsFiner request m answer lines

-- what is told goes on behind what was noted
abbrev pub IsMore : Option Remark → Option Remark → Type 0
IsMore None told = Unit {0}
IsMore (Some noted) None = ⊥
IsMore (Some noted) (Some told) = IsLonger noted told
