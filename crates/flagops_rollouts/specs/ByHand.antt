-- What a plan switches beside the edit that comes to mind first.
use Rattle.std.specs.Prelude.{◌≡◌, ◌&&◌, ◌++◌, ℕ, nat_eq, nat_le, Bool, true, false, List, [], codes, decimal, length, sum, Option, Some, None, Result, Ok, Err}
use Rattle.std.specs.Map.{lookup}
use Rattle.std.specs.Result.{result_ok}
use Rattle.std.specs.Str.{bytes_eq}
use Rattle.limits.specs.Limits.{tally_inputs}
use Rattle.book_core.specs.Book.{Inputs, inputs_on}
use Rattle.book_core.specs.Counts.{counts_of}
use Rattle.book_core.specs.Page.{PageName}
use Rattle.bucket_core.specs.Reading.{rule_of_entries}
use Rattle.bucket_core.specs.Rule.{Entries, refinement, total_weight}
use Rattle.bucket_core.specs.declared.fault.RuleFault.{RuleFault}
use Rattle.file_diagnostics.specs.Named.{Names}
use Rattle.plan_text.specs.Answer.{Answer, emit, none_exists}
use Rattle.price_core.specs.Request.{Asked, asked_of}
use Rattle.rule_switches.specs.Edit.{IsObvious}
use Rattle.rule_switches.specs.Switches.{switched}
use Rattle.flagops_files.specs.Question.{Question}
use Rattle.flagops_files.specs.declared.evidence.Evidence.{Evidence}
use Rattle.flagops_files.specs.declared.evidence.Evidence.TheVariants.{Book, Tally}
use Rattle.flagops_rollouts.specs.Loaded.{IsQuestionAt}
use Rattle.flagops_rollouts.specs.Plan.{Holds}
use Rattle.flagops_shell.specs.Files.{Holding}
use Rattle.flagops_rollouts.specs.Standing.{entries_in}
use Rattle.flagops_rollouts.specs.Unrecorded.{page_asked}

-- how many inputs two rules give different names, of any that fall so on the points of the first
abbrev pub IsSwitched : Entries → Entries → List ℕ → ℕ → Type 0
IsSwitched before after counts n = (inputs : Inputs) → counts ≡ counts_of inputs (total_weight before) → n ≡ switched before after inputs

-- what is told of both
unfoldable pub edit_line : ℕ → ℕ → ℕ → List ℕ
edit_line by_hand all by_plan =
    codes "  your edit by hand, each variant in one block, would switch " ++ (decimal by_hand ++ (codes " of " ++ (decimal all ++ (codes "; this plan switches " ++ (decimal by_plan ++ codes "\n")))))

-- the rules are of one total, and there is a number of inputs for each point, no more in all than a tally has
abbrev pub are_comparable : Entries → Entries → List ℕ → Bool
are_comparable before after counts = nat_eq (total_weight after) (total_weight before) && (nat_eq (length counts) (total_weight before) && nat_le (sum counts) tally_inputs)

-- the line of the old rule and the new one, by how many inputs fall on each point; nothing where they are not comparable, as those of a plan are
abbrev pub IsEditLine : Bool → Entries → Entries → List ℕ → List ℕ → Type 0
IsEditLine false before after counts line = line ≡ []
IsEditLine true before after counts line = (by_hand by_plan : ℕ) × IsObvious before after counts by_hand × IsSwitched before after counts by_plan × (line ≡ edit_line by_hand (sum counts) by_plan)

-- how many recorded inputs fall on each point
abbrev pub counts_on : Evidence → PageName → ℕ → List ℕ
counts_on (Book book) page total = counts_of (inputs_on book page) total
counts_on (Tally tally) page total = tally.counts

abbrev pub IsEditOn : Evidence → PageName → Entries → Entries → List ℕ → Type 0
IsEditOn evidence page before after line = IsEditLine (are_comparable before after (counts_on evidence page (total_weight before))) before after (counts_on evidence page (total_weight before)) line

-- entries as a rule that is refined by a factor
abbrev pub if_rule : ℕ → Result Entries RuleFault → Result Entries RuleFault
if_rule m (Err e) = Err e
if_rule m (Ok r) = rule_of_entries (refinement m r)

-- the rule at a site, refined by a factor
abbrev pub old_rule : ℕ → Option Entries → Option Entries
old_rule m None = None
old_rule m (Some entries) = result_ok (if_rule m (rule_of_entries entries))

abbrev pub IsEditAt : Evidence → Option PageName → Option Entries → Entries → List ℕ → Type 0
IsEditAt evidence None before after line = line ≡ []
IsEditAt evidence (Some page) None after line = line ≡ []
IsEditAt evidence (Some page) (Some before) after line = IsEditOn evidence page before after line

-- the same at the site of a request
abbrev pub IsEditFor : Question → ℕ → Option Asked → Entries → List ℕ → Type 0
IsEditFor q m None after line = line ≡ []
IsEditFor q m (Some asked) after line = IsEditAt q.evidence (page_asked q.flags (Some asked)) (old_rule m (entries_in asked.site (lookup (bytes_eq asked.flag) q.flags))) after line

-- of an answer to a question, on the rule refined by a factor; a set of names switches nobody
abbrev pub IsEditOf : Question → ℕ → Answer → List ℕ → Type 0
IsEditOf q m (emit rule c) line = IsEditFor q m (result_ok (asked_of q.request)) rule line
IsEditOf q m (none_exists kind names) line = line ≡ []

-- lines on an answer begin with the path of the request, and have this line behind the answer in words; more may follow
unfoldable pub TellsEdit : List ℕ → Question → ℕ → Answer → List ℕ → Type 0
TellsEdit path q m answer lines = (front line more : List ℕ) × Names path front × IsEditOf q m answer line × (lines ≡ front ++ (line ++ more))

-- the same of the answer that a text holds
unfoldable pub TellsPlanned : List ℕ → Question → ℕ → List ℕ → List ℕ → Type 0
TellsPlanned path q m text lines = (answer : Answer) × Holds answer text × TellsEdit path q m answer lines

-- and of the question of the files at these paths
unfoldable pub TellsPlannedAt : Bool → Holding → List ℕ → List ℕ → List ℕ → ℕ → List ℕ → List ℕ → Type 0
TellsPlannedAt floats at document request book m text lines = (q : Question) × IsQuestionAt floats at document request book (Ok q) × TellsPlanned request q m text lines
