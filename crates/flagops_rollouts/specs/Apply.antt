-- What the command `apply` answers.
use Rattle.std.specs.Prelude.{◌≡◌, ℕ, nat_lt, Bool, true, false, List, ◌++◌, codes, IfOk, Result, Ok, Err}
use Rattle.bucket_core.specs.Rule.{total_weight}
use Rattle.flag_defs.specs.Document.{Definitions, printed}
use Rattle.flag_defs.specs.Floats.{AreMarkedAs, Marks}
use Rattle.flag_defs.specs.Spelled.{printed_with_floats}
use Rattle.plan_text.specs.Answer.{Answer, emit, none_exists}
use Rattle.rollout.specs.Applied.{applied}
use Rattle.rollout.specs.Change.{IsLocal}
use Rattle.flagops_files.specs.Loading.{max_text}
use Rattle.flagops_rollouts.specs.Beside.{noted_with}
use Rattle.flagops_rollouts.specs.Finer.{times_at}
use Rattle.flagops_rollouts.specs.Loaded.{IsDocumentAt, plan_at}
use Rattle.flagops_rollouts.specs.Omitted.{is_omitting, settle_omitted}
use Rattle.flagops_shell.specs.Files.{Holding, load_of}
use Rattle.flagops_shell.specs.Outcomes.{◌>>=◌, beside, refused_by, done}
use Rattle.flagops_rollouts.specs.Refusal.{Outcomes}
use Rattle.flagops_rollouts.specs.declared.refusal.RolloutRefusal.{RolloutRefusal}
use Rattle.flagops_shell.specs.Report.{Report}
use Rattle.flagops_rollouts.specs.declared.refusal.RolloutRefusal.TheVariants.{Apply}

-- the document of the flags, which may have floats or may not: the marks are those that have some
abbrev pub printed_as : Bool → Definitions → Marks → List ℕ
printed_as true flags marks = printed_with_floats flags marks
printed_as false flags marks = printed flags

-- the same as a line
abbrev pub document_line : Bool → Definitions → Marks → List ℕ
document_line floats flags marks = printed_as floats flags marks ++ codes "\n"

-- what a plan without a rule reports, whatever the flag and the site are
abbrev pub none_report : Report
none_report = record { text = codes "none\n"; status = 3; is_told = false }

-- the flags with the rule of the answer at the site, if it has one
unfoldable pub applied_report : Bool → Definitions → Marks → List ℕ → ℕ → Answer → Result Report RolloutRefusal
applied_report floats flags marks key site (emit rule c) = refused_by Apply (applied flags key site rule) >>= λ changed. done (document_line floats changed marks)
applied_report floats flags marks key site (none_exists kind names) = Ok none_report

-- The same of the flags that the bytes of a document mean, of which these have floats: a person is told what of the document is left out, or that is refused, and that the rule has finer points.
unfoldable pub told_report : Bool → List ℕ → Definitions → Marks → List ℕ → ℕ → Bool → Answer → Result Report RolloutRefusal
told_report floats document flags marks key site strict (emit rule c) =
    applied_report floats flags marks key site (emit rule c)
    >>= λ report. noted_with (nat_lt 1 (times_at flags key site (total_weight rule))) (settle_omitted strict (is_omitting floats document flags)) >>= λ told. beside told (Ok report)
told_report floats document flags marks key site strict (none_exists kind names) = Ok none_report

-- What is printed is the document of flags of which one is changed, at the site alone: the others, and what chooses alike by both
-- rules, resolve as before. Those that had floats have them still.
abbrev pub IsLocalReport : Bool → Definitions → Marks → List ℕ → ℕ → Answer → Report → Type 0
IsLocalReport floats before marks key site (emit rule c) report = (after : Definitions) × (report.text ≡ document_line floats after marks) × IsLocal before key site rule after
IsLocalReport floats before marks key site (none_exists kind names) report = Unit {0}

-- the report of these bytes and the flags that they mean
abbrev pub IsToldReport : Bool → List ℕ → Definitions → Marks → List ℕ → ℕ → Bool → Answer → Outcomes
IsToldReport floats document flags marks key site strict answer r = (r ≡ told_report floats document flags marks key site strict answer) × IfOk r (IsLocalReport floats flags marks key site answer)

-- the report of what was read, the document before the plan
abbrev pub IsApplied : Bool → Holding → List ℕ → List ℕ → ℕ → Bool → Result Definitions RolloutRefusal → Result Answer RolloutRefusal → Outcomes
IsApplied floats at path key site strict (Err e) answer r = r ≡ Err e
IsApplied floats at path key site strict (Ok flags) (Err e) r = r ≡ Err e
IsApplied floats at path key site strict (Ok flags) (Ok answer) r = (document : List ℕ) × (load_of at path max_text ≡ Ok document) × (marks : Marks) × AreMarkedAs floats document flags marks × IsToldReport floats document flags marks key site strict answer r

unfoldable pub IsApplyReport : Bool → Holding → List ℕ → List ℕ → List ℕ → ℕ → Bool → Outcomes
IsApplyReport floats at path plan key site strict r = (document : Result Definitions RolloutRefusal) × IsDocumentAt floats at path document × IsApplied floats at path key site strict document (plan_at at plan) r
