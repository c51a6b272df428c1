-- What `picture` answers, and what a picture has to tell.
use Rattle.std.specs.Prelude.{◌≡◌, ℕ, List, [], ◌∷◌, Bool, true, is_some, Option, Result, Ok, Err, String, string_bytes}
use Rattle.std.specs.Map.{keys_of}
use Rattle.std.specs.declared.alloc.Global.{Global}
use Rattle.bucket_core.specs.Rule.{Entries, total_weight}
use Rattle.flagops_rollouts.specs.Doubts.{doubt_of}
use Rattle.flagops_shell.specs.Files.{Holding}
use Rattle.flagops_rollouts.specs.Loaded.{plan_at, IsQuestionAt}
use Rattle.flagops_files.specs.Question.{Question}
use Rattle.flagops_rollouts.specs.Refusal.{loads, Outcomes}
use Rattle.flagops_rollouts.specs.Verify.{IsShownOn, IsToldOn}
use Rattle.flagops_shell.specs.Outcomes.{beside, done}
use Rattle.flagops_shell.specs.Report.{Report}
use Rattle.flagops_rollouts.specs.declared.refusal.RolloutCall.{RolloutCall}
use Rattle.flagops_files.specs.Refusal as files
use Rattle.flagops_files.specs.declared.refusal.Call.{Call}
use Rattle.flagops_files.specs.declared.refusal.Call.TheVariants as file
use Rattle.flagops_rollouts.specs.declared.refusal.RolloutCall.TheVariants as call
use Rattle.flagops_rollouts.specs.declared.refusal.RolloutRefusal.{RolloutRefusal}
use Rattle.flagops_rollouts.specs.declared.refusal.RolloutRefusal.TheVariants.{Verify}
use Rattle.picture.specs.Changes.{change_height, change_told}
use Rattle.picture.specs.Deficits.{none_height, none_told}
use Rattle.picture.specs.Spelling.{Adds, IsPicture}
use Rattle.picture.specs.Told.{Item, down}
use Rattle.picture.specs.declared.words.Title.TheVariants as title
use Rattle.plan_text.specs.Answer.{Answer, emit, none_exists}
use Rattle.rollout.specs.CheckedTally.{TallyProblem}
use Rattle.rollout.specs.declared.fault.RolloutFault.{RolloutFault}
use Rattle.rollout.specs.declared.verify_fault.VerifyFault.{VerifyFault}
use Rattle.rule_switches.specs.Runs.{Run, AreRuns}
use Rattle.rule_switches.specs.Table.{IsSwitchTable}
use Rattle.rule_switches.specs.declared.table.PairSwitches.{PairSwitches}
use Rattle.transport_core.specs.Certificate.{DualPrices}
use Rattle.flagops_pictures.specs.Asked.{asked_over}
use Rattle.flagops_pictures.specs.Words.{Picturing}

-- what is told of a rule that a problem is answered with: its runs and its switches are those of the inputs on each point
pub record IsChangeTold (p : TallyProblem) (rule : Entries) (duals : DualPrices) (high : ℕ) (items : List Item) : Type 0 where
  pub runs : List Run
  pub table : ℕ × List PairSwitches
  pub in_runs : AreRuns p.old rule p.counts 0 runs (total_weight p.old)
  pub switched : IsSwitchTable p.old rule (keys_of p.limits) p.counts table
  pub told : items ≡ change_told p.old rule p.limits p.pricing runs table duals
  pub as_high : high ≡ change_height p.limits p.pricing table

-- what is told of what a problem is answered with, and how high its picture is
abbrev pub IsAnswerTold : Result TallyProblem RolloutFault → Answer → ℕ × List Item → Type 0
IsAnswerTold (Ok p) (emit rule duals) drawn = IsChangeTold p rule duals drawn.0 drawn.1
IsAnswerTold (Ok p) (none_exists kind names) drawn = (drawn.0 ≡ none_height p.limits names) × (drawn.1 ≡ none_told p.old p.limits kind names)
IsAnswerTold (Err f) answer drawn = ⊥

-- its picture
abbrev pub IsDrawn : Result TallyProblem RolloutFault → Answer → List ℕ → Type 0
IsDrawn asked answer bytes = (drawn : ℕ × List Item) × IsAnswerTold asked answer drawn × IsPicture title.Rollout (drawn ∷ []) bytes

-- its picture was added to others, so far below the top of the page, and ends so far below it
abbrev pub AddsTold : Result TallyProblem RolloutFault → Answer → ℕ → ℕ → List ℕ → List ℕ → Type 0
AddsTold asked answer y end before after = (drawn : ℕ × List Item) × IsAnswerTold asked answer drawn × Adds y drawn.1 before after × (end ≡ down y drawn.0)

abbrev pub AddsChange : TallyProblem → Entries → DualPrices → ℕ → ℕ → List ℕ → List ℕ → Type 0
AddsChange p rule duals y end before after = (drawn : ℕ × List Item) × IsChangeTold p rule duals drawn.0 drawn.1 × Adds y drawn.1 before after × (end ≡ down y drawn.0)

-- an answer to a question that is right, with what that shows of it, and its picture
pub record IsDrawnRight (refine : Option ℕ) (q : Question) (answer : Answer) (bytes : List ℕ) : Type 0 where
  pub right : IsToldOn refine answer q.flags q.request q.evidence (Ok tt)
  pub shown : IsShownOn refine answer q.flags q.request q.evidence
  pub drawn : IsDrawn (asked_over refine answer q) answer bytes

-- the picture of an answer that is right, or the refusal of the request or of the check
abbrev pub IsDrawnOrDenied : Option ℕ → Question → Answer → Result (List ℕ) VerifyFault → Type 0
IsDrawnOrDenied refine q answer (Ok bytes) = IsDrawnRight refine q answer bytes
IsDrawnOrDenied refine q answer (Err e) = IsToldOn refine answer q.flags q.request q.evidence (Err e)

-- a picture without where its text lies in memory
abbrev pub text_view : Result (String Global) VerifyFault → Result (List ℕ) VerifyFault
text_view (Ok text) = Ok (string_bytes text)
text_view (Err e) = Err e

-- its report
abbrev pub drawn_report : Result (List ℕ) VerifyFault → Result Report RolloutRefusal
drawn_report (Ok bytes) = done bytes
drawn_report (Err e) = Err (Verify e)

-- the report of an answer to a question: its picture, where it is right, beside which a person is told of a doubt
abbrev pub IsPictured : Option ℕ → Result Question RolloutRefusal → Result Answer RolloutRefusal → Outcomes
IsPictured refine (Err e) answer r = r ≡ Err e
IsPictured refine (Ok q) (Err e) r = r ≡ Err e
IsPictured refine (Ok q) (Ok answer) r = (bytes : Result (List ℕ) VerifyFault) × IsDrawnOrDenied refine q answer bytes × (r ≡ beside (is_some (doubt_of q)) (drawn_report bytes))

unfoldable pub IsPictureReport : Holding → Picturing → Outcomes
IsPictureReport at a r = (question : Result Question RolloutRefusal) × IsQuestionAt a.floats at a.document a.request a.book question × IsPictured a.refine question (plan_at at a.plan) r

-- the calls that loading a question and a plan file makes
abbrev pub loads_pictured : Call → Bool
loads_pictured file.ReadPlanned = true
loads_pictured c = files.loads_question c

-- the calls that the command makes
abbrev pub picture_calls : RolloutCall → Bool
picture_calls call.Verify = true
picture_calls c = loads loads_pictured c
