-- What is answered amounts to this, in terms of the users that are recorded.
use Rattle.std.specs.Prelude.{◌≡◌, ◌⊎◌, ℕ, List, true, map, None, Ok}
use Rattle.book_core.specs.Book.{Inputs}
use Rattle.book_core.specs.Page.{PageName}
use Rattle.note_streams.specs.LogRecorded.{AreHashesRecorded, AreRecorded, IsRecordTally}
use Rattle.note_lines.specs.Hashed.{hash_of}
use Rattle.flag_defs.specs.Document.{Definitions}
use Rattle.plan_text.specs.Answer.{Answer}
use Rattle.plan_text.specs.PlanFile.{answer_of}
use Rattle.rollout.specs.Lawful.{IsLawful}
use Rattle.rollout.specs.Plan.{IsPlan}
use Rattle.rollout.specs.CheckedTally.{AreTallied, TallyProblem, tally_problem_of, with_inputs}
use Rattle.rollout.specs.Verified.{Shows, refining_for}
use Rattle.rollout.specs.declared.refining.Refining.TheVariants.{Times}
use Rattle.note_tallies.specs.JoinLaw.{AreHashesOf, IsEachOnce}
use Rattle.note_tallies.specs.Tally.{PageTally}
use Rattle.control_answers.specs.Apply.{Applied, IsApplyAnswer}
use Rattle.control_answers.specs.Body.{Told, told_text}
use Rattle.control_answers.specs.Check.{IsCheckAnswer, valid_text}
use Rattle.control_answers.specs.Doubts.{doubt_of}
use Rattle.control_answers.specs.Kept.{IsChanged}
use Rattle.control_answers.specs.Plan.{IsPlanAnswer, IsTold}
use Rattle.control_answers.specs.Snapshot.{Snapshot}
use Rattle.control_answers.specs.Target.{Target, target_of}
use Rattle.control_answers.specs.Token.{IsToken, Token, is_tag_of}

-- ---- a plan

-- it answers the problem for just these inputs: its rule fits and costs them the least of all that fit, or no rule fits
pub record IsAnswerFor (problem : TallyProblem) (answer : Answer) (inputs : Inputs) : Type 0 where
  pub tallied : AreTallied problem inputs
  pub planned : IsPlan (with_inputs problem inputs) answer

-- for just the inputs that the files hold of a page, each of them once
abbrev pub PlansInputs : List (List ℕ) → PageName → TallyProblem → Answer → Type 0
PlansInputs files page problem answer = (recorded : Inputs) × AreRecorded files page recorded × IsAnswerFor problem answer recorded

-- where the files hold hashes: for all inputs that have just these, no two of them one
abbrev pub PlansHashes : List (List ℕ) → PageName → TallyProblem → Answer → Type 0
PlansHashes files page problem answer =
    (hashes : List ℕ) × AreHashesRecorded files page hashes × ((inputs : Inputs) → AreHashesOf hashes inputs → IsEachOnce (map hash_of inputs) → IsAnswerFor problem answer inputs)

-- the text tells of such an answer to the request
pub record PlansTheRecord (s : Snapshot) (request : List ℕ) (files : List (List ℕ)) (body : List ℕ) : Type 0 where
  pub target : Target
  pub target_is : target_of s.flags request ≡ Ok target
  pub tally : PageTally
  pub recorded : IsRecordTally files target.page target.total tally
  pub problem : TallyProblem
  pub problem_is : tally_problem_of (Times 1) s.flags request tally ≡ Ok problem
  pub answer : Answer
  pub plans : PlansInputs files target.page problem answer ⊎ PlansHashes files target.page problem answer
  pub plan : List ℕ
  pub told : Told
  pub is_told : IsTold s request tally answer plan told
  pub is : body ≡ told_text told

abbrev pub AnswersPlanTheRecord : Type 0
AnswersPlanTheRecord = (s : Snapshot) (request : List ℕ) (files : List (List ℕ)) (body : List ℕ) → IsPlanAnswer s request files (Ok body) → PlansTheRecord s request files body

-- ---- a plan that was found right, whoever made it

-- for just these inputs its rule costs the least of all that fit, or no rule fits
pub record IsRightFor (problem : TallyProblem) (answer : Answer) (inputs : Inputs) : Type 0 where
  pub tallied : AreTallied problem inputs
  pub lawful : IsLawful (with_inputs problem inputs)
  pub shown : Shows (with_inputs problem inputs) answer

abbrev pub IsRightForInputs : List (List ℕ) → PageName → TallyProblem → Answer → Type 0
IsRightForInputs files page problem answer = (recorded : Inputs) × AreRecorded files page recorded × IsRightFor problem answer recorded

abbrev pub IsRightForHashes : List (List ℕ) → PageName → TallyProblem → Answer → Type 0
IsRightForHashes files page problem answer =
    (hashes : List ℕ) × AreHashesRecorded files page hashes × ((inputs : Inputs) → AreHashesOf hashes inputs → IsEachOnce (map hash_of inputs) → IsRightFor problem answer inputs)

-- it is right for just the inputs that the files hold of the request's page, whose tally this is
pub record IsRightOnRecord (flags : Definitions) (request : List ℕ) (files : List (List ℕ)) (answer : Answer) (tally : PageTally) : Type 0 where
  pub target : Target
  pub target_is : target_of flags request ≡ Ok target
  pub recorded : IsRecordTally files target.page target.total tally
  pub problem : TallyProblem
  pub problem_is : tally_problem_of (refining_for answer) flags request tally ≡ Ok problem
  pub right : IsRightForInputs files target.page problem answer ⊎ IsRightForHashes files target.page problem answer

-- the text tells that the plan is right on the record
pub record IsRightPlan (flags : Definitions) (request plan : List ℕ) (files : List (List ℕ)) (text : List ℕ) : Type 0 where
  pub answer : Answer
  pub plan_is : answer_of plan ≡ Ok answer
  pub tally : PageTally
  pub right : IsRightOnRecord flags request files answer tally
  pub is : text ≡ valid_text answer

abbrev pub ChecksAreOfTheRecord : Type 0
ChecksAreOfTheRecord = (flags : Definitions) (request plan : List ℕ) (files : List (List ℕ)) (text : List ℕ) → IsCheckAnswer flags request plan files (Ok text) → IsRightPlan flags request plan files text

-- ---- a plan that is applied

-- the token is of the snapshot's very document; its plan is right on the record, and undoubted; and the new document has its rule
pub record IsRightApplied (s : Snapshot) (text : List ℕ) (files : List (List ℕ)) (a : Applied) : Type 0 where
  pub token : Token
  pub token_is : IsToken text token
  pub document_is : is_tag_of token.document s.document ≡ true
  pub request_is : a.request ≡ token.request
  pub plan_is : answer_of token.plan ≡ Ok a.answer
  pub tally : PageTally
  pub inputs_is : a.inputs ≡ tally.inputs
  pub right : IsRightOnRecord s.flags a.request files a.answer tally
  pub undoubted : doubt_of a.request tally ≡ None
  pub changed : IsChanged s a.request a.answer (Ok a.document)

abbrev pub AppliedPlansAreRight : Type 0
AppliedPlansAreRight = (s : Snapshot) (text : List ℕ) (files : List (List ℕ)) (a : Applied) → IsApplyAnswer s text files (Ok a) → IsRightApplied s text files a
