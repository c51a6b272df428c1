-- The files that the commands on steps read in turn: a person is told of the first that is refused.
use Rattle.std.specs.Prelude.{◌⊎◌, ℕ, List, [], ◌∷◌, ◌++◌, map}
use Rattle.flagops_files.specs.Documents.{IsDocumentAs}
use Rattle.flagops_files.specs.Loading.{max_rule}
use Rattle.flagops_files.specs.Question.{question_attempts}
use Rattle.flagops_files.specs.Refusal.{Attempts}
use Rattle.flagops_files.specs.Told.{AllSucceed, NamesFirst, attempt, attempt_of, file, within}
use Rattle.flagops_files.specs.declared.refusal.Refusal.TheVariants.{Load as Unread}
use Rattle.flagops_shell.specs.Files.{Holding, load_of}
use Rattle.flagops_shell.specs.Outcomes.{refused_by}
use Rattle.flagops_ramps.specs.Diagnostics.{Diagnosis}
use Rattle.flagops_ramps.specs.Words.{Applying, Ramping, Verifying}
use Rattle.flagops_ramps.specs.declared.refusal.RampRefusal.TheVariants.{Load}

-- one of these files is refused, all before it are not, and it is named; or none is, and what is made of them is refused and told so
abbrev pub IsOfFirst : Attempts → Diagnosis → Diagnosis
IsOfFirst reads Is e remark = NamesFirst (map (within Load) reads) e remark ⊎ (AllSucceed reads × Is e remark)

-- the bytes of the answers at a path
abbrev pub answers_file : Holding → List ℕ → Attempts
answers_file at path = attempt_of (file path) (refused_by Unread (load_of at path max_rule)) ∷ []

-- the files of a rollout in steps
abbrev pub ramp_files : Holding → Ramping → Attempts
ramp_files at a = question_attempts a.floats at a.document a.steps a.book

-- the same, and then the answers
abbrev pub verify_files : Holding → Verifying → Attempts
verify_files at v = ramp_files at v.rollout ++ answers_file at v.ramp

-- a document, and then the answers
abbrev pub step_files : Holding → Applying → Attempts
step_files at a = attempt (file a.document) (IsDocumentAs a.floats at a.document) ∷ answers_file at a.ramp
