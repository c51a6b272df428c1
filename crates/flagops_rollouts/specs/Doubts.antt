-- What is doubted of an answer to a rollout request, and what becomes of it.
use Rattle.std.specs.Prelude.{◌≡◌, ◌++◌, ◌||◌, ℕ, Bool, true, false, List, [], ◌∷◌, string_bytes, Option, Some, None, is_some, if◌then◌else◌, Result, Ok, Err}
use Rattle.book_core.specs.Page.{PageName}
use Rattle.flag_text.specs.Reading.{tree_of}
use Rattle.flag_text.specs.Shape.{Shape}
use Rattle.flag_text.specs.declared.fault.TextFault.{TextFault}
use Rattle.member_names.specs.Repeated.{is_repeating}
use Rattle.member_names.specs.Unread.{unread_of}
use Rattle.member_names.specs.declared.reader.Reader.TheVariants as reader
use Rattle.flagops_rollouts.specs.Beside.{Part, part_if}
use Rattle.flagops_rollouts.specs.Foreign.{is_foreign, is_mixed}
use Rattle.flagops_rollouts.specs.Unrecorded.{is_bare, is_unrecorded}
use Rattle.flagops_files.specs.Loading.{max_text}
use Rattle.flagops_files.specs.Question.{Question}
use Rattle.flagops_files.specs.Told.{file}
use Rattle.flagops_files.specs.declared.evidence.Evidence.{Evidence}
use Rattle.flagops_rollouts.specs.Refusal.{Subjects}
use Rattle.flagops_rollouts.specs.declared.refusal.Doubt.{Doubt}
use Rattle.flagops_rollouts.specs.declared.refusal.Doubt.TheVariants as doubt
use Rattle.flagops_rollouts.specs.declared.refusal.RolloutCall.{RolloutCall}
use Rattle.flagops_rollouts.specs.declared.refusal.RolloutRefusal.{RolloutRefusal}
use Rattle.file_diagnostics.specs.Named.{Names}
use Rattle.flagops_shell.specs.declared.refused.Remark.{Remark}
use Rattle.flagops_shell.specs.declared.refused.Remark.TheVariants.{Short, Lines}
use Rattle.flagops_rollouts.specs.declared.refusal.RolloutRefusal.TheVariants.{Doubted}

-- a tree has a member that the reader of requests passes over
abbrev pub has_unread : Result Shape TextFault → Bool
has_unread (Ok t) = is_some (unread_of reader.Request t)
has_unread (Err e) = false

-- the bytes of a request have one, or a name that stands more than once in an object, of which the last member is read
abbrev pub is_unread : List ℕ → Bool
is_unread bytes = has_unread (tree_of bytes max_text) || is_repeating bytes

-- what is doubted of what was recorded: there is no input, or one is none of the flag
abbrev pub recorded_doubt : Bool → Bool → Option Doubt
recorded_doubt unrecorded foreign = if unrecorded then Some doubt.Unrecorded else (if foreign then Some doubt.Foreign else None)

-- what is doubted of what was recorded of a page, where there is one: there is no input, or one that is none of the flag
abbrev pub doubt_in : Evidence → Option PageName → Option Doubt
doubt_in evidence page = recorded_doubt (is_bare evidence page) (is_mixed evidence page)

abbrev pub first_doubt : Bool → Option Doubt → Option Doubt
first_doubt unread recorded = if unread then Some doubt.Unread else recorded

-- the first that is doubted of a question: a member of its request is not read, no recorded input counts, or one that does is none of the flag
abbrev pub doubt_of : Question → Option Doubt
doubt_of q = first_doubt (is_unread q.request) (recorded_doubt (is_unrecorded q) (is_foreign q))

-- what is told of the bytes of a request: a part on members that are not read, and one on names that stand more than once, where there are any
abbrev pub request_parts : List ℕ → List ℕ → List Part
request_parts request bytes = part_if (has_unread (tree_of bytes max_text)) (Names request) ++ part_if (is_repeating bytes) (Names request)

-- and of what was recorded: a part on what is doubted of it
abbrev pub recorded_parts : List ℕ → Option Doubt → List Part
recorded_parts book d = part_if (is_some d) (Names book)

-- each doubt of a question is told in a part of its own, in the order in which `doubt_of` has them, and begins with the path that it is of
abbrev pub doubt_parts : List ℕ → List ℕ → Question → List Part
doubt_parts request book q = request_parts request q.request ++ recorded_parts book (recorded_doubt (is_unrecorded q) (is_foreign q))

-- whether a person is told of a doubt; with `--strict` the call refuses it
abbrev pub settle : RolloutCall → Bool → Option Doubt → Result Bool RolloutRefusal
settle c false d = Ok (is_some d)
settle c true None = Ok false
settle c true (Some d) = Err (Doubted c d)

-- what is said of a doubt begins with the path of the request, or of the book
abbrev pub NamesDoubt : List ℕ → List ℕ → Doubt → List ℕ → Type 0
NamesDoubt request book doubt.Unread lines = Names request lines
NamesDoubt request book doubt.Unrecorded lines = Names book lines
NamesDoubt request book doubt.Foreign lines = Names book lines

-- and so does what is said beside an answer, of one of the two
abbrev pub NamesDoubted : List ℕ → List ℕ → List ℕ → Type 0
NamesDoubted request book lines = (d : Doubt) × NamesDoubt request book d lines

-- what is told goes on behind what was told
abbrev pub IsLonger : Remark → Remark → Type 0
IsLonger remark Short = Unit {0}
IsLonger Short (Lines lines) = ⊥
IsLonger (Lines lines) (Lines longer) = (more : List ℕ) × (string_bytes longer ≡ string_bytes lines ++ more)

abbrev pub is_of_unread : RolloutRefusal → Bool
is_of_unread (Doubted c doubt.Unread) = true
is_of_unread e = false

abbrev pub is_of_recorded : RolloutRefusal → Bool
is_of_recorded (Doubted c doubt.Unrecorded) = true
is_of_recorded (Doubted c doubt.Foreign) = true
is_of_recorded e = false

-- a request is refused for a member that is not read, and a book for a page that has no input, or one that is none of its flag
abbrev pub doubt_subjects : List ℕ → List ℕ → Subjects
doubt_subjects request book = (file request, is_of_unread) ∷ (file book, is_of_recorded) ∷ []
