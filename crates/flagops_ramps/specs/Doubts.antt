-- What is doubted of the answers to the steps of a rollout, and what becomes of it.
use Rattle.std.specs.Prelude.{◌||◌, ◌++◌, ℕ, Bool, true, false, List, [], ◌∷◌, codes, Option, Some, None, is_some, if◌then◌else◌, Result, Ok, Err}
use Rattle.std.specs.Str.{bytes_eq}
use Rattle.flag_text.specs.Reading.{tree_of}
use Rattle.flag_text.specs.Shape.{Shape, object, Members, no_members, member}
use Rattle.flag_text.specs.declared.fault.TextFault.{TextFault}
use Rattle.member_names.specs.Repeated.{is_repeating}
use Rattle.member_names.specs.Unread.{reads}
use Rattle.member_names.specs.declared.reader.Reader.TheVariants as reader
use Rattle.file_diagnostics.specs.Named.{Names}
use Rattle.flagops_rollouts.specs.Beside.{Part, part_if}
use Rattle.flagops_rollouts.specs.Doubts.{first_doubt, recorded_doubt, recorded_parts}
use Rattle.flagops_rollouts.specs.Foreign.{is_foreign}
use Rattle.flagops_rollouts.specs.Unrecorded.{is_unrecorded}
use Rattle.flagops_files.specs.Loading.{max_text}
use Rattle.flagops_files.specs.Question.{Question}
use Rattle.flagops_rollouts.specs.declared.refusal.Doubt.{Doubt}
use Rattle.flagops_ramps.specs.Report.{Came}
use Rattle.flagops_ramps.specs.declared.refusal.RampRefusal.{RampRefusal}
use Rattle.flagops_ramps.specs.declared.refusal.RampRefusal.TheVariants.{Doubted}
use Rattle.flagops_ramps.specs.declared.refusal.StepCall.{StepCall}

-- a member of this name is read of a file of steps: `steps`, and what is read of a request
abbrev pub is_read : List ℕ → Bool
is_read name = reads reader.Request name || bytes_eq name (codes "steps")

-- one of these members is not
abbrev pub has_unread_member : Members → Bool
has_unread_member no_members = false
has_unread_member (member name t ms) = if is_read name then has_unread_member ms else true

abbrev pub has_unread : Shape → Bool
has_unread (object ms) = has_unread_member ms
has_unread t = false

abbrev pub if_read : Result Shape TextFault → Bool
if_read (Ok t) = has_unread t
if_read (Err e) = false

-- the bytes of a file of steps have one, or a name that stands more than once in an object, of which the last member is read
abbrev pub is_unread : List ℕ → Bool
is_unread bytes = if_read (tree_of bytes max_text) || is_repeating bytes

abbrev pub first_request : List (List ℕ) → List ℕ
first_request [] = []
first_request (request ∷ requests) = request

-- what the first step asks: every other step asks of the same site, and so of the same page
abbrev pub first_question : Question → List (List ℕ) → Question
first_question q requests = record { flags = q.flags; request = first_request requests; evidence = q.evidence }

-- the first that is doubted of steps with these requests: a member of their file is not read, no recorded input counts, or one that does is none of the flag
abbrev pub doubt_of_steps : Question → List (List ℕ) → Option Doubt
doubt_of_steps q requests = first_doubt (is_unread q.request) (recorded_doubt (is_unrecorded (first_question q requests)) (is_foreign (first_question q requests)))

-- what is told of the bytes of a file of steps: a part on members that are not read, and one on names that stand more than once, where there are any
abbrev pub steps_parts : List ℕ → List ℕ → List Part
steps_parts steps bytes = part_if (if_read (tree_of bytes max_text)) (Names steps) ++ part_if (is_repeating bytes) (Names steps)

-- each doubt of steps is told in a part of its own, in the order in which `doubt_of_steps` has them, and begins with the path that it is of
abbrev pub doubt_parts_of_steps : List ℕ → List ℕ → Question → List (List ℕ) → List Part
doubt_parts_of_steps steps book q requests = steps_parts steps q.request ++ recorded_parts book (recorded_doubt (is_unrecorded (first_question q requests)) (is_foreign (first_question q requests)))

-- whether a person is told of a doubt; with `--strict` the call refuses it
abbrev pub settle : StepCall → Bool → Option Doubt → Result Bool RampRefusal
settle c false d = Ok (is_some d)
settle c true None = Ok false
settle c true (Some d) = Err (Doubted c d)

-- the report where a doubt is settled so
abbrev pub beside : Result Bool RampRefusal → Came → Came
beside (Err e) r = Err e
beside (Ok told) (Ok r) = Ok (record r { is_told = told })
beside (Ok told) (Err e) = Err e
