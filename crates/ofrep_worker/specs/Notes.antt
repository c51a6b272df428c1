-- The notes of what an answer rests on: each hash input that its evaluations reached, on the page of its operation.
use Rattle.std.specs.Prelude.{ℕ, ◌==◌, ◌||◌, List, [], map, Option, if◌then◌else◌}
use Rattle.std.specs.List.{flat_map}
use Rattle.flag_defs.specs.Document.{Definitions}
use Rattle.logic_ast.specs.Expression.{Expression}
use Rattle.logic_eval.specs.Run.{Reach}
use Rattle.site_pages.specs.Keyed.{page_of, targeting_of}
use Rattle.note_lines.specs.Note.{Noted}
use Rattle.ofrep_answers.specs.Answer.{Answered}

-- the note of a site of a flag that was reached: its page, and its hash input
abbrev pub note_at : List ℕ → Option Expression → Reach → Noted
note_at key targeting reach = record { page = page_of key targeting reach.site; input = reach.input }

-- of sites of one flag
abbrev pub notes_at : List ℕ → Option Expression → List Reach → List Noted
notes_at key targeting sites = map (note_at key targeting) sites

-- of what the evaluation of one flag reached
abbrev pub notes_by : Definitions → List ℕ × List Reach → List Noted
notes_by flags r = notes_at r.0 (targeting_of flags r.0) r.1

-- of what the evaluations of flags reached
abbrev pub notes_in : Definitions → List (List ℕ × List Reach) → List Noted
notes_in flags reached = flat_map (notes_by flags) reached

-- those to be recorded before an answer, which tells something of flags with 200 and 304 alone
unfoldable pub notes_of : Definitions → Answered → List Noted
notes_of flags a = if a.status == 200 || a.status == 304 then notes_in flags a.reached else []
