-- The note lines of what an evaluation reached: one for each hash input, on the page of its operation.
use Rattle.std.specs.Prelude.{ℕ, List, [], ◌∷◌, length, nat_lt, if◌then◌else◌, Option, Some, None, Result, Ok, Err}
use Rattle.std.specs.List.{flat_map}
use Rattle.std.specs.Map.{lookup}
use Rattle.std.specs.Option.{option_and_then}
use Rattle.std.specs.Str.{bytes_eq}
use Rattle.logic_ast.specs.Expression.{Expression}
use Rattle.logic_ast.specs.declared.fault.LogicFault.{LogicFault}
use Rattle.logic_eval.specs.Run.{Reach}
use Rattle.flag_defs.specs.Document.{Definitions}
use Rattle.flag_defs.specs.Flag.{targeting_in}
use Rattle.book_core.specs.Page.{PageName}
use Rattle.book_core.specs.Site.{page_at}
use Rattle.note_lines.specs.Note.{most_noted, note_line}

-- the targeting of the flag of a key
abbrev pub targeting_of : Option Definitions → List ℕ → Option Expression
targeting_of None key = None
targeting_of (Some flags) key = option_and_then targeting_in (lookup (bytes_eq key) flags)

-- the line of an input on a page
abbrev pub on_page : List ℕ → Result PageName LogicFault → List (List ℕ)
on_page input (Err fault) = []
on_page input (Ok page) = note_line (record { page = page; input = input }) ∷ []

-- the line of a reached operation, unless its input is too long for a note
abbrev pub line_of : List ℕ → Expression → Reach → List (List ℕ)
line_of key targeting r = if nat_lt most_noted (length r.input) then [] else on_page r.input (page_at key r.site targeting)

-- of what the evaluation of a targeting reached
abbrev pub lines_in : List ℕ → Option Expression → List Reach → List (List ℕ)
lines_in key None reached = []
lines_in key (Some targeting) reached = flat_map (line_of key targeting) reached

abbrev pub lines_of : Option Definitions → List ℕ → List Reach → List (List ℕ)
lines_of flags key reached = lines_in key (targeting_of flags key) reached
