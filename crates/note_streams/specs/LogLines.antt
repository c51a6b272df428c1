-- The lines of log files (JSON Lines, https://jsonlines.org): each ends with a line feed.
use Rattle.std.specs.Prelude.{ℕ, List, [], ◌∷◌, ◌++◌, flat_map, map}
use Rattle.byte_streams.specs.Lines.{parts_of}
use Rattle.note_streams.specs.declared.file.LogFile as program

-- the parts before the line feeds, each with its own; the last part is no line
abbrev pub ended_parts : List (List ℕ) → List (List ℕ)
ended_parts [] = []
ended_parts (rest ∷ []) = []
ended_parts (line ∷ next ∷ parts) = (line ++ 10 ∷ []) ∷ ended_parts (next ∷ parts)

-- the lines of a file; what stands behind its last line feed has not ended, and is none
abbrev pub lines_in : List ℕ → List (List ℕ)
lines_in bytes = ended_parts (parts_of bytes)

-- the lines of all files
abbrev pub all_lines : List (List ℕ) → List (List ℕ)
all_lines files = flat_map lines_in files

-- the bytes of the files of the program, without their names
abbrev pub files_view : List program.LogFile → List (List ℕ)
files_view files = map (λ file. file.bytes.now) files
