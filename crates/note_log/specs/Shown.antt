-- What is shown of the files of a process's logs.
use Rattle.std.specs.Prelude.{ℕ, List}
use Rattle.std.specs.List.{flat_map}
use Rattle.http_server.specs.declared.log.Log.{Log}
use Rattle.note_log.specs.Files.{handed_by}
use Rattle.note_log.specs.declared.files.Files.{Files}

-- what the files that are open were handed
abbrev pub open_in : Files → List (List ℕ)
open_in files = handed_by files.numbers.items files.history.items

-- what those were handed that were open at one of several moments
abbrev pub shown_in : List (Files × ℕ) → List (List ℕ)
shown_in moments = flat_map (λ m. open_in m.0) moments

-- the same of several questions, each with its moments
abbrev pub relied_in : List (Log Files ℕ × ℕ) → List (List ℕ)
relied_in questions = flat_map (λ q. shown_in q.0.items) questions
