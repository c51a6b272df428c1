-- Where the logs of workers stand.
use Rattle.std.specs.Prelude.{ℕ, zero, suc, ◌+◌, List, [], ◌∷◌, ◌++◌, codes, decimal, Option, option_map, string_bytes}
use Rattle.log_file.specs.declared.file.LogFile.{Ghosts}
use Rattle.log_file.specs.declared.system.SystemLog.{SystemLog}
use Rattle.note_log.specs.declared.numbered.NumberedJournal.{NumberedJournal}

-- the path of the log of a worker, by its number from 1
abbrev pub path_of : List ℕ → ℕ → List ℕ
path_of folder worker = folder ++ (codes "/worker-" ++ (decimal worker ++ codes ".log"))

-- where a folder is named
abbrev pub path_at : Option (List ℕ) → ℕ → Option (List ℕ)
path_at folder worker = option_map (λ f. path_of f worker) folder

-- of each of so many workers, in their order
abbrev pub paths_of : Option (List ℕ) → ℕ → List (Option (List ℕ))
paths_of folder zero = []
paths_of folder (suc workers) = paths_of folder workers ++ path_at folder (workers + 1) ∷ []

-- where a log is kept, its path
abbrev pub path_in : {g : Ghosts SystemLog} → Option (NumberedJournal SystemLog g) → Option (List ℕ)
path_in log = option_map (λ l. string_bytes l.journal.file.path) log

-- where a log is kept, its file, and the last lines that were read of it
abbrev pub read_in : {g : Ghosts SystemLog} → Option (NumberedJournal SystemLog g) → Option (SystemLog × List ℕ)
read_in log = option_map {U = SystemLog × List ℕ} (λ l. (l.journal.file, l.journal.last.items)) log

-- the same once these were taken
abbrev pub taken_of : {g : Ghosts SystemLog} → Option (NumberedJournal SystemLog g) → Option (SystemLog × List ℕ)
taken_of log = option_map {U = SystemLog × List ℕ} (λ l. (l.journal.file, [])) log
