-- What is lost where a book is written over another.
use Rattle.std.specs.Prelude.{ℕ, Bool, true, false, not, List, [], ◌∷◌, count_by, sum_by, Option, Some, None, Result, Ok}
use Rattle.book_core.specs.Book.{Contents, Inputs, inputs_on, is_among}
use Rattle.flagops_files.specs.Question.{book_at}
use Rattle.flagops_files.specs.declared.refusal.Refusal.{Refusal}
use Rattle.flagops_shell.specs.Files.{Holding}
use Rattle.flagops_shell.specs.Outcomes.{◌>>=◌}

-- how many of these inputs are none of the others
abbrev pub missing : Inputs → Inputs → ℕ
missing inputs others = count_by (λ input. not (is_among input others)) inputs

-- how many inputs of the old book do not stand on the same page of the new one
abbrev pub lost_inputs : Contents → Contents → ℕ
lost_inputs old new = sum_by (λ e. missing e.1 (inputs_on new e.0)) old

-- a file has bytes
abbrev pub is_filled : Option (List ℕ) → Bool
is_filled None = false
is_filled (Some []) = false
is_filled (Some (b ∷ bs)) = true

-- how many inputs of an old book the new one does not have, where there is no fault of the old one
abbrev pub lost_of : Result Contents Refusal → Contents → Result ℕ Refusal
lost_of old new = old >>= λ book. Ok (lost_inputs book new)

-- the book that stands in the file at a path, none where no file can be read or it is empty
abbrev pub book_in : Holding → List ℕ → Bool → Result Contents Refusal
book_in at path false = Ok []
book_in at path true = book_at at path

-- how many inputs of that book the new one does not have
unfoldable pub losses_at : Holding → List ℕ → Contents → Result ℕ Refusal
losses_at at path new = lost_of (book_in at path (is_filled (at path))) new
