-- The lines of a diagnostic as they grow.
use Rattle.std.specs.Prelude.{◌≡◌, ◌++◌, ℕ, List, Option, Some, None, IfSome, is_some, if◌then◌else◌, string_bytes}
use Rattle.file_diagnostics.specs.declared.lines.Lines.{Lines}

-- the text so far; none once memory ran out
abbrev pub text_so_far : Lines → Option (List ℕ)
text_so_far lines = if is_some lines.short then None else Some (string_bytes lines.text)

-- the text afterwards is the one before, followed by the output where that is known; where there was none there is none
abbrev pub Grows : Option (List ℕ) → Option (List ℕ) → Option (List ℕ) → Type 0
Grows before output after = IfSome after (λ text. (prefix : List ℕ) × (before ≡ Some prefix) × IfSome output (λ bs. text ≡ prefix ++ bs))

-- a text is a head followed by the lines
abbrev pub IsHeaded : List ℕ → Option (List ℕ) → List ℕ → Type 0
IsHeaded head lines text = (rest : List ℕ) × (lines ≡ Some rest) × (text ≡ head ++ rest)
