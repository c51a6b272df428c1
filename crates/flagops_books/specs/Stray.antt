-- How the refusal of a line that is that of no note is reported.
use Rattle.std.specs.Prelude.{ℕ, true, List, ◌++◌, codes, decimal}
use Rattle.flag_text.specs.Printing.{text_of}
use Rattle.flag_text.specs.Shape.{text}
use Rattle.flagops_shell.specs.Report.{Report}

-- `refused`, the call, its number and its name, the path of the file as a JSON text, and the number of the line
abbrev pub stray_line : List ℕ → ℕ → List ℕ
stray_line path n = codes "refused book 1 Line " ++ (text_of (text path) ++ (codes " " ++ (decimal n ++ codes "\n")))

-- that line with status 1, and told in words
abbrev pub stray_report : List ℕ → ℕ → Report
stray_report path n = record { text = stray_line path n; status = 1; is_told = true }
