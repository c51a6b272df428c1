-- What a person is told of files, beside the output.
use Rattle.std.specs.Prelude.{◌≡◌, ◌||◌, ◌==◌, ℕ, Bool, true, false, not, List, [], ◌++◌, length, codes, decimal, if◌then◌else◌}
use Rattle.flag_text.specs.Printing.{text_of}
use Rattle.flag_text.specs.Shape.{text}

-- something is told
abbrev pub is_told : List ℕ → Bool
is_told lines = not (length lines == 0)

-- lines of a refusal begin with the path of a file, as a JSON text
abbrev pub NamesFile : List ℕ → List ℕ → Type 0
NamesFile path lines = (rest : List ℕ) × (lines ≡ codes "error: " ++ (text_of (text path) ++ rest))

-- the line on what was passed over in the file at a path: so many lines, and perhaps bytes behind the last one
unfoldable pub passed_line : List ℕ → ℕ → Bool → List ℕ
passed_line path passed false = codes "note: " ++ (text_of (text path) ++ (codes ": lines that are not notes, skipped: " ++ (decimal passed ++ codes "\n")))
passed_line path passed true =
    codes "note: "
    ++ (text_of (text path)
    ++ (if passed == 0
    then codes ": the last line has no line feed and is skipped\n"
    else codes ": lines that are not notes, skipped: " ++ (decimal passed ++ codes ", and the last line, which has no line feed\n")))

-- what a person is told of the file: that line where something was passed over, and else nothing
abbrev pub passed_text : List ℕ → ℕ → Bool → List ℕ
passed_text path passed torn = if not (passed == 0) || torn then passed_line path passed torn else []
