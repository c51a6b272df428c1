-- Names in diagnostics.
use Rattle.std.specs.Prelude.{◌≡◌, ◌++◌, ◌&&◌, ◌||◌, ℕ, Bool, true, not, nat_eq, nat_le, List, [], ◌∷◌, chars, codes, encode_utf8_all, if◌then◌else◌, length, nat_lt, take}
use Rattle.std.specs.Char.{is_ascii_alphanumeric}
use Rattle.flag_text.specs.Printing.{text_of}
use Rattle.flag_text.specs.Shape.{text}
use Rattle.file_diagnostics.specs.declared.lines.Opening.{Opening}
use Rattle.file_diagnostics.specs.declared.lines.Opening.TheVariants.{Error, File, Request, Plan, Note}

-- the most characters of a name that are shown
abbrev pub most_characters : ℕ
most_characters = 60

-- what is shown of a name: all of it, or its first characters and two dots
unfoldable pub shown : List ℕ → List ℕ
shown name = if nat_lt most_characters (length (chars name)) then encode_utf8_all (take most_characters (chars name)) ++ codes ".." else name

-- what is shown, as a JSON text
abbrev pub quoted : List ℕ → List ℕ
quoted name = text_of (text (shown name))

-- the words before the name of what a diagnostic is about
abbrev pub opening_words : Opening → List ℕ
opening_words Error = codes "error: "
opening_words File = codes "error: the file "
opening_words Request = codes "error: the request "
opening_words Plan = codes "error: the plan "
opening_words Note = codes "note: "

-- lines are about a name: they begin with it, after an opening
unfoldable pub Names : List ℕ → List ℕ → Type 0
Names name lines = (opening : Opening) × (rest : List ℕ) × (lines ≡ opening_words opening ++ (quoted name ++ rest))

-- lines are about a word of a command, as the command's help spells it
unfoldable pub NamesWord : List ℕ → List ℕ → Type 0
NamesWord word lines = (rest : List ℕ) × (lines ≡ codes "error: " ++ (word ++ rest))

-- a name of at most so many letters, digits, `_`, `-` and `$`, and of one at least
abbrev pub is_plain_byte : ℕ → Bool
is_plain_byte byte = ((is_ascii_alphanumeric byte || nat_eq byte 95) || nat_eq byte 45) || nat_eq byte 36

abbrev pub are_plain : List ℕ → Bool
are_plain [] = true
are_plain (byte ∷ bytes) = is_plain_byte byte && are_plain bytes

abbrev pub is_plain : List ℕ → Bool
is_plain name = (are_plain name && not (nat_eq (length name) 0)) && nat_le (length name) most_characters

-- the step from an object to its member: `.name`, or the name in brackets where it is no plain word
unfoldable pub step : List ℕ → List ℕ
step name = if is_plain name then codes "." ++ name else codes "[" ++ (quoted name ++ codes "]")
