-- What the command `bucket` answers.
use Rattle.std.specs.Prelude.{ℕ, zero, suc, ◌/◌, ◌%◌, List, [], ◌∷◌, ◌++◌, Bool, false, codes, decimal, if◌then◌else◌, unwrap_or, Option, Result}
use Rattle.std.specs.Fmt.{digit_glyph}
use Rattle.murmur_core.specs.Murmur.{hash}
use Rattle.flag_text.specs.Shape.{text}
use Rattle.flag_text.specs.Printing.{text_of}
use Rattle.flagops_shell.specs.Files.{Holding}
use Rattle.flagops_shell.specs.Outcomes.{◌>>=◌, done}
use Rattle.flagops_commands.specs.Loaded.{choice_at}
use Rattle.flagops_shell.specs.Report.{Report}
use Rattle.flagops_commands.specs.declared.refusal.ListedRefusal.{ListedRefusal}

-- the last k hexadecimal digits of a number, in lower case, zeros in front of it included
unfoldable pub hex_digits : ℕ → ℕ → List ℕ
hex_digits zero n = []
hex_digits (suc k) n = hex_digits k (n / 16) ++ digit_glyph false (n % 16) ∷ []

-- the eight hexadecimal digits of 32 bits
unfoldable pub eight_hex_digits : ℕ → List ℕ
eight_hex_digits n = hex_digits 8 n

abbrev pub three_lines : List ℕ → List ℕ → List ℕ → List ℕ
three_lines digits point name = codes "hash " ++ (digits ++ (codes "\npoint " ++ (point ++ (codes "\nvariant " ++ (name ++ codes "\n")))))

-- what a rule gives to a key: its point, and the name there, which each point of a rule has
abbrev pub Chosen : Type 0
Chosen = ℕ × Option (List ℕ)

abbrev pub name_of : Chosen → List ℕ
name_of c = unwrap_or c.1 []

-- the hash of the key, its point on the rule, and its variant as a JSON text
unfoldable pub bucket_text : List ℕ → Chosen → List ℕ
bucket_text key c = three_lines (eight_hex_digits (hash key 0)) (decimal c.0) (text_of (text (name_of c)))

-- {"hash":..,"point":..,"variant":..} and a line feed
abbrev pub three_members : List ℕ → List ℕ → List ℕ → List ℕ
three_members digits point name = codes "{\"hash\":\"" ++ (digits ++ (codes "\",\"point\":" ++ (point ++ (codes ",\"variant\":" ++ (name ++ codes "}\n")))))

-- the same hash, point and variant as one JSON text
unfoldable pub bucket_json : List ℕ → Chosen → List ℕ
bucket_json key c = three_members (eight_hex_digits (hash key 0)) (decimal c.0) (text_of (text (name_of c)))

-- what is printed of what the rule of a rule file gives a key: the lines, or with `--json` the JSON text
unfoldable pub bucket_report : Holding → List ℕ → List ℕ → Bool → Result Report ListedRefusal
bucket_report at rule key json = do
  c ← choice_at at rule key
  done (if json then bucket_json key c else bucket_text key c)
