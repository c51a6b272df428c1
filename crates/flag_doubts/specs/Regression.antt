-- What a later version of a flag document does to the flags of the one that counts now.
use Rattle.std.specs.Prelude.{ℕ, List, [], ◌∷◌, Bool, true, false, not, ◌&&◌, is_some, Option, Some, None, option_map, string_bytes, if◌then◌else◌}
use Rattle.std.specs.Map.{lookup}
use Rattle.std.specs.Option.{option_or}
use Rattle.std.specs.Str.{bytes_eq, is_utf8}
use Rattle.flag_defs.specs.Definition.{Definition}
use Rattle.flag_defs.specs.Document.{Definitions}
use Rattle.flag_defs.specs.Flag.{is_broken}
use Rattle.json.specs.Lex.{tokens}
use Rattle.json.specs.Token.{Token, begin_object, end_object, begin_array, end_array, key, string, number, boolean, null, bad}
use Rattle.flag_doubts.specs.declared.regression.Regression as code
use Rattle.flag_doubts.specs.declared.regression.Regression.TheVariants as code_case

-- a flag is broken later, or is lost
pub data Regression : Type 0 where
  breaks_flag : List ℕ → Regression
  loses_flag : List ℕ → Regression

-- the flag is there, and broken
abbrev pub is_there_broken : Option Definition → Bool
is_there_broken None = false
is_there_broken (Some d) = is_broken d

-- a flag that is good now is broken later
abbrev pub breaks : Definitions → List ℕ × Definition → Bool
breaks later flag = not (is_broken flag.1) && is_there_broken (lookup (bytes_eq flag.0) later)

-- the first of the flags now of which that is so
abbrev pub first_broken : Definitions → Definitions → Option (List ℕ)
first_broken later [] = None
first_broken later (f ∷ fs) = if breaks later f then Some f.0 else first_broken later fs

-- there is a flag of the key now, and none later
abbrev pub is_lost : Definitions → Definitions → List ℕ → Bool
is_lost now later name = is_some (lookup (bytes_eq name) now) && not (is_some (lookup (bytes_eq name) later))

-- the name of a member, where it is such a key
abbrev pub lost_name : Definitions → Definitions → Token → Option (List ℕ)
lost_name now later (key name) = if is_lost now later name then Some name else None
lost_name now later begin_object = None
lost_name now later end_object = None
lost_name now later begin_array = None
lost_name now later end_array = None
lost_name now later (string s) = None
lost_name now later (number s) = None
lost_name now later (boolean b) = None
lost_name now later null = None
lost_name now later bad = None

-- the first of the names among the tokens of a text
abbrev pub first_lost : Definitions → Definitions → List Token → Option (List ℕ)
first_lost now later [] = None
first_lost now later (t ∷ ts) = option_or (lost_name now later t) (first_lost now later ts)

-- the tokens of a text, names of members among them (RFC 8259)
abbrev pub names_in : List ℕ → List Token
names_in bytes = if is_utf8 bytes then tokens bytes else []

-- the first flag that the later version breaks, or else the first that it loses though its text has the key
abbrev pub regression_of : Definitions → Definitions → List Token → Option Regression
regression_of now later names = option_or (option_map breaks_flag (first_broken later now)) (option_map loses_flag (first_lost now later names))

-- ---- of the program

abbrev pub regression_view : code.Regression → Regression
regression_view (code_case.Broken k) = breaks_flag (string_bytes k)
regression_view (code_case.Lost k) = loses_flag (string_bytes k)
