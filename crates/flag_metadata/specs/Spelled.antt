-- The members of metadata, each with the text of its value as it stands (flagd: metadata; RFC 8259).
use Rattle.std.specs.Prelude.{ℕ, List, [], ◌∷◌, ◌++◌, codes, if◌then◌else◌, Option, Some, None, option_and_then, option_map}
use Rattle.std.specs.BTreeMap.{insert_entry}
use Rattle.std.specs.Cmp.Lexicographic.{slice_cmp}
use Rattle.std.specs.List.{fold}
use Rattle.std.specs.Ordering.{nat_cmp}
use Rattle.json.specs.Json.{Json, null, boolean, number, string, array, object, Members, no_members, member}
use Rattle.flag_text.specs.Printing.{text_of}
use Rattle.flag_text.specs.Shape.{text}

-- names, each with the text of a value
abbrev pub Entries : Type 0
Entries = List (List ℕ × List ℕ)

-- the text of a boolean, a number or a text: a number is spelled as in the document; no other value may stand in metadata
abbrev pub spelling : Json → Option (List ℕ)
spelling null = None
spelling (boolean b) = Some (if b then codes "true" else codes "false")
spelling (number s) = Some s
spelling (string s) = Some (text_of (text s))
spelling (array js) = None
spelling (object ms) = None

-- each member with the text of its value; None where one may not stand there
abbrev pub spelled : Members → Option Entries
spelled no_members = Some []
spelled (member k j ms) = option_and_then (λ s. option_map (λ es. (k, s) ∷ es) (spelled ms)) (spelling j)

-- ---- printed

-- a member in the place of one of the same name, or at its place in the order of the names' bytes
abbrev pub with_entry : Entries → List ℕ × List ℕ → Entries
with_entry found e = insert_entry (slice_cmp nat_cmp) found e.0 e.1

-- by name: of one name the last counts
abbrev pub by_name : Entries → Entries
by_name es = fold with_entry [] es

abbrev pub entry_text : List ℕ × List ℕ → List ℕ
entry_text e = text_of (text e.0) ++ (codes ":" ++ e.1)

-- what follows the first member in the text of all
abbrev pub others_text : Entries → List ℕ
others_text [] = codes "}"
others_text (e ∷ es) = codes "," ++ (entry_text e ++ others_text es)

-- the compact text of an object
abbrev pub object_text : Entries → List ℕ
object_text [] = codes "{}"
object_text (e ∷ es) = codes "{" ++ (entry_text e ++ others_text es)
