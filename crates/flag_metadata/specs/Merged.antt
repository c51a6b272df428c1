-- The metadata of several documents together, the latest last: a flag is described by the latest document that has it.
use Rattle.std.specs.Prelude.{ℕ, List, [], ◌∷◌, ◌++◌, Option, Some, None}
use Rattle.std.specs.List.{flat_map, fold}
use Rattle.std.specs.Map.{lookup}
use Rattle.std.specs.Str.{bytes_eq}
use Rattle.flag_metadata.specs.Document.{Described}
use Rattle.flag_metadata.specs.Spelled.{Entries, by_name, object_text}

-- the members of a document and then those of a flag of it, where it has the flag
abbrev pub if_flag : Entries → Described → Option Entries → Entries
if_flag found d None = found
if_flag found d (Some own) = d.document ++ own

-- the members for the flag of a key: of one name the last counts
abbrev pub entries_of : List Described → List ℕ → Entries
entries_of ds key = fold (λ found d. if_flag found d (lookup (bytes_eq key) d.flags)) [] ds

-- the members of all documents: of one name the last counts
abbrev pub all_entries : List Described → Entries
all_entries ds = flat_map (λ d. d.document) ds

-- the text of an object with these members, by name
abbrev pub metadata_text : Entries → List ℕ
metadata_text es = object_text (by_name es)

-- the metadata that the flag of a key is answered with
unfoldable pub flag_metadata : List Described → List ℕ → List ℕ
flag_metadata ds key = metadata_text (entries_of ds key)

abbrev pub if_entries : Entries → Option (List ℕ)
if_entries [] = None
if_entries (e ∷ es) = Some (object_text (e ∷ es))

-- that of all documents, where one has a member
unfoldable pub merged_metadata : List Described → Option (List ℕ)
merged_metadata ds = if_entries (by_name (all_entries ds))
