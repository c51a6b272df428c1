-- The metadata of a flag document and of its flags (flagd: flag definitions, metadata).
use Rattle.std.specs.Prelude.{ℕ, List, [], ◌∷◌, codes, Bool, false, if◌then◌else◌, Option, Some, None, is_none, option_and_then, unwrap_or}
use Rattle.std.specs.BTreeMap.{insert_entry}
use Rattle.std.specs.Cmp.Lexicographic.{slice_cmp}
use Rattle.std.specs.List.{fold}
use Rattle.std.specs.Ordering.{nat_cmp}
use Rattle.std.specs.Str.{is_utf8}
use Rattle.json.specs.Find.{as_object, get}
use Rattle.json.specs.Json.{Json, Members, no_members, member}
use Rattle.flag_text.specs.Grammar.{value_in}
use Rattle.flag_metadata.specs.Spelled.{Entries, spelled}

-- the flags of a document by key, each with its own members
abbrev pub FlagEntries : Type 0
FlagEntries = List (List ℕ × Entries)

-- the members of a document, and those of each flag that it has
pub record Described : Type 0 where
  pub document : Entries
  pub flags : FlagEntries

-- no member where there is no metadata; None where it is no object, or one of the values may not stand there
abbrev pub in_metadata : Option Json → Option Entries
in_metadata None = Some []
in_metadata (Some j) = option_and_then spelled (as_object j)

-- those of the metadata of a document or of a flag
abbrev pub own_entries : Json → Option Entries
own_entries j = in_metadata (get (codes "metadata") j)

-- metadata with another value is broken, and has no member
abbrev pub entries_in : Json → Entries
entries_in j = unwrap_or (own_entries j) []

-- ---- flags

abbrev pub each_flag : Members → FlagEntries
each_flag no_members = []
each_flag (member k j ms) = (k, entries_in j) ∷ each_flag ms

-- a flag in the place of one of the same key, or at its place in the order of the keys' bytes
abbrev pub with_flag : FlagEntries → List ℕ × Entries → FlagEntries
with_flag found f = insert_entry (slice_cmp nat_cmp) found f.0 f.1

-- by key: of flags of one key the last counts
abbrev pub by_key : FlagEntries → FlagEntries
by_key fs = fold with_flag [] fs

-- the keys of flags whose metadata is broken
abbrev pub broken_flags : Members → List (List ℕ)
broken_flags no_members = []
broken_flags (member k j ms) = if is_none (own_entries j) then k ∷ broken_flags ms else broken_flags ms

-- ---- documents

-- the members of an object
abbrev pub flags_among : Json → Members
flags_among j = unwrap_or (as_object j) no_members

abbrev pub if_flags : Option Json → Members
if_flags None = no_members
if_flags (Some flags) = flags_among flags

-- the flags of a document
abbrev pub flags_in : Json → Members
flags_in j = if_flags (get (codes "flags") j)

abbrev pub described : Json → Described
described j = record { document = entries_in j; flags = by_key (each_flag (flags_in j)) }

-- what is broken: the metadata of the document, and those of flags
pub record Broken : Type 0 where
  pub document : Bool
  pub flags : List (List ℕ)

abbrev pub broken_in : Json → Broken
broken_in j = record { document = is_none (own_entries j); flags = broken_flags (flags_in j) }

-- ---- bytes

abbrev pub nothing_described : Described
nothing_described = record { document = []; flags = [] }

abbrev pub nothing_broken : Broken
nothing_broken = record { document = false; flags = [] }

-- the value that bytes are, where they are UTF-8
abbrev pub document_in : List ℕ → Option Json
document_in bytes = if is_utf8 bytes then value_in bytes else None

abbrev pub if_described : Option Json → Described
if_described None = nothing_described
if_described (Some j) = described j

abbrev pub if_broken : Option Json → Broken
if_broken None = nothing_broken
if_broken (Some j) = broken_in j

-- the metadata of the document that bytes are: none, where they are none
abbrev pub document_of : List ℕ → Described
document_of bytes = if_described (document_in bytes)

abbrev pub broken_of : List ℕ → Broken
broken_of bytes = if_broken (document_in bytes)
