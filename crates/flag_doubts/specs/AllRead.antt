-- Documents of which each member is read.
use Rattle.std.specs.Prelude.{codes, Bool, true, false, not, ◌||◌, ◌&&◌, Option, Some}
use Rattle.std.specs.List.{list_all}
use Rattle.std.specs.Str.{bytes_eq}
use Rattle.json.specs.Json.{Json, object, Members, no_members, member}
use Rattle.member_names.specs.Unread.{reads}
use Rattle.member_names.specs.declared.reader.Reader.{Reader}
use Rattle.member_names.specs.declared.reader.Reader.TheVariants as reader
use Rattle.flag_doubts.specs.Doubled.{members_in, names_in}

-- the reader takes each member of an object; what is no object has none
abbrev pub takes_each : Reader → Option Json → Bool
takes_each r o = list_all (reads r) (names_in o)

-- so it is of each of these definitions
abbrev pub are_definitions_read : Members → Bool
are_definitions_read no_members = true
are_definitions_read (member k j ms) = takes_each reader.Definition (Some j) && are_definitions_read ms

-- and of the flags of each member `flags`
abbrev pub are_flags_read : Members → Bool
are_flags_read no_members = true
are_flags_read (member k j ms) = (not (bytes_eq k (codes "flags")) || are_definitions_read (members_in (Some j))) && are_flags_read ms

-- the value is an object, each member of it is read, and each of its definitions, under whichever member `flags` they stand
abbrev pub are_all_read : Option Json → Bool
are_all_read (Some (object ms)) = takes_each reader.Document (Some (object ms)) && are_flags_read ms
are_all_read o = false
