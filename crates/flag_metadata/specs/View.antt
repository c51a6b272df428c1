-- What the types of this crate stand for.
use denote.Ref.{Bor}
use Rattle.std.specs.Prelude.{ℕ, List, map, String, string_bytes, Vec}
use Rattle.std.specs.declared.alloc.Global.{Global}
use Rattle.flag_metadata.specs.Document as spec
use Rattle.flag_metadata.specs.Document.{Described, FlagEntries}
use Rattle.flag_metadata.specs.Spelled.{Entries}
use Rattle.flag_metadata.specs.declared.document.Broken.{Broken}
use Rattle.flag_metadata.specs.declared.document.DocumentMetadata.{DocumentMetadata}
use Rattle.flag_metadata.specs.declared.member.Member.{Member}
use Rattle.flag_metadata.specs.declared.merged.Metadata.{Metadata}

-- a name, and the text of its value
abbrev pub member_view : Member → List ℕ × List ℕ
member_view m = (string_bytes m.name, string_bytes m.spelling)

abbrev pub entries_view : List Member → Entries
entries_view ms = map member_view ms

-- those that others hold
abbrev pub lent_view : List (Bor (List ℕ) × Bor (List ℕ)) → Entries
lent_view ms = map (λ m. (m.0.now, m.1.now)) ms

abbrev pub flag_view : String Global × Vec Member Global → List ℕ × Entries
flag_view f = (string_bytes f.0, entries_view f.1.items)

abbrev pub flags_view : List (String Global × Vec Member Global) → FlagEntries
flags_view fs = map flag_view fs

-- the metadata of a document
abbrev pub document_view : DocumentMetadata → Described
document_view d = record { document = entries_view d.document.items; flags = flags_view d.flags.entries }

abbrev pub broken_view : Broken → spec.Broken
broken_view b = record { document = b.document; flags = map string_bytes b.flags.items }

-- the metadata of documents, the latest last
abbrev pub metadata_view : Metadata → List Described
metadata_view m = map document_view m.documents.items
