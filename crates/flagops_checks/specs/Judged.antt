-- What is found of the flags of a document.
use Rattle.std.specs.Prelude.{◌||◌, ℕ, Bool, false, is_some, List, map, Option, Some, None, Result, Ok, Err}
use Rattle.std.specs.List.{list_any}
use Rattle.flag_defs.specs.Definition.{Definition}
use Rattle.file_diagnostics.specs.Broken.{document_in}
use Rattle.flag_defs.specs.Document.{Definitions, flags_in, or_no_members}
use Rattle.flag_defs.specs.Flag as documents
use Rattle.flag_doubts.specs.Doubled as doubled
use Rattle.flag_doubts.specs.Doubts as doubts
use Rattle.flag_doubts.specs.Repeated as repeated
use Rattle.flag_doubts.specs.declared.doubt.Doubt.{Doubt}
use Rattle.flag_doubts.specs.declared.doubt.Doubt.TheVariants.{Doubled, Never, Repeated, Unread, Variant, Weight}
use Rattle.flag_doubts.specs.declared.doubt.FlagDoubts.{FlagDoubts}
use Rattle.flag_text.specs.Readers.{find_member}
use Rattle.flag_text.specs.Shape.{Shape, null}
use Rattle.flag_text.specs.declared.fault.TextFault.{TextFault}
use Rattle.flagops_checks.specs.declared.checked.Checked as code_checked
use Rattle.flagops_checks.specs.declared.judging.Judged as code
use Rattle.flagops_checks.specs.Sites.{site_doubts}
use Rattle.flagops_checks.specs.declared.sites.SiteDoubts.{SiteDoubts}
use Rattle.member_names.specs.Unread.{unread_of}
use Rattle.member_names.specs.declared.reader.Reader.TheVariants as reader

-- a flag: its key, whether it is broken, what is doubted of it by itself and of its sites, and whether its key stands twice, or a member of its
-- definition
pub record Judged : Type 0 where
  pub key : List ℕ
  pub is_broken : Bool
  pub doubts : FlagDoubts
  pub sites : SiteDoubts
  pub is_doubled : Bool
  pub is_repeated : Bool

abbrev pub judged_view : code.Judged → Judged
judged_view j = record { key = j.key.now; is_broken = j.is_broken; doubts = j.doubts; sites = j.sites; is_doubled = j.is_doubled; is_repeated = is_some j.repeated }

-- this is doubted of it
abbrev pub has : Doubt → Judged → Bool
has Doubled j = j.is_doubled
has Repeated j = j.is_repeated
has Unread j = j.doubts.unread
has Weight j = j.doubts.weight
has Variant j = j.doubts.variant
has Never j = j.doubts.never

-- something is
abbrev pub is_doubted : Judged → Bool
is_doubted j = has Doubled j || (has Repeated j || (has Unread j || (has Weight j || (has Variant j || (has Never j || (j.sites.total || j.sites.constant))))))

-- the tree of the bytes of a document, which may have floats or may not
abbrev pub or_null : Result Shape TextFault → Shape
or_null (Ok t) = t
or_null (Err e) = null

abbrev pub tree_in : Bool → List ℕ → Shape
tree_in floats bytes = or_null (document_in floats bytes)

-- the definition of a flag has a member that nobody reads
abbrev pub is_unread : Option Shape → Bool
is_unread None = false
is_unread (Some definition) = doubts.is_unread definition

abbrev pub definition_of : Shape → List ℕ → Option Shape
definition_of document key = find_member key (or_no_members (flags_in document))

abbrev pub flag_doubts : Shape → List ℕ → Definition → FlagDoubts
flag_doubts document key d = record {
  unread = is_unread (definition_of document key);
  weight = doubts.is_weighed_badly d;
  variant = doubts.gives_foreign d;
  never = doubts.gives_none d;
}

-- a flag of the document that the bytes are
abbrev pub judged : Bool → List ℕ → List ℕ × Definition → Judged
judged floats bytes f = record {
  key = f.0;
  is_broken = documents.is_broken f.1;
  doubts = flag_doubts (tree_in floats bytes) f.0 f.1;
  sites = site_doubts f.1;
  is_doubled = doubled.is_doubled bytes f.0;
  is_repeated = repeated.is_repeated bytes f.0;
}

-- a document: its path, its bytes, its flags in the order of their keys, and whether a member of it is not read, or one stands
-- twice in it or in what stands beside its flags
pub record Checked : Type 0 where
  pub path : List ℕ
  pub bytes : List ℕ
  pub flags : List Judged
  pub is_unread : Bool
  pub is_repeated : Bool

abbrev pub checked : Bool → List ℕ → List ℕ → Definitions → Checked
checked floats path bytes flags = record {
  path = path;
  bytes = bytes;
  flags = map (judged floats bytes) flags;
  is_unread = is_some (unread_of reader.Document (tree_in floats bytes));
  is_repeated = repeated.has_repeated bytes;
}

abbrev pub checked_view : code_checked.Checked → Checked
checked_view c = record { path = c.path.now; bytes = c.bytes.now; flags = map judged_view c.flags.items; is_unread = c.is_unread; is_repeated = is_some c.repeated }

-- one of its flags is broken
abbrev pub has_broken : Checked → Bool
has_broken c = list_any (λ j. j.is_broken) c.flags

-- one of its flags is doubted, or a member of it is not read or stands twice
abbrev pub has_doubted : Checked → Bool
has_doubted c = c.is_unread || (c.is_repeated || list_any is_doubted c.flags)

-- a flag of one of these documents is broken or doubted, or a member of one is not read or stands twice
abbrev pub are_wrong : List Checked → Bool
are_wrong cs = list_any (λ c. has_broken c || has_doubted c) cs
