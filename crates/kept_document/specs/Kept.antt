-- A document with a rule in the place of a site's buckets, and all else as it was.
use Rattle.std.specs.Prelude.{◌≡◌, ◌<◌, ◌≤◌, ◌+◌, ℕ, pos, length, List, [], ◌∷◌, ◌++◌, Bool, true, false, Option, Some, None, Result, Ok, Err, if◌then◌else◌, option_and_then}
use Rattle.std.specs.Map.{lookup}
use Rattle.std.specs.Str.{bytes_eq}
use Rattle.bucket_core.specs.Rule.{Entries}
use Rattle.spelled_numbers.specs.Reading.{doc_with_floats}
use Rattle.flag_text.specs.Printing.{text_of}
use Rattle.flag_text.specs.Reading.{doc_of}
use Rattle.flag_text.specs.Shape.{Shape, text, whole}
use Rattle.flag_text.specs.declared.fault.TextFault.{TextFault}
use Rattle.flag_text.specs.declared.fault.TextFault.TheVariants as text_fault
use Rattle.logic_ast.specs.Expression.{Expression}
use Rattle.logic_ast.specs.Writing.{pair, written}
use Rattle.flag_defs.specs.Document.{Definitions, max_bytes}
use Rattle.flag_defs.specs.Flag.{targeting_in}
use Rattle.flag_defs.specs.Floats.{MeansAs}
use Rattle.flag_defs.specs.declared.fault.DefFault.{DefFault}
use Rattle.flag_defs.specs.declared.fault.DefFault.TheVariants as document_fault
use Rattle.text_spans.specs.Path.{Stands, Step, index}
use Rattle.kept_document.specs.Place.{SitePlace, buckets, shared, nowhere, site_place}
use Rattle.kept_document.specs.declared.fault.KeepFault.{KeepFault}
use Rattle.kept_document.specs.declared.fault.KeepFault.TheVariants.{WantOfMemory, Shared, TooLong, Differs}

-- ---- the place

-- the tree of a document that may have floats, or may not
abbrev pub tree_as : Bool → List ℕ → Result Shape TextFault
tree_as true document = doc_with_floats document max_bytes
tree_as false document = doc_of document max_bytes

-- the place of site n of the flag of this key in a document that means these flags, where it may have floats, or may not
abbrev pub in_tree : Result Shape TextFault → List ℕ → Option Expression → ℕ → SitePlace
in_tree (Err e) key o n = nowhere
in_tree (Ok t) key None n = nowhere
in_tree (Ok t) key (Some e) n = site_place t key (written e) n

abbrev pub place_in : Bool → List ℕ → Definitions → List ℕ → ℕ → SitePlace
place_in floats document flags key n = in_tree (tree_as floats document) key (option_and_then targeting_in (lookup (bytes_eq key) flags)) n

-- ---- the text

-- an entry as it is written: `["NAME",WEIGHT]`
abbrev pub entry_text : List ℕ × ℕ → List ℕ
entry_text e = text_of (pair (text e.0) (whole (pos e.1)))

-- the entries with the mark between each two of them, and in front of the first where one came before it
abbrev pub entries_text : List ℕ → Bool → Entries → List ℕ
entries_text mark is_next [] = []
entries_text mark is_next (e ∷ es) = (if is_next then mark else []) ++ (entry_text e ++ entries_text mark true es)

-- What stands between each two buckets: what stands between the first two of the site, behind `before`, or a comma where there
-- is but one.
pub record IsMark (document : List ℕ) (list : List Step) (first last : ℕ) (before mark : List ℕ) : Type 0 where
  pub alone : last ≤ first → mark ≡ 44 ∷ []
  pub between : first < last → (old : List ℕ) × (back : List ℕ) × Stands document (list ++ index (first + 1) ∷ []) (before ++ mark) old back

-- The document with the rule's entries in place of the items of the list at a path, from the first byte of one of them up to
-- the last byte of another.
pub record IsKept (document : List ℕ) (list : List Step) (first last : ℕ) (rule : Entries) (kept : List ℕ) : Type 0 where
  pub front : List ℕ
  pub one : List ℕ
  pub behind_one : List ℕ
  pub before_other : List ℕ
  pub other : List ℕ
  pub back : List ℕ
  pub mark : List ℕ
  pub begins : Stands document (list ++ index first ∷ []) front one behind_one
  pub ends : Stands document (list ++ index last ∷ []) before_other other back
  pub marked : IsMark document list first last (front ++ one) mark
  pub is : kept ≡ front ++ (entries_text mark false rule ++ back)

-- the same at the place of a site
abbrev pub KeptAt : List ℕ → SitePlace → Entries → List ℕ → Type 0
KeptAt document (buckets list first last) rule kept = IsKept document list first last rule kept
KeptAt document (shared name) rule kept = ⊥
KeptAt document nowhere rule kept = ⊥

-- ---- the refusals

-- the text is no longer than a document may be, and does not mean these flags, as it may have floats, or may not
abbrev pub IsOther : Bool → List ℕ → Definitions → Type 0
IsOther floats kept wanted = (length kept ≤ max_bytes) × (MeansAs floats kept (Ok wanted) → ⊥)

-- so is each text with the rule in its place
abbrev pub AreOthers : Bool → List ℕ → SitePlace → Entries → Definitions → Type 0
AreOthers floats document place rule wanted = (kept : List ℕ) → KeptAt document place rule kept → IsOther floats kept wanted

abbrev pub IsShared : SitePlace → Type 0
IsShared (buckets list first last) = ⊥
IsShared (shared name) = Unit {0}
IsShared nowhere = ⊥

-- the condition of each refusal
abbrev pub IsRefused : Bool → List ℕ → SitePlace → Entries → Definitions → KeepFault → Type 0
IsRefused floats document place rule wanted WantOfMemory = Unit {0}
IsRefused floats document place rule wanted Shared = IsShared place
IsRefused floats document place rule wanted TooLong = (kept : List ℕ) × KeptAt document place rule kept × (max_bytes < length kept)
IsRefused floats document place rule wanted Differs = (IsShared place → ⊥) × AreOthers floats document place rule wanted

-- the condition of each refusal of a text that was made
abbrev pub IsRefusedText : Bool → List ℕ → Definitions → KeepFault → Type 0
IsRefusedText floats kept wanted WantOfMemory = Unit {0}
IsRefusedText floats kept wanted Shared = ⊥
IsRefusedText floats kept wanted TooLong = max_bytes < length kept
IsRefusedText floats kept wanted Differs = IsOther floats kept wanted

-- a text that is no document means no flags
abbrev pub of_document : DefFault → KeepFault
of_document document_fault.WantOfMemory = WantOfMemory
of_document e = Differs

-- a text that is not read as a document means no flags either
abbrev pub of_text : TextFault → KeepFault
of_text text_fault.WantOfMemory = WantOfMemory
of_text e = Differs

abbrev pub of_reading : Result Shape TextFault → Result Shape KeepFault
of_reading (Ok t) = Ok t
of_reading (Err e) = Err (of_text e)
