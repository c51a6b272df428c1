-- What a rule takes the place of, by the tree of the document.
use Rattle.std.specs.Prelude.{◌≡◌, ◌<◌, ℕ, ◌-◌, List, ◌++◌, Option, Some, Ok, false, true}
use Rattle.bucket_core.specs.Rule.{Entries}
use Rattle.flag_defs.specs.Document.{Definitions, max_bytes}
use Rattle.flag_text.specs.Reading.{doc_of}
use Rattle.spelled_numbers.specs.Reading.{doc_with_floats}
use Rattle.flag_text.specs.Shape.{Shape, list, Items}
use Rattle.kept_document.specs.Kept.{KeptAt, entries_text, place_in}
use Rattle.logic_ast.specs.FirstFault.{item_count}
use Rattle.product_laws.specs.Part.{item_at, part_at}
use Rattle.kept_document.specs.Place.{buckets}
use Rattle.text_spans.specs.Path.{Step}

-- bytes read as this part by themselves
abbrev pub ReadsAs : List ℕ → Option Shape → Type 0
ReadsAs bytes part = (t : Shape) × (part ≡ Some t) × (doc_of bytes max_bytes ≡ Ok t)

-- The tree has a list at a path. The document is cut in front of the bytes of one of its items and behind those of its last one,
-- and the rule's entries stand between.
pub record IsPutInto (document : List ℕ) (t : Shape) (path : List Step) (first last : ℕ) (rule : Entries) (kept : List ℕ) : Type 0 where
  pub items : Items
  pub there : part_at path t ≡ Some (list items)
  pub within : first < item_count items
  pub whole : last ≡ item_count items - 1
  pub front : List ℕ
  pub one : List ℕ
  pub behind : List ℕ
  pub before : List ℕ
  pub other : List ℕ
  pub back : List ℕ
  pub mark : List ℕ
  pub begins : document ≡ front ++ (one ++ behind)
  pub ends : document ≡ before ++ (other ++ back)
  pub one_read : ReadsAs one (item_at first items)
  pub other_read : ReadsAs other (item_at last items)
  pub is : kept ≡ front ++ (entries_text mark false rule ++ back)

-- where a document is kept with a rule in the place of a site's buckets, it is put into the list that the place names
abbrev pub ReplacedIsRead : Type 0
ReplacedIsRead =
    (document : List ℕ) (t : Shape) (flags : Definitions) (key : List ℕ) (n : ℕ) (rule : Entries) (kept : List ℕ)
    → doc_of document max_bytes ≡ Ok t → KeptAt document (place_in false document flags key n) rule kept
    → (path : List Step) × (first : ℕ) × (last : ℕ) × (place_in false document flags key n ≡ buckets path first last) × IsPutInto document t path first last rule kept

-- The same of a document that may have floats: its tree has the values of the variants with floats as texts.
abbrev pub ReplacedWithFloatsIsRead : Type 0
ReplacedWithFloatsIsRead =
    (document : List ℕ) (t : Shape) (flags : Definitions) (key : List ℕ) (n : ℕ) (rule : Entries) (kept : List ℕ)
    → doc_with_floats document max_bytes ≡ Ok t → KeptAt document (place_in true document flags key n) rule kept
    → (path : List Step) × (first : ℕ) × (last : ℕ) × (place_in true document flags key n ≡ buckets path first last) × IsPutInto document t path first last rule kept
