-- What is known of a document by the names in its text: for private clauses.
use Rattle.std.specs.Prelude.{◌≡◌, ℕ, Bool, List, true}
use Rattle.member_names.specs.Repeated.{json_of}
use Rattle.flag_doubts.specs.Repeated.{Finds}
use Rattle.flag_text.specs.Shape.{Shape, is_tidy}
use Rattle.flag_text.specs.View.{view}
use Rattle.flagops_checks.specs.Judged.{definition_of, is_unread, tree_in}
use Rattle.flagops_checks.specs.declared.names.Names.{Names}
use Rattle.member_names.specs.Unread.{unread_of}
use Rattle.member_names.specs.declared.reader.Reader.TheVariants as reader

-- the tree has the members that are not read of the document of the bytes, which may have floats or may not, and of its definitions
pub record HasUnread (floats : Bool) (bytes : List ℕ) (t : Shape) : Type 0 where
  pub tidy : is_tidy t ≡ true
  pub document : unread_of reader.Document t ≡ unread_of reader.Document (tree_in floats bytes)
  pub definitions : (key : List ℕ) → is_unread (definition_of t key) ≡ is_unread (definition_of (tree_in floats bytes) key)

-- and what stands more than once is what does in the bytes
pub record AreKnown (names : Names) : Type 0 where
  pub unread : HasUnread names.floats names.bytes.now (view names.document)
  pub repeated : Finds (json_of names.bytes.now) names.repeated
