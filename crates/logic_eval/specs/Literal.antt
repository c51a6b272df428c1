-- The entries of a site whose buckets are all literal, and what stands in one such bucket. It serves private contracts alone.
use Rattle.std.specs.Prelude.{◌≡◌, ℕ, ◌<◌, ◌^◌, List, [], unwrap_or, Some}
use Rattle.std.specs.List.{All}
use Rattle.bucket_core.specs.Rule.{Entries, total_weight, ends_from}
use Rattle.flag_text.specs.Shape.{Shape, null, text}
use Rattle.logic_ast.specs.Ends.{HasEnds, ends_view}
use Rattle.logic_ast.specs.Expression.{Buckets, Bucket, literal_bucket, computed_bucket}
use Rattle.logic_ast.specs.Sites.{Site, entries_of}
use Rattle.logic_eval.specs.declared.scope.Subject.{Subject}

-- those of buckets that are all literal
abbrev pub entries_in : Buckets → Entries
entries_in bs = unwrap_or (entries_of bs) []

-- all buckets are literal, these are their cumulative weights, and the total is one of a rule or 0
pub record AreEnds (bs : Buckets) (ends : List ℕ) : Type 0 where
  pub literal : entries_of bs ≡ Some (entries_in bs)
  pub sums : ends ≡ ends_from 0 (entries_in bs)
  pub small : total_weight (entries_in bs) < 2 ^ 31

-- the name of a literal bucket
abbrev pub literal_name : Bucket → Shape
literal_name (literal_bucket name weight) = text name
literal_name (computed_bucket name weight) = null

-- the cumulative weights that an evaluation is given
abbrev pub table_of : Subject → List (List ℕ)
table_of s = ends_view s.ends.now

-- among them are those of these sites
unfoldable pub AreSummed : Subject → List Site → Type 0
AreSummed subject sites = All (HasEnds (table_of subject)) sites
