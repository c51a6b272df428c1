-- The numbers of a document in which a rule was put.
use Rattle.std.specs.Prelude.{◌≡◌, ◌≢◌, ◌<◌, ◌^◌, ℕ, List, [], Ok}
use Rattle.std.specs.List.{AllByRecursion}
use Rattle.bucket_core.specs.Rule.{Entries}
use Rattle.flag_defs.specs.Document.{max_bytes}
use Rattle.flag_text.specs.Reading.{doc_of}
use Rattle.flag_text.specs.Shape.{Shape}
use Rattle.kept_document.specs.Kept.{KeptAt}
use Rattle.kept_document.specs.Place.{SitePlace}
use Rattle.product_laws.specs.FloatWhole.{IsWholeText}

-- a rule has entries, and their weights are numbers that a document may have
pub record IsWritable (rule : Entries) : Type 0 where
  pub some : rule ≢ []
  pub small : AllByRecursion (λ e. e.1 < 2 ^ 53) rule

-- Where the numbers of a document are whole, so are those of the document with such a rule in the place of a site's buckets.
abbrev pub WholeNumbersStay : Type 0
WholeNumbersStay =
    (document : List ℕ) (t : Shape) (place : SitePlace) (rule : Entries) (kept : List ℕ) → doc_of document max_bytes ≡ Ok t → IsWritable rule → IsWholeText document
    → KeptAt document place rule kept → IsWholeText kept
