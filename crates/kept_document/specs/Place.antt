-- Where the buckets of a flag's site stand in a document.
use Rattle.std.specs.Prelude.{ℕ, ◌-◌, List, [], ◌∷◌, codes, nat_lt, Option, Some, None, option_and_then, if◌then◌else◌}
use Rattle.flag_text.specs.Readers.{member_of}
use Rattle.flag_text.specs.Shape.{Shape, list}
use Rattle.logic_ast.specs.FirstFault.{item_count}
use Rattle.text_spans.specs.Path.{Step, name}
use Rattle.kept_document.specs.Following.{Spot, part, referred, lost, followed}
use Rattle.kept_document.specs.Seeking.{Sought, later, here, find_site}

-- They are the items of the list at this path from one index up to another; they stand in the evaluator of this name; or
-- there are none.
pub data SitePlace : Type 0 where
  buckets : List Step → ℕ → ℕ → SitePlace
  shared : List ℕ → SitePlace
  nowhere : SitePlace

-- all items from the first bucket on, of so many
abbrev pub in_list : List Step → ℕ → ℕ → SitePlace
in_list path first count = if nat_lt first count then buckets path first (count - 1) else nowhere

abbrev pub at_spot : ℕ → Spot → SitePlace
at_spot first (part path (list ts)) = in_list path first (item_count ts)
at_spot first (part path t) = nowhere
at_spot first (referred evaluator) = shared evaluator
at_spot first lost = nowhere

-- the path of a flag's targeting
abbrev pub targeting_path : List ℕ → List Step
targeting_path key = name (codes "flags") ∷ name key ∷ name (codes "targeting") ∷ []

abbrev pub targeting_at : Shape → List ℕ → Option Shape
targeting_at document key = option_and_then (member_of (codes "targeting")) (option_and_then (member_of key) (member_of (codes "flags") document))

abbrev pub from_targeting : List ℕ → Option Shape → Sought → SitePlace
from_targeting key None s = nowhere
from_targeting key (Some t) (later n) = nowhere
from_targeting key (Some t) (here way front) = at_spot front (followed (targeting_path key) t way)

-- The place of the buckets of site n, from 0, of the flag of this key, whose targeting has this written form.
abbrev pub site_place : Shape → List ℕ → Shape → ℕ → SitePlace
site_place document key form n = from_targeting key (targeting_at document key) (find_site n form)
