-- Which members are read of an object, and which one is the first that is not.
use Rattle.std.specs.Prelude.{ℕ, Bool, List, [], ◌∷◌, codes, Option, Some, None, if◌then◌else◌}
use Rattle.std.specs.List.{list_any}
use Rattle.std.specs.Str.{bytes_eq}
use Rattle.flag_text.specs.Shape.{Shape, object, Members, no_members, member}
use Rattle.member_names.specs.declared.reader.Reader.{Reader}
use Rattle.member_names.specs.declared.reader.Reader.TheVariants as reader

-- The members that each reader takes. Of a document and of a definition these are the members of flagd's schema
-- (https://flagd.dev/reference/flag-definitions), of which `$schema` and `metadata` say nothing about an evaluation.
abbrev pub member_names : Reader → List (List ℕ)
member_names reader.Request =
    codes "plan" ∷ codes "flag" ∷ codes "site" ∷ codes "totals" ∷ codes "price" ∷ codes "prices" ∷ codes "forbid" ∷ []
member_names reader.Ask = codes "key" ∷ codes "want" ∷ codes "default" ∷ codes "context" ∷ codes "moment" ∷ []
member_names reader.Document = codes "flags" ∷ codes "$evaluators" ∷ codes "$schema" ∷ codes "metadata" ∷ []
member_names reader.Definition = codes "state" ∷ codes "variants" ∷ codes "defaultVariant" ∷ codes "targeting" ∷ codes "metadata" ∷ []

abbrev pub is_among : List (List ℕ) → List ℕ → Bool
is_among names name = list_any (bytes_eq name) names

-- the reader takes the member of this name
abbrev pub reads : Reader → List ℕ → Bool
reads r name = is_among (member_names r) name

-- the first of these members that it does not take
abbrev pub first_unread : Reader → Members → Option (List ℕ)
first_unread r no_members = None
first_unread r (member name t ms) = if reads r name then first_unread r ms else Some name

-- the first member of an object that it does not take; what is no object has none
abbrev pub unread_of : Reader → Shape → Option (List ℕ)
unread_of r (object ms) = first_unread r ms
unread_of r t = None
