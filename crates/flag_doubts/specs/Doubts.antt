-- What is doubted of a flag that may still be good: it is read, but it is hardly meant so.
use Rattle.std.specs.Prelude.{ℕ, List, codes, Bool, true, false, not, ◌||◌, is_none, is_some, Option, Some, None}
use Rattle.std.specs.List.{list_any}
use Rattle.flag_text.specs.Shape.{Shape}
use Rattle.flag_defs.specs.Definition.{Definition}
use Rattle.flag_defs.specs.Flag.{targeting_in, variant_of}
use Rattle.logic_ast.specs.Expression.{Expression}
use Rattle.member_names.specs.Unread.{unread_of}
use Rattle.member_names.specs.declared.reader.Reader.TheVariants as reader
use Rattle.flag_doubts.specs.Outcomes.{Outcome, named, nameless, truth, computed, outcomes}
use Rattle.flag_doubts.specs.Weights.{has_bad_site}
use Rattle.flag_doubts.specs.declared.doubt.Doubt.{Doubt}
use Rattle.flag_doubts.specs.declared.doubt.Doubt.TheVariants.{Unread, Weight, Variant, Never, Doubled, Repeated}

abbrev pub name_of : Doubt → List ℕ
name_of Unread = codes "Unread"
name_of Weight = codes "Weight"
name_of Variant = codes "Variant"
name_of Never = codes "Never"
name_of Doubled = codes "Doubled"
name_of Repeated = codes "Repeated"

-- `true` or `false` names a variant of the flag
abbrev pub has_truth : Definition → Bool
has_truth d = is_some (variant_of (codes "true") d) || is_some (variant_of (codes "false") d)

-- it names no variant of the flag
abbrev pub is_foreign : Definition → Outcome → Bool
is_foreign d (named s) = is_none (variant_of s d)
is_foreign d nameless = true
is_foreign d truth = not (has_truth d)
is_foreign d computed = false

-- it names a variant of the flag, or may name one
abbrev pub may_be_variant : Definition → Outcome → Bool
may_be_variant d (named s) = is_some (variant_of s d)
may_be_variant d nameless = false
may_be_variant d truth = has_truth d
may_be_variant d computed = true

-- something that the expression can result in names no variant
abbrev pub has_foreign_result : Definition → Expression → Bool
has_foreign_result d e = list_any (is_foreign d) (outcomes e)

-- nothing that it can result in names a variant
abbrev pub never_gives : Definition → Expression → Bool
never_gives d e = not (list_any (may_be_variant d) (outcomes e))

abbrev pub passes : (Expression → Bool) → Option Expression → Bool
passes test None = false
passes test (Some e) = test e

-- the definition has a member that its reader passes over
abbrev pub is_unread : Shape → Bool
is_unread t = is_some (unread_of reader.Definition t)

-- the same of a flag: of its targeting, where it has one; a broken flag has none
abbrev pub is_weighed_badly : Definition → Bool
is_weighed_badly d = passes has_bad_site (targeting_in d)

abbrev pub gives_foreign : Definition → Bool
gives_foreign d = passes (has_foreign_result d) (targeting_in d)

abbrev pub gives_none : Definition → Bool
gives_none d = passes (never_gives d) (targeting_in d)
