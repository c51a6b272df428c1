-- The kind of value that a flag is evaluated for (OpenFeature: typed flag evaluation). A request of the remote evaluation protocol names none, so it is the kind of the flag's own variants: they are all of one.
use Rattle.std.specs.Prelude.{Option, Some, None, unwrap_or}
use Rattle.flag_text.specs.Shape.{Shape, Members, no_members, member}
use Rattle.flag_defs.specs.Definition.{Definition}
use Rattle.flag_defs.specs.Flag.{variants_in}
use Rattle.flag_defs.specs.Kind.{kind_of as kind_of_value}
use Rattle.flag_defs.specs.declared.kind.Kind.{Kind}
use Rattle.flag_defs.specs.declared.kind.Kind.TheVariants as kind

-- the kind of a variant's value; where it is of none, the value is asked for as an object
abbrev pub kind_of : Shape → Kind
kind_of t = unwrap_or (kind_of_value t) kind.Object

-- the kind of the first variant; without one no kind matters
abbrev pub variants_kind : Members → Kind
variants_kind no_members = kind.Bool
variants_kind (member name value ms) = kind_of value

-- the kind that the flag is evaluated for, be there one or not
abbrev pub flag_kind : Option Definition → Kind
flag_kind None = kind.Bool
flag_kind (Some d) = variants_kind (variants_in d)

-- ---- for private clauses

-- the kind of a value, if there is one
abbrev pub kind_in : Option Shape → Kind
kind_in None = kind.Bool
kind_in (Some t) = kind_of t
