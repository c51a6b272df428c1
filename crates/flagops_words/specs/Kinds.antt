-- The words for the kinds of values.
use Rattle.std.specs.Prelude.{ℕ, List, codes, Option, Some, if◌then◌else◌}
use Rattle.std.specs.Str.{bytes_eq}
use Rattle.flag_defs.specs.Kind.{kind_named}
use Rattle.flag_defs.specs.declared.kind.Kind.{Kind}
use Rattle.flag_defs.specs.declared.kind.Kind.TheVariants as kind

-- the kind that a word asks for: flagd's `boolean`, `string` and `integer` beside the words of asks
abbrev pub kind_spelled : List ℕ → Option Kind
kind_spelled word =
    if bytes_eq word (codes "boolean") then Some kind.Bool else
    (if bytes_eq word (codes "string") then Some kind.Text else
    (if bytes_eq word (codes "integer") then Some kind.Whole else kind_named word))
