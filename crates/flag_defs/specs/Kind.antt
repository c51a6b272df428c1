-- The kinds of values that a flag may be asked for (OpenFeature: boolean, string, number and structure evaluation).
use Rattle.std.specs.Prelude.{ℕ, List, [], ◌∷◌, codes, Bool, is_some, Option, Some, None, if◌then◌else◌}
use Rattle.std.specs.List.{find}
use Rattle.std.specs.Str.{bytes_eq}
use Rattle.flag_text.specs.Readers.{as_bool, as_text, as_whole, as_object}
use Rattle.flag_text.specs.Shape.{Shape}
use Rattle.flag_defs.specs.declared.kind.Kind.{Kind}
use Rattle.flag_defs.specs.declared.kind.Kind.TheVariants as kind

-- the value is of this kind: a whole number is one that a float may be, too
abbrev pub is_of_kind : Kind → Shape → Bool
is_of_kind kind.Bool t = is_some (as_bool t)
is_of_kind kind.Text t = is_some (as_text t)
is_of_kind kind.Whole t = is_some (as_whole t)
is_of_kind kind.Object t = is_some (as_object t)
is_of_kind kind.Float t = is_some (as_whole t)

-- those of the values of a tree
abbrev pub kinds : List Kind
kinds = kind.Bool ∷ kind.Text ∷ kind.Whole ∷ kind.Object ∷ []

-- the kind that the value is of: a null, a list, and a number that is not whole are of none
abbrev pub kind_of : Shape → Option Kind
kind_of t = find (λ k. is_of_kind k t) kinds

-- the word that asks for the kind
abbrev pub word_of : Kind → List ℕ
word_of kind.Bool = codes "bool"
word_of kind.Text = codes "text"
word_of kind.Whole = codes "whole"
word_of kind.Object = codes "object"
word_of kind.Float = codes "float"

-- the kind that a word asks for
abbrev pub kind_named : List ℕ → Option Kind
kind_named s =
    if bytes_eq s (codes "bool") then Some kind.Bool else
    (if bytes_eq s (codes "text") then Some kind.Text else
    (if bytes_eq s (codes "whole") then Some kind.Whole else
    (if bytes_eq s (codes "object") then Some kind.Object else
    (if bytes_eq s (codes "float") then Some kind.Float else None))))
