-- Members of the program in front of others.
use Rattle.std.specs.Prelude.{List, [], ◌∷◌, String, string_bytes}
use Rattle.std.specs.declared.alloc.Global.{Global}
use Rattle.flag_text.specs.Shape.{Members, member}
use Rattle.flag_text.specs.View.{view}
use Rattle.flag_text.specs.declared.tree.Tree.{Tree}

-- these members, and then the rest
abbrev pub followed_by : List (String Global × Tree) → Members → Members
followed_by [] rest = rest
followed_by (m ∷ ms) rest = member (string_bytes m.0) (view m.1) (followed_by ms rest)
