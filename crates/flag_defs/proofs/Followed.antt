-- Members of the program in front of others.
use Rattle.std.proofs.Common.{◌≡◌, List, [], ◌∷◌, ◌++◌, String, string_bytes, refl, ap}
use Rattle.std.specs.declared.alloc.Global.{Global}
use Rattle.flag_text.specs.Shape.{Members, no_members, member}
use Rattle.flag_text.specs.View.{view, members_view}
use Rattle.flag_text.specs.declared.tree.Tree.{Tree}
use Rattle.flag_defs.specs.Members.{followed_by}

-- one more behind them is the first of the rest
pub followed_push : (ms : List (String Global × Tree)) (m : String Global × Tree) (rest : Members) → followed_by (ms ++ m ∷ []) rest ≡ followed_by ms (member (string_bytes m.0) (view m.1) rest)
followed_push [] m rest = refl
followed_push (n ∷ ms) m rest = ap (member (string_bytes n.0) (view n.1)) (followed_push ms m rest)

-- in front of none they are themselves
pub followed_end : (ms : List (String Global × Tree)) → followed_by ms no_members ≡ members_view ms
followed_end [] = refl
followed_end (m ∷ ms) = ap (member (string_bytes m.0) (view m.1)) (followed_end ms)
