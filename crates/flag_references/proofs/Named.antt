-- What is no reference.
use Rattle.std.proofs.Common.{◌≡◌, ◌≤◌, List, [], ◌∷◌, length, None, String, Global, refl, arith}
use Rattle.flag_text.specs.declared.tree.Tree.{Tree}
use Rattle.flag_text.specs.View.{members_view}
use Rattle.flag_references.specs.Inlining.{reference_of}

-- an object of two members or more
pub reference_of-many : (ms : List (String Global × Tree)) → 2 ≤ length ms → reference_of (members_view ms) ≡ None
reference_of-many [] h = absurd (omega arith)
reference_of-many (a ∷ []) h = absurd (omega arith)
reference_of-many (a ∷ b ∷ ms) h = refl
