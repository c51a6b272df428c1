-- The objects that an evaluation makes of other values: the context with one more member (flagd), and the scope of the body of `reduce` (JsonLogic).
use Rattle.std.specs.Prelude.{ℕ, List, codes}
use Rattle.std.specs.Ordering.{nat_cmp, match_ordering}
use Rattle.std.specs.Cmp.Lexicographic.{slice_cmp}
use Rattle.flag_text.specs.Shape.{Shape, object, Members, no_members, member}

-- the members with this one in its place by name, and no other of its name
unfoldable pub with_member : List ℕ → Shape → Members → Members
with_member k t no_members = member k t no_members
with_member k t (member l u ms) = match_ordering (slice_cmp nat_cmp k l) (member k t (member l u ms)) (member k t ms) (member l u (with_member k t ms))

-- the context with `$flagd` in its place
abbrev pub with_flagd : Shape → Shape → Shape
with_flagd t (object ms) = object (with_member (codes "$flagd") t ms)
with_flagd t u = u

-- the scope of the body of `reduce`
abbrev pub reduce_scope : Shape → Shape → Shape
reduce_scope so_far t = object (member (codes "accumulator") so_far (member (codes "current") t no_members))
