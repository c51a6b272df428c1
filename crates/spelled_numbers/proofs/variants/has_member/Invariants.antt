use Rattle.std.proofs.Common.{◌≡◌, drop}
use Rattle.json.specs.Value.{members_view}
use Rattle.spelled_numbers.specs.Floats.{has_name}
use Rattle.spelled_numbers.proofs.variants.has_member.Given as goal

abbrev pub invariant-loop-other : goal.invariant-loop-other
invariant-loop-other l = has_name l.name (members_view l.members) ≡ has_name l.name (members_view (drop l.other-index l.members))
