use Rattle.std.proofs.Common.{◌≡◌, ◌++◌, drop, option_map}
use Rattle.flag_text.specs.View.{members_view}
use Rattle.price_core.specs.Limits.{limits_view}
use Rattle.price_core.specs.Request.{limits_with}
use Rattle.price_core.proofs.draft.limits_with.Given as goal

abbrev pub invariant-loop-name : goal.invariant-loop-name
invariant-loop-name l = limits_with l.ranges (members_view l.members) ≡ option_map (λ ls. limits_view l.limits.items ++ ls) (limits_with l.ranges (members_view (drop l.name-index l.members)))
