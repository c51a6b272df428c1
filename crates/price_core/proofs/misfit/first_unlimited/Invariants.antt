use Rattle.std.proofs.Common.{◌≡◌, drop}
use Rattle.flag_text.specs.View.{members_view}
use Rattle.price_core.specs.Misfit.{first_unlimited}
use Rattle.price_core.specs.Request.{limit_of}
use Rattle.price_core.proofs.misfit.first_unlimited.Given as goal

-- the rest answers as the whole
abbrev pub invariant-loop-place : goal.invariant-loop-place
invariant-loop-place l = first_unlimited (limit_of l.ranges) l.place (members_view (drop l.place l.members)) ≡ first_unlimited (limit_of l.ranges) 0 (members_view l.members)
