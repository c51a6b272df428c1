use Rattle.std.proofs.Common.{◌≡◌, drop}
use Rattle.flag_text.specs.View.{members_view}
use Rattle.price_core.specs.RequestError.{range_in}
use Rattle.price_core.specs.Misfit.{first_unlimited}
use Rattle.price_core.proofs.request_error.first_empty.Given as goal

-- the rest answers as the whole
abbrev pub invariant-loop-place : goal.invariant-loop-place
invariant-loop-place l = first_unlimited range_in l.place (members_view (drop l.place l.members)) ≡ first_unlimited range_in 0 (members_view l.members)
