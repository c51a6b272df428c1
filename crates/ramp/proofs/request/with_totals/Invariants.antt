use Rattle.std.proofs.Common.{◌≡◌, drop}
use Rattle.flag_text.specs.View.{view, members_view}
use Rattle.ramp.specs.Steps.{with_totals}
use Rattle.ramp.proofs.Requests.{members_before}
use Rattle.ramp.proofs.request.with_totals.Given as goal

abbrev pub invariant-loop-name : goal.invariant-loop-name
invariant-loop-name l = with_totals (view l.totals) (members_view l.members) ≡ members_before l.request.items (with_totals (view l.totals) (members_view (drop l.name-index l.members)))
