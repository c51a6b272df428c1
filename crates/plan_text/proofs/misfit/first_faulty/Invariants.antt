use Rattle.std.proofs.Common.{◌≡◌, ◌+◌, length}
use Rattle.flag_text.specs.View.{items_view}
use Rattle.plan_text.specs.Misfit.{first_failing, is_free}
use Rattle.plan_text.proofs.misfit.first_faulty.Given as goal

-- the rest answers as the whole
abbrev pub invariant-loop-rest : goal.invariant-loop-rest
invariant-loop-rest l = record {
  same : first_failing (is_free l.fault l.list) l.place (items_view l.rest) ≡ first_failing (is_free l.fault l.list) 0 (items_view l.items);
  places : l.place + length l.rest ≡ length l.items;
}

abbrev pub decreases-loop-rest : goal.decreases-loop-rest
decreases-loop-rest l = length l.rest
