use Rattle.std.proofs.Common.{◌≡◌, drop}
use Rattle.flag_text.specs.View.{items_view}
use Rattle.flagops_drive.specs.Misfit.{first_misfit}
use Rattle.flagops_drive.proofs.misfit.first_misfit.Given as goal

-- the rest answers as the whole
abbrev pub invariant-loop-place : goal.invariant-loop-place
invariant-loop-place l = first_misfit l.place (items_view (drop l.place l.items)) ≡ first_misfit 0 (items_view l.items)
