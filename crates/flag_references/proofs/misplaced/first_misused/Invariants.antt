use Rattle.std.proofs.Common.{◌≡◌, drop}
use Rattle.flag_text.specs.View.{items_view}
use Rattle.flag_references.specs.Misplaced.{first_misused}
use Rattle.flag_references.proofs.misplaced.first_misused.Given as goal

-- the rest answers as the whole
abbrev pub invariant-loop-place : goal.invariant-loop-place
invariant-loop-place l = first_misused l.place (items_view (drop l.place l.items)) ≡ first_misused 0 (items_view l.items)
