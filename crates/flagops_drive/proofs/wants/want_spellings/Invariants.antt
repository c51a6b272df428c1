use Rattle.std.proofs.Common.{◌≡◌, drop, map, take}
use Rattle.flag_defs.specs.Floats.{marked_view}
use Rattle.flagops_drive.specs.Asks.{ask_view}
use Rattle.flagops_drive.specs.Floats.{asked_as}
use Rattle.flagops_drive.proofs.wants.want_spellings.Given as goal

abbrev pub invariant-loop-ask : goal.invariant-loop-ask
invariant-loop-ask l =
    (map ask_view (take l.ask-index l.ask-items) ≡ map (asked_as (marked_view l.flags)) (map ask_view (take l.ask-index l.initial.ask-items))) × (drop l.ask-index l.ask-items ≡ drop l.ask-index l.initial.ask-items)
