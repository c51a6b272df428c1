use Rattle.std.proofs.Common.{take}
use Rattle.std.specs.List.{flat_map}
use Rattle.flag_defs.specs.Flags.{flags_view}
use Rattle.control_answers.specs.SiteCounts.{Fills, pages_of_flag}
use Rattle.control_answers.proofs.counting.fill_sites.Given as goal

-- the sites of the flags so far have numbers
abbrev pub invariant-loop-i : goal.invariant-loop-i
invariant-loop-i l = Fills l.fn.counts.entries (flat_map pages_of_flag (take l.i (flags_view l.flags))) l.counts.entries
