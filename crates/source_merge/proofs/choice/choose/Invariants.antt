use Rattle.std.proofs.Common.{◌≡◌, drop, fold}
use Rattle.flag_defs.specs.Changes.{with_entry}
use Rattle.flag_defs.specs.Flags.{flags_view}
use Rattle.flag_defs.specs.Floats.{floats_view, lent_floats}
use Rattle.flag_defs.specs.Lent.{lent_view}
use Rattle.source_merge.specs.Floats.{with_mark}
use Rattle.source_merge.proofs.choice.choose.Given as goal

abbrev pub invariant-loop-i : goal.invariant-loop-i
invariant-loop-i l =
    (fold with_entry (lent_view l.chosen.entries) (drop l.i (flags_view l.flags)) ≡ fold with_entry (lent_view l.initial.chosen.entries) (flags_view l.flags))
    × (fold with_mark (lent_floats l.chosen.entries) (drop l.i (floats_view l.flags)) ≡ fold with_mark (lent_floats l.initial.chosen.entries) (floats_view l.flags))
