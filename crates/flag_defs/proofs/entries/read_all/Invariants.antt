use Rattle.std.proofs.Common.{◌≡◌, length, take, true}
use Rattle.flag_text.specs.View.{members_view}
use Rattle.flag_defs.specs.Document.{AllMean}
use Rattle.flag_defs.specs.Flag.{entries_view}
use Rattle.flag_defs.specs.Floats.{are_unmarked, entries_floats}
use Rattle.flag_defs.proofs.Paired.{BeginAt}
use Rattle.flag_defs.proofs.entries.read_all.Given as goal

abbrev pub invariant-loop-key : goal.invariant-loop-key
invariant-loop-key l =
    AllMean (members_view l.evaluators) (members_view (take (length l.yielded) l.fn.definitions.items)) (entries_view l.flags.items) ×
    BeginAt l.initial.key-iterator l.fn.definitions.items l.fn.forecasts.items ×
    (are_unmarked (entries_floats l.flags.items) ≡ true)
