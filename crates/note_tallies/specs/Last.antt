-- The last line that was counted, which is kept once where it is the last line of all.
use Rattle.std.specs.Prelude.{List, ℕ, Option, Some, None}
use Rattle.note_tallies.specs.declared.tally.LastCounted.{LastCounted}
use Rattle.note_tallies.specs.declared.tally.LastCounted.TheVariants as last

abbrev pub last_line : LastCounted → Option (List ℕ) → Option (List ℕ)
last_line last.Nothing before = None
last_line last.Before before = before
last_line (last.Line line) before = Some line.items
