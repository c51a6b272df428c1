-- The lines of the program, without where their bytes lie in memory.
use Rattle.std.specs.Prelude.{◌≡◌, ℕ, List, Vec, length, map, take}
use Rattle.std.specs.declared.alloc.Global.{Global}
use Rattle.library_seat.specs.Kept.{Kept}
use Rattle.library_seat.specs.declared.kept.KeptLines.{KeptLines}

abbrev pub lines_view : List (Vec ℕ Global) → List (List ℕ)
lines_view lines = map (λ line. line.items) lines

abbrev pub kept_view : KeptLines → Kept
kept_view k = record { lines = lines_view k.lines.keys; most = k.most; full = k.full }

-- For private clauses: after more lines, of which some may be missing, the first ones are as they were.
pub record Begins (old new : KeptLines) : Type 0 where
  pub keys : take (length old.lines.keys) new.lines.keys ≡ old.lines.keys
  pub most : new.most ≡ old.most
