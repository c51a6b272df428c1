-- The lines of the program, without where their bytes lie in memory.
use denote.Ref.{Bor}
use Rattle.std.specs.Prelude.{ℕ, List, map}

abbrev pub lines_view : List (Bor (List ℕ)) → List (List ℕ)
lines_view lines = map (λ line. line.now) lines
