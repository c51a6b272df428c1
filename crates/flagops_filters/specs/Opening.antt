-- What is kept of a standard input, for diagnostics.
use Rattle.std.specs.Prelude.{ℕ}

-- how many of its first bytes
abbrev pub most_kept : ℕ
most_kept = 4096
