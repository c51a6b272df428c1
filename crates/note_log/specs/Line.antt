-- Lines of bytes (JSON Lines, https://jsonlines.org).
use Rattle.std.specs.Prelude.{◌≡◌, ℕ, List, ◌++◌}
use Rattle.log_file.specs.Line.{EndsLine}

-- the line stands in the bytes, from where a line begins
pub record HasLine (line bytes : List ℕ) : Type 0 where
  pub before : List ℕ
  pub after : List ℕ
  pub parts : bytes ≡ before ++ (line ++ after)
  pub starts : EndsLine before
