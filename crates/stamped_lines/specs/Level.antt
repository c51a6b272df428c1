-- How grave it is what a line says, by the word with which the program begins its reports. A line without such a word goes on with the
-- report of the line before it.
use Rattle.std.specs.Prelude.{ℕ, List, codes, nat_eq, if◌then◌else◌}
use Rattle.std.specs.List.{starts_with}
use Rattle.stamped_lines.specs.declared.level.Level.{Level}
use Rattle.stamped_lines.specs.declared.level.Level.TheVariants.{Info, Warn, Error}

abbrev pub level_of : List ℕ → Level → Level
level_of line before = if starts_with nat_eq line (codes "error: ") then Error else (if starts_with nat_eq line (codes "note: ") then Warn else (if starts_with nat_eq line (codes "ofrep: ") then Info else before))

abbrev pub level_name : Level → List ℕ
level_name Info = codes "INFO"
level_name Warn = codes "WARN"
level_name Error = codes "ERROR"
