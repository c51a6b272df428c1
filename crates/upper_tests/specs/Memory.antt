-- Files in memory, of which the first of a name counts.
use Rattle.std.specs.Prelude.{ℕ, List, [], ◌∷◌, Some, None, String, Vec, string_bytes, if◌then◌else◌}
use Rattle.std.specs.Str.{bytes_eq}
use Rattle.std.specs.declared.alloc.Global.{Global}
use Rattle.flagops_shell.specs.Files.{Holding}

abbrev pub held_in : List (String Global × Vec ℕ Global) → Holding
held_in [] path = None
held_in (file ∷ files) path = if bytes_eq (string_bytes file.0) path then Some file.1.items else held_in files path
