-- What is known of a recording before its first context.
use Rattle.std.specs.Prelude.{ℕ, nat_eq, Bool, true, false, List, length, Option, Some, None, option_and_then, unwrap_or}
use Rattle.std.specs.Map.{lookup}
use Rattle.std.specs.Str.{bytes_eq}
use Rattle.flag_defs.specs.Document.{Definitions}
use Rattle.flag_defs.specs.Flag.{targeting_in}
use Rattle.logic_ast.specs.Expression.{Expression}
use Rattle.logic_ast.specs.Sites.{preorder}
use Rattle.flagops_filters.specs.Moment.{reads_moment}
use Rattle.flagops_filters.specs.declared.start.Start.{Start}

-- the clock's second, where no moment is asked for and the targeting may read it
abbrev pub clock_for : Option ℕ → Bool → ℕ → Option ℕ
clock_for None true now = Some now
clock_for None false now = None
clock_for (Some moment) reads now = None

-- that second, and whether the targeting has no site
abbrev pub start_on : Option Expression → Option ℕ → ℕ → Start
start_on None asked now = record { clock = None; is_siteless = true }
start_on (Some targeting) asked now = record { clock = clock_for asked (reads_moment targeting) now; is_siteless = nat_eq (length (preorder targeting)) 0 }

-- of the flag of a key
abbrev pub start_of : Definitions → List ℕ → Option ℕ → ℕ → Start
start_of flags key asked now = start_on (option_and_then targeting_in (lookup (bytes_eq key) flags)) asked now

-- the moment of the evaluations: that which is asked for, else the clock's second where it is taken, and else 0
abbrev pub moment_of : Option ℕ → Start → ℕ
moment_of asked start = unwrap_or asked (unwrap_or start.clock 0)
