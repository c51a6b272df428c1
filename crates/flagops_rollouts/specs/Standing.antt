-- Whether a rule stands at a site of a flag.
use Rattle.std.specs.Prelude.{◌&&◌, ℕ, nat_eq, Bool, true, false, List, [], ◌∷◌, Option, Some, None, option_and_then, option_map}
use Rattle.std.specs.Map.{lookup}
use Rattle.std.specs.Result.{result_ok}
use Rattle.std.specs.Str.{bytes_eq}
use Rattle.bucket_core.specs.Rule.{Entries}
use Rattle.flag_defs.specs.Definition.{Definition}
use Rattle.flag_defs.specs.Document.{Definitions}
use Rattle.flag_defs.specs.Flag.{targeting_in}
use Rattle.logic_ast.specs.Sites.{parts_at}

-- the same names with the same weights, in the same order
abbrev pub are_same : Entries → Entries → Bool
are_same [] [] = true
are_same [] (e ∷ es) = false
are_same (r ∷ rs) [] = false
are_same (r ∷ rs) (e ∷ es) = (bytes_eq r.0 e.0 && nat_eq r.1 e.1) && are_same rs es

-- the literal buckets of a site of a flag, where it has the site
abbrev pub entries_in : ℕ → Option Definition → Option Entries
entries_in site None = None
entries_in site (Some flag) = option_and_then (λ targeting. option_map (λ parts. parts.1) (result_ok (parts_at site targeting))) (targeting_in flag)

abbrev pub is_rule : Entries → Option Entries → Bool
is_rule rule None = false
is_rule rule (Some entries) = are_same rule entries

-- the buckets of the site are those of the rule
abbrev pub has_rule : Definitions → List ℕ → ℕ → Entries → Bool
has_rule flags key site rule = is_rule rule (entries_in site (lookup (bytes_eq key) flags))
