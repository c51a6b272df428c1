-- What a flag is, and its parts.
use Rattle.std.specs.Prelude.{ℕ, List, [], ◌∷◌, map, Bool, true, false, Option, Some, None, String, string_bytes}
use Rattle.std.specs.declared.alloc.Global.{Global}
use Rattle.flag_text.specs.Readers.{find_member}
use Rattle.flag_text.specs.Shape.{Shape, Members, no_members, member}
use Rattle.logic_ast.specs.Expression.{Expression}
use Rattle.flag_defs.specs.Definition.{Rules, Definition, broken, good}
use Rattle.flag_defs.specs.Document.{Definitions}
use Rattle.flag_defs.specs.Rules.{rules_of, are_rules}
use Rattle.flag_defs.specs.declared.flag.Flag.{Flag}
use Rattle.flag_defs.specs.declared.rules.Rules as program

-- ---- parts of a definition

abbrev pub is_broken : Definition → Bool
is_broken broken = true
is_broken (good r) = false

-- of a good flag
abbrev pub is_enabled : Definition → Bool
is_enabled broken = false
is_enabled (good r) = r.enabled

abbrev pub default_variant_of : Definition → Option (List ℕ)
default_variant_of broken = None
default_variant_of (good r) = r.default_variant

abbrev pub variants_in : Definition → Members
variants_in broken = no_members
variants_in (good r) = r.variants

-- the value of the variant of this name
abbrev pub variant_of : List ℕ → Definition → Option Shape
variant_of name d = find_member name (variants_in d)

abbrev pub member_names : Members → List (List ℕ)
member_names no_members = []
member_names (member k t ms) = k ∷ member_names ms

-- the names of the variants, none of a broken flag
abbrev pub variant_names : Definition → List (List ℕ)
variant_names d = member_names (variants_in d)

abbrev pub targeting_in : Definition → Option Expression
targeting_in broken = None
targeting_in (good r) = r.targeting

-- ---- lawful definitions

-- broken, or good with rules that can be printed and read again
abbrev pub is_definition : Definition → Bool
is_definition broken = true
is_definition (good r) = are_rules r

-- ---- of the program

abbrev pub rules_view : program.Rules → Rules
rules_view r = rules_of r.enabled r.variants.items r.default_variant r.targeting

abbrev pub definition_of : Option program.Rules → Definition
definition_of None = broken
definition_of (Some r) = good (rules_view r)

-- what a flag is
abbrev pub flag_view : Flag → Definition
flag_view f = definition_of f.rules

-- flags with their keys
abbrev pub entry_view : String Global × Flag → List ℕ × Definition
entry_view e = (string_bytes e.0, flag_view e.1)

abbrev pub entries_view : List (String Global × Flag) → Definitions
entries_view es = map entry_view es
